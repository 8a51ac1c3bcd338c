-- The kept entries and their keys: the entry that a key finds keeps the value of its occurrence.
use mathlib.Core.Bool.{Bool, true, false, not, ◌&&◌, cond, and-eq-true_iff, and-true, true≢false}
use mathlib.Core.List.{List, [], ◌∷◌, ◌++◌}
use Rattle.std.specs.Prelude.{Option, None as none, Some as some}
use Rattle.std.specs.Prelude.{Result, Ok, Err}
use Rattle.std.specs.Result.{result_ok, result_err}
use mathlib.Core.Path.{◌≡◌, refl, sym, ◌∙◌, ap}
use Prim.Native.Nat.{ℕ, zero, suc, ◌+◌, ◌*◌, ◌-◌, ◌<◌}
use native.Mathlib.Nat.{zero-add, suc-add, add_comm, mul-suc}
use native.Mathlib.Numerals.{add-one}
use native.Mathlib.Omega.{arith}
use lib.Dec.{eqb, ltb}
use lib.ListN.{length, get_or, take, drop, length-append}
use lib.Seq.{drop-drop}
use borrow.Author.Tests.{ltb-true, eqb-true, eqb-false, not-true, not-false}
use Rattle.saiga.specs.Values.{base_code, is_word, of_word}
use Rattle.saiga.specs.declared.Base.{Base}
use Rattle.saiga.specs.declared.Fields.{Fields}
use Rattle.saiga.specs.declared.Value.{Value}
use Rattle.saiga.specs.Types.{attribute_at}
use Rattle.saiga.specs.Sheet.{Sheet, node_count, attribute_count, Checked, refused◌at_place◌, accepted}
use Rattle.values.specs.Layout.{attributes_in}
use Rattle.saiga.specs.Terms.{Occurrence}
use Rattle.saiga.specs.Caching.{Entry, same_occurrence, kept, is_kept}
use Rattle.saiga.specs.Store.{entry_of, is_entry, read_entries, check_store}
use Rattle.saiga.specs.Sound.{OccurrenceIn}
use Rattle.saiga.proofs.FourBytes.{word-trip, word_in}
use Rattle.saiga.proofs.Equality.{same-occurrence, occurrence-refl}
use Rattle.saiga.proofs.Keeping.{kept-other}
use Rattle.saiga.proofs.Entries.{store_in, read_one, read_none}
use Rattle.stores.specs.declared.Key.{Key}
use Rattle.stores.specs.Keys.{key_of, same_key, fields_at, key_in, key_at, find_key, FreeIn, entry_at, entries_in, value_word, kept_at, EntryTested}
use mir.Syntax.{w8}
use mir.Val.{Fits}
use Rattle.stores.proofs.Parts.{keyed-bytes}
use Rattle.stores.proofs.Searches.{same-key, key-refl, found_below, nothing-found, found_at}

-- ---- Reading entries

and_then : Checked (List Entry) → (List Entry → Checked (List Entry)) → Checked (List Entry)
and_then (refused number at_place place) f = refused number at_place place
and_then (accepted es) f = f es

module _ (s : Sheet) where
  read-single : (before : List Entry) (l : List ℕ) → is_entry s before (take 12 l) ≡ true → read_entries s 1 before l ≡ accepted (before ++ entry_of s (take 12 l) ∷ [])
  unfolding read_entries
  read-single before l e = read_one s 0 before l e

  -- Some entries are read, and then the rest.
  read-then : (k j : ℕ) (before : List Entry) (l : List ℕ)
      → read_entries s (k + j) before l ≡ and_then (read_entries s k before l) (λ es. read_entries s j es (drop (12 * k) l))
  read-then zero j before l = rw zero-add (unfold and_then read_entries in refl)
  read-then (suc k) j before l = go (is_entry s before (take 12 l)) refl (read-then k j)
    where
      go : (b : Bool) → is_entry s before (take 12 l) ≡ b
          → ((before : List Entry) (l : List ℕ) → read_entries s (k + j) before l ≡ and_then (read_entries s k before l) (λ es. read_entries s j es (drop (12 * k) l)))
          → read_entries s (suc k + j) before l ≡ and_then (read_entries s (suc k) before l) (λ es. read_entries s j es (drop (12 * suc k) l))
      go true e rest = rw (suc-add, read_one s (k + j) before l e, read_one s k before l e, mul-suc, add_comm (12 * k) 12, ← drop-drop (12 * k) 12 l) (rest _ _)
      go false e rest = unfold and_then in rw (suc-add, read_none s (k + j) before l e, read_none s k before l e)

-- ---- The first k entries

module _ (s : Sheet) (store : List ℕ) where
  pub entries-count : (k : ℕ) → length (entries_in s store k) ≡ k
  unfolding entries_in
  entries-count zero = refl
  entries-count (suc k) = rw (length-append, entries-count k) (add-one k)

  -- what is read after k entries
  read-next : {es : List Entry} (k : ℕ) → read_entries s k [] store ≡ accepted es → read_entries s (suc k) [] store ≡ read_entries s 1 es (drop (12 * k) store)
  unfolding and_then
  read-next k e = ap (λ n. read_entries s n [] store) (sym (add-one k)) ∙ read-then s k 1 [] store ∙ ap (λ r. and_then r (λ es. read_entries s 1 es (drop (12 * k) store))) e

  pub record Last (k : ℕ) (es : List Entry) : Type 0 where
    pub before : read_entries s k [] store ≡ accepted (entries_in s store k)
    pub passes : is_entry s (entries_in s store k) (take 12 (drop (12 * k) store)) ≡ true
    pub appended : es ≡ entries_in s store (suc k)

  last_entry : (k : ℕ) (es : List Entry) → ((es' : List Entry) → read_entries s k [] store ≡ accepted es' → es' ≡ entries_in s store k)
      → read_entries s (suc k) [] store ≡ accepted es → Last k es
  unfolding and_then entries_in
  last_entry k es are q = go (read_entries s k [] store) refl
    where
      ends : (es' : List Entry) → read_entries s k [] store ≡ accepted es' → (b : Bool) → is_entry s es' (take 12 (drop (12 * k) store)) ≡ b → Last k es
      ends es' e true t =
          let same = are es' e in
          let all : accepted es ≡ accepted (es' ++ entry_at s store k ∷ []) = sym q ∙ read-next k e ∙ read-single s es' (drop (12 * k) store) t in
          record { before = rw (← same) e; passes = rw (← same) t; appended = rw (← same) (cc) }
      ends es' e false t = absurd (let r = read-next k e ∙ read_none s 0 es' (drop (12 * k) store) t in let z : ◌≡◌ {A = ℕ} 0 1 = cc in omega arith)

      go : (r : Checked (List Entry)) → read_entries s k [] store ≡ r → Last k es
      go (refused n at_place p) e = absurd (let r = ap (λ n. read_entries s n [] store) (sym (add-one k)) ∙ read-then s k 1 [] store in let z : ◌≡◌ {A = ℕ} 0 1 = cc in omega arith)
      go (accepted es') e = ends es' e (is_entry s es' (take 12 (drop (12 * k) store))) refl

  pub entries-are : (k : ℕ) (es : List Entry) → read_entries s k [] store ≡ accepted es → es ≡ entries_in s store k
  entries-are zero es q = unfold read_entries entries_in in cc
  entries-are (suc k) es q = (last_entry k es (entries-are k) q).appended

  pub entries-last : (k : ℕ) → read_entries s (suc k) [] store ≡ accepted (entries_in s store (suc k)) → Last k (entries_in s store (suc k))
  entries-last k q = last_entry k _ (entries-are k) q

  -- One entry more is read, or refused.
  module _ (k : ℕ) (before : read_entries s k [] store ≡ accepted (entries_in s store k)) where
    pub entry_read : is_entry s (entries_in s store k) (take 12 (drop (12 * k) store)) ≡ true → read_entries s (suc k) [] store ≡ accepted (entries_in s store (suc k))
    unfolding entries_in
    entry_read t = read-next k before ∙ read-single s _ (drop (12 * k) store) t

    pub entry-refused : is_entry s (entries_in s store k) (take 12 (drop (12 * k) store)) ≡ false → (n : ℕ) → k < n → read_entries s n [] store ≡ refused 10 at_place k
    unfolding and_then
    entry-refused t n h =
        let count : suc k + (n - suc k) ≡ n = omega arith in
        let one : read_entries s (suc k) [] store ≡ refused 10 at_place k = read-next k before ∙ read_none s 0 _ (drop (12 * k) store) t ∙ ap (λ n. refused 10 at_place n) (entries-count k) in
        rw (← count, read-then s (suc k) (n - suc k) [] store, one)

-- ---- Occurrences and keys

-- The types of a key's attribute, and the entry with a key and a value in their four-byte forms.
abbrev parameter_type : Sheet → Key → Base
parameter_type s q = (attribute_at s.attributes q.attribute).parameter-type

abbrev result_type : Sheet → Key → Base
result_type s q = (attribute_at s.attributes q.attribute).result

abbrev entry_with : Sheet → Key → ℕ → Entry
entry_with s q w = record {
  occurrence = record { node = q.node; attribute = q.attribute; parameter = of_word (parameter_type s q) q.word };
  value = of_word (result_type s q) w;
}

module _ (s : Sheet) (store : List ℕ) (j : ℕ) where
  entry-is : entry_at s store j ≡ entry_with s (key_at store j) (value_word store j)
  unfolding fields_at key_in entry_of
  entry-is = refl

  -- the tests of an entry, but for whether its occurrence was kept before
  unfoldable pub tests : Bool
  tests =
      ltb (key_at store j).node (node_count s) && ltb (key_at store j).attribute (attribute_count s) && eqb (fields_at store j).code (base_code (result_type s (key_at store j)))
      && is_word (node_count s) (parameter_type s (key_at store j)) (key_at store j).word
      && is_word (node_count s) (result_type s (key_at store j)) (value_word store j)

  pub entry-tests : (before : List Entry) → is_entry s before (take 12 (drop (12 * j) store)) ≡ (tests && not (is_kept (kept before (entry_at s store j).occurrence)))
  unfolding fields_at key_in is_entry tests
  entry-tests before = refl

  module _ (passed : tests ≡ true) where
    word-passed : is_word (node_count s) (parameter_type s (key_at store j)) (key_at store j).word ≡ true
    unfolding tests
    word-passed = (simp and-eq-true_iff at passed).0.1

    pub value-passed : is_word (node_count s) (result_type s (key_at store j)) (value_word store j) ≡ true
    unfolding tests
    value-passed = (simp and-eq-true_iff at passed).1

    entry_in : OccurrenceIn (node_count s) s.attributes (entry_at s store j).occurrence
    unfolding tests
    entry_in =
        let t = simp and-eq-true_iff at passed in
        rw entry-is
        record { node_declared = ltb-true _ _ t.0.0.0.0; attribute_declared = ltb-true _ _ t.0.0.0.1; parameter-in = word_in (node_count s) _ _ word-passed }

    entry_key : key_of (entry_at s store j).occurrence ≡ key_at store j
    unfolding key_of
    entry_key = rw (entry-is, word-trip (node_count s) (parameter_type s (key_at store j)) (key_at store j).word word-passed)

-- ---- What is kept

kept-after : (l : List Entry) (e : Entry) (o : Occurrence) → kept l o ≡ none → kept (l ++ e ∷ []) o ≡ kept (e ∷ []) o
unfolding kept
kept-after [] e o h = refl
kept-after (d ∷ l) e o h = go (same_occurrence d.occurrence o) h (kept-after l e o)
  where
    go : (b : Bool) → cond b (some d.value) (kept l o) ≡ none → (kept l o ≡ none → kept (l ++ e ∷ []) o ≡ kept (e ∷ []) o)
        → cond b (some d.value) (kept (l ++ e ∷ []) o) ≡ kept (e ∷ []) o
    go true h f = absurd (let z : ◌≡◌ {A = ℕ} 0 1 = cc in omega arith)
    go false h f = f h

not_kept : (v : Option Value) → is_kept v ≡ false → v ≡ none
unfolding is_kept
not_kept none h = refl
not_kept (some v) h = absurd (true≢false h)

module _ (s : Sheet) (store : List ℕ) (o : Occurrence) (declared : OccurrenceIn (node_count s) s.attributes o) where
  -- An entry with the key of an occurrence is of that occurrence.
  entry-of : (j : ℕ) → key_at store j ≡ key_of o → entry_at s store j ≡ record { occurrence = o; value = of_word (result_type s (key_of o)) (value_word store j) }
  entry-of j e = rw (entry-is s store j, e) (λ i. unfold key_of in record {
    occurrence = record { node = o.node; attribute = o.attribute; parameter = declared.parameter-in.round_trip i };
    value = of_word (result_type s (key_of o)) (value_word store j);
  })

  kept-found : (k : ℕ) → read_entries s k [] store ≡ accepted (entries_in s store k)
      → kept (entries_in s store k) o ≡ kept_at (result_type s (key_of o)) store (find_key store k (key_of o))
  unfolding entries_in find_key kept_at
  kept-found zero q = unfold kept in refl
  kept-found (suc k) q = go (same_key (key_at store k) (key_of o)) refl (kept-found k last.before)
    where
      last : Last s store k (entries_in s store (suc k))
      last = entries-last s store k q

      passed : (tests s store k ≡ true) × (is_kept (kept (entries_in s store k) (entry_at s store k).occurrence) ≡ false)
      passed = let t = (and-eq-true_iff _ _).0 (sym (entry-tests s store k (entries_in s store k)) ∙ last.passes) in (t.0, not-true _ t.1)

      differs : same_key (key_at store k) (key_of o) ≡ false → (b : Bool) → same_occurrence (entry_at s store k).occurrence o ≡ b → same_occurrence (entry_at s store k).occurrence o ≡ false
      differs e true t =
          let same : key_at store k ≡ key_of o = sym (entry_key s store k passed.0) ∙ ap key_of (same-occurrence _ _ t) in
          absurd (true≢false (sym (key-refl (key_of o)) ∙ rw same at e))
      differs e false t = t

      go : (b : Bool) → same_key (key_at store k) (key_of o) ≡ b
          → kept (entries_in s store k) o ≡ kept_at (result_type s (key_of o)) store (find_key store k (key_of o))
          → kept (entries_in s store k ++ entry_at s store k ∷ []) o ≡ kept_at (result_type s (key_of o)) store (cond b (some k) (find_key store k (key_of o)))
      go true e f =
          let entry = entry-of k (same-key _ _ e) in
          let fresh = not_kept _ (rw entry at passed.1) in
          rw entry (kept-after (entries_in s store k) _ o fresh ∙ unfold kept in rw (occurrence-refl o declared))
      go false e f = kept-other (entries_in s store k) (entry_at s store k) o (differs e _ refl) ∙ f

-- The first k entries pass their tests.
passed-at : (s : Sheet) (store : List ℕ) (k j : ℕ) → read_entries s k [] store ≡ accepted (entries_in s store k) → j < k → tests s store j ≡ true
passed-at s store zero j q h = absurd (omega arith)
passed-at s store (suc k) j q h = go (eqb j k) refl (passed-at s store k j last.before)
  where
    last : Last s store k (entries_in s store (suc k))
    last = entries-last s store k q

    go : (b : Bool) → eqb j k ≡ b → (j < k → tests s store j ≡ true) → tests s store j ≡ true
    go true e f = rw (eqb-true j k e) ((and-eq-true_iff _ _).0 (sym (entry-tests s store k (entries_in s store k)) ∙ last.passes)).0
    go false e f = let other = eqb-false j k e in f (omega arith)

-- ---- A store that passes

module _ (s : Sheet) (store : List ℕ) (k : ℕ) (es : List Entry) (passes : check_store s store k ≡ accepted es) (o : Occurrence)
    (declared : OccurrenceIn (node_count s) s.attributes o) where
  entries : es ≡ entries_in s store k
  entries = entries-are s store k es (store_in s store k es passes).reads

  -- What an occurrence keeps is what its key finds.
  pub kept-by-key : kept es o ≡ kept_at (attribute_at s.attributes o.attribute).result store (find_key store k (key_of o))
  unfolding key_of
  kept-by-key = rw entries (kept-found s store o declared k (rw entries at (store_in s store k es passes).reads))

  pub kept_word : (j : ℕ) → find_key store k (key_of o) ≡ some j → is_word (node_count s) (attribute_at s.attributes o.attribute).result (value_word store j) ≡ true
  unfolding key_of
  kept_word j found =
      let at = found_below store k (key_of o) j found in
      let word = value-passed s store j (passed-at s store k j (rw entries at (store_in s store k es passes).reads) at.0) in
      rw (same-key _ _ at.1) at word

-- ---- One entry more

-- What the code's test of entry j by itself answers, for each sheet of these attributes and nodes.
abbrev pub Alone : List ℕ → ℕ → ℕ → List ℕ → ℕ → Bool → Type 0
Alone types attributes nodes store j r = (s : Sheet) → s.attributes ≡ attributes_in types attributes → node_count s ≡ nodes → r ≡ is_entry s [] (take 12 (drop (12 * j) store))

module _ (s : Sheet) (store : List ℕ) (j : ℕ) where
  pub first-tests : is_entry s [] (take 12 (drop (12 * j) store)) ≡ tests s store j
  unfolding kept is_kept
  first-tests = entry-tests s store j [] ∙ and-true (tests s store j)

  module _ (types : List ℕ) (attributes nodes : ℕ) (a : s.attributes ≡ attributes_in types attributes) (n : node_count s ≡ nodes) {r : Bool}
      (alone : Alone types attributes nodes store j r) where
    -- What fails by itself fails after any entries.
    fails-after : not r ≡ true → (before : List Entry) → false ≡ is_entry s before (take 12 (drop (12 * j) store))
    fails-after t before = rw (entry-tests s store j before, ← first-tests, ← alone s a n, not-true r t)

    -- What passes by itself passes after the entries before it if none of them has its key.
    module _ (passed : not r ≡ false) (reads : read_entries s j [] store ≡ accepted (entries_in s store j)) where
      all-tests : tests s store j ≡ true
      all-tests = sym first-tests ∙ sym (alone s a n) ∙ not-false r passed

      entry_kept : kept (entries_in s store j) (entry_at s store j).occurrence ≡ kept_at (result_type s (key_at store j)) store (find_key store j (key_at store j))
      entry_kept = rw (entry_key s store j all-tests) at (kept-found s store (entry_at s store j).occurrence (entry_in s store j all-tests) j reads)

      new-passes : find_key store j (key_at store j) ≡ none → true ≡ is_entry s (entries_in s store j) (take 12 (drop (12 * j) store))
      unfolding kept_at is_kept
      new-passes e = rw (entry-tests s store j (entries_in s store j), all-tests, entry_kept, e)

      known-fails : (i : ℕ) → find_key store j (key_at store j) ≡ some i → false ≡ is_entry s (entries_in s store j) (take 12 (drop (12 * j) store))
      unfolding kept_at is_kept
      known-fails i e = rw (entry-tests s store j (entries_in s store j), all-tests, entry_kept, e)

-- What the code answers of entry j: by its tests, and then by the search for its key.
module _ (types : List ℕ) (attributes nodes : ℕ) (store : List ℕ) (j : ℕ) (index : List ℕ) {r : Bool} (alone : Alone types attributes nodes store j r) where
  fails : ((s : Sheet) → s.attributes ≡ attributes_in types attributes → node_count s ≡ nodes → read_entries s j [] store ≡ accepted (entries_in s store j)
      → false ≡ is_entry s (entries_in s store j) (take 12 (drop (12 * j) store)))
      → EntryTested types attributes nodes store j index none
  fails answer = record { answer = answer; keyed = λ cell e. cc; new = λ cell e. cc; free = λ cell e. cc }

  pub entry-fails : not r ≡ true → EntryTested types attributes nodes store j index none
  entry-fails t = fails λ s a n q. fails-after s store j types attributes nodes a n alone t (entries_in s store j)

  module _ (passed : not r ≡ false) {f : Fields} (at : f ≡ fields_at store j) {q : Key} (key : q ≡ key_in f) (found : Result ℕ ℕ)
      (answer : result_ok found ≡ find_key store j q) (free : FreeIn index q found) (small : (i : ℕ) → Fits w8 (get_or store i 0)) where
    same : q ≡ key_at store j
    same = key ∙ ap key_in at

    pub entry_searched : {tested : Option ℕ} → tested ≡ result_err found → EntryTested types attributes nodes store j index tested
    entry_searched is = rw is (go found refl)
      where
        go : (o : Result ℕ ℕ) → found ≡ o → EntryTested types attributes nodes store j index (result_err o)
        go (Ok i) e = fails λ s a n reads. known-fails s store j types attributes nodes a n alone passed reads i (found_at store j answer same i e)
        go (Err cell) e =
            let new = nothing-found store j answer same e in
            record {
              answer = λ s a n reads. new-passes s store j types attributes nodes a n alone passed reads new;
              keyed = λ c f. keyed-bytes store small j;
              new = λ c f. new;
              free = λ c f. let here : cell ≡ c = cc in rw (here, same) at (rw e at free);
            }
