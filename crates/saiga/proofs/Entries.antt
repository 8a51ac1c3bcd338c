-- Entries through bytes: what is written is read back as it was, and what a call leaves passes the checks of the next.
use mathlib.Core.Bool.{Bool, true, false, ◌&&◌, ◌||◌, cond, and-eq-true_iff}
use mathlib.Core.List.{List, [], ◌∷◌, ◌++◌, append_assoc, append-nil}
use mathlib.Mathlib.Data.Bool.Basic.{or-eq-false-eq-eq-false-and-eq-false}
use mathlib.Core.Path.{◌≡◌, refl, sym, ◌∙◌, ap}
use Prim.Native.Nat.{ℕ, zero, suc, ◌+◌, ◌*◌, ◌%◌, ◌≤◌, ◌<◌}
use native.Mathlib.Nat.{suc-add, zero-add, add_comm, mul-suc}
use native.Mathlib.Omega.{arith}
use lib.Dec.{leb, eqb}
use lib.ListN.{length, take, drop, length-append, length-take, length-drop}
use lib.Seq.{length-take-le, take-take, take_at, drop_at, append_snoc, take-nil, drop-drop}
use borrow.Author.Tests.{ltb-true, leb-true, leb-false, eqb-true, lt-ltb, le-leb, eq-eqb, not-true}
use Rattle.saiga.specs.Values.{Base, base_code, Value, of_bytes, to_bytes, is_word, of_word, to_word}
use Rattle.saiga.specs.Expressions.{Expr}
use Rattle.saiga.specs.Types.{attribute_at}
use Rattle.saiga.specs.Sheet.{Sheet, node_count, attribute_count, refused◌at_place◌, accepted}
use Rattle.saiga.specs.Caching.{Entry, kept, is_kept, write, State, run}
use Rattle.saiga.specs.Store.{field_bytes, fields_of, entry_fields, entry_bytes, entry_of, is_entry, read_entries, capacity, check_store, entries_bytes, left_store}
use Rattle.saiga.specs.Sound.{IsA, EntryIn, All, all_none, all_cons}
use Rattle.saiga.proofs.FourBytes.{word_in, word_small, bytes-trip, in_code}
use Rattle.saiga.proofs.Preservation.{either, run-case}

-- ---- One entry

pub entry_length : (e : Entry) → length (entry_bytes e) ≡ 12
unfolding field_bytes entry_fields entry_bytes to_bytes
entry_length e = refl

-- What the tests of twelve bytes say.
pub record Passes (s : Sheet) (before : List Entry) (l : List ℕ) : Type 0 where
  pub node_declared : (fields_of l).node < node_count s
  pub attribute_declared : (fields_of l).attribute < attribute_count s
  pub type-code : (fields_of l).code ≡ base_code (attribute_at s.attributes (fields_of l).attribute).result
  pub parameter-word : is_word (node_count s) (attribute_at s.attributes (fields_of l).attribute).parameter-type (fields_of l).parameter ≡ true
  pub value-word : is_word (node_count s) (attribute_at s.attributes (fields_of l).attribute).result (fields_of l).value ≡ true
  pub not_kept : is_kept (kept before (entry_of s l).occurrence) ≡ false

pub passes : (s : Sheet) (before : List Entry) (l : List ℕ) → is_entry s before l ≡ true → Passes s before l
unfolding is_entry
passes s before l e =
    let t = simp and-eq-true_iff at e in
    record {
      node_declared = ltb-true _ _ t.0.0.0.0.0;
      attribute_declared = ltb-true _ _ t.0.0.0.0.1;
      type-code = eqb-true _ _ t.0.0.0.1;
      parameter-word = t.0.0.1;
      value-word = t.0.1;
      not_kept = not-true _ t.1;
    }

is-entry : (s : Sheet) (before : List Entry) (l : List ℕ) → Passes s before l → is_entry s before l ≡ true
unfolding is_entry
is-entry s before l p =
    simp (lt-ltb _ _ p.node_declared, lt-ltb _ _ p.attribute_declared, eq-eqb _ _ p.type-code, p.parameter-word, p.value-word, p.not_kept)

module _ (s : Sheet) (e : Entry) (few : node_count s ≤ 1024) (h : EntryIn (node_count s) s.attributes e) where
  node-bytes : of_bytes (to_bytes 2 e.occurrence.node) ≡ e.occurrence.node
  node-bytes = let n = h.occurrence_in.node_declared in bytes-trip 2 _ (omega arith)

  word_bytes : {B : Base} {v : Value} → IsA (node_count s) B v → of_bytes (to_bytes 4 (to_word v)) ≡ to_word v
  word_bytes {B} {v} i = bytes-trip 4 (to_word v) (word_small (node_count s) B (to_word v) (omega arith) i.is-word)

  pub entry-trip : entry_of s (entry_bytes e) ≡ e
  unfolding entry_of entry_bytes fields_of field_bytes entry_fields to_bytes
  entry-trip i = record {
    occurrence = record {
      node = node-bytes i;
      attribute = e.occurrence.attribute;
      parameter = (ap (of_word _) (word_bytes h.occurrence_in.parameter-in) ∙ h.occurrence_in.parameter-in.round_trip) i;
    };
    value = (ap (of_word _) (word_bytes h.value-in) ∙ h.value-in.round_trip) i;
  }

  pub entry-passes : (before : List Entry) → is_kept (kept before e.occurrence) ≡ false → is_entry s before (entry_bytes e) ≡ true
  entry-passes before q = is-entry s before (entry_bytes e) (unfold entry_bytes fields_of field_bytes entry_fields to_bytes in record {
    node_declared = rw node-bytes h.occurrence_in.node_declared;
    attribute_declared = h.occurrence_in.attribute_declared;
    type-code = in_code h.value-in;
    parameter-word = rw (word_bytes h.occurrence_in.parameter-in) h.occurrence_in.parameter-in.is-word;
    value-word = rw (word_bytes h.value-in) h.value-in.is-word;
    not_kept = rw entry-trip q;
  })

-- What passes is an entry of the sheet.
passes-in : (s : Sheet) (before : List Entry) (l : List ℕ) → Passes s before l → EntryIn (node_count s) s.attributes (entry_of s l)
unfolding entry_of
passes-in s before l p = record {
  occurrence_in = record {
    node_declared = p.node_declared;
    attribute_declared = p.attribute_declared;
    parameter-in = word_in (node_count s) _ _ p.parameter-word;
  };
  value-in = word_in (node_count s) _ _ p.value-word;
}

-- ---- Several entries

-- Each occurrence is kept neither before nor by the entries ahead of it.
abbrev pub Fresh : List Entry → List Entry → Type 0
Fresh before [] = Unit {0}
Fresh before (e ∷ es) = (is_kept (kept before e.occurrence) ≡ false) × Fresh (before ++ e ∷ []) es

drop-take : {A : Type 0} (n m : ℕ) (l : List A) → drop n (take (n + m) l) ≡ take m (drop n l)
drop-take zero m l = rw zero-add refl
drop-take (suc n) m [] = rw suc-add (sym (take-nil m))
drop-take (suc n) m (x ∷ l) = rw suc-add (drop-take n m l)

module _ (s : Sheet) where
  pub read_one : (k : ℕ) (before : List Entry) (l : List ℕ) → is_entry s before (take 12 l) ≡ true
      → read_entries s (suc k) before l ≡ read_entries s k (before ++ entry_of s (take 12 l) ∷ []) (drop 12 l)
  unfolding read_entries
  read_one k before l e = rw (e, read_entries)

  pub read_none : (k : ℕ) (before : List Entry) (l : List ℕ) → is_entry s before (take 12 l) ≡ false
      → read_entries s (suc k) before l ≡ refused 10 at_place (length before)
  unfolding read_entries
  read_none k before l e = rw (e, read_entries)

  -- where entries are accepted the first passes, and so do the rest
  first_passes : {es : List Entry} (k : ℕ) (before : List Entry) (l : List ℕ) → read_entries s (suc k) before l ≡ accepted es
      → (is_entry s before (take 12 l) ≡ true) × (read_entries s k (before ++ entry_of s (take 12 l) ∷ []) (drop 12 l) ≡ accepted es)
  first_passes {es} k before l q = go (is_entry s before (take 12 l)) refl
    where
      go : (b : Bool) → is_entry s before (take 12 l) ≡ b
          → (is_entry s before (take 12 l) ≡ true) × (read_entries s k (before ++ entry_of s (take 12 l) ∷ []) (drop 12 l) ≡ accepted es)
      go true e = (e, sym (read_one k before l e) ∙ q)
      go false e = absurd (let r = read_none k before l e in let z : ◌≡◌ {A = ℕ} 0 1 = cc in omega arith)

  -- Reading takes twelve bytes for each entry.
  read_taken : (k : ℕ) (before : List Entry) (l : List ℕ) → read_entries s k before (take (12 * k) l) ≡ read_entries s k before l
  read_taken zero before l = unfold read_entries in refl
  read_taken (suc k) before l = go (is_entry s before (take 12 l)) refl (read_taken k)
    where
      front : take 12 (take (12 * suc k) l) ≡ take 12 l
      front = take-take 12 (12 * suc k) l (omega arith)

      back : drop 12 (take (12 * suc k) l) ≡ take (12 * k) (drop 12 l)
      back = rw (mul-suc, add_comm (12 * k) 12) (drop-take 12 (12 * k) l)

      go : (b : Bool) → is_entry s before (take 12 l) ≡ b → ((before : List Entry) (l : List ℕ) → read_entries s k before (take (12 * k) l) ≡ read_entries s k before l)
          → read_entries s (suc k) before (take (12 * suc k) l) ≡ read_entries s (suc k) before l
      go true e rest = rw (read_one k before l e, read_one k before (take (12 * suc k) l) (rw front e), front, back) (rest _ _)
      go false e rest = rw (read_none k before l e, read_none k before (take (12 * suc k) l) (rw front e))

  pub first-bytes : (k : ℕ) (before : List Entry) (l l' : List ℕ) → take (12 * k) l' ≡ take (12 * k) l → read_entries s k before l' ≡ read_entries s k before l
  first-bytes k before l l' q = sym (read_taken k before l') ∙ rw q (read_taken k before l)

  -- Reading goes on after some entries where they end.
  read-on : {es : List Entry} (k j : ℕ) (before : List Entry) (l : List ℕ) → read_entries s k before l ≡ accepted es
      → read_entries s (k + j) before l ≡ read_entries s j es (drop (12 * k) l)
  read-on {es} zero j before l q = let e : before ≡ es = unfold read_entries in cc in rw (zero-add, e) refl
  read-on {es} (suc k) j before l q =
      let p = first_passes k before l q in
      rw (suc-add, mul-suc, add_comm (12 * k) 12, ← drop-drop (12 * k) 12 l, read_one (k + j) before l p.0) (read-on k j _ _ p.1)

  -- What was written is read back.
  read-written : node_count s ≤ 1024 → (e : Entry) → EntryIn (node_count s) s.attributes e → (k : ℕ) (before : List Entry) (m : List ℕ)
      → is_kept (kept before e.occurrence) ≡ false → read_entries s (suc k) before (entry_bytes e ++ m) ≡ read_entries s k (before ++ e ∷ []) m
  read-written few e h k before m f =
      let front : take 12 (entry_bytes e ++ m) ≡ entry_bytes e = take_at (entry_bytes e) m 12 (entry_length e) in
      rw (read_one k before (entry_bytes e ++ m) (rw front (entry-passes s e few h before f)), front, drop_at (entry_bytes e) m 12 (entry_length e), entry-trip s e few h)

  pub entries-trip : node_count s ≤ 1024 → (es before : List Entry) (rest : List ℕ) → All (EntryIn (node_count s) s.attributes) es → Fresh before es
      → read_entries s (length es) before (entries_bytes es ++ rest) ≡ accepted (before ++ es)
  unfolding entries_bytes
  entries-trip few [] before rest all_none f = unfold read_entries in rw append-nil refl
  entries-trip few (e ∷ es) before rest (all_cons h t) f =
      rw (append_assoc (entry_bytes e) (entries_bytes es) rest, read-written few e h _ before _ f.0, ← append_snoc before e es)
      (entries-trip few es (before ++ e ∷ []) rest t f.1)

  -- What is accepted are the entries before and those read, fresh and of the sheet.
  pub record Read (k : ℕ) (before es : List Entry) : Type 0 where
    pub new : List Entry
    pub appended : es ≡ before ++ new
    pub new_in : All (EntryIn (node_count s) s.attributes) new
    pub fresh : Fresh before new
    pub count : length new ≡ k

  pub entries-read : {es : List Entry} (k : ℕ) (before : List Entry) (l : List ℕ) → read_entries s k before l ≡ accepted es → Read k before es
  unfolding read_entries
  entries-read zero before l q = record { new = []; appended = rw append-nil cc; new_in = all_none; fresh = tt; count = refl }
  entries-read (suc k) before l q =
      let p = first_passes k before l q in
      let t = passes s before (take 12 l) p.0 in
      let r = entries-read k (before ++ entry_of s (take 12 l) ∷ []) (drop 12 l) p.1 in
      record {
        new = entry_of s (take 12 l) ∷ r.new;
        appended = r.appended ∙ append_snoc before _ _;
        new_in = all_cons (passes-in s before (take 12 l) t) r.new_in;
        fresh = (t.not_kept, r.fresh);
        count = ap suc r.count;
      }

  pub read_length : {k : ℕ} {before es : List Entry} → Read k before es → length es ≡ length before + k
  read_length r = rw (r.appended, length-append, r.count)

-- ---- The store

-- A store that passes: its length and the kept number are right, and its first bytes are the kept entries.
pub record StoreIn (s : Sheet) (store : List ℕ) (k : ℕ) (es : List Entry) : Type 0 where
  pub whole : length store % 12 ≡ 0
  pub short : length store ≤ 12288
  pub fits : k ≤ capacity store
  pub reads : read_entries s k [] store ≡ accepted es
  pub count : length es ≡ k
  pub entries-in : All (EntryIn (node_count s) s.attributes) es

pub store_in : (s : Sheet) (store : List ℕ) (k : ℕ) (es : List Entry) → check_store s store k ≡ accepted es → StoreIn s store k es
unfolding check_store
store_in s store k es q = go (eqb (length store % 12) 0 && leb (length store) 12288 && leb k (capacity store)) refl q
  where
    go : (b : Bool) → (eqb (length store % 12) 0 && leb (length store) 12288 && leb k (capacity store)) ≡ b
        → cond b (read_entries s k [] store) (refused 9 at_place 0) ≡ accepted es → StoreIn s store k es
    go true e q =
        let t = simp and-eq-true_iff at e in
        let r = entries-read s k [] store q in
        record {
          whole = eqb-true _ _ t.0.0;
          short = leb-true _ _ t.0.1;
          fits = leb-true _ _ t.1;
          reads = q;
          count = rw r.appended r.count;
          entries-in = rw r.appended r.new_in;
        }
    go false e q = absurd (let z : ◌≡◌ {A = ℕ} 0 1 = cc in omega arith)

pub entries-length : (es : List Entry) → length (entries_bytes es) ≡ 12 * length es
unfolding entries_bytes
entries-length [] = refl
entries-length (e ∷ es) = rw (length-append, entry_length, entries-length es) (omega arith)

module _ (store : List ℕ) (k : ℕ) (es new : List Entry) (count : length es ≡ k) (room : length (es ++ new) ≤ capacity store) where
  left_is : left_store store k (es ++ new) ≡ take (12 * k) store ++ (entries_bytes new ++ drop (12 * length (es ++ new)) store)
  unfolding left_store
  left_is = rw (drop_at es new k count, append_assoc) refl

  pub left-length : length (left_store store k (es ++ new)) ≡ length store
  left-length =
      let fits = simp length-append at room in
      rw left_is (simp (length-append, length-take, length-drop, entries-length) (omega arith))

-- What a call leaves passes the checks of the next.
module _ (s : Sheet) (few : node_count s ≤ 1024) (store : List ℕ) (k : ℕ) (es new : List Entry) (passed : check_store s store k ≡ accepted es)
    (new_in : All (EntryIn (node_count s) s.attributes) new) (fresh : Fresh es new) where
  read_left : (rest : List ℕ) → read_entries s (k + length new) [] (take (12 * k) store ++ (entries_bytes new ++ rest)) ≡ accepted (es ++ new)
  read_left rest =
      let p = store_in s store k es passed in
      let size : length (take (12 * k) store) ≡ 12 * k = let f = p.fits in length-take-le (12 * k) store (omega arith) in
      let l = take (12 * k) store ++ (entries_bytes new ++ rest) in
      read-on s k (length new) [] l (first-bytes s k [] store l (take_at _ _ _ size) ∙ p.reads)
      ∙ rw (drop_at (take (12 * k) store) (entries_bytes new ++ rest) (12 * k) size) (entries-trip s few new es rest new_in fresh)

  pub left-passes : length (es ++ new) ≤ capacity store → check_store s (left_store store k (es ++ new)) (length (es ++ new)) ≡ accepted (es ++ new)
  unfolding check_store
  left-passes room =
      let p = store_in s store k es passed in
      rw (left-length store k es new p.count room, eq-eqb _ _ p.whole, le-leb _ _ p.short, le-leb _ _ room, left_is store k es new p.count room, length-append es new, p.count)
      (read_left _)

-- ---- What a run keeps

pub record Appended (capacity : ℕ) (before after : List Entry) : Type 0 where
  pub new : List Entry
  pub appended : after ≡ before ++ new
  pub fresh : Fresh before new
  pub room : length before ≤ capacity → length after ≤ capacity

none-appended : (capacity : ℕ) (s : List Entry) → Appended capacity s s
none-appended capacity s = record { new = []; appended = sym (append-nil s); fresh = tt; room = λ h. h }

-- CacheWrite appends only what is not kept, and only while the store is not full.
write-appends : (capacity : ℕ) (s : List Entry) (e : Entry) → Appended capacity s (write capacity s e)
unfolding write
write-appends capacity s e =
    either (Appended capacity s) (is_kept (kept s e.occurrence) || leb capacity (length s)) (λ _. none-appended capacity s)
    (λ q. let neither = simp or-eq-false-eq-eq-false-and-eq-false at q in let free = leb-false capacity (length s) neither.1 in
    record { new = e ∷ []; appended = refl; fresh = (neither.0, tt); room = λ _. rw length-append (omega arith) })

fresh-append : (a m n : List Entry) → Fresh a m → Fresh (a ++ m) n → Fresh a (m ++ n)
fresh-append a [] n f g = rw append-nil at g
fresh-append a (e ∷ m) n f g = (f.0, fresh-append (a ++ e ∷ []) m n f.1 (rw append_snoc g))

then-appended : (capacity : ℕ) {a b c : List Entry} → Appended capacity a b → Appended capacity b c → Appended capacity a c
then-appended capacity {a} {b} {c} p q =
    record {
      new = p.new ++ q.new;
      appended = q.appended ∙ rw p.appended (append_assoc a p.new q.new);
      fresh = fresh-append a p.new q.new p.fresh (rw p.appended at q.fresh);
      room = λ h. q.room (p.room h);
    }

module _ (context : ℕ → ℕ → Expr) (capacity budget : ℕ) where
  pub run-appends : (k : ℕ) (st : State) → Appended capacity st.entries (run context capacity budget k st).entries
  unfolding run
  run-appends zero st = none-appended capacity st.entries
  run-appends (suc k) st =
      run-case context capacity budget (λ end. Appended capacity st.entries end.entries) k st
      (λ v _. none-appended capacity st.entries)
      (λ r t _. run-appends k _)
      (λ e t _. then-appended capacity (write-appends capacity st.entries e) (run-appends k _))
      (λ r _. none-appended capacity st.entries)
