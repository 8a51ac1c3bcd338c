-- An entry is written: the store that a call leaves grows by it, and the entries before it stay.
use mathlib.Core.List.{List, [], ◌∷◌, ◌++◌, append_assoc, append-nil}
use Rattle.std.specs.Prelude.{None as none}
use mathlib.Core.Path.{◌≡◌, refl, sym, ◌∙◌, ap}
use Prim.Native.Nat.{ℕ, ◌+◌, ◌*◌, ◌≤◌, ◌<◌}
use native.Mathlib.Numerals.{towards_suc}
use native.Mathlib.Omega.{arith}
use lib.ListN.{length, take, drop, set, length-append, length-take, length-drop}
use lib.Seq.{sets, sets-eq, length-take-le, take_at, drop_at, drop-append-le, drop-append-add, drop-drop}
use Rattle.saiga.specs.Values.{word_limit, to_bytes}
use Rattle.saiga.specs.Caching.{Entry}
use Rattle.saiga.specs.declared.Fields.{Fields}
use Rattle.saiga.specs.Store.{field_bytes, fields_of, entry_bytes, entries_bytes, left_store}
use Rattle.saiga.proofs.FourBytes.{bytes-trip}
use Rattle.saiga.proofs.Entries.{entries-length}
use Rattle.stores.specs.Walks.{Keyed, Free, planted}
use Rattle.stores.specs.Keys.{fields_at, key_in, key_at, find_key, put_at, Linked, EntryPut}
use Rattle.stores.proofs.Parts.{key-same}
use Rattle.stores.proofs.Searches.{find_none, none_has}
use Rattle.stores.proofs.Linked.{linked-same, linked-more}

fields-length : (f : Fields) → length (field_bytes f) ≡ 12
unfolding field_bytes to_bytes
fields-length f = refl

module _ (store : List ℕ) (k : ℕ) (fits : 12 * k + 12 ≤ length store) where
  module _ (f : Fields) where
    pub put-length : length (put_at store k (field_bytes f)) ≡ length store
    unfolding put_at
    put-length = let twelve = fields-length f in simp (length-append, length-take, length-drop) (omega arith)

    pub put-before : take (12 * k) store ≡ take (12 * k) (put_at store k (field_bytes f))
    unfolding put_at
    put-before = rw append_assoc (sym (take_at (take (12 * k) store) _ (12 * k) (length-take-le (12 * k) store (omega arith))))

    pub put-there : take 12 (drop (12 * k) (put_at store k (field_bytes f))) ≡ field_bytes f
    unfolding put_at
    put-there =
        let rest = drop (12 * k + 12) store in
        let front : length (take (12 * k) store) ≡ 12 * k = length-take-le (12 * k) store (omega arith) in
        rw (append_assoc (take (12 * k) store) (field_bytes f) rest, drop_at (take (12 * k) store) (field_bytes f ++ rest) (12 * k) front)
        (take_at (field_bytes f) rest 12 (fields-length f))

    -- The code writes an entry's parts one after the other.
    module _ {node : ℕ} {noded parametered valued : List ℕ} (wide : node ≡ f.node) (n : noded ≡ sets store (12 * k) (to_bytes 2 node))
        (p : parametered ≡ sets (set (set noded (12 * k + 2) f.attribute) (12 * k + 3) f.code) (12 * k + 4) (to_bytes 4 f.parameter))
        (v : valued ≡ sets parametered (12 * k + 8) (to_bytes 4 f.value)) where
      pub written : valued ≡ put_at store k (field_bytes f)
      unfolding put_at field_bytes to_bytes
      written = v ∙ rw (p, n, wide) (simp towards_suc refl ∙ sets-eq (field_bytes f) store (12 * k) fits)

    -- The index over the entries before it stays one.
    linked-put : (index : List ℕ) → Linked store k index → Linked (put_at store k (field_bytes f)) k index
    linked-put index l = linked-same store (put_at store k (field_bytes f)) k put-before index (rw put-length l.stands) l

-- ---- An entry is written, and put into the index

pub fields-keyed : (f : Fields) → f.node < 65536 → f.attribute < 256 → f.parameter < word_limit → Keyed (key_in f)
unfolding key_in
fields-keyed f n a p = record { node = n; attribute = a; word = p }

module _ (store : List ℕ) (k : ℕ) (few : k < 1024) (fits : 12 * k + 12 ≤ length store) (index : List ℕ) (l : Linked store k index) (f : Fields)
    (keyed : Keyed (key_in f)) (new : find_key store k (key_in f) ≡ none) (cell : ℕ) (free : Free index (key_in f) cell) where
  abbrev put : List ℕ
  put = put_at store k (field_bytes f)

  -- The entry that was written has the key.
  key-trips : key_in (fields_of (field_bytes f)) ≡ key_in f
  unfolding key_in fields_of field_bytes to_bytes
  key-trips i = record { node = bytes-trip 2 f.node keyed.node i; attribute = f.attribute; word = bytes-trip 4 f.parameter keyed.word i }

  key-put : key_at put k ≡ key_in f
  unfolding fields_at
  key-put = rw (put-there store k fits f) key-trips

  new-put : find_key put k (key_in f) ≡ none
  new-put = find_none put k (key_in f) (λ j h has. none_has store k (key_in f) new j h (key-same store put k j (put-before store k fits f) h ∙ has))

  pub entry-put : {put' index' : List ℕ} → put' ≡ put → index' ≡ planted index cell k → EntryPut store k f put' index'
  entry-put written linked =
      record {
        bytes = written;
        linked = rw (written, linked) (linked-more put k index (linked-put store k fits f index l) few (key_in f) key-put keyed new-put cell free (rw (put-length store k fits f) fits));
      }

-- ---- The store that a call leaves

entries-append : (a b : List Entry) → entries_bytes (a ++ b) ≡ entries_bytes a ++ entries_bytes b
unfolding entries_bytes
entries-append [] b = refl
entries-append (e ∷ a) b = rw (entries-append a b) (sym (append_assoc (entry_bytes e) (entries_bytes a) (entries_bytes b)))

module _ (store : List ℕ) (k : ℕ) (es : List Entry) (more : k ≤ length es) (fits : 12 * length es + 12 ≤ length store) where
  front : List ℕ
  front = take (12 * k) store ++ entries_bytes (drop k es)

  front_length : length front ≡ 12 * length es
  unfolding front
  front_length = simp (length-append, length-take, entries-length, length-drop) (omega arith)

  past-front : (rest : List ℕ) → drop (12 * length es + 12) (front ++ rest) ≡ drop 12 rest
  past-front rest = ap (λ m. drop (m + 12) (front ++ rest)) (sym front_length) ∙ drop-append-add front rest 12

  -- One entry more stands behind the others.
  pub left-more : (e : Entry) → left_store store k (es ++ e ∷ []) ≡ put_at (left_store store k es) (length es) (entry_bytes e)
  unfolding put_at left_store front entries_bytes
  left-more e =
      let rest = drop (12 * length es) store in
      let wide : 12 * (length es + 1) ≡ 12 * length es + 12 = omega arith in
      rw (drop-append-le k es (e ∷ []) more, entries-append, append-nil, length-append, take_at front rest (12 * length es) front_length, past-front rest, drop-drop, wide, append_assoc (take (12 * k) store) (entries_bytes (drop k es)) (entry_bytes e))
