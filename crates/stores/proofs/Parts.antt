-- Parts of a list, and where the numbers of entries stand.
use mathlib.Core.List.{List, [], ◌∷◌}
use mathlib.Core.Path.{◌≡◌, refl, sym, ◌∙◌, ap}
use Prim.Native.Nat.{ℕ, zero, suc, ◌+◌, ◌*◌, ◌^◌, ◌≤◌, ◌<◌}
use native.Mathlib.Omega.{arith}
use lib.ListN.{take, drop, get_or}
use lib.Seq.{take-take, drop-drop, get_or-take, get_or-drop}
use mir.Syntax.{w8, w16}
use mir.Val.{Fits}
use Rattle.saiga.specs.Values.{of_bytes}
use Rattle.saiga.specs.Store.{fields_of}
use Rattle.values.proofs.Bytes.{bytes_below}
use Rattle.stores.specs.declared.Key.{Key}
use Rattle.stores.specs.Walks.{Keyed}
use Rattle.stores.specs.Keys.{fields_at, key_in, key_at}

-- a part of a list's front is a part of the list
part-taken : {A : Type 0} (i n m : ℕ) (l : List A) → i + n ≤ m → take n (drop i (take m l)) ≡ take n (drop i l)
part-taken zero n m l h = take-take n m l (omega arith)
part-taken (suc i) n zero l h = absurd (omega arith)
part-taken (suc i) n (suc m) [] h = refl
part-taken (suc i) n (suc m) (x ∷ l) h = part-taken i n m l (omega arith)

-- the parts of entry j in the store
module _ (store : List ℕ) (j : ℕ) where
  part_at : (i n : ℕ) → i + n ≤ 12 → take n (drop i (take 12 (drop (12 * j) store))) ≡ take n (drop (12 * j + i) store)
  part_at i n h = part-taken i n 12 (drop (12 * j) store) h ∙ ap (take n) (drop-drop i (12 * j) store)

  byte_at : (i : ℕ) → i < 12 → get_or (take 12 (drop (12 * j) store)) i 0 ≡ get_or store (12 * j + i) 0
  byte_at i h = get_or-take 12 (drop (12 * j) store) i 0 h ∙ get_or-drop (12 * j) store i 0

  pub fields_read : (n a z w v : ℕ) → n ≡ of_bytes (take 2 (drop (12 * j) store)) → a ≡ get_or store (12 * j + 2) 0 → z ≡ get_or store (12 * j + 3) 0
      → w ≡ of_bytes (take 4 (drop (12 * j + 4) store)) → v ≡ of_bytes (take 4 (drop (12 * j + 8) store))
      → record { node = n; attribute = a; code = z; parameter = w; value = v } ≡ fields_at store j
  unfolding fields_at fields_of
  fields_read n a z w v hn ha hz hw hv i = record {
    node = (hn ∙ ap of_bytes (sym (part-taken 0 2 12 (drop (12 * j) store) (omega arith)))) i;
    attribute = (ha ∙ sym (byte_at 2 (omega arith))) i;
    code = (hz ∙ sym (byte_at 3 (omega arith))) i;
    parameter = (hw ∙ ap of_bytes (sym (part_at 4 4 (omega arith)))) i;
    value = (hv ∙ ap of_bytes (sym (part_at 8 4 (omega arith)))) i;
  }

-- What so many bytes hold is below so many powers of 256.
module _ (store : List ℕ) (small : (i : ℕ) → Fits w8 (get_or store i 0)) where
  part-below : (at n : ℕ) → of_bytes (take n (drop at store)) < 256 ^ n
  part-below at n = bytes_below n (drop at store) (λ i. rw (get_or-drop at store i 0) (small (at + i)).fits)

  pub two-small : (at n : ℕ) → n ≡ of_bytes (take 2 (drop at store)) → Fits w16 n
  two-small at n e = record { fits = rw e (part-below at 2) }

  -- The bytes of an entry hold a key.
  pub keyed-bytes : (j : ℕ) → Keyed (key_at store j)
  unfolding fields_at fields_of key_in
  keyed-bytes j =
      record {
        node = rw (part-taken 0 2 12 (drop (12 * j) store) (omega arith)) (part-below (12 * j) 2);
        attribute = rw (byte_at store j 2 (omega arith)) (small (12 * j + 2)).fits;
        word = rw (part_at store j 4 4 (omega arith)) (part-below (12 * j + 4) 4);
      }

-- A key that is equal to a key of bytes is one.
pub keyed-as : {p q : Key} → q ≡ p → Keyed p → Keyed q
keyed-as e keyed = rw e keyed

-- The first k entries stand in the first 12 * k bytes.
key-taken : (store : List ℕ) (k j : ℕ) → j < k → key_at (take (12 * k) store) j ≡ key_at store j
unfolding fields_at
key-taken store k j h = ap (λ l. key_in (fields_of l)) (part-taken (12 * j) 12 (12 * k) store (omega arith))

pub key-same : (store store' : List ℕ) (k j : ℕ) → take (12 * k) store ≡ take (12 * k) store' → j < k → key_at store j ≡ key_at store' j
key-same store store' k j e h = sym (key-taken store k j h) ∙ ap (λ l. key_at l j) e ∙ key-taken store' k j h
