-- The bytes at a place of a list, as a number: the first, and 256 times the number of those after it.
use mathlib.Core.List.{List, [], ◌∷◌, ◌++◌, append_assoc}
use mathlib.Core.Path.{◌≡◌, refl, sym, ap, ◌∙◌}
use Prim.Native.Nat.{ℕ, zero, suc, ◌+◌, ◌-◌, ◌*◌, ◌/◌, ◌%◌, ◌^◌, ◌≤◌, ◌<◌}
use native.Mathlib.Nat.{pow-zero}
use native.Mathlib.Omega.{arith}
use lib.ListN.{length, get_or, take, drop}
use lib.Seq.{sets, drop-cons}
use borrow.Rule.Slice.PartMut.{put_mid}
use Rattle.std.specs.Int.{w32, from_le_bytes, to_le_bytes}
use Rattle.std.proofs.lemmas.List.Edits.{length-between, paste_all, sets-eq}
use Rattle.std.proofs.lemmas.Slice.{put_mid-paste}
use Rattle.saiga.proofs.FourBytes.{bytes-length}
use Rattle.saiga.specs.Values.{of_bytes, to_bytes}

pub bytes-at : (k : ℕ) (l : List ℕ) (at : ℕ) → at < length l → of_bytes (take (suc k) (drop at l)) ≡ get_or l at 0 + 256 * of_bytes (take k (drop (suc at) l))
unfolding of_bytes
bytes-at k l at h = rw (drop-cons l at 0 h)

pub bytes_below : (n : ℕ) (l : List ℕ) → ((i : ℕ) → get_or l i 0 < 256) → of_bytes (take n l) < 256 ^ n
unfolding of_bytes
bytes_below zero l h = omega (arith, pow-zero 256)
bytes_below (suc n) [] h = omega (arith, bytes_below n [] h)
bytes_below (suc n) (b ∷ l) h = omega (arith, h 0, bytes_below n l λ i. h (suc i))

-- ---- A number of four bytes, of which the code reads or writes the first n

-- The bytes, and zeros after them.
padded : (ys : List ℕ) → length ys ≤ 4 → from_le_bytes w32 (ys ++ drop (length ys) (0 ∷ 0 ∷ 0 ∷ 0 ∷ [])) ≡ of_bytes ys
unfolding of_bytes
padded [] h = refl
padded (a ∷ []) h = omega arith
padded (a ∷ b ∷ []) h = omega arith
padded (a ∷ b ∷ c ∷ []) h = omega arith
padded (a ∷ b ∷ c ∷ d ∷ []) h = omega arith
padded (a ∷ b ∷ c ∷ d ∷ e ∷ l) h = absurd (omega arith)

first-bytes : (k n : ℕ) → k ≤ 4 → take k (to_le_bytes w32 n) ≡ to_bytes k n
unfolding to_bytes
first-bytes zero n h = refl
first-bytes (suc zero) n h = refl
first-bytes (suc (suc zero)) n h = refl
first-bytes (suc (suc (suc zero))) n h = let third : n / 65536 % 256 ≡ n / 256 / 256 % 256 = omega arith in cc
first-bytes (suc (suc (suc (suc zero)))) n h =
    let third : n / 65536 % 256 ≡ n / 256 / 256 % 256 = omega arith in
    let fourth : n / 16777216 % 256 ≡ n / 256 / 256 / 256 % 256 = omega arith in
    cc
first-bytes (suc (suc (suc (suc (suc k))))) n h = absurd (omega arith)

module _ (l ys : List ℕ) (at n : ℕ) (few : n ≤ 4) (room : at + n ≤ length l) where
  width : at + n - at ≡ n
  width = omega arith

  pub number_read : ys ≡ take (at + n - at) (drop at l) → (r : ℕ) → r ≡ from_le_bytes w32 (ys ++ drop n (0 ∷ 0 ∷ 0 ∷ 0 ∷ [])) → r ≡ of_bytes (take n (drop at l))
  number_read is r e =
      let size : length ys ≡ n = ap length is ∙ length-between l at (at + n) room ∙ width in
      rw (← size) at e ∙ padded ys (omega arith) ∙ ap of_bytes (rw width at is)

  pub number_written : (w : ℕ) (bytes : List ℕ) → bytes ≡ to_le_bytes w32 w → ys ≡ take n bytes → put_mid at (at + n - at) l ys ≡ sets l at (to_bytes n w)
  number_written w bytes all is =
      let size = bytes-length n w in
      put_mid-paste at (at + n - at) l ys (to_bytes n w) n (is ∙ rw all (first-bytes n w few)) (sym width) (sym size)
      ∙ paste_all l at (to_bytes n w) n (sym size)
      ∙ sym (rw size at (sets-eq (to_bytes n w) l at (omega (arith, size))) ∙ append_assoc (take at l) (to_bytes n w) (drop (at + n) l))
