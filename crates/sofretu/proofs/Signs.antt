-- What is taken from -1: the number after it, with the sign turned.
use Rattle.std.proofs.Common.{◌≡◌, ℕ, zero, suc, ◌^◌, ◌<◌, refl, ap, w64, pos, negsuc, ◌-ℤ◌, to_z}
use Rattle.std.proofs.Math.Facts.{to_z_pos}
use Rattle.std.proofs.Math.Nat.{zero-add}

-- -1 - n is -(n + 1).
pub turned : (n : ℕ) → negsuc 0 -ℤ pos n ≡ negsuc n
turned zero = refl
turned (suc n) = ap (λ k. negsuc (suc k)) (zero-add n)

-- And so it is of n read from its 64 bits, where the top bit is clear.
pub top-half : (n : ℕ) → n < 2 ^ 63 → negsuc 0 -ℤ to_z w64 n ≡ negsuc n
top-half n h = rw (to_z_pos w64 {n = n} h) (turned n)
