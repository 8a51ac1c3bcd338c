-- The four-byte form of the base values, and bytes: writing and reading undo one another.
use Rattle.std.specs.Prelude.{Option, None as none, Some as some}
use mathlib.Core.Bool.{Bool, true, false, false≢true, cond, ◌||◌}
use mathlib.Core.Path.{◌≡◌, refl, sym, ap}
use Prim.Native.Nat.{ℕ, zero, suc, ◌+◌, ◌-◌, ◌/◌, ◌%◌, ◌^◌, ◌≤◌, ◌<◌}
use native.Mathlib.Nat.{pow-zero, pow-suc, mod-add-div, div-lt_iff_lt-mul}
use native.Mathlib.Omega.{arith}
use lib.Dec.{ltb, eqb, leb→le, le→leb, lit<}
use lib.IntN.{ℤ, pos, negsuc}
use lib.ListN.{length}
use lib.Signed.{mag, lt_z}
use borrow.Author.Tests.{ltb-true, ltb-false, eqb-true, eqb-false, lt-ltb, le-ltb, eq-eqb}
use Rattle.saiga.specs.Values.{Base, unit_t, bool_t, int_t, node_t, base_code, base, Value, unit, bool, int, node, type_of, null, lowest, highest, exact, summed, equal_z, word_limit, sign_bit, of_bytes, to_bytes, signed, unsigned, bit, is_word, of_word, to_word, type_code, same_value}
use Rattle.saiga.specs.FourBytes.{TwosComplement, IsInt, WritingAndReading, FourEnds}
use Rattle.saiga.specs.Sound.{IsA}

-- ---- An Int

pub four-ends : FourEnds
unfolding signed
four-ends = (refl, refl, refl, refl)

pub twos-complement : TwosComplement
unfolding signed
twos-complement u h = go (ltb u sign_bit) refl
  where
    go : (b : Bool) → ltb u sign_bit ≡ b → signed u ≡ cond b (pos u) (negsuc (word_limit - 1 - u))
    go true e =
        let low = ltb-true u sign_bit e in
        rw (le-ltb ((u + sign_bit) % word_limit) sign_bit (omega arith)) (ap pos (omega arith))
    go false e =
        let high = ltb-false u sign_bit e in
        rw (lt-ltb ((u + sign_bit) % word_limit) sign_bit (omega arith)) (ap negsuc (omega arith))

-- What is shown of the two's complement by the top bit holds of the Int that is read.
by-top-bit : (P : ℤ → Type 0) (u : ℕ) → u < word_limit → (u < sign_bit → P (pos u)) → (sign_bit ≤ u → P (negsuc (word_limit - 1 - u))) → P (signed u)
by-top-bit P u h low high = rw (twos-complement u h) (go (ltb u sign_bit) refl)
  where
    go : (b : Bool) → ltb u sign_bit ≡ b → P (cond b (pos u) (negsuc (word_limit - 1 - u)))
    go true e = low (ltb-true u sign_bit e)
    go false e = high (ltb-false u sign_bit e)

unsigned_signed : (u : ℕ) → u < word_limit → unsigned (signed u) ≡ u
unfolding unsigned
unsigned_signed u h = by-top-bit (λ z. unsigned z ≡ u) u h (λ low. refl) (λ high. omega arith)

pub signed-mag : (u : ℕ) → u < word_limit → mag (signed u) < sign_bit
signed-mag u h = by-top-bit (λ z. mag z < sign_bit) u h (λ low. low) (λ high. omega arith)

unsigned_small : (z : ℤ) → mag z < sign_bit → unsigned z < word_limit
unfolding unsigned
unsigned_small (pos n) h = omega arith
unsigned_small (negsuc n) h = omega arith

pub signed-unsigned : (z : ℤ) → mag z < sign_bit → signed (unsigned z) ≡ z
unfolding unsigned
signed-unsigned (pos n) h = rw (twos-complement n (omega arith), lt-ltb n sign_bit h)
signed-unsigned (negsuc n) h =
    rw (twos-complement (word_limit - 1 - n) (omega arith), le-ltb (word_limit - 1 - n) sign_bit (omega arith)) (ap negsuc (omega arith))

-- An Int is a number with `mag` below 2^31.
int-mag : (z : ℤ) → IsInt z → mag z < sign_bit
int-mag (pos n) i = let below = leb→le n 2147483647 i.to_highest.le in omega arith
int-mag (negsuc n) i = let above = leb→le n 2147483647 i.from_lowest.le in omega arith

mag-int : (z : ℤ) → mag z < sign_bit → IsInt z
mag-int (pos n) h = record { from_lowest = record { le = tt }; to_highest = record { le = le→leb n 2147483647 (omega arith) } }
mag-int (negsuc n) h = record { from_lowest = record { le = le→leb n 2147483647 (omega arith) }; to_highest = record { le = tt } }

pub writing-and-reading : WritingAndReading
writing-and-reading = (
  (λ z i. let small = int-mag z i in (unsigned_small z small, signed-unsigned z small)),
  λ u h. (mag-int (signed u) (signed-mag u h), unsigned_signed u h),
)

-- The test of a sum tells whether it is an Int.
between-mag : (z : ℤ) → (lt_z z lowest || lt_z highest z) ≡ false → mag z < sign_bit
between-mag (pos n) e = omega (arith, ltb-false 2147483647 n e)
between-mag (negsuc n) e = go (ltb 2147483647 n) refl e
  where
    go : (b : Bool) → ltb 2147483647 n ≡ b → (b || false) ≡ false → n < sign_bit
    go true h e = absurd (false≢true (sym e))
    go false h e = omega (arith, ltb-false 2147483647 n h)

-- What is told to fit is such a number.
pub exact-mag : (w z : ℤ) → exact w ≡ some z → mag z < sign_bit
unfolding exact
exact-mag w z = go (lt_z w lowest || lt_z highest w) refl
  where
    go : (b : Bool) → (lt_z w lowest || lt_z highest w) ≡ b → cond b none (some w) ≡ some z → mag z < sign_bit
    go true h e = absurd (let z : ◌≡◌ {A = ℕ} 0 1 = cc in omega arith)
    go false h e = let same : w ≡ z = cc in rw same at (between-mag w h)

between_ends : (z : ℤ) → (lt_z z lowest || lt_z highest z) ≡ false → IsInt z
between_ends z e = mag-int z (between-mag z e)

beyond-ends : (z : ℤ) → (lt_z z lowest || lt_z highest z) ≡ true → IsInt z → ⊥
beyond-ends (pos n) e i = omega (arith, ltb-true 2147483647 n e, int-mag (pos n) i)
beyond-ends (negsuc n) e i = go (ltb 2147483647 n) refl e
  where
    go : (b : Bool) → ltb 2147483647 n ≡ b → (b || false) ≡ true → ⊥
    go true h e = omega (arith, ltb-true 2147483647 n h, int-mag (negsuc n) i)
    go false h e = false≢true e

-- What add and subtract give, by whether their exact result is an Int.
pub by-ends : (P : Option Value → Type 0) (z : ℤ) → (IsInt z → P (some (int z))) → ((IsInt z → ⊥) → P none) → P (summed (exact z))
unfolding exact summed
by-ends P z inside outside = go (lt_z z lowest || lt_z highest z) refl
  where
    go : (b : Bool) → (lt_z z lowest || lt_z highest z) ≡ b → P (summed (cond b none (some z)))
    go true e = outside (beyond-ends z e)
    go false e = inside (between_ends z e)

-- ---- The form of a value

bit-is-one : (w : ℕ) → w < 2 → bit (eqb w 1) ≡ w
bit-is-one w h = go (eqb w 1) refl
  where
    go : (b : Bool) → eqb w 1 ≡ b → bit b ≡ w
    go true e = sym (eqb-true w 1 e)
    go false e = let no : w ≡ 1 → ⊥ = eqb-false w 1 e in omega arith

pub word-trip : (nodes : ℕ) (B : Base) (w : ℕ) → is_word nodes B w ≡ true → to_word (of_word B w) ≡ w
unfolding is_word of_word to_word
word-trip nodes unit_t w h = sym (eqb-true w 0 h)
word-trip nodes bool_t w h = bit-is-one w (ltb-true w 2 h)
word-trip nodes int_t w h = unsigned_signed w (ltb-true w word_limit h)
word-trip nodes node_t w h = refl

-- a word of a type on a sheet of so many nodes is one on a larger
pub word_more : {nodes more : ℕ} (B : Base) (w : ℕ) → nodes ≤ more → is_word nodes B w ≡ true → is_word more B w ≡ true
unfolding is_word
word_more unit_t w n h = h
word_more bool_t w n h = h
word_more int_t w n h = h
word_more {nodes} {more} node_t w n h = go (ltb w nodes) refl h
  where
    or-true : (b : Bool) {c : Bool} → c ≡ true → (b || c) ≡ true
    or-true true h = refl
    or-true false h = h

    go : (b : Bool) → ltb w nodes ≡ b → (b || eqb w null) ≡ true → (ltb w more || eqb w null) ≡ true
    go true e h = rw (lt-ltb w more (omega (arith, ltb-true w nodes e)))
    go false e h = or-true (ltb w more) h

pub word_in : (nodes : ℕ) (B : Base) (w : ℕ) → is_word nodes B w ≡ true → IsA nodes B (of_word B w)
word_in nodes B w h = record { is-word = rw (word-trip nodes B w h) h; round_trip = rw (word-trip nodes B w h) }

pub word_small : (nodes : ℕ) (B : Base) (w : ℕ) → nodes ≤ 65536 → is_word nodes B w ≡ true → w < word_limit
unfolding is_word
word_small nodes unit_t w n h = let e = eqb-true w 0 h in omega arith
word_small nodes bool_t w n h = let e = ltb-true w 2 h in omega arith
word_small nodes int_t w n h = ltb-true w word_limit h
word_small nodes node_t w n h = go (ltb w nodes) refl h
  where
    go : (b : Bool) → ltb w nodes ≡ b → (b || eqb w null) ≡ true → w < word_limit
    go true e k = let l = ltb-true w nodes e in omega arith
    go false e k = let l = eqb-true w null k in omega arith

-- What holds of the four forms of base values holds of each value of a base type.
module _ {A : Type 0} (f : Value → A) (g : Base → A) (at_unit : f unit ≡ g unit_t) (at-bool : (b : Bool) → f (bool b) ≡ g bool_t)
    (at-int : (z : ℤ) → f (int z) ≡ g int_t) (at-node : (n : ℕ) → f (node n) ≡ g node_t) where
  at-word : (B : Base) (w : ℕ) → f (of_word B w) ≡ g B
  unfolding of_word
  at-word unit_t w = at_unit
  at-word bool_t w = at-bool _
  at-word int_t w = at-int _
  at-word node_t w = at-node _

  at_value : {nodes : ℕ} {B : Base} {v : Value} → IsA nodes B v → f v ≡ g B
  at_value {B} {v} i = rw i.round_trip at (at-word B (to_word v))

-- its type, the code of its type, and that it is the same as itself
pub in-type : {nodes : ℕ} {B : Base} {v : Value} → IsA nodes B v → type_of v ≡ base B
unfolding type_of
in-type = at_value type_of base refl (λ b. refl) (λ z. refl) (λ n. refl)

pub in_code : {nodes : ℕ} {B : Base} {v : Value} → IsA nodes B v → type_code v ≡ base_code B
unfolding type_code
in_code = at_value type_code base_code refl (λ b. refl) (λ z. refl) (λ n. refl)

equal_z-refl : (z : ℤ) → equal_z z z ≡ true
unfolding equal_z
equal_z-refl (pos n) = eq-eqb n n refl
equal_z-refl (negsuc n) = eq-eqb n n refl

pub same-value-refl : {nodes : ℕ} {B : Base} {v : Value} → IsA nodes B v → same_value v v ≡ true
unfolding same_value type_code
same-value-refl = at_value (λ v. same_value v v) (λ B. true) (equal_z-refl _) (λ b. equal_z-refl _) (λ z. equal_z-refl _) (λ n. equal_z-refl _)

-- ---- What the functions give

pub bool-in : (nodes : ℕ) (b : Bool) → IsA nodes bool_t (bool b)
unfolding is_word of_word to_word
bool-in nodes true = record { is-word = refl; round_trip = refl }
bool-in nodes false = record { is-word = refl; round_trip = refl }

pub int-in : (nodes : ℕ) (z : ℤ) → IsInt z → IsA nodes int_t (int z)
unfolding is_word of_word to_word
int-in nodes z i =
    let (small, is) = writing-and-reading.0 z i in
    record { is-word = lt-ltb (unsigned z) word_limit small; round_trip = ap int is }

-- ---- Bytes

pub bytes-length : (k n : ℕ) → length (to_bytes k n) ≡ k
unfolding to_bytes
bytes-length zero n = refl
bytes-length (suc k) n = ap suc (bytes-length k (n / 256))

pub bytes-trip : (k n : ℕ) → n < 256 ^ k → of_bytes (to_bytes k n) ≡ n
unfolding of_bytes to_bytes
bytes-trip zero n h = let e = pow-zero 256 in omega arith
bytes-trip (suc k) n h = rw (bytes-trip k (n / 256) ((div-lt_iff_lt-mul (lit< tt)).1 (rw (pow-suc 256 k) at h))) (mod-add-div n 256)
