-- Bucket and trail tell two keys apart.
use mathlib.Core.Bool.{Bool, true, false}
use mathlib.Core.Path.{◌≡◌, refl, sym, ap}
use Prim.Native.Nat.{ℕ, zero, suc, ◌+◌, ◌*◌, ◌/◌, ◌%◌, ◌^◌, ◌≤◌, ◌<◌}
use native.Mathlib.Nat.{le_antisymm, mul-le-mul_left, mul-suc}
use native.Mathlib.Omega.{arith}
use lib.Dec.{leb}
use borrow.Author.Tests.{leb-true, leb-false}
use Rattle.stores.specs.declared.Key.{Key}
use Rattle.stores.specs.Walks.{Keyed, turn_of, bucket_of, key_digits, trail_step, trail_of, rest_after, Agree}

-- the digits of a number after its lowest
rest-shifts : (n d : ℕ) → rest_after n (suc d) ≡ rest_after (n / 8) d
unfolding rest_after
rest-shifts n zero = refl
rest-shifts n (suc d) = ap (λ r. r / 8) (rest-shifts n d)

agree-shifts : (m n d : ℕ) → Agree m n (suc d) → Agree (m / 8) (n / 8) d
agree-shifts m n d a e h = rw (← rest-shifts m e, ← rest-shifts n e) (a (suc e) (omega arith))

-- Numbers of d digits are the same if their digits are.
same_digits : (d m n : ℕ) → m < 8 ^ d → n < 8 ^ d → Agree m n d → m ≡ n
same_digits zero m n hm hn a = omega arith
same_digits (suc d) m n hm hn a =
    let first : m % 8 ≡ n % 8 = unfold rest_after in a 0 (omega arith) in
    let higher : m / 8 ≡ n / 8 = same_digits d (m / 8) (n / 8) (omega arith) (omega arith) (agree-shifts m n d a) in
    omega arith

trail-small : (q : Key) → Keyed q → trail_of q < 8 ^ key_digits
unfolding trail_of
trail-small q k = omega (arith, k.node, k.attribute, k.word)

low_small : (q : Key) → Keyed q → q.word + q.attribute < trail_step
low_small q k = omega (arith, k.attribute, k.word)

-- a number's low part and what stands above it
high_same : (w a b x y : ℕ) → a < w → b < w → a + w * x ≡ b + w * y → x ≡ y
high_same w a b x y ha hb e = le_antisymm (at_most a b x y hb e) (at_most b a y x ha (sym e))
  where
    at_most : (a b x y : ℕ) → b < w → a + w * x ≡ b + w * y → x ≤ y
    at_most a b x y hb e = go (leb x y) refl
      where
        go : (t : Bool) → leb x y ≡ t → x ≤ y
        go true t = leb-true x y t
        go false t = let more : w * suc y ≤ w * x = mul-le-mul_left w (leb-false x y t) in absurd (omega (arith, mul-suc w y, more, hb, e))

low_same : (w a b x y : ℕ) → x ≡ y → a + w * x ≡ b + w * y → a ≡ b
low_same w a b x y same e = let f = rw same at e in omega (arith, f)

plus-same : (a b x y : ℕ) → x ≡ y → a + x ≡ b + y → a ≡ b
plus-same a b x y same e = omega (arith, same, e)

-- what is turned round by the same amount
unturned : (a b x : ℕ) → (a + x) % 1024 ≡ (b + x) % 1024 → a / 1024 ≡ b / 1024 → a ≡ b
unturned a b x e f = omega (arith, e, f)

pub same-trail : (p q : Key) → Keyed p → Keyed q → bucket_of p ≡ bucket_of q → Agree (trail_of p) (trail_of q) key_digits → p ≡ q
unfolding trail_of bucket_of
same-trail p q kp kq bucket a =
    let same : trail_of p ≡ trail_of q = same_digits key_digits (trail_of p) (trail_of q) (trail-small p kp) (trail-small q kq) a in
    let above : p.attribute + 256 * (p.node / 1024) ≡ q.attribute + 256 * (q.node / 1024) =
    high_same trail_step (p.word + p.attribute) (q.word + q.attribute) _ _ (low_small p kp) (low_small q kq) same in
    let rows : p.node / 1024 ≡ q.node / 1024 = high_same 256 p.attribute q.attribute _ _ kp.attribute kq.attribute above in
    let attribute : p.attribute ≡ q.attribute = low_same 256 _ _ _ _ rows above in
    let word : p.word ≡ q.word = plus-same _ _ _ _ attribute (low_same trail_step _ _ _ _ above same) in
    let turn : turn_of p ≡ turn_of q = rw (attribute, word) refl in
    let node : p.node ≡ q.node = unturned p.node q.node (turn_of q) (rw turn at bucket) rows in
    λ i. record { node = node i; attribute = attribute i; word = word i }
