-- What stands at the front of bytes, by their number and the number that the first two say.
use mathlib.Core.Bool.{Bool, true, false}
use mathlib.Core.List.{List, [], ◌∷◌}
use mathlib.Core.Path.{◌≡◌, refl}
use Prim.Native.Nat.{ℕ, ◌-◌, ◌≤◌, ◌<◌}
use native.Mathlib.Omega.{arith}
use lib.ListN.{length, get_or, take, drop, length-drop}
use lib.Seq.{length-take-le}
use borrow.Author.Tests.{le-leb, lt-leb}
use Rattle.saiga.specs.Values.{of_bytes}
use Rattle.stream.specs.Stream.{nothing, whole, part, front}
use Rattle.stream.specs.Next.{next_of}
use Rattle.stream.specs.declared.Next.{Next}
use Rattle.stream.specs.declared.Next.TheVariants.{Question, End, More}

front-nothing : (b : List ℕ) → length b ≡ 0 → front b ≡ nothing
unfolding front
front-nothing [] h = refl
front-nothing (x ∷ l) h = absurd (omega arith)

front-one : (b : List ℕ) → (length b ≡ 0 → ⊥) → length b < 2 → front b ≡ part
unfolding front
front-one [] some h = absurd (some refl)
front-one (x ∷ []) some h = refl
front-one (x ∷ y ∷ l) some h = absurd (omega arith)

front-whole : (b : List ℕ) → 2 ≤ length b → of_bytes (take 2 b) ≤ length b - 2
    → front b ≡ whole (take (of_bytes (take 2 b)) (drop 2 b)) (drop (of_bytes (take 2 b)) (drop 2 b))
unfolding front
front-whole [] two h = absurd (omega arith)
front-whole (x ∷ []) two h = absurd (omega arith)
front-whole (x ∷ y ∷ l) two h = rw (le-leb (of_bytes (x ∷ y ∷ [])) (length l) (omega arith))

front-part : (b : List ℕ) → 2 ≤ length b → length b - 2 < of_bytes (take 2 b) → front b ≡ part
unfolding front
front-part [] two h = absurd (omega arith)
front-part (x ∷ []) two h = absurd (omega arith)
front-part (x ∷ y ∷ l) two h = rw (lt-leb (of_bytes (x ∷ y ∷ [])) (length l) (omega arith))

-- the largest length
pub length-bound : (b : List ℕ) → ((i : ℕ) → get_or b i 0 < 256) → of_bytes (take 2 b) < 65536
unfolding of_bytes
length-bound [] small = omega arith
length-bound (x ∷ []) small = omega (arith, small 0)
length-bound (x ∷ y ∷ l) small = omega (arith, small 0, small 1)

-- ---- What comes next

module _ (b : List ℕ) (ended : Bool) where
  pub next-end : length b ≡ 0 → ended ≡ true → End ≡ next_of (front b) ended
  unfolding next_of
  next-end h e = rw (front-nothing b h, e)

  pub next_more : length b ≡ 0 → ended ≡ false → More ≡ next_of (front b) ended
  unfolding next_of
  next_more h e = rw (front-nothing b h, e)

  pub next-short : (length b ≡ 0 → ⊥) → length b < 2 → {r : Next} → r ≡ next_of part ended → r ≡ next_of (front b) ended
  next-short some h e = rw (front-one b some h) e

  module _ (two : 2 ≤ length b) (n : ℕ) (e : n ≡ of_bytes (take 2 b)) where
    pub next-whole : n ≤ length b - 2 → Question n ≡ next_of (front b) ended
    unfolding next_of
    next-whole h = rw (front-whole b two (rw e at h), length-take-le (of_bytes (take 2 b)) (drop 2 b) (rw (length-drop, ← e) h), e)

    pub next-part : length b - 2 < n → {r : Next} → r ≡ next_of part ended → r ≡ next_of (front b) ended
    next-part h r = rw (front-part b two (rw e at h)) r

-- what `next_item` rests on
pub ruleset next_laws = (next-end, next_more, next-short, next-whole, next-part)
