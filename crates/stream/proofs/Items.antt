-- The items of an input, by what stands at its front, and by what `next_item` answers of the bytes at hand.
use mathlib.Core.Bool.{Bool, true, false}
use mathlib.Core.List.{List, [], ◌∷◌, ◌++◌}
use mathlib.Core.Path.{◌≡◌, refl, ap}
use Prim.Native.Nat.{ℕ, zero, suc, ◌+◌, ◌≤◌, ◌<◌}
use native.Mathlib.Omega.{arith}
use lib.Dec.{leb}
use lib.ListN.{length, take, drop, length-append, length-drop}
use lib.Seq.{length-take-le, take-append-le, drop-append-le, drop-drop}
use borrow.Author.Tests.{leb-true, le-leb}
use Rattle.saiga.specs.Values.{of_bytes}
use Rattle.stream.specs.Stream.{Front, nothing, whole, part, front, Item, question, cut, items_within, items}
use Rattle.stream.specs.Next.{next_of}
use Rattle.stream.specs.declared.Next.{Next}
use Rattle.stream.specs.declared.Next.TheVariants.{Question, Cut, End, More}

-- A whole question at the front of bytes: its own bytes, those after it, and that it stands there whatever comes later.
pub record Whole (b q rest : List ℕ) : Type 0 where
  pub within : 2 + length q ≤ length b
  pub bytes : q ≡ take (length q) (drop 2 b)
  pub after : rest ≡ drop (2 + length q) b
  pub longer : (later : List ℕ) → front (b ++ later) ≡ whole q (rest ++ later)

whole_of : (x y : ℕ) (l : List ℕ) → of_bytes (x ∷ y ∷ []) ≤ length l → Whole (x ∷ y ∷ l) (take (of_bytes (x ∷ y ∷ [])) l) (drop (of_bytes (x ∷ y ∷ [])) l)
unfolding front
whole_of x y l h =
    let n = of_bytes (x ∷ y ∷ []) in
    let e = length-take-le n l h in
    record {
      within = omega arith;
      bytes = rw e;
      after = rw e (drop-drop n 2 (x ∷ y ∷ l));
      longer =
          λ later. rw (le-leb n (length (l ++ later)) (rw length-append (omega arith)), take-append-le n l later h, drop-append-le n l later h);
    }

pub whole-front : (b q rest : List ℕ) → front b ≡ whole q rest → Whole b q rest
unfolding front
whole-front [] q rest e = let z : ◌≡◌ {A = ℕ} 0 1 = cc in absurd (omega arith)
whole-front (x ∷ []) q rest e = let z : ◌≡◌ {A = ℕ} 0 1 = cc in absurd (omega arith)
whole-front (x ∷ y ∷ l) q rest e = go (leb n (length l)) refl
  where
    n : ℕ
    n = of_bytes (x ∷ y ∷ [])

    go : (t : Bool) → leb n (length l) ≡ t → Whole (x ∷ y ∷ l) q rest
    go true h =
        let e' = rw h at e in
        let eq : take n l ≡ q = cc in
        let er : drop n l ≡ rest = cc in
        rw (← eq, ← er) (whole_of x y l (leb-true n (length l) h))
    go false h = let e' = rw h at e in let z : ◌≡◌ {A = ℕ} 0 1 = cc in absurd (omega arith)

pub fewer_bytes : {b q rest : List ℕ} → Whole b q rest → length rest < length b
fewer_bytes w = rw (w.after, length-drop) (omega (arith, w.within))

-- a bound above the number of bytes is as good as any other
enough : (k j : ℕ) (b : List ℕ) → length b < k → length b < j → items_within k (front b) ≡ items_within j (front b)
unfolding items_within
enough zero j b hk hj = absurd (omega arith)
enough (suc k) zero b hk hj = absurd (omega arith)
enough (suc k) (suc j) b hk hj = go (front b) refl (enough k j)
  where
    go : (f : Front) → front b ≡ f → ((l : List ℕ) → length l < k → length l < j → items_within k (front l) ≡ items_within j (front l))
        → items_within (suc k) f ≡ items_within (suc j) f
    go nothing e shorter = refl
    go part e shorter = refl
    go (whole q rest) e shorter =
        let s = fewer_bytes (whole-front b q rest e) in
        ap (λ (l : List Item). question q ∷ l) (shorter rest (omega arith) (omega arith))

pub items-nothing : (b : List ℕ) → front b ≡ nothing → items b ≡ []
unfolding items items_within
items-nothing b e = rw e

pub items-part : (b : List ℕ) → front b ≡ part → items b ≡ cut ∷ []
unfolding items items_within
items-part b e = rw e

pub items-whole : (b q rest : List ℕ) → front b ≡ whole q rest → items b ≡ question q ∷ items rest
unfolding items items_within
items-whole b q rest e =
    let s = fewer_bytes (whole-front b q rest e) in
    rw e (ap (λ (l : List Item). question q ∷ l) (enough (length b) (suc (length rest)) rest s (omega arith)))

-- What an answer of `next_item` says of the items of the whole input, of which the bytes at hand are the front: a question is the first, and
-- the items after it are those of what follows; a cut question is the only one, and after the end there is none.
abbrev pub Says : List ℕ → Bool → Next → Type 0
Says hand ended (Question n) =
    (2 + n ≤ length hand)
    × ((later : List ℕ) → items (hand ++ later) ≡ question (take n (drop 2 hand)) ∷ items (drop (2 + n) hand ++ later))
Says hand ended Cut = (ended ≡ true) × (items hand ≡ cut ∷ [])
Says hand ended End = (ended ≡ true) × (items hand ≡ [])
Says hand ended More = ended ≡ false

pub next-says : (hand : List ℕ) (ended : Bool) → Says hand ended (next_of (front hand) ended)
unfolding next_of
next-says hand ended = go (front hand) refl ended
  where
    go : (f : Front) → front hand ≡ f → (t : Bool) → Says hand t (next_of f t)
    go nothing e true = (refl, items-nothing hand e)
    go nothing e false = refl
    go part e true = (refl, items-part hand e)
    go part e false = refl
    go (whole q rest) e t =
        let w = whole-front hand q rest e in
        (w.within, λ later. rw (← w.bytes, ← w.after) (items-whole (hand ++ later) q (rest ++ later) (w.longer later)))

-- the same of the answer as it was given
pub told : (hand : List ℕ) (ended : Bool) (r : Next) → r ≡ next_of (front hand) ended → Says hand ended r
told hand ended r e = rw e (next-says hand ended)
