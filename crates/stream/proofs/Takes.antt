-- Taken one by one, by what `next_item` answers, the items are those of the whole input, however it is cut into chunks.
use mathlib.Core.Bool.{Bool, true, false}
use mathlib.Core.List.{List, [], ◌∷◌, ◌++◌, append_assoc, append-nil}
use mathlib.Core.Path.{◌≡◌, refl, sym, ap, ◌∙◌}
use Prim.Native.Nat.{ℕ, zero, suc, ◌+◌, ◌<◌}
use native.Mathlib.Omega.{arith}
use lib.ListN.{length, take, drop, length-drop}
use Rattle.stream.specs.Stream.{Front, nothing, whole, part, front, Item, question, items}
use Rattle.stream.specs.Next.{next_of}
use Rattle.stream.specs.declared.Next.{Next}
use Rattle.stream.specs.declared.Next.TheVariants.{Question, Cut, End}
use Rattle.stream.specs.Takes.{joined, Takes, a_question, a_chunk, the_end, a_cut, no_more}
use Rattle.stream.proofs.Items.{whole-front, told}

pub takes-items : {hand : List ℕ} {chunks : List (List ℕ)} {ended : Bool} {is : List Item} → Takes hand chunks ended is → is ≡ items (hand ++ joined chunks)
unfolding joined
takes-items (a_question {hand} {chunks} {ended} {is} {n} e t) =
    ap (λ (l : List Item). question (take n (drop 2 hand)) ∷ l) (takes-items t) ∙ sym ((told hand ended (Question n) (sym e)).1 (joined chunks))
takes-items (a_chunk {hand} {chunk} {chunks} e t) = rw append_assoc at (takes-items t)
takes-items (the_end e t) = takes-items t
takes-items (a_cut {hand} e) = rw append-nil (sym (told hand true Cut (sym e)).1)
takes-items (no_more {hand} e) = rw append-nil (sym (told hand true End (sym e)).1)

-- ---- Some items are always taken: a question makes the bytes at hand fewer, and then a chunk comes, or the end.

abbrev Some : List (List ℕ) → Bool → List ℕ → Type 0
Some chunks ended hand = (is : List Item) × Takes hand chunks ended is

abbrev answered : Bool → Front → Next
answered ended f = next_of f ended

questions : (chunks : List (List ℕ)) (ended : Bool)
    → ((hand : List ℕ) → front hand ≡ nothing → Some chunks ended hand) → ((hand : List ℕ) → front hand ≡ part → Some chunks ended hand)
    → (k : ℕ) (hand : List ℕ) → length hand < k → Some chunks ended hand
unfolding next_of
questions chunks ended n p zero hand h = absurd (omega arith)
questions chunks ended n p (suc k) hand h = go (front hand) refl (questions chunks ended n p k)
  where
    go : (f : Front) → front hand ≡ f → ((l : List ℕ) → length l < k → Some chunks ended l) → Some chunks ended hand
    go nothing e shorter = n hand e
    go part e shorter = p hand e
    go (whole q rest) e shorter =
        let w = whole-front hand q rest e in
        let found = shorter (drop (2 + length q) hand) (rw length-drop (omega (arith, w.within))) in
        (_, a_question (ap (answered ended) e) found.1)

at-the-end : (hand : List ℕ) → Some [] true hand
unfolding next_of
at-the-end hand =
    questions [] true (λ l e. (_, no_more (ap (answered true) e))) (λ l e. (_, a_cut (ap (answered true) e))) (suc (length hand)) hand (omega arith)

before-the-end : (chunks : List (List ℕ)) (hand : List ℕ) → Some chunks false hand
unfolding next_of
before-the-end [] hand =
    questions [] false (λ l e. (_, the_end (ap (answered false) e) (at-the-end l).1)) (λ l e. (_, the_end (ap (answered false) e) (at-the-end l).1)) (suc (length hand)) hand
    (omega arith)
before-the-end (chunk ∷ chunks) hand =
    let later = before-the-end chunks in
    questions (chunk ∷ chunks) false
    (λ l e. (_, a_chunk (ap (answered false) e) (later (l ++ chunk)).1)) (λ l e. (_, a_chunk (ap (answered false) e) (later (l ++ chunk)).1)) (suc (length hand)) hand
    (omega arith)

pub takes_all : (chunks : List (List ℕ)) → Takes [] chunks false (items (joined chunks))
takes_all chunks = let found = before-the-end chunks [] in rw (takes-items found.1) at found.1
