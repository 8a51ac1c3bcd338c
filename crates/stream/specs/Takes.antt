-- Items taken one by one, by what `next` answers, from an input that comes in chunks.
use Rattle.std.specs.Prelude.{Bool, true, false, List, [], ◌∷◌, ◌++◌, ◌≡◌, ℕ, ◌+◌, take, drop}
use Rattle.stream.specs.Stream.{front, Item, question, cut}
use Rattle.stream.specs.Next.{next_of}
use Rattle.stream.specs.declared.Next.TheVariants.{Question, Cut, End, More}

-- the whole input
unfoldable pub joined : List (List ℕ) → List ℕ
joined [] = []
joined (chunk ∷ chunks) = chunk ++ joined chunks

-- Of the bytes at hand, the chunks to come and whether the input's end was seen, the items that are taken.
pub data Takes : List ℕ → List (List ℕ) → Bool → List Item → Type 0 where
  a_question : {hand : List ℕ} {chunks : List (List ℕ)} {ended : Bool} {is : List Item} {n : ℕ}
      → next_of (front hand) ended ≡ Question n → Takes (drop (2 + n) hand) chunks ended is
      → Takes hand chunks ended (question (take n (drop 2 hand)) ∷ is)
  a_chunk : {hand chunk : List ℕ} {chunks : List (List ℕ)} {is : List Item}
      → next_of (front hand) false ≡ More → Takes (hand ++ chunk) chunks false is → Takes hand (chunk ∷ chunks) false is
  the_end : {hand : List ℕ} {is : List Item} → next_of (front hand) false ≡ More → Takes hand [] true is → Takes hand [] false is
  a_cut : {hand : List ℕ} → next_of (front hand) true ≡ Cut → Takes hand [] true (cut ∷ [])
  no_more : {hand : List ℕ} → next_of (front hand) true ≡ End → Takes hand [] true []
