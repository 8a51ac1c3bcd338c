-- What a stream of bytes says (document 01: the report program "takes questions from standard input, each as length (2) and bytes").
use Rattle.std.specs.Prelude.{cond, List, [], ◌∷◌, ℕ, zero, suc, leb, length, take, drop}
use Rattle.saiga.specs.Values.{of_bytes}

-- What stands at the front of bytes: nothing, a whole question and the bytes after it, or a part of a question, whose bytes end within its
-- length or within its bytes.
pub data Front : Type 0 where
  nothing : Front
  whole : List ℕ → List ℕ → Front
  part : Front

unfoldable pub front : List ℕ → Front
front [] = nothing
front (a ∷ []) = part
front (a ∷ b ∷ rest) =
    let n = of_bytes (a ∷ b ∷ []) in
    cond (leb n (length rest)) (whole (take n rest) (drop n rest)) part

-- An item of the input: a question's bytes, of whatever length, or a question "cut by the end, in its length or its bytes", which "ends
-- the run".
pub data Item : Type 0 where
  question : List ℕ → Item
  cut : Item

-- the items of at most so many questions
unfoldable pub items_within : ℕ → Front → List Item
items_within zero found = []
items_within (suc k) nothing = []
items_within (suc k) (whole bytes rest) = question bytes ∷ items_within k (front rest)
items_within (suc k) part = cut ∷ []

-- The items of an input. It has fewer questions than bytes and one (proofs/Items.antt, `items-whole`, has it without the bound).
unfoldable pub items : List ℕ → List Item
items input = items_within (suc (length input)) (front input)
