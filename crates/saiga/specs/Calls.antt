-- Lists of question calls (document 01, "Contracts": "The list is any number of question calls, none included").
use Rattle.std.specs.Prelude.{List, [], ◌∷◌, ℕ, ◌*◌, replicate}
use Rattle.saiga.specs.Limits.{entry_width}
use Rattle.saiga.specs.Ask.{Lent, lent, Call, Answer, Outcome, ask}

-- a store of this capacity, empty
abbrev pub empty : ℕ → Lent
empty capacity = lent (replicate (entry_width * capacity) 0) 0

unfoldable pub leaves : Outcome → Lent
leaves o = lent o.store o.answer.kept

-- "each later one is lent the bytes and the kept number that the one before it left"
unfoldable pub after_calls : List ℕ → Lent → List Call → Lent
after_calls sheet m [] = m
after_calls sheet m (c ∷ l) = after_calls sheet (leaves (ask sheet m c)) l

unfoldable pub answers : List ℕ → Lent → List Call → List Answer
answers sheet m [] = []
answers sheet m (c ∷ l) = (ask sheet m c).answer ∷ answers sheet (leaves (ask sheet m c)) l
