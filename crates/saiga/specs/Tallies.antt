-- What holds of the tally of every call (F-2 of document 02).
use Rattle.std.specs.Prelude.{List, ◌≡◌, ℕ, ◌≤◌, ◌<◌, length, get_or}
use Rattle.saiga.specs.Limits.{attribute_limit, tally_rows}
use Rattle.saiga.specs.Sheet.{Sheet, accepted, check_sheet}
use Rattle.saiga.specs.Tally.{total}
use Rattle.saiga.specs.Ask.{Lent, Call, ask}

module _ (sheet : List ℕ) (m : Lent) (c : Call) where
  pub record TallyOf : Type 0 where
    pub rows : length (ask sheet m c).tally ≡ tally_rows
    -- "the rows add up to the answer's steps"
    pub adds_up : total (ask sheet m c).tally ≡ (ask sheet m c).answer.steps
    -- a number that no attribute of the sheet has
    pub undeclared : (s : Sheet) → check_sheet sheet ≡ accepted s → (a : ℕ) → length s.attributes ≤ a → a < attribute_limit
        → get_or (ask sheet m c).tally a 0 ≡ 0

abbrev pub TallyLaw : Type 0
TallyLaw = (sheet : List ℕ) (m : Lent) (c : Call) → TallyOf sheet m c
