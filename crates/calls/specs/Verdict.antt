-- What the code answers of a call's arguments, and what it leaves in the two indexes and in the notes (document 01, "Stops by origin").
use Rattle.std.specs.Prelude.{List, ◌≡◌, ℕ, length, Result}
use Rattle.saiga.specs.Limits.{sheet_limit}
use Rattle.saiga.specs.Expressions.{Expr}
use Rattle.saiga.specs.Sheet.{Sheet, node_count, Checked, accepted, check_sheet}
use Rattle.saiga.specs.Caching.{Entry}
use Rattle.saiga.specs.Store.{check_store}
use Rattle.saiga.specs.Stops.{checked_of, says}
use Rattle.saiga.specs.declared.stops.Refusal.{Refusal}
use Rattle.saiga.specs.Ask.{Lent, Call, ◌then_check◌, check_budget, check_question, AcceptedCall, check_call}
use Rattle.values.specs.Layout.{attributes_in}
use Rattle.sheets.specs.Scan.{index_size, Indexed}
use Rattle.stores.specs.Keys.{links_size, Linked}
use Rattle.calls.specs.Prepared.{NotedSheet}

-- the first stop with its place, or that there is none
abbrev pub verdict_of : Checked AcceptedCall → Checked (Unit {0})
verdict_of = says (λ _. tt)

-- ---- The last links of the chain `check_call`, for every sheet of these attributes and nodes

-- A sheet of these attributes and nodes, whose types stand in these bytes.
pub record SheetOf (types : List ℕ) (attributes nodes : ℕ) (s : Sheet) : Type 0 where
  pub attributes_are : s.attributes ≡ attributes_in types attributes
  pub nodes_count : node_count s ≡ nodes

-- stops 11 to 13
abbrev pub from_budget : Sheet → Call → Checked Expr
from_budget s c = check_budget c.budget then_check λ _. check_question s c.question

-- ---- The check of a call

-- The two indexes and the notes as a check leaves them. Their lengths stay. Where the sheet is refused, all are free; where the sheet is accepted and
-- the store is refused, the links are.
pub record Indexes (sheet store : List ℕ) (kept : ℕ) (index notes links : List ℕ) : Type 0 where
  pub index_length : length index ≡ index_size
  pub indexed : (s : Sheet) → check_sheet sheet ≡ accepted s → Indexed sheet s index
  pub notes_length : length notes ≡ sheet_limit
  pub noted : (s : Sheet) → check_sheet sheet ≡ accepted s → NotedSheet sheet index notes
  pub links_length : length links ≡ links_size
  pub linked : (s : Sheet) → check_sheet sheet ≡ accepted s → (entries : List Entry) → check_store s store kept ≡ accepted entries → Linked store kept links

pub record CallChecked (sheet : List ℕ) (m : Lent) (c : Call) (index notes links : List ℕ) (r : Result (Unit {0}) Refusal) : Type 0 where
  pub answer : checked_of r ≡ verdict_of (check_call sheet m c)
  pub scratch : Indexes sheet m.store m.kept index notes links
