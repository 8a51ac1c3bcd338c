-- What a caller has who checked a sheet and a store: the sheet is accepted, indexed and noted, the store passes and is indexed.
use Rattle.std.specs.Prelude.{List, ◌≡◌, ℕ, ◌≤◌, length}
use Rattle.saiga.specs.Sheet.{Sheet, accepted, check_sheet}
use Rattle.saiga.specs.Caching.{Entry}
use Rattle.saiga.specs.Store.{check_store}
use Rattle.sheets.specs.Scan.{Indexed}
use Rattle.sheets.specs.Notes.{PiecesNoted}
use Rattle.stores.specs.Keys.{Linked}

pub record PreparedSheet (sheet index : List ℕ) : Type 0 where
  pub of : Sheet
  pub accepts : check_sheet sheet ≡ accepted of
  pub index_of : Indexed sheet of index

-- the notes that a question's run looks at besides
pub record NotedSheet (sheet index notes : List ℕ) : Type 0 where
  pub pieces : PiecesNoted sheet index notes
  pub size : length sheet ≤ length notes

pub record PreparedStore (sheet store : List ℕ) (kept : ℕ) (links : List ℕ) : Type 0 where
  pub passes : (s : Sheet) → check_sheet sheet ≡ accepted s → (entries : List Entry) × (check_store s store kept ≡ accepted entries)
  pub linked : Linked store kept links
