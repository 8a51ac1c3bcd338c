-- `sheets::check` meets its contract: the limit of the length, then the commands.
use Rattle.std.proofs.Common.{rules}
use Rattle.sheets.proofs.Scan.{long-checks, short-checks}
use Rattle.sheets.proofs.check.Goals as goal

pub returns-then-sheet-gt-SHEET_LIMIT-clause-checks : goal.returns-then-sheet-gt-SHEET_LIMIT-clause-checks
returns-then-sheet-gt-SHEET_LIMIT-clause-checks c = search long-checks

pub returns-clause-checks : goal.returns-clause-checks
returns-clause-checks c = short-checks _ _ _ _ (search rules) (search rules) (search rules) c.read_commands.ensures.index_after
