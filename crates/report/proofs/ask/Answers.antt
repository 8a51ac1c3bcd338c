-- A refused sheet and an accepted one (Puts.antt).
use Rattle.report.proofs.Puts.{sheet-ready, notes-ready, put_refused}
use Rattle.report.proofs.ask.Goals as goal

pub ask_checked-requires-clause-prepared_sheet : goal.ask_checked-requires-clause-prepared_sheet
ask_checked-requires-clause-prepared_sheet c = (search sheet-ready, search notes-ready)

pub returns-in-Err : goal.returns-in-Err
returns-in-Err c = search put_refused
