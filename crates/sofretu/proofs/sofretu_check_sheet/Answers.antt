-- What `sheets::check` answers is handed on.
use Rattle.sofretu.proofs.CallNumbers.{sheet-told, counts-told, ready}
use Rattle.sofretu.proofs.sofretu_check_sheet.Goals as goal

pub returns-in-Ok-clause-found_after : goal.returns-in-Ok-clause-found_after
returns-in-Ok-clause-found_after c = counts-told c.check.ensures.checks c.in-Ok.is

pub returns-in-Ok-clause-prepared_sheet : goal.returns-in-Ok-clause-prepared_sheet
returns-in-Ok-clause-prepared_sheet c _ = ready c.check.ensures.checks c.check.ensures.notes_len c.check.ensures.checks_notes c.in-Ok.is

pub returns-in-Err-clause-found_after : goal.returns-in-Err-clause-found_after
returns-in-Err-clause-found_after c = rw c.number.ensures (sheet-told c.check.ensures.checks c.in-Err.is)
