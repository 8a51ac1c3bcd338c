-- The sheet, and the store of which nothing is kept (PreparedEmpty.antt).
use Rattle.std.proofs.Common.{refl}
use Rattle.calls.proofs.CheckLaws.{sheet-prepared, attributes-fit}
use Rattle.report.proofs.PreparedEmpty.{prepared-accepted, prepared-refused}
use Rattle.report.proofs.prepare.Goals as goal
use Rattle.report.proofs.prepare.Goals.{in-Ok, in_default}

pub invariant_of-declared : goal.invariant_of-declared
invariant_of-declared c = record { within = attributes-fit (sheet-prepared c.check-check.ensures.checks c.in-Ok.is) }

pub returns-clause-prepared : goal.returns-clause-prepared
returns-clause-prepared c =
    elim c.match-check.branch [
      | in-Ok w ↦ let checked = w.in-Ok.ensures in
          rw (w.check-is, w.links-is) (prepared-accepted _ checked.checks checked.checks_notes checked.notes_len refl c.requires.0 w.check.ensures)
      | in_default w ↦ let checked = c.check-check.ensures in
          rw (w.check-is, w.links-is) (prepared-refused _ checked.checks checked.checks_notes checked.notes_len w.in_default.is)
    ]
