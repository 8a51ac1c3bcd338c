-- `sheets::read_commands` meets its contract: each command moves the pass on, and what it comes to is what the pass comes to from its start.
use Rattle.std.proofs.lemmas.Result.{err_from_is_err_and}
use Rattle.sheets.proofs.Pass.{reached-start, pass-stops, pass-ends, all-declared, less-left, reached-next}
use Rattle.sheets.proofs.Noted.{first-notes, last-notes}
use Rattle.sheets.proofs.read_commands.Goals as goal

pub loop-next-init : goal.loop-next-init
loop-next-init c = (search reached-start, search first-notes)

pub returns-in_err-next-clause-index_after : goal.returns-in_err-next-clause-index_after
returns-in_err-next-clause-index_after c =
    let p = err_from_is_err_and c.from_residual.result c.from_residual.ensures.1 in
    rw (p.1, p.2) (pass-stops _ _ _ _ c.loop-next.invariant.0 _ _ _ c.in_err-next.ensures.read_as c.clear.ensures)

pub loop-next-smaller : goal.loop-next-smaller
loop-next-smaller c = less-left _ _ _ _ c.loop-next.invariant.0 _ _ (rw c.in-Some.is at c.in_ok-next.ensures.read_as)

pub loop-next-preserved : goal.loop-next-preserved
loop-next-preserved c =
    let read = rw c.in-Some.is at c.in_ok-next.ensures.read_as in
    let on = rw c.in-Some.is at c.in_ok-next.ensures.notes_on in
    (reached-next _ _ _ _ c.loop-next.invariant.0 _ _ read, on c.loop-next.invariant.1)

pub complete-requires-clause-declared : goal.complete-requires-clause-declared
complete-requires-clause-declared c = all-declared _ _ _ _ c.loop-next.invariant.0 _ (rw c.in_default.is at c.in_ok-next.ensures.read_as)

pub returns-clause-index_after : goal.returns-clause-index_after
returns-clause-index_after c =
    let read = rw c.in_default.is at c.in_ok-next.ensures.read_as in
    pass-ends _ _ _ _ c.loop-next.invariant.0 _ read _ _ _ c.clear.ensures c.complete.ensures

pub returns-clause-checks_notes : goal.returns-clause-checks_notes
returns-clause-checks_notes c =
    let on = rw c.in_default.is at c.in_ok-next.ensures.notes_on in
    last-notes _ _ _ _ _ _ _ c.complete.ensures (on c.loop-next.invariant.1)
