-- The first turn, and from turn to turn, by the lemmas of TurnByTurn.antt. A run that could not write a line has made that turn too.
use Rattle.std.proofs.Common.{inr, refl, arith}
use Rattle.std.proofs.lemmas.Bool.{not-false}
use Rattle.report.proofs.TurnByTurn.{running-start, still-prepared, made_one, failed-last, running-on, ran}
use Rattle.report.proofs.run.Goals as goal

pub loop-init : goal.loop-init
loop-init c = search running-start

pub turn-s-requires-clause-prepared : goal.turn-s-requires-clause-prepared
turn-s-requires-clause-prepared c = still-prepared c.loop.invariant.prepared c.fetch-s.ensures

pub returns-then-is_err-clause-ran : goal.returns-then-is_err-clause-ran
returns-then-is_err-clause-ran c =
    ran (made_one {r = c.turn-s.result} c.loop.invariant.turns (not-false _ c.if-not-s.false) c.fetch-s.ensures c.turn-s.ensures.turned) (omega arith) (inr (inr refl))

pub returns-then-is_err-clause-failed_ends : goal.returns-then-is_err-clause-failed_ends
returns-then-is_err-clause-failed_ends c =
    failed-last _ _ _ _ _ _ c.loop.invariant.failed-ended c.fetch-s.ensures _ c.turn-s.result c.turn-s.ensures.turned c.turn-s.ensures.failed_same

pub loop-preserved : goal.loop-preserved
loop-preserved c =
    let turned = c.turn-s.ensures in
    running-on c.loop.invariant (not-false _ c.if-not-s.false) c.fetch-s.ensures c.fetch-s.auto.input turned.prepared_after turned.within_after turned.turned c.turn-s.auto.store c.turn-s.auto.links turned.failed_same
