-- The loop's invariant: what is kept is the first gap of the nodes passed.
use Rattle.sheets.proofs.Gaps.{FirstOf}
use Rattle.sheets.proofs.first_gap.Given as goal

abbrev pub invariant-loop-n : goal.invariant-loop-n
invariant-loop-n l = FirstOf l.sheet l.index l.attributes l.n l.limit l.gap
