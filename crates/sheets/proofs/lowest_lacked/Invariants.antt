-- The loop's invariant: the node has the attributes passed.
use Rattle.std.proofs.Common.{◌≡◌, ℕ, ◌<◌, true}
use Rattle.sheets.specs.Scan.{is_indexed}
use Rattle.sheets.proofs.lowest_lacked.Given as goal

abbrev pub invariant-loop-a : goal.invariant-loop-a
invariant-loop-a l = (b : ℕ) → b < l.a → is_indexed l.sheet l.index l.attributes l.n b ≡ true
