-- There is as much room as at first.
use Rattle.std.proofs.Common.{◌≡◌, ℕ}
use Rattle.report.specs.Retries.{KeepsRoom}
use Rattle.report.proofs.system.retry.Given as goal

abbrev pub invariant-loop : goal.invariant-loop
invariant-loop g l = record {
  callable : goal.F-IsAlwaysCallable g l.call;
  same : (room : _ → ℕ) → KeepsRoom (goal.F-step g) room → room l.call ≡ room l.initial.call;
}
