-- A write that takes bytes leaves fewer.
use Rattle.std.proofs.Common.{length}
use Rattle.report.proofs.system.write_all.Given as goal

abbrev pub decreases-loop-rest : goal.decreases-loop-rest
decreases-loop-rest g l = length l.rest
