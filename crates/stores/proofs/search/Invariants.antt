-- The search of `stores::search` has passed the entries down to `above`, one more than the loop has made turns, and none of them has the key.
use Rattle.std.proofs.Common.{suc}
use Rattle.stores.specs.Search.{Cells}
use Rattle.stores.proofs.Looking.{Comes}
use Rattle.stores.proofs.search.Given as goal

abbrev pub invariant-loop : goal.invariant-loop
invariant-loop g l = (c : Cells l.fn.key (goal.F-pre g l.look) (goal.F-post g l.look)) → Comes c l.above l.rest (suc l.counter)
