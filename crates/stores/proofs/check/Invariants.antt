-- The entries that `stores::check` has passed are read, and in the index (`Checking`).
use Rattle.stores.proofs.Checks.{Checking}
use Rattle.stores.proofs.check.Given as goal

abbrev pub invariant-loop-i : goal.invariant-loop-i
invariant-loop-i l = Checking l.declared.sheet.now l.declared.attributes l.declared.nodes l.store l.kept l.index l.i
