-- The loop's invariant: what is read from here on is what is read in all, and the rules so far are noted. The measure is what is left of the bytes.
use Rattle.std.proofs.Common.{◌-◌, length}
use Rattle.sheets.specs.Notes.{NotedTo}
use Rattle.sheets.proofs.Pass.{Reached}
use Rattle.sheets.proofs.read_commands.Given as goal

abbrev pub invariant-loop-next : goal.invariant-loop-next
invariant-loop-next l = Reached l.sheet l.initial.index l.progress l.index × NotedTo l.sheet l.index l.notes l.progress.at

abbrev pub decreases-loop-next : goal.decreases-loop-next
decreases-loop-next l = length l.sheet - l.progress.at
