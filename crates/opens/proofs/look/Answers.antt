-- `opens::look` meets its contract: by the form that the cell names, where that was put, and its key.
use Rattle.std.proofs.Common.{rules}
use Rattle.opens.proofs.Looks.{looks-not-open, looks-not-here, looks-has, looks-other}
use Rattle.opens.proofs.look.Goals as goal
use Rattle.opens.proofs.look.Goals.{then-forms-j-via-then-forms-j, then-forms-j-via-else-forms-j+then-memory-j}

pub returns-then-forms-j : goal.returns-then-forms-j
returns-then-forms-j c = elim c.then-forms-j.branch [
  | then-forms-j-via-then-forms-j w ↦ search (rules, looks-not-open)
  | then-forms-j-via-else-forms-j+then-memory-j w ↦ search looks-not-here
]

pub returns-then-has_key : goal.returns-then-has_key
returns-then-has_key c = search looks-has

pub returns-else-has_key : goal.returns-else-has_key
returns-else-has_key c = search looks-other
