-- What is known of the run, and whether it has ended at a question that is cut.
use Rattle.report.proofs.notices_after.Goals as goal

pub returns : goal.returns
returns c = λ store. rw (← c.ends_cut-cut.ensures store) c.due.ensures
