-- The measures of the readers: `read` hands on its bytes and `read_by_head` those after a head, and what reads those hands on the same bytes or fewer.
-- So three times the length, and one more for `read_by_head`, two for `read` and three for the others, falls at each call.
use Rattle.std.proofs.Common.{◌+◌, ◌*◌, length}
use Rattle.expressions.proofs.+reading.Given as goal

abbrev pub decreases-read : goal.decreases-read
decreases-read l = 3 * length l.e.now + 2

abbrev pub decreases-read_application : goal.decreases-read_application
decreases-read_application l = 3 * length l.l.now + 3

abbrev pub decreases-read_attribute : goal.decreases-read_attribute
decreases-read_attribute l = 3 * length l.l.now + 3

abbrev pub decreases-read_by_head : goal.decreases-read_by_head
decreases-read_by_head l = 3 * length l.e.now + 1

abbrev pub decreases-read_if : goal.decreases-read_if
decreases-read_if l = 3 * length l.l.now + 3
