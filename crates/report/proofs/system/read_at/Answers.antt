-- The closure keeps the length of what it is lent.
use Rattle.std.proofs.Common.{rules, length}
use Rattle.report.proofs.Rests.{rest-length}
use Rattle.report.proofs.system.read_at.Goals as goal

pub returns-clause-moved : goal.returns-clause-moved
returns-clause-moved g c =
    rw (rest-length c.args.bytes.now c.args.at) at (c.retry.ensures (λ f. length f.1.now) (λ f f' r s. (search rules, search rules)))
