-- The bytes that the closure is lent stay as many.
use Rattle.std.proofs.Common.{rules, length}
use Rattle.report.proofs.system.write_once.Goals as goal

pub returns : goal.returns
returns g c = c.retry.ensures (λ f. length f.1.now) (λ f f' r s. (search rules, search rules))
