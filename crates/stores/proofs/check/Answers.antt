-- `stores::check` meets its contract: by the test of its shape, and by the test of each entry.
use Rattle.std.proofs.Common.{rules}
use Rattle.stores.proofs.Checks.{shape-refused, check-starts, check-goes-on, check-cell, check-refuses, check-accepts}
use Rattle.stores.proofs.check.Goals as goal

pub returns-then-not-is_shaped : goal.returns-then-not-is_shaped
returns-then-not-is_shaped c = search shape-refused

pub loop-i-init : goal.loop-i-init
loop-i-init c = search check-starts

pub returns-in_default : goal.returns-in_default
returns-in_default c = search check-refuses

pub plant-requires : goal.plant-requires
plant-requires c = search (rules, check-cell)

pub loop-i-preserved : goal.loop-i-preserved
loop-i-preserved c = search check-goes-on

pub returns : goal.returns
returns c = search check-accepts
