-- `attributes::take_rule` meets its contract: the form that opens was not open, and is put into the index.
use Rattle.std.proofs.Common.{arith}
use Rattle.opens.proofs.Opened.{free-cell}
use Rattle.engine.specs.CodeSteps.{forms_after}
use Rattle.attributes.proofs.Opening.{closed-key, closed-free, rule-opened}
use Rattle.attributes.proofs.take_rule.Goals as goal

pub plant-requires : goal.plant-requires
plant-requires c = (
  omega (arith, c.requires.frame_ready.0.size),
  c.in_ok-allow_form.ensures.allowed.1,
  free-cell _ _ _ c.requires.frame_ready.1 c.args.key _
      (closed-free _ c.args.m c.args.key c.find.ensures.found _ c.in-Err.is c.find.ensures.closed_at),
)

pub returns-clause-opened : goal.returns-clause-opened
unfolding forms_after
returns-clause-opened c =
    rule-opened _ _ _ _ _ c.args.m c.open_rule-next.result c.args.key _
    record {
      keyed = record { node = omega arith; attribute = omega arith; word = omega arith };
      opened = c.requires.frame_ready.1;
      closed = closed-key _ c.args.m c.args.key c.find.ensures.found _ c.in-Err.is;
      free = closed-free _ c.args.m c.args.key c.find.ensures.found _ c.in-Err.is c.find.ensures.closed_at;
    }
    record {
      rule = c.requires.indexed;
      step = record { frame = c.requires.frame_ready.0; counts = omega (arith, c.in_ok-allow_form.ensures.allowed.0) };
      few = c.in_ok-allow_form.ensures.allowed.1;
    }
    c.open_rule-next.ensures.follows c.open_rule-next.ensures.numbers.0 c.open_rule-next.ensures.opens_same c.plant.ensures
