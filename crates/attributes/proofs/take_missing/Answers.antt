-- `attributes::take_missing` meets its contract: where there is no figure, there is a rule or a forward.
use Rattle.std.proofs.Common.{sym, ◌∙◌}
use Rattle.attributes.proofs.Opening.{rule-indexed, missing-figure}
use Rattle.attributes.proofs.take_missing.Goals as goal

pub take_rule-requires-clause-indexed : goal.take_rule-requires-clause-indexed
take_rule-requires-clause-indexed c = rule-indexed _ _ _ _ _ _ _ _ c.requires.attribute_ready (sym c.figure.ensures ∙ c.in-None.is)

pub returns-in-Some-clause-follows : goal.returns-in-Some-clause-follows
returns-in-Some-clause-follows c =
    missing-figure _ _ _ _ _ _ _ c.args.m c.args.key c.requires.attribute_ready c.requires.word c.figure.ensures _ c.in-Some.is
    (c.take_figure.ensures.follows c.args.memory.now)
