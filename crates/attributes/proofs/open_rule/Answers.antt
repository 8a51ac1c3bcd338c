-- `attributes::open_rule` meets its contract: the index has a rule or a forward, whose piece stands in the sheet.
use Rattle.std.proofs.Common.{◌≡◌, [], ap, ◌∙◌}
use Rattle.engine.specs.Steps.{pushed, forwarding}
use Rattle.attributes.proofs.Opening.{rule-starts, forward-starts, forward-is}
use Rattle.attributes.proofs.open_rule.Goals as goal

pub open_piece-requires : goal.open_piece-requires
open_piece-requires c = (rule-starts _ _ _ _ _ c.found_piece.ensures c.requires.rule _ c.in-OfRule.is, c.requires.step, c.requires.few)

pub open_piece-next-requires : goal.open_piece-next-requires
open_piece-next-requires c = (forward-starts _ _ _ _ _ c.found_piece.ensures c.requires.rule _ c.in-OfForward.is, c.requires.step, c.requires.few)

pub returns-in-OfForward-clause-follows : goal.returns-in-OfForward-clause-follows
returns-in-OfForward-clause-follows c store =
    forward-is _ _ _ _ _ c.found_piece.ensures c.requires.rule _ _ c.args.m _ _ c.in-OfForward.is
    (c.push_forward.ensures.follows store ∙ ap (forwarding c.args.key.attribute) (c.open_piece-next.ensures.follows store))

pub returns-in-OfForward-clause-numbers : goal.returns-in-OfForward-clause-numbers
returns-in-OfForward-clause-numbers c =
    let is : c.push_forward.result ≡ pushed c.open_piece-next.result 0 = cc (c.push_forward.ensures.follows []) in
    rw is (c.open_piece-next.ensures.numbers.1, c.open_piece-next.ensures.numbers.2)
