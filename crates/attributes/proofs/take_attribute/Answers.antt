-- `attributes::take_attribute` meets its contract: a kept value is one of its type.
use Rattle.stores.proofs.Searches.{found_at}
use Rattle.std.proofs.Common.{refl}
use Rattle.attributes.proofs.Opening.{found-ready}
use Rattle.attributes.proofs.take_attribute.Goals as goal

pub take_found-requires : goal.take_found-requires
take_found-requires c =
    found-ready _ _ _ _ _ c.args.m c.args.key c.requires.attribute_ready c.requires.word _ (found_at _ _ c.find.ensures.found refl _ c.in-Ok.is)
