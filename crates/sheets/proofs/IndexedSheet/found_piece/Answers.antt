-- `IndexedSheet::found_piece` meets its contract: the index has the number of attributes, by which the kind is found.
use Rattle.std.proofs.Common.{arith}
use Rattle.sheets.proofs.Lookups.{kind-small, rule-within, forward-within}
use Rattle.sheets.proofs.IndexedSheet.found_piece.Goals as goal

pub rule_place-requires : goal.rule_place-requires
rule_place-requires c = (search kind-small, omega arith)

pub cell_at-number-requires : goal.cell_at-number-requires
cell_at-number-requires c = search rule-within

pub forward_place-requires : goal.forward_place-requires
forward_place-requires c = search kind-small

pub cell_at-requires : goal.cell_at-requires
cell_at-requires c = search forward-within
