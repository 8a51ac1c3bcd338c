-- `stores::search` meets its contract: by what is seen at the cell.
use Rattle.std.proofs.Common.{add-one, arith}
use Rattle.stores.proofs.Looking.{stands-first, may-look, empty-ends, has-ends, goes-on, entry_small, no_more}
use Rattle.stores.proofs.search.Goals as goal

pub look-requires : goal.look-requires
look-requires g c = may-look c.requires _ _ 0 (stands-first c.requires _ c.bucket-b.ensures.0)

pub returns-in-Empty : goal.returns-in-Empty
returns-in-Empty g c = λ cells. empty-ends cells _ _ 0 (stands-first cells _ c.bucket-b.ensures.0) c.in-Empty.ensures

pub returns-in-Has : goal.returns-in-Has
returns-in-Has g c = λ cells. has-ends cells _ _ 0 (stands-first cells _ c.bucket-b.ensures.0) _ c.in-Has.ensures

pub loop-init : goal.loop-init
loop-init g c = λ cells. rw c.trail-rest.ensures (goes-on cells _ _ 0 (stands-first cells _ c.bucket-b.ensures.0) (record { node = omega arith; attribute = omega arith; word = omega arith }) _ c.in-Other.ensures)

pub cell_below-cell-requires : goal.cell_below-cell-requires
cell_below-cell-requires g c = entry_small c.requires _ _ _ (c.loop.invariant c.requires)

pub look-requires-in-loop : goal.look-requires-in-loop
look-requires-in-loop g c = may-look c.requires _ _ _ (rw (← c.cell_below-cell.ensures) at (c.loop.invariant c.requires))

pub returns-in-Empty-look : goal.returns-in-Empty-look
returns-in-Empty-look g c = λ cells. empty-ends cells _ _ _ (rw (← c.cell_below-cell.ensures) at (c.loop.invariant cells)) c.in-Empty-look.ensures

pub returns-in-Has-look : goal.returns-in-Has-look
returns-in-Has-look g c = λ cells. has-ends cells _ _ _ (rw (← c.cell_below-cell.ensures) at (c.loop.invariant cells)) _ c.in-Has-look.ensures

pub loop-preserved : goal.loop-preserved
loop-preserved g c = λ cells. rw add-one (goes-on cells _ _ _ (rw (← c.cell_below-cell.ensures) at (c.loop.invariant cells)) (record { node = omega arith; attribute = omega arith; word = omega arith }) _ c.in-Other-look.ensures)

pub unreachable-requires : goal.unreachable-requires
unreachable-requires g c = no_more c.requires _ _ _ (c.loop.invariant c.requires) (omega arith)
