-- A turn passes the head at `at` with its operand, and what is passed and the expressions still to come lie within the bytes (Passing.antt).
use Rattle.std.proofs.Common.{arith, refl}
use Rattle.expressions.proofs.Passing.{head-moves, one-ahead, none_ahead, ahead_within, more-inside, turn}
use Rattle.expressions.proofs.width.Goals as goal

pub loop-left-init : goal.loop-left-init
loop-left-init c sc f w r = one-ahead r

pub bounds-e-at : goal.bounds-e-at
bounds-e-at c =
    let s = c.requires in
    more-inside c.loop-left-test.true (c.loop-left.invariant s.scope s.expr s.width s.read)

pub overflow_add-at : goal.overflow_add-at
overflow_add-at c =
    let s = c.requires in
    omega (arith, c.head_shape-bytes.ensures.0, c.head_shape-bytes.ensures.1, ahead_within s.read (turn refl c.loop-left-test.true (c.loop-left.invariant s.scope s.expr s.width s.read)))

pub overflow_add-left : goal.overflow_add-left
overflow_add-left c =
    let s = c.requires in
    omega (arith, c.head_shape-bytes.ensures.0, c.head_shape-bytes.ensures.1, ahead_within s.read (turn refl c.loop-left-test.true (c.loop-left.invariant s.scope s.expr s.width s.read)))

pub loop-left-smaller : goal.loop-left-smaller
loop-left-smaller c =
    let s = c.requires in
    omega (arith, more-inside c.loop-left-test.true (c.loop-left.invariant s.scope s.expr s.width s.read), head-moves _ c.head_shape-bytes.ensures.0)

pub loop-left-preserved : goal.loop-left-preserved
loop-left-preserved c sc f w r =
    rw (c.head_shape-bytes.ensures.0, c.head_shape-bytes.ensures.1) (turn refl c.loop-left-test.true (c.loop-left.invariant sc f w r))

pub returns : goal.returns
returns c sc f w r = none_ahead c.loop-left-test.false (c.loop-left.invariant sc f w r)
