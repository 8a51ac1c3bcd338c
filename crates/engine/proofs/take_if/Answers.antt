-- `engine::take_if` meets its contract. The first branch is not measured where it is taken: its width is there all the same.
use Rattle.std.proofs.Common.{◌≡◌, true, false}
use Rattle.saiga.specs.Values.{truth}
use Rattle.expressions.proofs.Widths.{width_of}
use Rattle.engine.specs.Steps.{take_if}
use Rattle.engine.proofs.take_if.Goals as goal

pub returns-then-truth-clause-passes : goal.returns-then-truth-clause-passes
unfolding take_if
returns-then-truth-clause-passes c =
    let w = width_of c.args.e.now in
    let is : truth c.args.m.value ≡ true = cc in
    record {
      skip = w.0;
      width = w.1;
      after = λ store. rw (is, c.put_frame.ensures.written, c.put_frame.ensures.forms_same);
    }

pub returns-clause-passes : goal.returns-clause-passes
unfolding take_if
returns-clause-passes c =
    let is : truth c.args.m.value ≡ false = cc in
    record {
      skip = c.width.result;
      width = c.width.ensures.of_first;
      after = λ store. rw is;
    }
