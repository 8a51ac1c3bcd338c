-- The sheet's bytes are among those of its buffer.
use Rattle.std.proofs.Common.{◌≤◌, length, sym}
use Rattle.std.proofs.lemmas.List.{length-take-le}
use Rattle.report.proofs.Sizes.{size_fits}
use Rattle.report.proofs.main.Goals as goal

pub slice_bounds-answer_all-end : goal.slice_bounds-answer_all-end
slice_bounds-answer_all-end c =
    let fits : c.size_of-n.result ≤ length c.read_sheet-file.new.bytes = rw c.size_of-n.ensures (size_fits _ _ c.read_sheet-file.ensures) in
    sym (length-take-le _ _ fits)
