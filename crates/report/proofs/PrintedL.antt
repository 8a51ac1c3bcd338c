-- The four lines of document 01, by computation.
use mathlib.Core.Path.{refl}
use Rattle.saiga.proofs.TableL.{definitions}
use Rattle.lines.specs.Lines.{decimal_within, decimal, signed_decimal, fields, line_of}
use Rattle.stream.specs.Stream.{front, items_within, items}
use Rattle.report.specs.Printed.{put, calls, lines, printed}
use Rattle.report.specs.PrintedL.{questions_l, lines_l, PrintedL}

pub printed-L : PrintedL
unfolding definitions decimal_within decimal signed_decimal fields line_of front items_within items put calls lines printed questions_l lines_l PrintedL
printed-L = refl
