-- Which notices are due after a run of the report program.
use Rattle.std.specs.Prelude.{Bool, true, false, not, cond, List, [], ◌∷◌, ℕ, Option, Some, None, Result, Ok, Err}
use Rattle.saiga.specs.declared.stops.Refusal.{Refusal}
use Rattle.saiga.specs.Stops.{stop_number}
use Rattle.sheets.specs.declared.Counts.{Counts}
use Rattle.stream.specs.Stream.{Item, question, cut}
use Rattle.stream.specs.declared.Next.{Next}
use Rattle.stream.specs.declared.Next.TheVariants.{Question, Cut, End, More}
use Rattle.notices.specs.declared.Notice.{Notice}
use Rattle.notices.specs.declared.Notice.TheVariants.{SheetMissing, SheetUnreadable, SheetRefused, InputFailed, QuestionCut, LineUnwritten}
use Rattle.report.specs.declared.system.NoSheet.{NoSheet}
use Rattle.report.specs.declared.system.NoSheet.TheVariants.{Missing, Unreadable}
use Rattle.report.specs.declared.telling.Notices.{Notices}
use Rattle.report.specs.Report.{View, next}

-- the bytes that were read of the sheet; "one that cannot be read counts as empty"
unfoldable pub size_of : Result ℕ NoSheet → ℕ
size_of (Ok n) = n
size_of (Err e) = 0

-- A sheet that was read has the number and place of its check. One that was not has its own line, and none for the stop of an empty sheet.
unfoldable pub of_sheet : Result ℕ NoSheet → Result Counts Refusal → Option Notice
of_sheet (Err Missing) check = Some SheetMissing
of_sheet (Err Unreadable) check = Some SheetUnreadable
of_sheet (Ok n) (Err refusal) = Some (SheetRefused (stop_number refusal.stop) refusal.place)
of_sheet (Ok n) (Ok counts) = None

unfoldable pub is_cut : Next → Bool
is_cut (Question n) = false
is_cut Cut = true
is_cut End = false
is_cut More = false

-- whether a run that is over has ended at a question that is cut
abbrev pub ends_cut : View → Bool
ends_cut v = cond v.going false (is_cut (next v))

-- Whether the last item of an input is cut, as only the last one can be: `CutShort.ran-cut` (proofs/) has it that a run which is over tells so
-- of the input that it took.
unfoldable pub cut_short : List Item → Bool
cut_short [] = false
cut_short (question bytes ∷ l) = cut_short l
cut_short (cut ∷ l) = true

-- The notices after a run, by what became of the sheet, whether a read of standard input failed, whether the last question is cut, and whether
-- each line was written: each at most once, in this order.
unfoldable pub due_after : Result ℕ NoSheet → Result Counts Refusal → Bool → Bool → Bool → Notices
due_after file check failed short written =
    record {
      sheet = of_sheet file check;
      input = cond failed (Some InputFailed) None;
      question = cond short (Some QuestionCut) None;
      output = cond (not written) (Some LineUnwritten) None;
    }
