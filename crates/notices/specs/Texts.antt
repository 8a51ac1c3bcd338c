-- What each notice says on standard error.
use Rattle.std.specs.Prelude.{cond, List, [], ◌∷◌, ◌++◌, ℕ, ◌/◌, ◌%◌, eqb, codes}
use Rattle.lines.specs.Lines.{decimal}
use Rattle.notices.specs.declared.Notice.{Notice}
use Rattle.notices.specs.declared.Notice.TheVariants.{SheetMissing, SheetUnreadable, SheetRefused, InputFailed, QuestionCut, LineUnwritten}

abbrev pub about_sheet : List ℕ
about_sheet = codes "report: sheet.bin "

abbrev pub is_missing : List ℕ
is_missing = codes "is missing"

abbrev pub is_unreadable : List ℕ
is_unreadable = codes "cannot be read"

abbrev pub as_empty : List ℕ
as_empty = codes " and counts as an empty sheet\n"

abbrev pub is_refused : List ℕ
is_refused = codes "is refused: stop "

abbrev pub at_byte : List ℕ
at_byte = codes " at byte "

abbrev pub at_node : List ℕ
at_node = codes " at node "

abbrev pub and_attribute : List ℕ
and_attribute = codes ", attribute "

abbrev pub about_input : List ℕ
about_input = codes "report: standard input could not be read, which counts as its end\n"

abbrev pub about_question : List ℕ
about_question = codes "report: the last question is cut by the end of standard input\n"

abbrev pub about_output : List ℕ
about_output = codes "report: a line could not be written to standard output, which ends the run\n"

-- Where a refused sheet is at fault. Stop 1 has no place, that of stop 8 is node * 32 + attribute, and the others have an offset.
abbrev pub fault : ℕ → ℕ → List ℕ
fault number place =
    let pair = at_node ++ decimal (place / 32) ++ and_attribute ++ decimal (place % 32) in
    cond (eqb number 1) [] (cond (eqb number 8) pair (at_byte ++ decimal place))

abbrev pub refusal : ℕ → ℕ → List ℕ
refusal number place = about_sheet ++ is_refused ++ decimal number ++ fault number place ++ (10 ∷ [])

abbrev pub says : Notice → List ℕ
says SheetMissing = about_sheet ++ is_missing ++ as_empty
says SheetUnreadable = about_sheet ++ is_unreadable ++ as_empty
says (SheetRefused number place) = refusal number place
says InputFailed = about_input
says QuestionCut = about_question
says LineUnwritten = about_output
