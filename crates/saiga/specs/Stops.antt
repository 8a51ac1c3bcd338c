-- The numbers of the stops, and what a check of the code answers, in the words of Sheet.antt (document 01, "Stops by origin").
use Rattle.std.specs.Prelude.{ℕ, Result, Ok, Err}
use Rattle.saiga.specs.Sheet.{Checked, refused◌at_place◌, accepted}
use Rattle.saiga.specs.declared.stops.Stop.{Stop}
use Rattle.saiga.specs.declared.stops.Stop.TheVariants.{SheetTooLong, Malformed, TooMany, OutOfRange, Repeated, NoPiece, PieceType, Missing, StoreShape, BadEntry, BudgetTooHigh, NoQuestion, QuestionType, OnNull, Spent, TooDeep, Overflow, Circle}
use Rattle.saiga.specs.declared.stops.Refusal.{Refusal}

abbrev pub stop_number : Stop → ℕ
stop_number SheetTooLong = 1
stop_number Malformed = 2
stop_number TooMany = 3
stop_number OutOfRange = 4
stop_number Repeated = 5
stop_number NoPiece = 6
stop_number PieceType = 7
stop_number Missing = 8
stop_number StoreShape = 9
stop_number BadEntry = 10
stop_number BudgetTooHigh = 11
stop_number NoQuestion = 12
stop_number QuestionType = 13
stop_number OnNull = 14
stop_number Spent = 15
stop_number TooDeep = 16
stop_number Overflow = 17
stop_number Circle = 20

-- what the code answers of a check: what it accepts, or the stop that refuses it, with its place
abbrev pub checked_of : {A : Type 0} → Result A Refusal → Checked A
checked_of (Ok x) = accepted x
checked_of (Err r) = refused stop_number r.stop at_place r.place

-- a check that says less of what it accepts
abbrev pub says : {A B : Type 0} → (A → B) → Checked A → Checked B
says f (refused number at_place place) = refused number at_place place
says f (accepted x) = accepted (f x)
