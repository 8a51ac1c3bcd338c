-- The six fields of an answer, for each case of the enum that the code returns (document 01: "An answer has number (0 for a value), place,
-- type, value, steps, kept").
use Rattle.std.specs.Prelude.{pos}
use Rattle.saiga.specs.Values.{type_code, decimal}
use Rattle.saiga.specs.Ask.{Answer}
use Rattle.calls.specs.declared.Answer as Declared
use Rattle.calls.specs.declared.Answer.TheVariants.{Value, Refused}

unfoldable pub answer_of : Declared.Answer → Answer
answer_of (Value v steps kept) =
    record { number = 0; place = 0; type = type_code v; value = decimal v; steps = steps; kept = kept }
answer_of (Refused number place steps kept) =
    record { number = number; place = place; type = 0; value = pos 0; steps = steps; kept = kept }
