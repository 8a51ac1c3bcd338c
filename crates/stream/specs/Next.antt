-- What the enum `Next` says of the front of the bytes at hand, as the input has ended there or goes on.
use Rattle.std.specs.Prelude.{Bool, cond, length}
use Rattle.stream.specs.Stream.{Front, nothing, whole, part}
use Rattle.stream.specs.declared.Next.{Next}
use Rattle.stream.specs.declared.Next.TheVariants.{Question, Cut, End, More}

unfoldable pub next_of : Front → Bool → Next
next_of nothing ended = cond ended End More
next_of (whole question rest) ended = Question (length question)
next_of part ended = cond ended Cut More
