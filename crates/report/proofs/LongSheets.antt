-- One byte more than a sheet may have is as good as any number of them: of a longer file the program reads 65,537 bytes.
use mathlib.Core.Bool.{Bool, true, false}
use mathlib.Core.List.{List, [], ◌∷◌}
use mathlib.Core.Path.{◌≡◌, refl, ap}
use Prim.Native.Nat.{ℕ, suc}
use native.Mathlib.Omega.{arith}
use lib.Dec.{leb}
use lib.ListN.{length, take}
use lib.Seq.{take_all, length-take-le}
use borrow.Author.Tests.{leb-true, leb-false, lt-leb}
use Rattle.saiga.specs.Limits.{sheet_limit, entry_limit}
use Rattle.saiga.specs.Sheet.{check_sheet}
use Rattle.saiga.specs.Ask.{Lent, Call, check_call, ask}
use Rattle.saiga.specs.Calls.{empty, answers, leaves}
use Rattle.stream.specs.Stream.{items}
use Rattle.report.specs.Printed.{calls, lines, printed}

same_check : (sheet : List ℕ) → check_sheet (take (suc sheet_limit) sheet) ≡ check_sheet sheet
unfolding check_sheet
same_check sheet = go (leb (length sheet) (suc sheet_limit)) refl
  where
    go : (t : Bool) → leb (length sheet) (suc sheet_limit) ≡ t → check_sheet (take (suc sheet_limit) sheet) ≡ check_sheet sheet
    go true e = ap check_sheet (take_all (suc sheet_limit) sheet (leb-true (length sheet) (suc sheet_limit) e))
    go false e =
        let long = leb-false (length sheet) (suc sheet_limit) e in
        let cut = length-take-le (suc sheet_limit) sheet (omega arith) in
        rw (lt-leb (length (take (suc sheet_limit) sheet)) sheet_limit (omega arith), lt-leb (length sheet) sheet_limit (omega arith))

same-answers : (sheet : List ℕ) (m : Lent) (l : List Call) → answers (take (suc sheet_limit) sheet) m l ≡ answers sheet m l
unfolding answers ask check_call
same-answers sheet m [] = refl
same-answers sheet m (c ∷ l) =
    let one : ask (take (suc sheet_limit) sheet) m c ≡ ask sheet m c = rw (same_check sheet) in
    rw one (ap (λ r. (ask sheet m c).answer ∷ r) (same-answers sheet (leaves (ask sheet m c)) l))

pub read-enough : (sheet input : List ℕ) → printed (take (suc sheet_limit) sheet) input ≡ printed sheet input
unfolding printed
read-enough sheet input = ap lines (same-answers sheet (empty entry_limit) (calls (items input)))
