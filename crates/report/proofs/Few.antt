-- A run makes few turns for the input that it takes: a question takes two bytes or more off those at hand and a read brings one or more, but
-- for the read that finds the input's end, and the last turn.
use mathlib.Core.Bool.{Bool, true, false, not}
use mathlib.Core.List.{List, ◌++◌, append-nil}
use mathlib.Core.Path.{◌≡◌, refl, ap}
use Prim.Native.Nat.{ℕ, suc, ◌+◌, ◌*◌, ◌≤◌}
use native.Mathlib.Omega.{arith}
use lib.Dec.{eqb}
use lib.ListN.{length, length-append, length-drop}
use borrow.Author.Tests.{eqb-true, eqb-false}
use Rattle.saiga.specs.Ask.{Answer}
use Rattle.stream.specs.declared.Next.{Next}
use Rattle.stream.specs.declared.Next.TheVariants.{Question, Cut, End, More}
use Rattle.stream.proofs.Items.{told}
use Rattle.report.specs.Report.{View, next, turned_by, taken_by, Turns, none, one_more, Ran}

two : Bool → ℕ
two true = 2
two false = 0

abbrev Few : ℕ → ℕ → View → Type 0
Few k read v = 2 * k + length v.hand ≤ 3 * read + two v.ended + two (not v.going)

module _ (sheet : List ℕ) (k : ℕ) (input : List ℕ) (v : View) (chunk : List ℕ) (few : Few k (length input) v) (going : v.going ≡ true) where
  bound : 2 * k + length v.hand ≤ 3 * length input + two v.ended
  unfolding two
  bound = let e : two (not v.going) ≡ 0 = ap (λ b. two (not b)) going in omega (arith, few)

  few-after : (r : Next) → r ≡ next v → Few (suc k) (length (input ++ taken_by chunk r)) (turned_by sheet v chunk r)
  unfolding turned_by taken_by two
  few-after (Question n) e = rw (append-nil, length-drop) (omega (arith, bound, (told v.hand v.ended (Question n) e).0))
  few-after Cut e = rw append-nil (omega (arith, bound))
  few-after End e = rw append-nil (omega (arith, bound))
  few-after More e = rw (length-append, length-append) (go (eqb (length chunk) 0) refl)
    where
      open-end : two v.ended ≡ 0
      open-end = ap two (told v.hand v.ended More e)

      go : (t : Bool) → eqb (length chunk) 0 ≡ t → 2 * suc k + (length v.hand + length chunk) ≤ 3 * (length input + length chunk) + two t + 0
      go true h = omega (arith, bound, open-end, eqb-true (length chunk) 0 h)
      go false h = let some = eqb-false (length chunk) 0 h in omega (arith, bound, open-end)

few-turns : {sheet : List ℕ} {k : ℕ} {input : List ℕ} {l : List Answer} {v : View} → Turns sheet k input l v → Few k (length input) v
unfolding two
few-turns none = omega arith
few-turns {sheet} (one_more {k = k} {input = input} {v = v} chunk t going) = few-after sheet k input v chunk (few-turns t) going (next v) refl

at_most_two : (t : Bool) → two t ≤ 2
unfolding two
at_most_two true = omega arith
at_most_two false = omega arith

-- A run that has used up its turns has read more than 10^19 bytes.
pub used-up : {sheet : List ℕ} {v : View} {written : Bool} (r : Ran sheet v written) → r.made ≡ 18446744073709551615 → 10000000000000000000 ≤ length r.input
used-up {v = v} r all_made = omega (arith, few-turns r.turns, at_most_two v.ended, at_most_two (not v.going))
