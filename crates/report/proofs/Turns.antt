-- What a turn leaves, as its contract has it, by what comes next; and where the bytes at hand stand in the buffer.
use mathlib.Core.Bool.{Bool, true, false}
use mathlib.Core.List.{List, [], ◌∷◌, ◌++◌, append-nil}
use mathlib.Core.Path.{◌≡◌, sym, ap, ◌∙◌}
use Prim.Native.Nat.{ℕ, zero, suc, ◌+◌, ◌-◌, ◌≤◌}
use native.Mathlib.Omega.{arith}
use lib.Dec.{eqb}
use lib.ListN.{length, take, drop, length-drop}
use lib.Seq.{take-take, drop-drop, length-take-le, take-nil, take-add}
use Rattle.saiga.specs.Ask.{Lent, lent, ask}
use Rattle.lines.specs.Lines.{line_of}
use Rattle.stream.specs.declared.Next.{Next}
use Rattle.stream.specs.declared.Next.TheVariants.{Question, Cut, End, More}
use Rattle.stream.specs.Stream.{front}
use Rattle.stream.specs.Next.{next_of}
use Rattle.stream.proofs.Items.{told}
use Rattle.report.specs.Printed.{asks, lines}
use Rattle.report.specs.Report.{View, next, after, turned_by, turned, given_by, given}

-- ---- By what comes next

abbrev pub view : List ℕ → Bool → Bool → Lent → View
view hand ended going lends = record { hand = hand; ended = ended; going = going; lends = lends }

module _ (sheet : List ℕ) (v : View) (chunk : List ℕ) where
  left-question : {n : ℕ} {hand : List ℕ} {lends : Lent} → Question n ≡ next v → hand ≡ drop (2 + n) v.hand → lends ≡ after sheet v.lends (take n (drop 2 v.hand))
      → view hand v.ended true lends ≡ turned sheet v chunk
  unfolding turned_by
  left-question e h l = rw (← e, h, l)

  left_cut : {lends : Lent} → Cut ≡ next v → lends ≡ after sheet v.lends [] → view v.hand v.ended false lends ≡ turned sheet v chunk
  unfolding turned_by
  left_cut e l = rw (← e, l)

  left_end : End ≡ next v → view v.hand v.ended false v.lends ≡ turned sheet v chunk
  unfolding turned_by
  left_end e = rw (← e)

  left-more : {hand : List ℕ} {ended : Bool} → More ≡ next v → hand ≡ v.hand ++ chunk → ended ≡ eqb (length chunk) 0 → view hand ended true v.lends ≡ turned sheet v chunk
  unfolding turned_by
  left-more e h d = rw (← e, h, d)

module _ (sheet : List ℕ) (v : View) {line : List ℕ} where
  line-question : {n : ℕ} → Question n ≡ next v → line ≡ line_of (ask sheet v.lends (asks (take n (drop 2 v.hand)))).answer → line ≡ lines (given sheet v)
  unfolding given_by lines
  line-question e l = rw (← e, append-nil) l

  line-cut : Cut ≡ next v → line ≡ line_of (ask sheet v.lends (asks [])).answer → line ≡ lines (given sheet v)
  unfolding given_by lines
  line-cut e l = rw (← e, append-nil) l

  line-end : End ≡ next v → line ≡ [] → line ≡ lines (given sheet v)
  unfolding given_by lines
  line-end e l = rw (← e) l

  line-more : More ≡ next v → line ≡ [] → line ≡ lines (given sheet v)
  unfolding given_by lines
  line-more e l = rw (← e) l

-- ---- In the buffer

drop-take : (k m : ℕ) (l : List ℕ) → drop k (take m l) ≡ take (m - k) (drop k l)
drop-take zero m l = let e : m - 0 ≡ m = omega arith in rw e
drop-take (suc k) zero l = let e : 0 - suc k ≡ 0 = omega arith in rw e
drop-take (suc k) (suc m) [] = rw take-nil
drop-take (suc k) (suc m) (x ∷ l) = let e : suc m - suc k ≡ m - k = omega arith in rw e (drop-take k m l)

module _ (input : List ℕ) (from to : ℕ) (ordered : from ≤ to) where
  abbrev at-hand : List ℕ
  at-hand = take (to - from) (drop from input)

  hand-length : to ≤ length input → length at-hand ≡ to - from
  hand-length within = length-take-le (to - from) (drop from input) (rw length-drop (omega arith))

  module _ (within : to ≤ length input) (ended : Bool) (n : ℕ) (is : Question n ≡ next_of (front at-hand) ended) where
    question-within : from + 2 + n ≤ to
    question-within = omega (arith, (told at-hand ended (Question n) is).0, hand-length within)

    question-bytes : take (from + 2 + n - (from + 2)) (drop (from + 2) input) ≡ take n (drop 2 at-hand)
    question-bytes =
        let e : from + 2 + n - (from + 2) ≡ n = omega arith in
        rw (e, drop-take, take-take n (to - from - 2) (drop 2 (drop from input)) (omega (arith, question-within)), drop-drop)

    question-rest : take (to - (from + 2 + n)) (drop (from + 2 + n) input) ≡ drop (2 + n) at-hand
    question-rest =
        let d : to - from - (2 + n) ≡ to - (from + 2 + n) = omega arith in
        let s : from + (2 + n) ≡ from + 2 + n = omega arith in
        rw (drop-take, drop-drop, d, s)

  -- the bytes at hand and those that were read after them
  more-hand : (came : ℕ) → take (to + came - from) (drop from input) ≡ at-hand ++ take came (drop to input)
  more-hand came =
      let e : to + came - from ≡ (to - from) + came = omega arith in
      let s : from + (to - from) ≡ to = omega arith in
      rw (e, take-add, drop-drop, s)

  more-ended : (came : ℕ) → to + came ≤ length input → eqb came 0 ≡ eqb (length (take came (drop to input))) 0
  more-ended came within = rw (length-take-le came (drop to input) (rw length-drop (omega arith)))

-- ---- What a turn leaves

module _ (sheet input store : List ℕ) (from to came kept : ℕ) (ended going : Bool) (n : Next) (comes : n ≡ next_of (front (take (to - from) (drop from input))) ended) where
  -- what the turn works on, and what was read for it
  abbrev now : View
  now = view (take (to - from) (drop from input)) ended going (lent store kept)

  abbrev chunk : List ℕ
  chunk = take came (drop to input)

  module _ (k : ℕ) (told : n ≡ Question k) (ordered : from ≤ to) (within : to + came ≤ length input) where
    question-is : Question k ≡ next now
    question-is = sym told ∙ comes

    inside : to ≤ length input
    inside = omega (arith, within)

    pub question-ends : from + 2 + k ≤ to
    question-ends = question-within input from to ordered inside ended k question-is

    abbrev question : List ℕ
    question = take (from + 2 + k - (from + 2)) (drop (from + 2) input)

    pub after-question : (left : List ℕ) (kept' : ℕ) → lent left kept' ≡ after sheet (lent store kept) question
        → view (take (to - (from + 2 + k)) (drop (from + 2 + k) input)) ended true (lent left kept') ≡ turned sheet now chunk
    after-question left kept' a =
        left-question sheet now chunk question-is (question-rest input from to ordered inside ended k question-is)
        (a ∙ ap (after sheet (lent store kept)) (question-bytes input from to ordered inside ended k question-is))

    pub question-line : {line : List ℕ} → line ≡ line_of (ask sheet (lent store kept) (asks question)).answer → line ≡ lines (given sheet now)
    question-line l = line-question sheet now question-is (rw (question-bytes input from to ordered inside ended k question-is) at l)

  pub after-cut : (left : List ℕ) (kept' : ℕ) → n ≡ Cut → lent left kept' ≡ after sheet (lent store kept) []
      → view (take (to - from) (drop from input)) ended false (lent left kept') ≡ turned sheet now chunk
  after-cut left kept' told a = left_cut sheet now chunk (sym told ∙ comes) a

  pub cut_line : {line : List ℕ} → n ≡ Cut → line ≡ line_of (ask sheet (lent store kept) (asks [])).answer → line ≡ lines (given sheet now)
  cut_line told l = line-cut sheet now (sym told ∙ comes) l

  pub after-end : n ≡ End → view (take (to - from) (drop from input)) ended false (lent store kept) ≡ turned sheet now chunk
  after-end told = left_end sheet now chunk (sym told ∙ comes)

  pub end_line : {line : List ℕ} → n ≡ End → line ≡ [] → line ≡ lines (given sheet now)
  end_line told l = line-end sheet now (sym told ∙ comes) l

  pub after_more : n ≡ More → from ≤ to → to + came ≤ length input
      → view (take (to + came - from) (drop from input)) (eqb came 0) true (lent store kept) ≡ turned sheet now chunk
  after_more told ordered within =
      left-more sheet now chunk (sym told ∙ comes) (more-hand input from to ordered came) (more-ended input from to ordered came within)

  pub more-line : {line : List ℕ} → n ≡ More → line ≡ [] → line ≡ lines (given sheet now)
  more-line told l = line-more sheet now (sym told ∙ comes) l

-- what the check of `turn` finds by itself
pub ruleset turn_laws = (cut_line, after-end, end_line, after_more, more-line)
