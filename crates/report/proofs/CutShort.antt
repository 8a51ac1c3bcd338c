-- A run that is over tells of a cut question exactly where the input that it took ends within one, however that came in chunks.
use mathlib.Core.Bool.{Bool, true, false, true≢false, false≢true}
use mathlib.Core.List.{List, [], ◌++◌, append_assoc, append-nil}
use mathlib.Core.Path.{◌≡◌, refl, sym, ◌∙◌}
use Prim.Native.Nat.{ℕ}
use Rattle.saiga.specs.Ask.{Answer}
use Rattle.stream.specs.declared.Next.{Next}
use Rattle.stream.specs.declared.Next.TheVariants.{Question, Cut, End, More}
use Rattle.stream.specs.Stream.{items}
use Rattle.stream.proofs.Items.{told}
use Rattle.report.specs.Report.{View, next, turned_by, taken_by, Turns, none, one_more, Ran}
use Rattle.report.specs.Notices.{is_cut, ends_cut, cut_short}

-- what is taken already, and what comes later, which is nothing where the input's end was seen
abbrev Left : List ℕ → View → Type 0
Left input v = (later : List ℕ) → (v.ended ≡ true → later ≡ []) → cut_short (items (input ++ later)) ≡ cut_short (items (v.hand ++ later))

module _ (sheet input : List ℕ) (v : View) (chunk : List ℕ) (before : Left input v) where
  goes_on : (r : Next) → r ≡ next v → (turned_by sheet v chunk r).going ≡ true → Left (input ++ taken_by chunk r) (turned_by sheet v chunk r)
  unfolding turned_by taken_by cut_short
  goes_on (Question n) e g later h = simp append-nil (rw ((told v.hand v.ended (Question n) e).1 later) at (before later h))
  goes_on Cut e g later h = absurd (false≢true g)
  goes_on End e g later h = absurd (false≢true g)
  goes_on More e g later h = simp append_assoc (before (chunk ++ later) (λ t. absurd (true≢false (sym t ∙ told v.hand v.ended More e))))

  is-over : (r : Next) → r ≡ next v → (turned_by sheet v chunk r).going ≡ false → ends_cut (turned_by sheet v chunk r) ≡ cut_short (items (input ++ taken_by chunk r))
  unfolding turned_by taken_by cut_short is_cut
  is-over (Question n) e g = absurd (true≢false g)
  is-over Cut e g = rw (← e, append-nil) (sym (simp (append-nil, (told v.hand v.ended Cut e).1) at (before [] (λ t. refl))))
  is-over End e g = rw (← e, append-nil) (sym (simp (append-nil, (told v.hand v.ended End e).1) at (before [] (λ t. refl))))
  is-over More e g = absurd (true≢false g)

turns-left : {sheet : List ℕ} {k : ℕ} {input : List ℕ} {l : List Answer} {v : View} → Turns sheet k input l v → v.going ≡ true → Left input v
turns-left none g later h = refl
turns-left {sheet} (one_more {input = input} {v = v} chunk t going) g later h = goes_on sheet input v chunk (λ later h. turns-left t going later h) (next v) refl g later h

turns-cut : {sheet : List ℕ} {k : ℕ} {input : List ℕ} {l : List Answer} {v : View} → Turns sheet k input l v → v.going ≡ false → ends_cut v ≡ cut_short (items input)
turns-cut none g = absurd (true≢false g)
turns-cut {sheet} (one_more {input = input} {v = v} chunk t going) g = is-over sheet input v chunk (λ later h. turns-left t going later h) (next v) refl g

pub ran-cut : {sheet : List ℕ} {v : View} {written : Bool} (r : Ran sheet v written) → v.going ≡ false → ends_cut v ≡ cut_short (items r.input)
ran-cut r over = turns-cut r.turns over
