-- The turns of a run answer the items of the input that they took, however it came in chunks: a run with no more to do has given the lines
-- that `printed` says of that input, and one that was cut off the first of them.
use mathlib.Core.Bool.{Bool, true, false, true≢false, false≢true}
use mathlib.Core.List.{List, [], ◌∷◌, ◌++◌, append_assoc, append-nil}
use mathlib.Core.Logic.{⊎_elim}
use mathlib.Core.Path.{◌≡◌, refl, sym, ap, ◌∙◌}
use Prim.Native.Nat.{ℕ, ◌<◌}
use native.Mathlib.Omega.{arith}
use lib.ListN.{length}
use Rattle.saiga.specs.Limits.{entry_limit}
use Rattle.saiga.specs.Ask.{Answer}
use Rattle.saiga.specs.Calls.{empty, answers}
use Rattle.lines.specs.Lines.{line_of}
use Rattle.stream.specs.declared.Next.{Next}
use Rattle.stream.specs.declared.Next.TheVariants.{Question, Cut, End, More}
use Rattle.stream.proofs.Items.{told}
use Rattle.stream.specs.Stream.{items}
use Rattle.report.specs.Printed.{put, calls, lines, printed}
use Rattle.report.proofs.Few.{used-up}
use Rattle.report.specs.Report.{View, after, next, turned_by, given_by, taken_by, Turns, none, one_more, Ran}

-- the answers to all of an input
abbrev all : List ℕ → List ℕ → List Answer
all sheet input = answers sheet (empty entry_limit) (calls (items input))

-- the answers that are still to be given, where this comes later
abbrev rest : List ℕ → View → List ℕ → List Answer
rest sheet v later = answers sheet v.lends (calls (items (v.hand ++ later)))

module _ (sheet input : List ℕ) (l : List Answer) (v : View) (chunk : List ℕ) (before : (later : List ℕ) → (v.ended ≡ true → later ≡ []) → all sheet (input ++ later) ≡ l ++ rest sheet v later) where
  goes_on : (r : Next) → r ≡ next v → (turned_by sheet v chunk r).going ≡ true → (later : List ℕ) → ((turned_by sheet v chunk r).ended ≡ true → later ≡ [])
      → all sheet ((input ++ taken_by chunk r) ++ later) ≡ (l ++ given_by sheet v r) ++ rest sheet (turned_by sheet v chunk r) later
  unfolding turned_by given_by taken_by after answers calls put
  goes_on (Question n) e g later h = simp (append-nil, append_assoc) (rw ((told v.hand v.ended (Question n) e).1 later) at (before later h))
  goes_on Cut e g later h = absurd (false≢true g)
  goes_on End e g later h = absurd (false≢true g)
  goes_on More e g later h = simp (append-nil, append_assoc) (before (chunk ++ later) (λ t. absurd (true≢false (sym t ∙ told v.hand v.ended More e))))

  is-over : (r : Next) → r ≡ next v → (turned_by sheet v chunk r).going ≡ false → all sheet (input ++ taken_by chunk r) ≡ l ++ given_by sheet v r
  unfolding turned_by given_by taken_by answers calls put
  is-over (Question n) e g = absurd (true≢false g)
  is-over Cut e g = simp append-nil (simp (append-nil, (told v.hand v.ended Cut e).1) at (before [] (λ t. refl)))
  is-over End e g = simp append-nil (simp (append-nil, (told v.hand v.ended End e).1) at (before [] (λ t. refl)))
  is-over More e g = absurd (true≢false g)

-- Whatever comes later, which is nothing where the input's end was seen: the answers given come first.
turns-so-far : {sheet : List ℕ} {k : ℕ} {input : List ℕ} {l : List Answer} {v : View} → Turns sheet k input l v → v.going ≡ true
    → (later : List ℕ) → (v.ended ≡ true → later ≡ []) → all sheet (input ++ later) ≡ l ++ rest sheet v later
turns-so-far none g later h = refl
turns-so-far {sheet} (one_more {input = input} {l = l} {v = v} chunk t going) g later h = goes_on sheet input l v chunk (λ later h. turns-so-far t going later h) (next v) refl g later h

lines-append : (a b : List Answer) → lines (a ++ b) ≡ lines a ++ lines b
unfolding lines
lines-append [] b = refl
lines-append (x ∷ a) b = rw append_assoc (ap (λ (l : List ℕ). line_of x ++ l) (lines-append a b))

pub turns-printed : {sheet : List ℕ} {k : ℕ} {input : List ℕ} {l : List Answer} {v : View} → Turns sheet k input l v → v.going ≡ false
    → lines l ≡ printed sheet input
unfolding printed
turns-printed none g = absurd (true≢false g)
turns-printed {sheet} (one_more {input = input} {l = l} {v = v} chunk t going) g = sym (ap lines (is-over sheet input l v chunk (λ later h. turns-so-far t going later h) (next v) refl g))

-- the bytes of b after those of a, where b begins with a
abbrev pub Begins : List ℕ → List ℕ → Type 0
Begins a b = (after : List ℕ) × (b ≡ a ++ after)

pub turns-begun : {sheet : List ℕ} {k : ℕ} {input : List ℕ} {l : List Answer} {v : View} → Turns sheet k input l v → v.going ≡ true
    → (later : List ℕ) → (v.ended ≡ true → later ≡ []) → Begins (lines l) (printed sheet (input ++ later))
unfolding printed
turns-begun {l = l} t g later h = (_, ap lines (turns-so-far t g later h) ∙ lines-append l _)

-- ---- The run, as its contract has it

module _ {sheet : List ℕ} {v : View} {written : Bool} (r : Ran sheet v written) where
  pub ran-printed : v.going ≡ false → lines r.answers ≡ printed sheet r.input
  ran-printed over = turns-printed r.turns over

  pub ran-begun : Begins (lines r.answers) (printed sheet r.input)
  ran-begun = go v.going refl
    where
      go : (t : Bool) → v.going ≡ t → Begins (lines r.answers) (printed sheet r.input)
      go true e = rw append-nil at (turns-begun r.turns e [] (λ t. refl))
      go false e = ([], rw append-nil (sym (ran-printed e)))

-- So the report program prints what document 01 says: a run whose lines were all written, and that read no more than 10^19 bytes, has given
-- exactly the lines of the input that it took.
pub run-prints : {sheet : List ℕ} {v : View} (r : Ran sheet v true) → length r.input < 10000000000000000000 → lines r.answers ≡ printed sheet r.input
run-prints r short =
    ⊎_elim (ran-printed r) (⊎_elim (λ all_made. absurd (omega (arith, used-up r all_made))) (λ unwritten. absurd (true≢false unwritten))) r.over
