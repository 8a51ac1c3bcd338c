-- What is due in a part is due in the whole.
use mathlib.Core.Bool.{Bool}
use mathlib.Core.List.{List, [], ◌∷◌}
use mathlib.Core.Path.{◌≡◌, refl, ◌∙◌, ap}
use Prim.Native.Nat.{ℕ}
use Rattle.saiga.specs.declared.Value.{Value}
use Rattle.saiga.specs.Expressions.{Expr}
use Rattle.saiga.specs.Sheet.{Sheet}
use Rattle.saiga.specs.Terms.{val, cond, app, attr, form}
use Rattle.saiga.specs.Caching.{Entry, Running, Due, finished, counts, writes, halts, due_part, due}
use Rattle.engine.specs.Machine.{Frame, on_if, on_left, on_skip, on_right, on_node, on_parameter, on_forward, on_form, open_forms, plug}

-- all but a value, which the frames around a part take up
abbrev pub Unfinished : Due → Type 0
Unfinished (finished v) = ⊥
Unfinished (counts r t) = Unit {0}
Unfinished (writes e t) = Unit {0}
Unfinished (halts r) = Unit {0}

-- a due step of a part, made in its place
abbrev pub carried : (Running → Running) → Due → Due
carried inside d = due_part inside finished d

-- What is due around a part follows what is due in it, one frame further out.
around : (inside outer : Running → Running) (after : Value → Due) {part whole : Due}
    → ((d : Due) → Unfinished d → due_part inside after part ≡ d → whole ≡ carried outer d)
    → (d : Due) → Unfinished d → part ≡ d → whole ≡ carried (λ t. outer (inside t)) d
unfolding due_part
around inside outer after rest (finished v) u e = absurd u
around inside outer after rest (counts r t) u e = rest (counts r (inside t)) tt (ap (due_part inside after) e)
around inside outer after rest (writes n t) u e = rest (writes n (inside t)) tt (ap (due_part inside after) e)
around inside outer after rest (halts r) u e = rest (halts r) tt (ap (due_part inside after) e)

alone : (d : Due) → d ≡ carried (λ t. t) d
unfolding due_part
alone (finished v) = refl
alone (counts r t) = refl
alone (writes e t) = refl
alone (halts r) = refl

module _ (s : Sheet) (context : ℕ → ℕ → Expr) (entries : List Entry) (has-budget : Bool) where
  pub in_whole : (fs : List Frame) (l : List ℕ) (t : Running) (d : Due) → Unfinished d → due context entries has-budget (open_forms fs) t ≡ d
      → due context entries has-budget [] (plug s fs t l) ≡ carried (λ u. plug s fs u l) d
  unfolding open_forms plug due due_part
  in_whole [] l t = λ d u e. e ∙ alone d
  in_whole (on_if ∷ fs) l t = around (λ c. cond c _ _) _ _ (in_whole fs _ _)
  in_whole (on_left ∷ fs) l t = around (λ f. app f _) _ _ (in_whole fs _ _)
  in_whole (on_skip ∷ fs) l t = in_whole fs _ t
  in_whole (on_right v ∷ fs) l t = around (λ x. app (val v) x) _ _ (in_whole fs l (app (val v) t))
  in_whole (on_node a ∷ fs) l t = around (λ n. attr n a _) _ _ (in_whole fs _ _)
  in_whole (on_parameter v a ∷ fs) l t = around (λ x. attr (val v) a x) _ _ (in_whole fs l (attr (val v) a t))
  in_whole (on_forward a ∷ fs) l t = around (λ n. attr n a _) _ _ (in_whole fs l _)
  in_whole (on_form o outer ∷ fs) l t = around (λ x. form o x) _ _ (in_whole fs outer (form o t))
