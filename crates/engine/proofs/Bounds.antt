-- The machine ends, and stays small: its frames fit into an array of 8,320.
use mathlib.Core.Bool.{Bool, true, false, ◌&&◌}
use mathlib.Core.Bool as Bool
use Rattle.std.specs.Prelude.{Option, None as none, Some as some}
use mathlib.Core.List.{List, [], ◌∷◌}
use mathlib.Core.Path.{◌≡◌, refl, ap}
use Prim.Native.Nat.{ℕ, ◌+◌, ◌*◌, ◌-◌, ◌≤◌, ◌<◌}
use native.Mathlib.Omega.{arith}
use lib.Dec.{leb, ltb, eqb}
use lib.ListN.{length, drop, length-drop}
use borrow.Author.Tests.{leb-true, leb-false, ltb-true}
use Rattle.saiga.specs.Limits.{depth_limit}
use Rattle.saiga.specs.declared.Value.{Value}
use Rattle.saiga.specs.Values.{null, truth, node_of, apply}
use Rattle.saiga.specs.Expressions.{Expr, Scope, Head, base_literal, function_literal, if_head, application_head, attribute_head, this_head, parameter_head, no_head, head_of, operand_width, read_expr, expression, read_whole}
use Rattle.saiga.specs.Sheet.{Sheet, rule_scope, Definition, undefined, figure, piece_of, forward_of, definition}
use Rattle.saiga.specs.Terms.{Occurrence}
use Rattle.saiga.specs.Caching.{Entry, is_kept, Counted, circular, too_deep}
use Rattle.saiga.proofs.Inference.{cond-passes}
use Rattle.saiga.proofs.Reading.{read-width}
use Rattle.engine.specs.Machine.{Next, by_move, by_step, Frame, on_if, on_left, on_skip, on_right, on_node, on_parameter, on_forward, on_form, Mode, evaluating, returning, Machine, open_forms, scope_in, width_of, pass_over, Move, finishes, moves, takes, stops, read_head, within, branch, application_due, defined, applied, attribute_due, give, read_next, move_of, move}
use Rattle.engine.specs.Good.{Parses, Pieces, OnForm, Ready, GoodAt, Good, used, used_by, Waiting, Small}
use Rattle.engine.specs.Decode.{frame_limit, sheet_of, machine_of}
use Rattle.engine.specs.Steps.{Memory}
use Rattle.engine.specs.Represents.{machine_in, Represents}
use Rattle.engine.specs.declared.Registers.{Registers}
use Rattle.engine.proofs.Heads.{head-inside, none_inside}
use Rattle.engine.specs.Cost.{Moves, at_first, and_then, credit, credits, mode_credit, measure}

-- ---- What every move keeps

-- A move is paid for (Cost.antt of specs/), counts nothing down, and goes no further over the budget.
record Pays (budget : ℕ) (m m' : Machine) : Type 0 where
  pays : 1 + credits m'.frames + mode_credit m'.mode + 3 * length m.frames + 6 * m.steps
      ≤ credits m.frames + mode_credit m.mode + 3 * length m'.frames + 6 * m'.steps
  counts : m.steps ≤ m'.steps
  within : m'.steps - budget ≤ m.steps - budget

record Keeps (s : Sheet) (budget : ℕ) (m m' : Machine) : Type 0 where
  cost : Pays budget m m'
  small : Pieces s → Good s m → Small m → Small m'
  forms : length (open_forms m.frames) ≤ 64 → length (open_forms m'.frames) ≤ 64
  fit : length m'.frames ≤ 1 + length m.frames

-- most moves stay in the piece
record Shrinks (budget : ℕ) (m m' : Machine) : Type 0 where
  cost : Pays budget m m'
  small : used_by m'.mode + used m'.frames + length m'.rest ≤ used_by m.mode + used m.frames + length m.rest
  forms : length (open_forms m'.frames) ≤ length (open_forms m.frames)
  fit : length m'.frames ≤ 1 + length m.frames

within-piece : {s : Sheet} {budget : ℕ} {m m' : Machine} → Shrinks budget m m' → (Waiting m.frames → Waiting m'.frames) → Keeps s budget m m'
within-piece k w =
    record { cost = k.cost; small = λ p g h. (omega arith, w h.1); forms = λ n. omega arith; fit = k.fit }

-- what holds of the machine that a move leads to, if it leads to one
abbrev pub Onward : (Machine → Type 0) → Move → Type 0
Onward P (finishes v) = Unit {0}
Onward P (moves m) = P m
Onward P (takes r m) = P m
Onward P (stops r) = Unit {0}

pub cond-onward : (P : Machine → Type 0) (b : Bool) (x y : Move) → (b ≡ true → Onward P x) → (b ≡ false → Onward P y) → Onward P (Bool.cond b x y)
cond-onward P true x y f g = f refl
cond-onward P false x y f g = g refl

-- ---- Bytes

drop-shorter : (n : ℕ) (l : List ℕ) → length (drop n l) ≤ length l
drop-shorter n l = omega (arith, length-drop n l)

pass-shorter : (sc : Scope) (l : List ℕ) → length (pass_over sc l) ≤ length l
unfolding pass_over
pass-shorter sc l = drop-shorter (width_of (read_expr sc (length l) l)) l

pub whole-short : (sc : Scope) (l : List ℕ) (e : Expr) → read_whole sc l ≡ expression e → length l ≤ 256
unfolding read_whole
whole-short sc l e h = leb-true (length l) 256 (cond-passes (leb (length l) 256) h (λ h. cc)).0

-- An expression has a byte at least.
pass-less : {sc : Scope} {l : List ℕ} → Parses sc l → length (pass_over sc l) < length l
unfolding pass_over width_of
pass-less {sc} {l} p =
    let is : length (pass_over sc l) ≡ length (drop p.width l) = rw p.read in
    omega (arith, length-drop p.width l, read-width sc (length l) l p.expr p.width p.read)

-- nothing of a form's piece is used where its frame is the innermost
used-none : {fs : List Frame} → OnForm fs → used fs ≡ 0
used-none (o, outer, under, is) = rw is

-- ---- One move

module _ (s : Sheet) (capacity budget : ℕ) (entries : List Entry) (steps : ℕ) where
  abbrev state : Mode → List ℕ → List Frame → Machine
  state mode l fs = record { mode = mode; rest = l; frames = fs; entries = entries; steps = steps }

  -- a head with a value
  value_on : (c : ℕ) (l k : List ℕ) (fs : List Frame) (v : Value) → length k ≤ length l
      → Keeps s budget (state evaluating (c ∷ l) fs) (state (returning v) k fs)
  unfolding mode_credit
  value_on c l k fs v h = within-piece (omega arith) (λ w. w)

  reads_on : (c : ℕ) (l : List ℕ) (fs : List Frame) (h : Head) → head_of c ≡ h
      → Keeps s budget (state evaluating (c ∷ l) fs) (read_head s capacity budget (state evaluating (c ∷ l) fs) h l)
  unfolding read_head credits credit mode_credit open_forms
  reads_on c l fs (base_literal t) e = value_on c l _ fs _ (drop-shorter (operand_width t) l)
  reads_on c l fs function_literal e = value_on c l _ fs _ (drop-shorter 1 l)
  reads_on c l fs if_head e = within-piece (omega arith) (λ w. w)
  reads_on c l fs application_head e = within-piece (omega arith) (λ w. w)
  reads_on c l fs attribute_head e =
      record { cost = omega arith; small = λ p g w. (omega (arith, longer g.0), w.1); forms = λ n. n; fit = omega arith }
    where
      -- the number and the node stand behind the head
      longer : {sc : Scope} → Parses sc (c ∷ l) → length (drop 1 l) < length l
      longer {sc} parses = let i = rw e at (head-inside parses) in omega (arith, pass-less i.0, length-drop 1 l)
  reads_on c l fs this_head e = value_on c l l fs _ (omega arith)
  reads_on c l fs parameter_head e = value_on c l l fs _ (omega arith)
  reads_on c l fs no_head e = value_on c l l fs _ (omega arith)

  within_on : (v : Value) (l : List ℕ) (fs : List Frame) (r : Counted) (m : Machine)
      → (steps < budget → Keeps s budget (state (returning v) l fs) m)
      → Onward (Keeps s budget (state (returning v) l fs)) (within s capacity budget (state (returning v) l fs) r m)
  unfolding within
  within_on v l fs r m k = cond-onward _ (ltb steps budget) _ _ (λ h. k (ltb-true steps budget h)) (λ h. tt)

  branch-on : (v : Value) (l : List ℕ) (fs : List Frame) (b : Bool)
      → Onward (Keeps s budget (state (returning v) l (on_if ∷ fs))) (branch s capacity budget (state (returning v) l (on_if ∷ fs)) b fs)
  unfolding branch credits credit mode_credit open_forms
  branch-on v l fs true = within_on v l (on_if ∷ fs) _ _ λ b. within-piece (omega arith) (λ w. w)
  branch-on v l fs false =
      within_on v l (on_if ∷ fs) _ _ λ b. within-piece (omega (arith, pass-shorter (scope_in s (open_forms fs)) l)) (λ w. w)

  application-on : (v : Value) (l : List ℕ) (f : Value) (fs : List Frame) (a : Option Value)
      → Onward (Keeps s budget (state (returning v) l (on_right f ∷ fs))) (application_due s capacity budget (state (returning v) l (on_right f ∷ fs)) fs a)
  unfolding application_due credits credit mode_credit open_forms
  application-on v l f fs (some w) = within_on v l (on_right f ∷ fs) _ _ λ b. within-piece (omega arith) (λ w. w)
  application-on v l f fs none = tt

  -- a value at once, or a piece
  module _ (v n : Value) (a : ℕ) (l : List ℕ) (fs : List Frame) (b : steps < budget) where
    abbrev before : Machine
    before = state (returning v) l (on_parameter n a ∷ fs)

    defined-on : length (open_forms fs) < 64 → (o : Occurrence) (d : Definition) → definition s o.node o.attribute ≡ d
        → Keeps s budget before (defined s capacity budget before o fs d)
    unfolding defined credits credit mode_credit open_forms
    defined-on few o undefined e = within-piece (omega arith) (λ w. w)
    defined-on few o (figure u) e = within-piece (omega arith) (λ w. w)
    defined-on few o (piece_of p) e =
        record {
          cost = omega arith;
          small = λ ps g w. (omega (arith, short ps), (omega arith, w.1));
          forms = λ n. few;
          fit = omega arith;
        }
      where
        short : Pieces s → length p ≤ 256
        short ps = let r = ps.whole o.node o.attribute p e in whole-short (rule_scope s) p r.0 r.1
    defined-on few o (forward_of p) e =
        record {
          cost = omega arith;
          small = λ ps g w. (omega (arith, short ps), (omega arith, w.1));
          forms = λ n. few;
          fit = omega arith;
        }
      where
        short : Pieces s → length p ≤ 256
        short ps = let r = ps.forward o.node o.attribute p e in whole-short (rule_scope s) p r.0 r.2

    -- a kept value opens no form
    applied-on : (o : Occurrence) (k : Option Value) → (Bool.not (is_kept k) && leb 64 (length (open_forms fs))) ≡ false
        → Keeps s budget before (applied s capacity budget before o fs k)
    unfolding applied credits credit mode_credit open_forms is_kept
    applied-on o none shallow = defined-on (leb-false 64 _ shallow) o _ refl
    applied-on o (some u) shallow = within-piece (omega arith) (λ w. w)

  give-on : (v : Value) (l : List ℕ) (fs : List Frame)
      → Onward (Keeps s budget (state (returning v) l fs)) (give s capacity budget (state (returning v) l fs) v fs)
  unfolding give attribute_due too_deep credits credit mode_credit open_forms
  give-on v l [] = tt
  give-on v l (on_if ∷ fs) = branch-on v l fs (truth v)
  give-on v l (on_left ∷ fs) = within-piece (omega arith) (λ w. w)
  give-on v l (on_skip ∷ fs) = within-piece (omega (arith, pass-shorter (scope_in s (open_forms fs)) l)) (λ w. w)
  give-on v l (on_right f ∷ fs) = application-on v l f fs (apply f v)
  give-on v l (on_node a ∷ fs) = within-piece (omega arith) (λ w. w)
  give-on v l (on_parameter n a ∷ fs) =
      cond-onward _ (eqb (node_of n) null) _ _ (λ h. tt) λ h.
      cond-onward _ (circular entries (open_forms fs) _) _ _ (λ h. tt) λ h.
      cond-onward _ (ltb steps budget) _ _ (λ b.
      cond-onward _ (too_deep entries (open_forms fs) _) _ _ (λ h. tt) λ shallow.
      applied-on v n a l fs (ltb-true steps budget b) _ _ shallow) (λ h. tt)
  give-on v l (on_forward a ∷ fs) =
      record { cost = omega arith; small = λ p g w. (omega (arith, ap length g.0, used-none g.1), w.1); forms = λ n. n; fit = omega arith }
  give-on v l (on_form o outer ∷ fs) =
      record { cost = omega arith; small = λ p g w. (omega arith, w.1.1); forms = λ n. omega arith; fit = omega arith }

  move-on : (mode : Mode) (l : List ℕ) (fs : List Frame) → Onward (Keeps s budget (state mode l fs)) (move s capacity budget (state mode l fs))
  unfolding move move_of read_next mode_credit
  move-on evaluating [] fs =
      record { cost = omega arith; small = λ p g. none_inside g.0; forms = λ n. n; fit = omega arith }
  move-on evaluating (c ∷ l) fs = reads_on c l fs (head_of c) refl
  move-on (returning v) l fs = give-on v l fs

next-on : {s : Sheet} {capacity budget : ℕ} {m m' : Machine} → Next s capacity budget m m' → Keeps s budget m m'
next-on {s} {capacity} {budget} {m} n = go n
  where
    on : Onward (Keeps s budget m) (move s capacity budget m)
    on = move-on s capacity budget m.entries m.steps m.mode m.rest m.frames

    go : {m' : Machine} → Next s capacity budget m m' → Keeps s budget m m'
    go (by_move e) = rw e at on
    go (by_step r e) = rw e at on

pub small-on : {s : Sheet} {capacity budget : ℕ} {m m' : Machine} → Pieces s → Good s m → Small m → Next s capacity budget m m' → Small m'
small-on p g w n = (next-on n).small p g w

pub forms-on : {s : Sheet} {capacity budget : ℕ} {m m' : Machine} → length (open_forms m.frames) ≤ 64 → Next s capacity budget m m'
    → length (open_forms m'.frames) ≤ 64
forms-on h n = (next-on n).forms h

pub steps_on : {s : Sheet} {capacity budget : ℕ} {m m' : Machine} → Next s capacity budget m m' → m.steps ≤ budget
    → (m.steps ≤ m'.steps) × (m'.steps ≤ budget)
steps_on n h = let k = (next-on n).cost in (k.counts, omega (arith, k.within))

-- ---- Room for the frames

-- a form's frame has room for one more on it
abbrev spare : List Frame → ℕ
spare [] = 0
spare (on_if ∷ fs) = 0
spare (on_left ∷ fs) = 0
spare (on_skip ∷ fs) = 0
spare (on_right v ∷ fs) = 0
spare (on_node a ∷ fs) = 0
spare (on_parameter v a ∷ fs) = 0
spare (on_forward a ∷ fs) = 0
spare (on_form o outer ∷ fs) = 2

-- Each frame has two bytes of its piece, used or still to come to; a forward's has those that its form's frame spares.
ready-fit : (s : Sheet) (fs : List Frame) (l : List ℕ) → Ready s fs l → Waiting fs → spare fs + 2 * length fs ≤ used fs + length l + 256 * length (open_forms fs)
unfolding open_forms
ready-fit s [] l r w = omega arith
ready-fit s (on_if ∷ fs) l (first, second, r) w = omega (arith, pass-less first, pass-less second, ready-fit s fs _ r w)
ready-fit s (on_left ∷ fs) l (first, r) w = omega (arith, pass-less first, ready-fit s fs _ r w)
ready-fit s (on_skip ∷ fs) l (first, r) w = omega (arith, pass-less first, ready-fit s fs _ r w)
ready-fit s (on_right v ∷ fs) l r w = omega (arith, ready-fit s fs l r w)
ready-fit s (on_node a ∷ fs) l (first, r) w = omega (arith, pass-less first, ready-fit s fs _ r w)
ready-fit s (on_parameter v a ∷ fs) l r w = omega (arith, ready-fit s fs l r w)
ready-fit s (on_forward a ∷ fs) l (nothing, (o, outer, under, is), r) w =
    let room : spare fs ≡ 2 = rw is in
    omega (arith, ready-fit s fs l r w)
ready-fit s (on_form o outer ∷ fs) l r w = omega (arith, ready-fit s fs outer r w.1)

-- A machine whose frames fit.
pub record Sized (s : Sheet) (m : Machine) : Type 0 where
  pub good : Good s m
  pub small : Small m
  pub few : length (open_forms m.frames) ≤ depth_limit

-- There is room for one more.
pub frames-fit : {s : Sheet} {m : Machine} → Sized s m → length m.frames < frame_limit
frames-fit {s} {m} z = go m.mode m.rest m.frames z.good z.small z.few
  where
    go : (mode : Mode) (l : List ℕ) (fs : List Frame) → GoodAt s mode l fs → (used_by mode + used fs + length l ≤ 256) × Waiting fs
        → length (open_forms fs) ≤ 64 → length fs < frame_limit
    go evaluating l fs g w few = omega (arith, pass-less g.0, ready-fit s fs _ g.1 w.1)
    go (returning v) l fs g w few = omega (arith, ready-fit s fs l g w.1)

-- what registers and memory hold
pub represents-sized : {sheet index question : List ℕ} {mem : Memory} {m : Registers} → Represents sheet index question mem m
    → Sized (sheet_of sheet) (machine_in sheet question mem m)
unfolding machine_of
represents-sized r = record { good = r.good; small = r.small; few = omega (arith, r.holds.counted, r.holds.few) }

-- ---- The cost of a move

-- It is paid for, so the measure falls,
pub move-falls : {s : Sheet} {capacity budget : ℕ} {m m' : Machine} → Sized s m → m.steps ≤ budget → Next s capacity budget m m'
    → measure budget m' < measure budget m
unfolding measure
move-falls z below n = let k = (next-on n).cost in omega (arith, k, frames-fit z, (next-on n).fit)

-- and so is any number of moves
pub moves-cost : {s : Sheet} {capacity budget : ℕ} {first : Machine} {n : ℕ} {m : Machine} → Moves s capacity budget first n m
    → (n + credits m.frames + mode_credit m.mode + 3 * length first.frames + 6 * first.steps
    ≤ credits first.frames + mode_credit first.mode + 3 * length m.frames + 6 * m.steps)
moves-cost at_first = omega arith
moves-cost (and_then k n) = omega (arith, moves-cost k, (next-on n).cost)
