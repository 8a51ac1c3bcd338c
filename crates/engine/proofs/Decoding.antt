-- Laws of the machine that registers and memory hold: its frames by their words, the innermost form, and the rest of the running piece.
use mathlib.Core.Bool.{false}
use mathlib.Core.List.{List, [], ◌∷◌}
use mathlib.Core.Path.{◌≡◌, refl, ap, ◌∙◌}
use Prim.Native.Nat.{ℕ, zero, suc, ◌+◌, ◌-◌, ◌≤◌, ◌<◌}
use native.Mathlib.Nat.{add-zero, zero-sub, sub-zero, suc-sub-suc}
use native.Mathlib.Numerals.{add-one, one-add}
use native.Mathlib.Omega.{arith}
use lib.Dec.{eqb}
use lib.ListN.{length, take, drop, get_or, set, length-take, length-drop}
use lib.Seq.{take-nil, drop-drop, get_or-drop, get_or-set_same, get_or-set_other}
use Rattle.saiga.specs.declared.Value.{Value}
use Rattle.saiga.proofs.Preservation.{either}
use Rattle.engine.specs.RunningPiece.{piece_in, rest_of}
use Rattle.values.specs.Packed.{value_in}
use Rattle.engine.specs.Machine.{Frame, on_if, on_left, on_skip, on_right, on_node, on_parameter, on_forward, on_form, open_forms, innermost}
use Rattle.engine.specs.FrameWords.{kind_of, if_kind, left_kind, skip_kind, right_kind, node_kind, parameter_kind, form_kind, right_word, held_function, node_word, held_attribute, parameter_word, held_node, forward_kind, forward_word}
use Rattle.engine.specs.Decode.{plain_frame, form_occurrence, form_rest, frames_in}
use Rattle.engine.specs.Represents.{Packs}
use Rattle.engine.proofs.OpenForms.{plain-open}

-- ---- Words of plain frames

-- `w` is the word of a frame that is no form
pub record WordOf (w : ℕ) (f : Frame) : Type 0 where
  pub plain : eqb (kind_of w) form_kind ≡ false
  pub is : plain_frame w ≡ f

-- by its kind
module _ (w : ℕ) where
  pub if-kind : kind_of w ≡ if_kind → WordOf w on_if
  unfolding plain_frame
  if-kind e = record { plain = rw e; is = rw e }

  pub left-kind : kind_of w ≡ left_kind → WordOf w on_left
  unfolding plain_frame
  left-kind e = record { plain = rw e; is = rw e }

  pub skip-kind : kind_of w ≡ skip_kind → WordOf w on_skip
  unfolding plain_frame
  skip-kind e = record { plain = rw e; is = rw e }

  pub right-kind : kind_of w ≡ right_kind → WordOf w (on_right (value_in (held_function w)))
  unfolding plain_frame
  right-kind e = record { plain = rw e; is = rw e }

  pub node-kind : kind_of w ≡ node_kind → WordOf w (on_node (held_attribute w))
  unfolding plain_frame
  node-kind e = record { plain = rw e; is = rw e }

  pub parameter-kind : kind_of w ≡ parameter_kind → WordOf w (on_parameter (value_in (held_node w)) (held_attribute w))
  unfolding plain_frame
  parameter-kind e = record { plain = rw e; is = rw e }

  pub forward-kind : kind_of w ≡ forward_kind → WordOf w (on_forward (held_attribute w))
  unfolding plain_frame
  forward-kind e = record { plain = rw e; is = rw e }

-- the words that are written
pub right-word : {v : Value} {p : ℕ} → Packs v p → WordOf (right_word p) (on_right v)
right-word {v} {p} h = rw (holds, h.0) at (right-kind (right_word p) (omega arith))
  where
    holds : held_function (right_word p) ≡ p
    holds = omega arith

pub node-word : {a : ℕ} → a < 32 → WordOf (node_word a) (on_node a)
node-word {a} h = rw holds at (node-kind (node_word a) (omega arith))
  where
    holds : held_attribute (node_word a) ≡ a
    holds = omega arith

pub parameter-word : {v : Value} {a p : ℕ} → a < 32 → Packs v p → WordOf (parameter_word a p) (on_parameter v a)
parameter-word {v} {a} {p} small h = rw (value, number, h.0) at (parameter-kind (parameter_word a p) (omega arith))
  where
    value : held_node (parameter_word a p) ≡ p
    value = omega arith

    number : held_attribute (parameter_word a p) ≡ a
    number = omega arith

pub forward-word : {a : ℕ} → a < 32 → WordOf (forward_word a) (on_forward a)
forward-word {a} h = rw holds at (forward-kind (forward_word a) (omega arith))
  where
    holds : held_attribute (forward_word a) ≡ a
    holds = omega arith

-- ---- Frames

module _ (sheet question forms : List ℕ) where
  abbrev frames_of : List ℕ → ℕ → ℕ → List Frame
  frames_of words n k = frames_in sheet question words forms n k

  -- a word further up is none of theirs
  pub frames-below : (words : List ℕ) (i w n k : ℕ) → n ≤ i → frames_of (set words i w) n k ≡ frames_of words n k
  unfolding frames_in
  frames-below words i w zero k h = refl
  frames-below words i w (suc n) k h =
      rw (get_or-set_other words i n w 0 (omega arith), frames-below words i w n k (omega arith), frames-below words i w n (k - 1) (omega arith))

  frame-on-top : (words : List ℕ) (n k : ℕ) {f : Frame} → WordOf (get_or words n 0) f → frames_of words (suc n) k ≡ f ∷ frames_of words n k
  unfolding frames_in
  frame-on-top words n k p = rw (p.plain, p.is)

  form-on-top : (words : List ℕ) (n k : ℕ) → kind_of (get_or words n 0) ≡ form_kind
      → frames_of words (suc n) k ≡ on_form (form_occurrence sheet forms (k - 1)) (form_rest sheet question forms (k - 1)) ∷ frames_of words n (k - 1)
  unfolding frames_in
  form-on-top words n k e = rw e

  -- a frame is pushed
  pub pushed-frame : (words : List ℕ) (n k : ℕ) {w : ℕ} {f : Frame} → n < length words → WordOf w f
      → frames_of (set words n w) (n + 1) k ≡ f ∷ frames_of words n k
  pushed-frame words n k {w} {f} h p =
      rw add-one (frame-on-top (set words n w) n k (rw (get_or-set_same words n w 0 h) p) ∙ ap (λ fs. f ∷ fs) (frames-below words n w n k (omega arith)))

  -- the innermost frame, and the one that it is made
  module _ (words : List ℕ) (n k : ℕ) (some : 0 < n) where
    pub top_frame : {f : Frame} → WordOf (get_or words (n - 1) 0) f → frames_of words n k ≡ f ∷ frames_of words (n - 1) k
    top_frame p = ap (λ i. frames_of words i k) (omega arith) ∙ frame-on-top words (n - 1) k p

    pub top-form : kind_of (get_or words (n - 1) 0) ≡ form_kind
        → frames_of words n k ≡ on_form (form_occurrence sheet forms (k - 1)) (form_rest sheet question forms (k - 1)) ∷ frames_of words (n - 1) (k - 1)
    top-form e = ap (λ i. frames_of words i k) (omega arith) ∙ form-on-top words (n - 1) k e

    pub turned-frame : {w : ℕ} {f : Frame} → n ≤ length words → WordOf w f → frames_of (set words (n - 1) w) n k ≡ f ∷ frames_of words (n - 1) k
    turned-frame {w} h p = ap (λ i. frames_of (set words (n - 1) w) i k) (omega arith) ∙ pushed-frame words (n - 1) k (omega arith) p

  pub frames-count : (words : List ℕ) (n k : ℕ) → length (frames_of words n k) ≡ n
  unfolding frames_in
  frames-count words zero k = refl
  frames-count words (suc n) k =
      either (λ (fs : List Frame). length fs ≡ suc n) (eqb (kind_of (get_or words n 0)) form_kind) (λ e. ap suc (frames-count words n (k - 1))) (λ e. ap suc (frames-count words n k))

  -- the occurrence whose definition is running
  pub innermost-form : (words : List ℕ) (n k : ℕ) → 0 < length (open_forms (frames_of words n k))
      → innermost (open_forms (frames_of words n k)) ≡ form_occurrence sheet forms (k - 1)
  unfolding frames_in open_forms innermost
  innermost-form words zero k = λ h. absurd (omega arith)
  innermost-form words (suc n) k =
      either (λ fs. 0 < length (open_forms fs) → innermost (open_forms fs) ≡ form_occurrence sheet forms (k - 1)) (eqb (kind_of (get_or words n 0)) form_kind)
      (λ e h. refl)
      (λ e h. let same = plain-open (get_or words n 0) (frames_of words n k) in rw same (innermost-form words n k (rw same at h)))

-- ---- The rest of the running piece

-- what a list's front begins with, the list begins with
take-first : (n : ℕ) (l : List ℕ) {c : ℕ} {r : List ℕ} → take n l ≡ c ∷ r → get_or l 0 0 ≡ c
take-first zero l e = cc
take-first (suc n) [] e = cc
take-first (suc n) (x ∷ l) e = cc

drop-take : (w n : ℕ) (l : List ℕ) → drop w (take n l) ≡ take (n - w) (drop w l)
drop-take zero n l = rw sub-zero
drop-take (suc w) zero l = rw zero-sub
drop-take (suc w) (suc n) [] = rw take-nil
drop-take (suc w) (suc n) (x ∷ l) = rw suc-sub-suc (drop-take w n l)

pub piece-outside : (sheet question : List ℕ) (k : ℕ) → k ≡ 0 → piece_in sheet question k ≡ question
unfolding piece_in
piece-outside sheet question k is = rw is

pub piece-inside : (sheet question : List ℕ) (k : ℕ) → (k ≡ 0 → ⊥) → piece_in sheet question k ≡ sheet
unfolding piece_in
piece-inside sheet question zero h = absurd (h refl)
piece-inside sheet question (suc k) h = refl

pub ruleset piece_laws = (piece-outside, piece-inside)

module _ (sheet question : List ℕ) (k at end : ℕ) where
  abbrev rest : ℕ → List ℕ
  rest i = rest_of sheet question k i end

  pub rest-on : (w : ℕ) → rest (at + w) ≡ drop w (rest at)
  unfolding rest_of
  rest-on w =
      let left : end - (at + w) ≡ end - at - w = omega arith in
      rw (drop-take, drop-drop, left)

  pub rest-length : end ≤ length (piece_in sheet question k) → length (rest at) ≡ end - at
  unfolding rest_of
  rest-length h = omega (arith, length-take (end - at) (drop at (piece_in sheet question k)), length-drop at (piece_in sheet question k))

  module _ {c : ℕ} {l : List ℕ} (e : rest at ≡ c ∷ l) where
    -- it reaches to the end
    pub rest-inside : end ≤ length (piece_in sheet question k) → at + suc (length l) ≡ end
    rest-inside h = omega (arith, rest-length h, ap length e)

    -- its first byte is the piece's at the place reached
    pub rest-first : get_or (piece_in sheet question k) at 0 ≡ c
    unfolding rest_of
    rest-first = rw (get_or-drop, add-zero) at (take-first (end - at) (drop at (piece_in sheet question k)) e)

    -- what stands behind it
    pub rest-behind : (w : ℕ) → rest (at + (1 + w)) ≡ drop w l
    rest-behind w = rw (rest-on (1 + w), e, one-add) refl
