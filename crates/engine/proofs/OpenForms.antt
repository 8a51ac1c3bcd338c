-- The open forms, by the frames of the machine and by the numbers in memory: their occurrences are the sheet's, and one of them is of an occurrence
-- exactly if one of them has its key.
use mathlib.Core.Bool.{Bool, true, false, false≢true}
use mathlib.Core.List.{List, [], ◌∷◌}
use mathlib.Core.Path.{◌≡◌, refl, sym, ◌∙◌, ap}
use Prim.Native.Nat.{ℕ, zero, suc, ◌+◌, ◌*◌, ◌-◌, ◌<◌}
use native.Mathlib.Omega.{arith}
use lib.Dec.{eqb}
use lib.ListN.{length, get_or}
use Rattle.saiga.specs.Values.{Ty, base, ◌⇒◌, to_word}
use Rattle.saiga.specs.declared.Base.TheVariants.{Bool as bool_t, Node as node_t}
use Rattle.saiga.specs.declared.Value.{Value}
use Rattle.saiga.specs.Types.{Attribute, attribute_at}
use Rattle.saiga.specs.Sheet.{Sheet}
use Rattle.saiga.specs.Terms.{Occurrence, val, cond, app, attr, form}
use Rattle.saiga.specs.Caching.{Running, same_occurrence, is_open}
use Rattle.saiga.specs.Sound.{ValueIn, OccurrenceIn, RunningIn, val∈, cond∈, app∈, attr∈, form∈, All, all_none, all_cons}
use Rattle.saiga.proofs.Equality.{same-occurrence, occurrence-refl, occurrence-settled}
use Rattle.saiga.proofs.Preservation.{either}
use Rattle.stores.specs.Keys.{same_key}
use Rattle.stores.proofs.Searches.{same-key, key-refl}
use Rattle.engine.specs.Machine.{Frame, on_if, on_left, on_skip, on_right, on_node, on_parameter, on_forward, on_form, open_forms, plug}
use Rattle.engine.specs.FrameWords.{kind_of, if_kind, left_kind, skip_kind, right_kind, node_kind, parameter_kind, form_kind}
use Rattle.engine.specs.Decode.{plain_frame, form_occurrence, frames_in}
use Rattle.engine.specs.OpenKeys.{form_key, key_open}
use Rattle.engine.proofs.StoreWritten.{key_of}

-- ---- Types

module _ {nodes : ℕ} {sig : List Attribute} where
  -- what a rule of the types says of the parts
  pub val-in : {v : Value} {T : Ty} → RunningIn nodes sig (val v) T → ValueIn nodes T v
  val-in (val∈ h) = h

  cond-in : {c t e : Running} {T : Ty} → RunningIn nodes sig (cond c t e) T → (U : Ty) × RunningIn nodes sig c U
  cond-in (cond∈ c t e) = (base bool_t, c)

  app-in : {f x : Running} {T : Ty} → RunningIn nodes sig (app f x) T → ((U : Ty) × RunningIn nodes sig f U) × ((U : Ty) × RunningIn nodes sig x U)
  app-in (app∈ {B = B} {T = T} f x) = ((B ⇒ T, f), (base B, x))

  pub attr-in : {n x : Running} {a : ℕ} {T : Ty} → RunningIn nodes sig (attr n a x) T
      → (a < length sig) × RunningIn nodes sig n (base node_t) × RunningIn nodes sig x (base (attribute_at sig a).parameter-type)
  attr-in (attr∈ a n x) = (a, n, x)

  pub form_in : {o : Occurrence} {e : Running} {T : Ty} → RunningIn nodes sig (form o e) T
      → OccurrenceIn nodes sig o × RunningIn nodes sig e (base (attribute_at sig o.attribute).result)
  form_in (form∈ o e) = (o.0, rw o.1 at e)

  -- A part of what is of a type is of a type.
  pub plug-in : (s : Sheet) (fs : List Frame) (t : Running) (l : List ℕ) {T : Ty} → RunningIn nodes sig (plug s fs t l) T → (U : Ty) × RunningIn nodes sig t U
  unfolding plug
  plug-in s [] t l {T} h = (T, h)
  plug-in s (on_if ∷ fs) t l h = cond-in (plug-in s fs _ _ h).1
  plug-in s (on_left ∷ fs) t l h = (app-in (plug-in s fs _ _ h).1).0
  plug-in s (on_skip ∷ fs) t l h = plug-in s fs t _ h
  plug-in s (on_right v ∷ fs) t l h = (app-in (plug-in s fs _ _ h).1).1
  plug-in s (on_node a ∷ fs) t l h = (_, (attr-in (plug-in s fs _ _ h).1).1)
  plug-in s (on_parameter v a ∷ fs) t l h = (_, (attr-in (plug-in s fs _ _ h).1).2)
  plug-in s (on_forward a ∷ fs) t l h = (_, (attr-in (plug-in s fs _ _ h).1).1)
  plug-in s (on_form o outer ∷ fs) t l h = (_, (form_in (plug-in s fs _ _ h).1).1)

-- ---- Frames and forms

-- every frame but a form's leaves the open forms as they are
pub plain-open : (w : ℕ) (fs : List Frame) → open_forms (plain_frame w ∷ fs) ≡ open_forms fs
unfolding plain_frame open_forms
plain-open w fs =
    either P (eqb (kind_of w) if_kind) (λ _. refl)
    (λ _. either P (eqb (kind_of w) left_kind) (λ _. refl)
    (λ _. either P (eqb (kind_of w) skip_kind) (λ _. refl)
    (λ _. either P (eqb (kind_of w) right_kind) (λ _. refl)
    (λ _. either P (eqb (kind_of w) node_kind) (λ _. refl)
    (λ _. either P (eqb (kind_of w) parameter_kind) (λ _. refl) (λ _. refl))))))
  where
    P : Frame → Type 0
    P f = open_forms (f ∷ fs) ≡ open_forms fs

-- ---- By their occurrences

-- The forms around a part of what is of a type are of occurrences of the sheet.
pub forms-in : {nodes : ℕ} {sig : List Attribute} (s : Sheet) (fs : List Frame) (t : Running) (l : List ℕ) {T : Ty} → RunningIn nodes sig (plug s fs t l) T
    → All (OccurrenceIn nodes sig) (open_forms fs)
unfolding plug open_forms
forms-in s [] t l h = all_none
forms-in s (on_if ∷ fs) t l h = forms-in s fs _ _ h
forms-in s (on_left ∷ fs) t l h = forms-in s fs _ _ h
forms-in s (on_skip ∷ fs) t l h = forms-in s fs t _ h
forms-in s (on_right v ∷ fs) t l h = forms-in s fs _ _ h
forms-in s (on_node a ∷ fs) t l h = forms-in s fs _ _ h
forms-in s (on_parameter v a ∷ fs) t l h = forms-in s fs _ _ h
forms-in s (on_forward a ∷ fs) t l h = forms-in s fs _ _ h
forms-in s (on_form o outer ∷ fs) t l h = all_cons (form_in (plug-in s fs (form o t) outer h).1).0 (forms-in s fs (form o t) outer h)

-- the occurrences of the first k forms in memory, the innermost first
unfoldable forms_from : List ℕ → List ℕ → ℕ → List Occurrence
forms_from sheet forms zero = []
forms_from sheet forms (suc k) = form_occurrence sheet forms k ∷ forms_from sheet forms k

module _ (sheet question words forms : List ℕ) where
  -- They are the open forms of the frames, where that many are open.
  open-are : (n k : ℕ) → length (open_forms (frames_in sheet question words forms n k)) ≡ k → open_forms (frames_in sheet question words forms n k) ≡ forms_from sheet forms k
  unfolding frames_in open_forms forms_from
  open-are zero zero counted = refl
  open-are zero (suc k) counted = absurd (omega arith)
  open-are (suc n) k counted = go (eqb (kind_of (get_or words n 0)) form_kind) refl (λ j h. open-are n j h)
    where
      go : (b : Bool) → eqb (kind_of (get_or words n 0)) form_kind ≡ b
          → ((j : ℕ) → length (open_forms (frames_in sheet question words forms n j)) ≡ j → open_forms (frames_in sheet question words forms n j) ≡ forms_from sheet forms j)
          → open_forms (frames_in sheet question words forms (suc n) k) ≡ forms_from sheet forms k
      go true e below =
          let one_more = rw e at counted in
          let k-is : k ≡ suc (k - 1) = omega arith in
          rw e (ap (λ l. form_occurrence sheet forms (k - 1) ∷ l) (below (k - 1) (omega arith)) ∙ ap (forms_from sheet forms) (sym k-is))
      go false e below = rw (e, plain-open) (below k (rw (e, plain-open) at counted))

-- ---- By their keys

module _ {nodes : ℕ} {sig : List Attribute} (o : Occurrence) (o-in : OccurrenceIn nodes sig o) where
  -- An occurrence of the sheet is settled by its key.
  key-settles : (p : Occurrence) → OccurrenceIn nodes sig p → key_of p ≡ key_of o → p ≡ o
  key-settles p p-in same = occurrence-settled p p-in o o-in (ap (λ q. q.node) same) (ap (λ q. q.attribute) same) (ap (λ q. q.word) same)

  pub same-by-key : (p : Occurrence) → OccurrenceIn nodes sig p → same_occurrence p o ≡ same_key (key_of p) (key_of o)
  same-by-key p p-in = go (same_occurrence p o) refl (same_key (key_of p) (key_of o)) refl
    where
      go : (b : Bool) → same_occurrence p o ≡ b → (c : Bool) → same_key (key_of p) (key_of o) ≡ c → b ≡ c
      go true e true f = refl
      go true e false f = absurd (false≢true (sym f ∙ rw (same-occurrence p o e) (key-refl (key_of o))))
      go false e true f = absurd (false≢true (sym e ∙ rw (key-settles p p-in (same-key _ _ f)) (occurrence-refl o o-in)))
      go false e false f = refl

  module _ (sheet forms : List ℕ) where
    open-from : (k : ℕ) → All (OccurrenceIn nodes sig) (forms_from sheet forms k)
        → ((j : ℕ) → j < k → to_word (form_occurrence sheet forms j).parameter ≡ get_or forms (4 * j + 1) 0)
        → is_open (forms_from sheet forms k) o ≡ key_open forms k (key_of o)
    unfolding forms_from is_open key_open form_key form_occurrence
    open-from zero all words = refl
    open-from (suc k) (all_cons p-in all) words =
        rw (same-by-key (form_occurrence sheet forms k) p-in, key-is, open-from k all (λ j h. words j (omega arith)))
      where
        key-is : key_of (form_occurrence sheet forms k) ≡ form_key forms k
        key-is i = record { node = (form_key forms k).node; attribute = (form_key forms k).attribute; word = words k (omega arith) i }

    -- The form of an occurrence is open exactly if a form in memory has its key.
    pub open-by-key : (question run : List ℕ) (n k : ℕ) → length (open_forms (frames_in sheet question run forms n k)) ≡ k
        → All (OccurrenceIn nodes sig) (open_forms (frames_in sheet question run forms n k))
        → ((j : ℕ) → j < k → to_word (form_occurrence sheet forms j).parameter ≡ get_or forms (4 * j + 1) 0)
        → is_open (open_forms (frames_in sheet question run forms n k)) o ≡ key_open forms k (key_of o)
    open-by-key question run n k counted all words =
        let are = open-are sheet question run forms n k counted in
        ap (λ l. is_open l o) are ∙ open-from k (rw are at all) words
