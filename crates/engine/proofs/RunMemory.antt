-- The array of a run: what is read and written among its frames and its forms, and that the index of the open forms stays as it was.
use mathlib.Core.List.{List}
use mathlib.Core.Path.{◌≡◌, refl, sym, ap, ◌∙◌}
use Prim.Native.Nat.{ℕ, ◌+◌, ◌*◌, ◌-◌, ◌/◌, ◌%◌, ◌≤◌, ◌<◌}
use native.Mathlib.Omega.{arith}
use lib.ListN.{length, take, drop, get_or, set, length-take, length-drop}
use lib.Seq.{take-set-le, drop-set-lt, take-set-lt, drop-set-add, get_or-take, get_or-drop}
use Rattle.saiga.specs.declared.Value.{Value}
use Rattle.saiga.specs.declared.Value.TheVariants.{Node as node}
use Rattle.saiga.specs.Limits.{depth_limit}
use Rattle.saiga.specs.Values.{base_of, of_word}
use Rattle.values.specs.Layout.{parameter_at}
use Rattle.engine.specs.Decode.{frame_limit, forms_size, opens_size, opens_place, run_size, form_place, words_in, forms_in, opens_in, form_occurrence}
use Rattle.engine.specs.Steps.{this_node, this_parameter}
use Rattle.engine.specs.Represents.{Packs}
use Rattle.engine.specs.Ready.{memory_of, innermost_place, NodeReady, ParameterReady, Rewrites}
use Rattle.engine.specs.declared.Registers.{Registers}

-- ---- Lengths

pub words-length : (run : List ℕ) → length run ≡ run_size → length (words_in run) ≡ frame_limit
unfolding words_in
words-length run is = simp length-take (omega arith)

pub forms-length : (run : List ℕ) → length run ≡ run_size → length (forms_in run) ≡ forms_size
unfolding forms_in
forms-length run is = simp (length-take, length-drop) (omega arith)

pub opens-length : (run : List ℕ) → length run ≡ run_size → length (opens_in run) ≡ opens_size
unfolding opens_in
opens-length run is = simp length-drop (omega arith)

pub run_length : (run : List ℕ) → length (opens_in run) ≡ opens_size → length run ≡ run_size
unfolding opens_in
run_length run opens = omega (arith, length-drop opens_place run)

-- ---- Reading

pub frame_at : (run : List ℕ) (i : ℕ) → i < frame_limit → get_or run i 0 ≡ get_or (words_in run) i 0
unfolding words_in
frame_at run i h = sym (get_or-take frame_limit run i 0 h)

-- number i of the forms
pub form-at : (run : List ℕ) (i j : ℕ) → j ≡ frame_limit + i → i < forms_size → get_or run j 0 ≡ get_or (forms_in run) i 0
unfolding forms_in
form-at run i j is small = rw is (sym (get_or-take forms_size (drop frame_limit run) i 0 small ∙ get_or-drop frame_limit run i 0))

-- and of their index
pub open_at : (run : List ℕ) (i j : ℕ) → j ≡ opens_place + i → get_or run j 0 ≡ get_or (opens_in run) i 0
unfolding opens_in
open_at run i j is = rw is (sym (get_or-drop opens_place run i 0))

-- what stands at the place `f` of the innermost form
module _ (run : List ℕ) (m : Registers) (f : ℕ) (is : f ≡ innermost_place m) where
  pub node-read : NodeReady run m → node (get_or run f 0 / 32) ≡ this_node (forms_in run) m
  node-read ready = ap (λ x. node (x / 32)) (form-at run (4 * (m.forms - 1)) f is (omega (arith, ready.opened, ready.few)))

  module _ (sheet : List ℕ) (code : ℕ) (typed : code ≡ parameter_at sheet (get_or run f 0 % 32)) where
    pub parameter-read : ParameterReady sheet run m → (v : Value) → v ≡ of_word (base_of code) (get_or run (f + 1) 0) → v ≡ this_parameter sheet (forms_in run) m
    unfolding form_occurrence
    parameter-read ready v of =
        let k = 4 * (m.forms - 1) in
        let small : k + 1 < forms_size = omega (arith, ready.node.opened, ready.node.few) in
        of ∙ rw (typed, form-at run k f is (omega arith), form-at run (k + 1) (f + 1) (omega (arith, is)) small)

pub ruleset form_reads = (node-read, parameter-read)

-- ---- Writing

opens_kept : (run : List ℕ) (j w : ℕ) → j < opens_place → opens_in (set run j w) ≡ opens_in run
unfolding opens_in
opens_kept run j w h = drop-set-lt opens_place run j w h

pub frame-words : (run : List ℕ) (i w : ℕ) → i < frame_limit → words_in (set run i w) ≡ set (words_in run) i w
unfolding words_in
frame-words run i w h = take-set-lt frame_limit run i w h

pub frame-forms : (run : List ℕ) (i w : ℕ) → i < frame_limit → forms_in (set run i w) ≡ forms_in run
unfolding forms_in
frame-forms run i w h = ap (take forms_size) (drop-set-lt frame_limit run i w h)

pub frame-beyond : (run : List ℕ) (i w : ℕ) → i < frame_limit → opens_in (set run i w) ≡ opens_in run
frame-beyond run i w h = opens_kept run i w (omega arith)

-- The innermost frame's word is made one that holds a value.
pub rewritten : {m : Registers} {run run' : List ℕ} {word : ℕ → ℕ} {packed w : ℕ} → Packs m.value packed → w ≡ word packed
    → words_in run' ≡ set (words_in run) (m.frames - 1) w → forms_in run' ≡ forms_in run → opens_in run' ≡ opens_in run → Rewrites m run run' word
rewritten {packed = packed} packs is words forms beyond =
    record { packed = packed; packs = packs; written = λ store. rw (words, forms, is); beyond = beyond }

pub ruleset frame_writes = (frame-words, frame-forms, frame-beyond)

pub words-kept : (run : List ℕ) (j w : ℕ) → frame_limit ≤ j → words_in (set run j w) ≡ words_in run
unfolding words_in
words-kept run j w h = take-set-le frame_limit run j w h

form-written : (run : List ℕ) (i j w : ℕ) → j ≡ frame_limit + i → i < forms_size → forms_in (set run j w) ≡ set (forms_in run) i w
unfolding forms_in
form-written run i j w is small = rw (is, drop-set-add frame_limit run i w) (take-set-lt forms_size (drop frame_limit run) i w small)

pub forms-kept : (run : List ℕ) (j w : ℕ) → opens_place ≤ j → forms_in (set run j w) ≡ forms_in run
unfolding forms_in
forms-kept run j w h =
    let i = j - frame_limit in
    let is : j ≡ frame_limit + i = omega arith in
    rw (is, drop-set-add frame_limit run i w) (take-set-le forms_size (drop frame_limit run) i w (omega arith))

pub open-written : (run : List ℕ) (i j w : ℕ) → j ≡ opens_place + i → opens_in (set run j w) ≡ set (opens_in run) i w
unfolding opens_in
open-written run i j w is = rw is (drop-set-add opens_place run i w)

-- A form is opened: its four numbers are written behind those of the forms around it, and its frame's word.
module _ (run : List ℕ) (k a b c d : ℕ) (few : k < depth_limit) where
  abbrev place : ℕ
  place = form_place k

  abbrev one : List ℕ
  one = set run place a

  abbrev two : List ℕ
  two = set one (place + 1) b

  abbrev three : List ℕ
  three = set two (place + 2) c

  abbrev four : List ℕ
  four = set three (place + 3) d

  same-words : words_in four ≡ words_in run
  same-words =
      words-kept three (place + 3) d (omega arith)
      ∙ words-kept two (place + 2) c (omega arith)
      ∙ words-kept one (place + 1) b (omega arith)
      ∙ words-kept run place a (omega arith)

  abbrev after : List ℕ
  after = set (set (set (set (forms_in run) (4 * k) a) (4 * k + 1) b) (4 * k + 2) c) (4 * k + 3) d

  form-after : forms_in four ≡ after
  form-after =
      form-written three (4 * k + 3) (place + 3) d (omega arith) (omega arith)
      ∙ ap (λ l. set l (4 * k + 3) d)
      (form-written two (4 * k + 2) (place + 2) c (omega arith) (omega arith)
      ∙ ap (λ l. set l (4 * k + 2) c)
      (form-written one (4 * k + 1) (place + 1) b (omega arith) (omega arith) ∙ ap (λ l. set l (4 * k + 1) b) (form-written run (4 * k) place a refl (omega arith))))

  pub form-opened : (store : List ℕ) (top word : ℕ) → top < frame_limit
      → memory_of store (set four top word) ≡ record { store = store; words = set (words_in run) top word; forms = after }
  form-opened store top word h = rw (frame-words four top word h, frame-forms four top word h, same-words, form-after)

  pub form-beyond : (top word : ℕ) → top < frame_limit → opens_in (set four top word) ≡ opens_in run
  form-beyond top word h =
      frame-beyond four top word h
      ∙ opens_kept three (place + 3) d (omega arith)
      ∙ opens_kept two (place + 2) c (omega arith)
      ∙ opens_kept one (place + 1) b (omega arith)
      ∙ opens_kept run place a (omega arith)
