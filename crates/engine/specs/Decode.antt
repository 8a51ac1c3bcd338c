-- The machine that registers and lent memory hold.
use Rattle.std.specs.Prelude.{Bool, true, false, cond, List, [], ◌∷◌, ◌≡◌, ℕ, zero, suc, ◌+◌, ◌*◌, ◌-◌, ◌/◌, ◌≤◌, ◌<◌, eqb, length, take, drop, get_or}
use Rattle.saiga.specs.Limits.{expression_limit, depth_limit}
use Rattle.saiga.specs.Values.{base_of, of_word, to_word}
use Rattle.saiga.specs.declared.Value.{Value}
use Rattle.saiga.specs.Sheet.{Sheet, empty_sheet, Checked, refused◌at_place◌, accepted, check_sheet}
use Rattle.saiga.specs.Terms.{Occurrence}
use Rattle.saiga.specs.Caching.{Entry}
use Rattle.saiga.specs.Store.{check_store}
use Rattle.engine.specs.RunningPiece.{piece_in, rest_of}
use Rattle.stores.specs.Walks.{first_cell}
use Rattle.values.specs.Layout.{parameter_at}
use Rattle.values.specs.Packed.{value_in}
use Rattle.engine.specs.FrameWords.{pair_node, pair_attribute, kind_of, if_kind, left_kind, skip_kind, right_kind, node_kind, parameter_kind, form_kind, held_function, held_attribute, held_node}
use Rattle.engine.specs.Machine.{Frame, on_if, on_left, on_skip, on_right, on_node, on_parameter, on_forward, on_form, Mode, evaluating, returning, Machine, open_forms}
use Rattle.engine.specs.declared.Registers.{Registers}

-- the sheet that accepted bytes are
unfoldable pub sheet_in : Checked Sheet → Sheet
sheet_in (refused number at_place place) = empty_sheet
sheet_in (accepted s) = s

abbrev pub sheet_of : List ℕ → Sheet
sheet_of bytes = sheet_in (check_sheet bytes)

-- the entries of a store that passes
unfoldable pub entries_of : Checked (List Entry) → List Entry
entries_of (refused number at_place place) = []
entries_of (accepted entries) = entries

-- ---- The memory of a run

-- One lent array: the words of the frames, the open forms, four numbers to each, and the index of the open forms.
-- A frame has two bytes of its piece at least, used or still to come to: so there are at most 128 in each of 65 pieces, the question and the rules or forwards
-- of 64 open forms (Bounds.antt).
abbrev pub frame_limit : ℕ
frame_limit = (depth_limit + 1) * (expression_limit / 2)

abbrev pub forms_size : ℕ
forms_size = 4 * depth_limit

-- The index of the open forms: the cells of an index over as many keys, and for each form the cell into which it was put.
abbrev pub open_cells : ℕ
open_cells = first_cell depth_limit

abbrev pub opens_size : ℕ
opens_size = open_cells + depth_limit

abbrev pub opens_place : ℕ
opens_place = frame_limit + forms_size

abbrev pub run_size : ℕ
run_size = opens_place + opens_size

-- where the numbers of a form begin, by how many forms are around it
abbrev pub form_place : ℕ → ℕ
form_place i = frame_limit + 4 * i

unfoldable pub words_in : List ℕ → List ℕ
words_in run = take frame_limit run

unfoldable pub forms_in : List ℕ → List ℕ
forms_in run = take forms_size (drop frame_limit run)

unfoldable pub opens_in : List ℕ → List ℕ
opens_in run = drop opens_place run

-- ---- Frames and forms

-- the frame of a word, of one that is no form's
unfoldable pub plain_frame : ℕ → Frame
plain_frame w =
    cond (eqb (kind_of w) if_kind) on_if
    (cond (eqb (kind_of w) left_kind) on_left
    (cond (eqb (kind_of w) skip_kind) on_skip
    (cond (eqb (kind_of w) right_kind) (on_right (value_in (held_function w)))
    (cond (eqb (kind_of w) node_kind) (on_node (held_attribute w))
    (cond (eqb (kind_of w) parameter_kind) (on_parameter (value_in (held_node w)) (held_attribute w)) (on_forward (held_attribute w)))))))

-- A form is four numbers (FrameWords.antt): its occurrence, and where the piece around it goes on and ends.
unfoldable pub form_occurrence : List ℕ → List ℕ → ℕ → Occurrence
form_occurrence sheet forms k =
    let pair = get_or forms (4 * k) 0 in
    record {
      node = pair_node pair;
      attribute = pair_attribute pair;
      parameter = of_word (base_of (parameter_at sheet (pair_attribute pair))) (get_or forms (4 * k + 1) 0);
    }

unfoldable pub form_rest : List ℕ → List ℕ → List ℕ → ℕ → List ℕ
form_rest sheet question forms k = rest_of sheet question k (get_or forms (4 * k + 2) 0) (get_or forms (4 * k + 3) 0)

-- The first n words as frames, the innermost first, where k forms are open.
unfoldable pub frames_in : List ℕ → List ℕ → List ℕ → List ℕ → ℕ → ℕ → List Frame
frames_in sheet question words forms zero k = []
frames_in sheet question words forms (suc n) k =
    cond (eqb (kind_of (get_or words n 0)) form_kind)
    (on_form (form_occurrence sheet forms (k - 1)) (form_rest sheet question forms (k - 1)) ∷ frames_in sheet question words forms n (k - 1))
    (plain_frame (get_or words n 0) ∷ frames_in sheet question words forms n k)

-- ---- The machine

unfoldable pub mode_of : Bool → Value → Mode
mode_of true v = returning v
mode_of false v = evaluating

unfoldable pub machine_of : List ℕ → List ℕ → List ℕ → List ℕ → List ℕ → Registers → Machine
machine_of sheet question store words forms m =
    record {
      mode = mode_of m.returning m.value;
      rest = rest_of sheet question m.forms m.at m.end;
      frames = frames_in sheet question words forms m.frames m.forms;
      entries = entries_of (check_store (sheet_of sheet) store m.kept);
      steps = m.steps;
    }

-- What holds of the memory whenever the machine moves. A form's parameter is in its four-byte form, and its positions lie in the piece.
pub record Placed (sheet question forms : List ℕ) (k : ℕ) : Type 0 where
  pub word : to_word (form_occurrence sheet forms k).parameter ≡ get_or forms (4 * k + 1) 0
  pub from : get_or forms (4 * k + 2) 0 ≤ get_or forms (4 * k + 3) 0
  pub to : get_or forms (4 * k + 3) 0 ≤ length (piece_in sheet question k)

pub record Holds (sheet question store words forms : List ℕ) (m : Registers) : Type 0 where
  pub words_size : length words ≡ frame_limit
  pub forms-size : length forms ≡ forms_size
  pub few : m.forms ≤ depth_limit
  pub counted : length (open_forms (frames_in sheet question words forms m.frames m.forms)) ≡ m.forms
  pub from : m.at ≤ m.end
  pub to : m.end ≤ length (piece_in sheet question m.forms)
  pub placed : (k : ℕ) → k < m.forms → Placed sheet question forms k
  pub entries : List Entry
  pub stored : check_store (sheet_of sheet) store m.kept ≡ accepted entries
