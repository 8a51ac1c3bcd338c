-- The check of a sheet as the code makes it: one pass that keeps, beside the offset reached, the counts of attributes and nodes and an
-- index of where each figure, each rule and each forward stands. Scan.antt of proofs/ shows that it is check_sheet.
use Rattle.std.specs.Prelude.{Bool, true, false, not, ◌&&◌, ◌||◌, cond, List, ◌≡◌, ℕ, zero, suc, ◌+◌, ◌*◌, ◌≤◌, ◌<◌, leb, ltb, eqb, length, take, drop, get_or, set}
use Rattle.std.specs.Prelude.{Option, None as none, Some as some, Result, Ok, Err}
use Rattle.saiga.specs.Limits.{sheet_limit, attribute_limit, node_limit, last_kind, expression_limit}
use Rattle.saiga.specs.Values.{base_of, base, of_bytes, is_word, of_word}
use Rattle.saiga.specs.declared.Base.{Base}
use Rattle.saiga.specs.declared.Base.TheVariants.{Unit as unit_t, Node as node_t}
use Rattle.saiga.specs.declared.Value.{Value}
use Rattle.saiga.specs.Expressions.{Whole, no_expression, expression, read_whole}
use Rattle.saiga.specs.Types.{has_type}
use Rattle.saiga.specs.Gaps.{first_gap}
use Rattle.saiga.specs.Sheet.{Sheet, node_count, attribute_count, figure_for, rule_for, forward_for, attribute_part, node_part, figure_part, rule_part, Command, attribute_command, node_command, figure_command, rule_command, forward_command, end_command, no_command, command_of, Checked, refused◌at_place◌, accepted, check_sheet}
use Rattle.saiga.specs.Stops.{stop_number, checked_of, says}
use Rattle.saiga.specs.declared.stops.Refusal.{Refusal}
use Rattle.sheets.specs.declared.Counts.{Counts}
use Rattle.sheets.specs.declared.Part.{Part}
use Rattle.sheets.specs.declared.Part.TheVariants.{Attributes, Nodes, Figures, Rules}
use Rattle.sheets.specs.declared.Progress.{Progress}
use Rattle.sheets.specs.declared.lookup.FoundPiece.{FoundPiece}
use Rattle.sheets.specs.declared.lookup.FoundPiece.TheVariants.{OfRule, OfForward}
use Rattle.values.specs.Cells.{emptied}
use Rattle.values.specs.Layout.{result_at, parameter_at, kind_at, attributes_in, kinds_in}

-- ---- What stands where

-- The index has a number for each pair of a node and an attribute: the offset of the figure's command, and one. It has a number for each pair of a kind and
-- an attribute, and for each kind: the offset of the length in the rule's and in the forward's command, which is a piece's length in both. It is 0 where
-- there is none. Behind these an accepted sheet's has the numbers of its attributes and nodes.
abbrev pub figure_place : ℕ → ℕ → ℕ
figure_place n a = n * attribute_limit + a

abbrev pub pieces_at : ℕ
pieces_at = 32768

abbrev pub piece_places : ℕ
piece_places = 528

abbrev pub rule_place : ℕ → ℕ → ℕ
rule_place k a = pieces_at + k * attribute_limit + a

abbrev pub forward_place : ℕ → ℕ
forward_place k = 33280 + k

abbrev pub attributes_place : ℕ
attributes_place = 33296

abbrev pub nodes_place : ℕ
nodes_place = 33297

abbrev pub index_size : ℕ
index_size = 33298

-- the figure of the command at an offset, by the result type of its attribute, and the piece whose length stands behind an offset
unfoldable pub figure_at : List ℕ → ℕ → ℕ → Value
figure_at bytes a at = of_word (base_of (result_at bytes a)) (of_bytes (take 4 (drop (at + 4) bytes)))

unfoldable pub piece_at : List ℕ → ℕ → List ℕ
piece_at bytes at = take (of_bytes (take 2 (drop (at + 1) bytes))) (drop (at + 3) bytes)

unfoldable pub indexed : {A : Type 0} → ℕ → (ℕ → A) → Option A
indexed zero f = none
indexed (suc at) f = some (f at)

-- ---- Commands

-- the number of the part reached
abbrev pub part_number : Part → ℕ
part_number Attributes = attribute_part
part_number Nodes = node_part
part_number Figures = figure_part
part_number Rules = rule_part

-- What reading one command comes to, with the index after it.
infix 20 stops◌at_offset◌
pub data Scanned : Type 0 where
  stops◌at_offset◌ : ℕ → ℕ → Scanned
  ends : Scanned
  goes_on : Progress → List ℕ → Scanned

unfoldable pub demand : Bool → ℕ → Scanned → Scanned
demand true number r = r
demand false number r = stops number at_offset 0

unfoldable pub scan_attribute : List ℕ → Progress → List ℕ → Scanned
scan_attribute bytes p index =
    let at = p.at in
    demand (leb (part_number p.part) attribute_part && leb (at + 3) (length bytes)) 2
    (demand (ltb p.attributes attribute_limit) 3
    (demand (ltb (get_or bytes (at + 1) 0) 4 && ltb (get_or bytes (at + 2) 0) 4) 4
    (goes_on record p { at = at + 3; part = Attributes; attributes = p.attributes + 1 } index)))

-- A node's row of the index is emptied when the node is declared.
unfoldable pub scan_node : List ℕ → Progress → List ℕ → Scanned
scan_node bytes p index =
    let at = p.at in
    demand (leb (part_number p.part) node_part && leb (at + 2) (length bytes)) 2
    (demand (ltb p.nodes node_limit) 3
    (demand (leb (get_or bytes (at + 1) 0) last_kind) 4
    (goes_on record p { at = at + 2; part = Nodes; nodes = p.nodes + 1 } (emptied index (figure_place p.nodes 0) attribute_limit))))

unfoldable pub scan_figure : List ℕ → Progress → List ℕ → Scanned
scan_figure bytes p index =
    let at = p.at in
    let n = of_bytes (take 2 (drop (at + 1) bytes)) in
    let a = get_or bytes (at + 3) 0 in
    let w = of_bytes (take 4 (drop (at + 4) bytes)) in
    demand (leb (part_number p.part) figure_part && leb (at + 8) (length bytes)) 2
    (demand (ltb n p.nodes && ltb a p.attributes && is_word p.nodes (base_of (result_at bytes a)) w) 4
    (demand (eqb (get_or index (figure_place n a) 0) 0) 5
    (goes_on record p { at = at + 8; part = Figures } (set index (figure_place n a) (at + 1)))))

-- The piece behind the offset `before`, for a place in the index. `q` is the type of 0x31, if it may be used, and `t` the piece's type.
unfoldable pub demand_piece : List ℕ → Progress → Base → Base → Whole → Scanned → Scanned
demand_piece bytes p q t no_expression r = stops 6 at_offset 0
demand_piece bytes p q t (expression e) r = demand (has_type (attributes_in bytes p.attributes) q (base t) e) 7 r

unfoldable pub scan_piece : List ℕ → Progress → List ℕ → ℕ → ℕ → Bool → Base → Base → Scanned
scan_piece bytes p index place before has-parameter q t =
    let n = of_bytes (take 2 (drop (before + 1) bytes)) in
    demand (eqb (get_or index place 0) 0) 5
    (demand_piece bytes p q t (read_whole record { nodes = p.nodes; attributes = p.attributes; has-this = true; has-parameter = has-parameter } (piece_at bytes before))
    (goes_on record p { at = before + 3 + n; part = Rules } (set index place (before + 1))))

unfoldable pub scan_rule : List ℕ → Progress → List ℕ → Scanned
scan_rule bytes p index =
    let at = p.at in
    let k = get_or bytes (at + 1) 0 in
    let a = get_or bytes (at + 2) 0 in
    let n = of_bytes (take 2 (drop (at + 3) bytes)) in
    demand (leb (part_number p.part) rule_part && leb (at + 5) (length bytes) && leb (at + 5 + n) (length bytes)) 2
    (demand (leb k last_kind && ltb a p.attributes) 4
    (scan_piece bytes p index (rule_place k a) (at + 2) true (base_of (parameter_at bytes a)) (base_of (result_at bytes a))))

unfoldable pub scan_forward : List ℕ → Progress → List ℕ → Scanned
scan_forward bytes p index =
    let at = p.at in
    let k = get_or bytes (at + 1) 0 in
    let n = of_bytes (take 2 (drop (at + 2) bytes)) in
    demand (leb (part_number p.part) rule_part && leb (at + 4) (length bytes) && leb (at + 4 + n) (length bytes)) 2
    (demand (leb k last_kind) 4
    (scan_piece bytes p index (forward_place k) (at + 1) false unit_t node_t))

unfoldable pub scan_end : List ℕ → Progress → Scanned
scan_end bytes p = cond (eqb (p.at + 1) (length bytes)) ends (stops 2 at_offset 1)

unfoldable pub scan_at : List ℕ → Progress → List ℕ → Command → Scanned
scan_at bytes p index attribute_command = scan_attribute bytes p index
scan_at bytes p index node_command = scan_node bytes p index
scan_at bytes p index figure_command = scan_figure bytes p index
scan_at bytes p index rule_command = scan_rule bytes p index
scan_at bytes p index forward_command = scan_forward bytes p index
scan_at bytes p index end_command = scan_end bytes p
scan_at bytes p index no_command = stops 2 at_offset 0

unfoldable pub scan_command : List ℕ → Progress → List ℕ → Scanned
scan_command bytes p index =
    cond (ltb p.at (length bytes)) (scan_at bytes p index (command_of (get_or bytes p.at 0))) (stops 2 at_offset 0)

-- ---- The pass for missing pairs

-- whether the index has a figure for a node, or a rule for its kind k
unfoldable pub pair_indexed : List ℕ → ℕ → ℕ → ℕ → Bool
pair_indexed index n k a = not (eqb (get_or index (figure_place n a) 0) 0) || not (eqb (get_or index (rule_place k a) 0) 0)

-- or a forward
unfoldable pub is_indexed : List ℕ → List ℕ → ℕ → ℕ → ℕ → Bool
is_indexed bytes index attributes n a =
    let k = kind_at bytes attributes n in
    pair_indexed index n k a || not (eqb (get_or index (forward_place k) 0) 0)

-- the first gap, as the index has it
abbrev pub missing_in : List ℕ → List ℕ → ℕ → ℕ → Option ℕ
missing_in bytes index attributes nodes = first_gap (is_indexed bytes index attributes) nodes attributes

-- The lowest attribute below a limit that a node lacks, if it lacks one.
abbrev pub Lacks : (ℕ → Bool) → ℕ → Option ℕ → Type 0
Lacks defined limit none = (b : ℕ) → b < limit → defined b ≡ true
Lacks defined limit (some a) = (a < limit) × (defined a ≡ false) × ((b : ℕ) → b < a → defined b ≡ true)

-- ---- The pass

pub record Scan : Type 0 where
  pub check : Checked Counts
  pub index : List ℕ

-- An accepted sheet's index gets the numbers of its attributes and nodes.
abbrev pub counted : ℕ → ℕ → List ℕ → List ℕ
counted attributes nodes index = set (set index attributes_place attributes) nodes_place nodes

unfoldable pub scanned : Progress → List ℕ → Option ℕ → Scan
scanned p index none =
    record { check = accepted record { attributes = p.attributes; nodes = p.nodes }; index = counted p.attributes p.nodes index }
scanned p index (some place) = record { check = refused 8 at_place place; index = index }

unfoldable pub scan_from : ℕ → List ℕ → Progress → List ℕ → Scan
scan_from zero bytes p index = record { check = refused 2 at_place p.at; index = index }
scan_from (suc k) bytes p index =
    elim (scan_command bytes p index) [
      | stops number at_offset offset ↦ record { check = refused number at_place (p.at + offset); index = index }
      | ends ↦ scanned p index (missing_in bytes index p.attributes p.nodes)
      | goes_on p' index' ↦ scan_from k bytes p' index'
    ]

abbrev pub start : Progress
start = record { at = 0; part = Attributes; attributes = 0; nodes = 0 }

-- The part of the index for rules and forwards is emptied first.
unfoldable pub scan_sheet : List ℕ → List ℕ → Scan
scan_sheet bytes index =
    cond (leb (length bytes) sheet_limit)
    (scan_from (suc (length bytes)) bytes start (emptied index pieces_at piece_places))
    record { check = refused 1 at_place 0; index = index }

-- ---- What it comes to

-- what the code says of an accepted sheet, and of a check
abbrev pub counts_of : Sheet → Counts
counts_of s = record { attributes = attribute_count s; nodes = node_count s }

unfoldable pub check_of : Checked Sheet → Checked Counts
check_of c = says counts_of c

-- that the command at an offset stands within the sheet's bytes and holds a word of its attribute's type; that the piece behind an offset does and may be
-- an expression
abbrev pub FigureFits : List ℕ → ℕ → ℕ → ℕ → Type 0
FigureFits bytes nodes a at =
    (at + 8 ≤ length bytes) × (is_word nodes (base_of (result_at bytes a)) (of_bytes (take 4 (drop (at + 4) bytes))) ≡ true)

abbrev pub PieceFits : List ℕ → ℕ → Type 0
PieceFits bytes at =
    (at + 3 + of_bytes (take 2 (drop (at + 1) bytes)) ≤ length bytes) × (of_bytes (take 2 (drop (at + 1) bytes)) ≤ expression_limit)

-- The bytes and the index have all that a sheet says: its attributes and kinds stand where they are looked for, and each figure, each rule and each
-- forward is the one at its number in the index, whose bytes are within the sheet's.
pub record Described (bytes : List ℕ) (s : Sheet) (index : List ℕ) : Type 0 where
  pub size : length index ≡ index_size
  pub short : length bytes ≤ sheet_limit
  pub attributes_are : s.attributes ≡ attributes_in bytes (attribute_count s)
  pub kinds_are : s.kinds ≡ kinds_in (drop (3 * attribute_count s) bytes) (node_count s)
  pub room : 3 * attribute_count s + 2 * node_count s ≤ length bytes
  pub attributes_bound : attribute_count s ≤ attribute_limit
  pub nodes_bound : node_count s ≤ node_limit
  pub types_bound : (a : ℕ) → a < attribute_count s → (result_at bytes a < 4) × (parameter_at bytes a < 4)
  pub kinds_bound : (n : ℕ) → n < node_count s → get_or s.kinds n 0 ≤ last_kind
  pub figures : (n a : ℕ) → n < node_count s → a < attribute_count s
      → figure_for s.figures n a ≡ indexed (get_or index (figure_place n a) 0) (figure_at bytes a)
  pub figure_fits : (n a at : ℕ) → n < node_count s → a < attribute_count s → get_or index (figure_place n a) 0 ≡ suc at
      → FigureFits bytes (node_count s) a at
  pub rules : (k a : ℕ) → k ≤ last_kind → a < attribute_count s → rule_for s.rules k a ≡ indexed (get_or index (rule_place k a) 0) (piece_at bytes)
  pub forwards : (k : ℕ) → k ≤ last_kind → forward_for s.forwards k ≡ indexed (get_or index (forward_place k) 0) (piece_at bytes)
  pub piece_fits : (place at : ℕ) → pieces_at ≤ place → place < attributes_place → get_or index place 0 ≡ suc at → PieceFits bytes at

-- The index of an accepted sheet has its counts too.
pub record Indexed (bytes : List ℕ) (s : Sheet) (index : List ℕ) : Type 0 where
  pub described : Described bytes s index
  pub attributes-in : get_or index attributes_place 0 ≡ attribute_count s
  pub nodes-in : get_or index nodes_place 0 ≡ node_count s

-- ---- What the code's functions answer

-- What is known where a command is read: the counts are within their limits and within the sheet's bytes.
pub record Reading (bytes : List ℕ) (p : Progress) : Type 0 where
  pub within : p.at ≤ length bytes
  pub short : length bytes ≤ sheet_limit
  pub room : 3 * p.attributes + 2 * p.nodes ≤ length bytes
  pub attributes_bound : p.attributes ≤ attribute_limit
  pub nodes_bound : p.nodes ≤ node_limit

-- And where the piece behind `before` is read, of the command at `at`, for a place in the index: its length and the piece itself are there.
pub record PieceAsked (bytes : List ℕ) (at place before : ℕ) : Type 0 where
  pub low : pieces_at ≤ place
  pub high : place < attributes_place
  pub behind : at < before
  pub room : before + 3 + of_bytes (take 2 (drop (before + 1) bytes)) ≤ length bytes

-- A reader answers what is known after its command, or nothing where it is the end; or a stop, with its place.
abbrev pub read_of : Result (Option Progress) Refusal → List ℕ → Scanned
read_of (Err r) index = stops (stop_number r.stop) at_offset r.place
read_of (Ok none) index = ends
read_of (Ok (some p)) index = goes_on p index

-- what was scanned of the command at an offset, with the place of a stop
abbrev pub placed : ℕ → Scanned → Scanned
placed at (stops number at_offset offset) = stops number at_offset (at + offset)
placed at ends = ends
placed at (goes_on p index) = goes_on p index

abbrev pub index_after : Scanned → List ℕ → List ℕ
index_after (stops number at_offset offset) index = index
index_after ends index = index
index_after (goes_on p after) index = after

-- What the code reads, with the index that it leaves, is what the definitions read; a stop and the end leave the index as it was.
pub record ReadAs (at : ℕ) (r : Result (Option Progress) Refusal) (after before : List ℕ) (t : Scanned) : Type 0 where
  pub read : read_of r after ≡ placed at t
  pub index_is : after ≡ index_after t before

-- A node, its attributes and its kind stand within the sheet's bytes and the index.
pub record Declared (bytes index : List ℕ) (attributes n : ℕ) : Type 0 where
  pub size : length index ≡ index_size
  pub room : 3 * attributes + 2 * n + 2 ≤ length bytes
  pub attributes_bound : attributes ≤ attribute_limit
  pub node_bound : n < node_limit
  pub kind_bound : kind_at bytes attributes n ≤ last_kind

abbrev pub scan_of : Result Counts Refusal → List ℕ → Scan
scan_of check index = record { check = checked_of check; index = index }

-- What the check comes to: the check of the definitions, and an index that has all that an accepted sheet says. What a refused sheet leaves in the
-- index is free; its length stays.
pub record Checks (bytes : List ℕ) (check : Result Counts Refusal) (index : List ℕ) : Type 0 where
  pub size : length index ≡ index_size
  pub checked : checked_of check ≡ check_of (check_sheet bytes)
  pub indexes : (s : Sheet) → check_sheet bytes ≡ accepted s → Indexed bytes s index

-- A declared node and a declared attribute of an indexed sheet.
pub record IndexedPair (bytes index : List ℕ) (n a : ℕ) : Type 0 where
  pub sheet : Sheet
  pub known : Indexed bytes sheet index
  pub node : n < node_count sheet
  pub attribute : a < attribute_count sheet

-- the numbers that the index has for the rule of a node's kind and an attribute, and for the kind's forward
abbrev pub rule_number : List ℕ → List ℕ → ℕ → ℕ → ℕ
rule_number bytes index n a = get_or index (rule_place (kind_at bytes (get_or index attributes_place 0) n) a) 0

abbrev pub forward_number : List ℕ → List ℕ → ℕ → ℕ
forward_number bytes index n = get_or index (forward_place (kind_at bytes (get_or index attributes_place 0) n)) 0

-- what defines a pair without figure, by the two numbers
abbrev pub piece_for : ℕ → ℕ → FoundPiece
piece_for rule forward = cond (eqb rule 0) (OfForward forward) (OfRule rule)

-- a length stands at an offset, and its piece behind it
pub record PieceHere (bytes : List ℕ) (number : ℕ) : Type 0 where
  pub starts : 1 ≤ number
  pub short : length bytes ≤ sheet_limit
  pub room : number + 2 + of_bytes (take 2 (drop number bytes)) ≤ length bytes
