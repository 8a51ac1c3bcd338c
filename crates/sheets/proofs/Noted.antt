-- The rules and the forwards of a sheet stay noted from command to command.
use mathlib.Core.Bool.{Bool, true, false, cond, and-eq-true_iff}
use mathlib.Core.List.{List}
use Rattle.std.specs.Prelude.{Option, None as none, Some as some, Result, Ok, Err}
use mathlib.Core.Path.{◌≡◌, refl, sym, ap, ◌∙◌}
use Prim.Native.Nat.{ℕ, suc, ◌+◌, ◌-◌, ◌≤◌, ◌<◌}
use native.Mathlib.Omega.{arith}
use lib.Dec.{eqb}
use lib.ListN.{length, take, drop, get_or, set, length-take}
use lib.Seq.{get_or-drop, get_or-set_other}
use borrow.Author.Tests.{ltb-true}
use Rattle.saiga.specs.Values.{of_bytes}
use Rattle.values.specs.Cells.{emptied}
use Rattle.values.proofs.Cells.{emptied-inside, emptied-outside}
use Rattle.expressions.specs.declared.types.«Type».{«Type»}
use Rattle.expressions.specs.Noted.{Before, NotesWhole}
use Rattle.expressions.proofs.Noting.{noted-same}
use Rattle.saiga.specs.Sheet.{refused◌at_place◌, accepted}
use Rattle.saiga.specs.declared.stops.Refusal.{Refusal}
use Rattle.sheets.specs.declared.Counts.{Counts}
use Rattle.sheets.specs.declared.Progress.{Progress}
use Rattle.sheets.proofs.Told.{told-ends, told-goes-on}
use Rattle.sheets.specs.Scan.{figure_place, pieces_at, piece_places, attributes_place, nodes_place, index_size, piece_at, Scanned, stops◌at_offset◌, ends, goes_on, demand, scan_attribute, scan_node, scan_figure, scan_end, Reading, PieceAsked, ReadAs, scanned, scan_of}
use Rattle.sheets.specs.Notes.{PieceNoted, NotedTo, NotesOn, ChecksNotes}
use Rattle.sheets.proofs.Indexed.{stored-fits}

-- ---- Commands without a piece

-- the pass goes on, and the part of the index for pieces is as before
abbrev Steady : Progress → List ℕ → Scanned → Type 0
Steady p index (stops number at_offset offset) = Unit {0}
Steady p index ends = Unit {0}
Steady p index (goes_on p' after) = (p.at ≤ p'.at) × ((place : ℕ) → pieces_at ≤ place → get_or after place 0 ≡ get_or index place 0)

module _ (p : Progress) (index : List ℕ) where
  demand-steady : (b : Bool) (number : ℕ) (t : Scanned) → (b ≡ true → Steady p index t) → Steady p index (demand b number t)
  unfolding demand
  demand-steady true number t h = h refl
  demand-steady false number t h = tt

  attribute-steady : (bytes : List ℕ) → Steady p index (scan_attribute bytes p index)
  unfolding scan_attribute
  attribute-steady bytes = demand-steady _ _ _ λ e. demand-steady _ _ _ λ f. demand-steady _ _ _ λ g. (omega arith, λ place h. refl)

  node-steady : (bytes : List ℕ) → Steady p index (scan_node bytes p index)
  unfolding scan_node
  node-steady bytes =
      demand-steady _ _ _ λ e. demand-steady _ _ _ λ f. demand-steady _ _ _ λ g.
      let few : p.nodes < 1024 = ltb-true p.nodes 1024 f in
      (omega arith, λ place h. emptied-outside index (figure_place p.nodes 0) 32 place (λ a b. omega arith))

  figure-steady : (bytes : List ℕ) → Reading bytes p → Steady p index (scan_figure bytes p index)
  unfolding scan_figure
  figure-steady bytes known =
      demand-steady _ _ _ λ e. demand-steady _ _ _ λ f. demand-steady _ _ _ λ g.
      let a = get_or bytes (p.at + 3) 0 in
      let n = of_bytes (take 2 (drop (p.at + 1) bytes)) in
      let tests = simp and-eq-true_iff at f in
      let few : n < p.nodes = ltb-true n p.nodes tests.0.0 in
      let small : a < p.attributes = ltb-true a p.attributes tests.0.1 in
      (omega arith, λ place h. get_or-set_other index (figure_place n a) place (p.at + 1) 0 (omega (arith, known.nodes_bound, known.attributes_bound)))

  end-steady : (bytes : List ℕ) → Steady p index (scan_end bytes p)
  unfolding scan_end
  end-steady bytes = go (eqb (p.at + 1) (length bytes))
    where
      go : (b : Bool) → Steady p index (cond b ends (stops 2 at_offset 1))
      go true = tt
      go false = tt

  module _ (bytes notes : List ℕ) where
    steady-notes : (r : Result (Option Progress) Refusal) (after : List ℕ) (t : Scanned) → ReadAs p.at r after index t → Steady p index t
        → NotesOn bytes p index notes after notes r
    steady-notes (Err r) after t s h = tt
    steady-notes (Ok none) after t s h = λ noted. let same : after ≡ index = rw (told-ends _ _ _ _ s) at s.index_is in rw same noted
    steady-notes (Ok (some p')) after t s h =
        let (on, same) = rw (told-goes-on _ _ _ _ _ s) at h in
        λ noted. record {
          pieces = record { piece = λ place at low high e. noted.pieces.piece place at low high (rw (same place low) at e) };
          stands = λ place at low high e. let before = noted.stands place at low high (rw (same place low) at e) in omega arith;
        }

    pub attribute-notes : (r : Result (Option Progress) Refusal) → ReadAs p.at r index index (scan_attribute bytes p index) → NotesOn bytes p index notes index notes r
    attribute-notes r s = steady-notes r index _ s (attribute-steady bytes)

    pub node-notes : (r : Result (Option Progress) Refusal) (after : List ℕ) → ReadAs p.at r after index (scan_node bytes p index) → NotesOn bytes p index notes after notes r
    node-notes r after s = steady-notes r after _ s (node-steady bytes)

    pub figure-notes : (r : Result (Option Progress) Refusal) (after : List ℕ) → Reading bytes p → ReadAs p.at r after index (scan_figure bytes p index)
        → NotesOn bytes p index notes after notes r
    figure-notes r after known s = steady-notes r after _ s (figure-steady bytes known)

    pub end-notes : (r : Result (Option Progress) Refusal) → ReadAs p.at r index index (scan_end bytes p) → NotesOn bytes p index notes index notes r
    end-notes r s = steady-notes r index _ s (end-steady bytes)

pub ruleset steady_laws = (attribute-notes, node-notes, figure-notes, end-notes)

-- ---- A command with a piece

-- A piece is read, whose bytes start at `before + 3`; those before it stay.
module _ (bytes index notes notes' : List ℕ) (from before n place : ℕ) where
  abbrev piece : List ℕ
  piece = take (before + 3 + n - (before + 3)) (drop (before + 3) bytes)

  piece_is : n ≡ of_bytes (take 2 (drop (before + 1) bytes)) → piece ≡ piece_at bytes before
  unfolding piece_at
  piece_is size = let e : before + 3 + n - (before + 3) ≡ n = omega arith in rw (e, size)

  -- a piece before it
  piece-stays : (at : ℕ) → Before (before + 3) notes notes' → at + 3 + length (piece_at bytes at) ≤ before → PieceNoted bytes notes at → PieceNoted bytes notes' at
  piece-stays at older stands noted =
      noted-same noted λ i h. get_or-drop (at + 3) notes' i 0 ∙ older (at + 3 + i) (omega arith) ∙ sym (get_or-drop (at + 3) notes i 0)

  pub piece-notes : {found : Option «Type»} {r : Option (Option «Type»)} → n ≡ of_bytes (take 2 (drop (before + 1) bytes)) → length index ≡ index_size → PieceAsked bytes from place before
      → NotesWhole piece (before + 3) notes notes' r → r ≡ some found
      → NotedTo bytes index notes from → NotedTo bytes (set index place (before + 1)) notes' (before + 3 + n)
  piece-notes size index-size asked read is noted =
      let here = piece_is size in
      let fits : place < length index = omega (arith, asked.high) in
      let own : PieceNoted bytes notes' before = rw (is, here) at read.noted in
      let cut : length piece ≤ n = omega (arith, length-take (before + 3 + n - (before + 3)) (drop (before + 3) bytes)) in
      let short : length (piece_at bytes before) ≤ n = rw here at cut in
      record {
        pieces = record {
          piece = λ other at low high. stored-fits index place other before fits (PieceNoted bytes notes') at (λ e. own)
              (λ e. let stands = noted.stands other at low high e in piece-stays at read.before (omega (arith, asked.behind)) (noted.pieces.piece other at low high e));
        };
        stands = λ other at low high. stored-fits index place other before fits (λ at. at + 3 + length (piece_at bytes at) ≤ before + 3 + n) at (λ e. omega arith)
            (λ e. let stands = noted.stands other at low high e in omega (arith, asked.behind));
      }

-- ---- The pass

-- no piece yet
pub first-notes : (bytes first cleared notes : List ℕ) → length first ≡ index_size → cleared ≡ emptied first pieces_at piece_places → NotedTo bytes cleared notes 0
first-notes bytes first cleared notes size e =
    let none-there : (place at : ℕ) → pieces_at ≤ place → place < attributes_place → get_or cleared place 0 ≡ suc at → ⊥ =
    λ place at low high h. let empty : get_or cleared place 0 ≡ 0 = rw e (emptied-inside first pieces_at piece_places place low (omega arith) (omega arith)) in omega arith in
    record {
      pieces = record { piece = λ place at low high h. absurd (none-there place at low high h) };
      stands = λ place at low high h. absurd (none-there place at low high h);
    }

-- the pass is over, and the numbers of attributes and nodes are put behind the part of the index for pieces
pub last-notes : (bytes notes : List ℕ) (p : Progress) (after last : List ℕ) (check : Result Counts Refusal) (gap : Option ℕ) → scan_of check last ≡ scanned p after gap
    → NotedTo bytes after notes p.at → ChecksNotes bytes check last notes
unfolding scanned
last-notes bytes notes p after last (Err r) gap e noted = tt
last-notes bytes notes p after last (Ok counts) none e noted =
    let index_is = ap (λ s. s.index) e in
    record {
      piece = λ place at low high h. noted.pieces.piece place at low high
          (sym (get_or-set_other (set after attributes_place p.attributes) nodes_place place p.nodes 0 (omega arith) ∙ get_or-set_other after attributes_place place p.attributes 0 (omega arith)) ∙ rw index_is at h);
    }
last-notes bytes notes p after last (Ok counts) (some place) e noted = let same : accepted counts ≡ refused 8 at_place place = ap (λ s. s.check) e in absurd (cc)
