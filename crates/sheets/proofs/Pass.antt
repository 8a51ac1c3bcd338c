-- The pass over the commands, one after the other: what is left of it from here on is all of it, and the index describes the sheet so far.
use mathlib.Core.Bool.{Bool, true, false, cond, ◌&&◌, and-eq-true_iff}
use mathlib.Core.List.{List}
use Rattle.std.specs.Prelude.{None as none, Some as some, Result, Ok, Err}
use mathlib.Core.Path.{◌≡◌, refl, ap, ◌∙◌}
use Prim.Native.Nat.{ℕ, zero, suc, ◌+◌, ◌-◌, ◌≤◌, ◌<◌}
use native.Mathlib.Omega.{arith}
use lib.Dec.{leb, ltb, eqb}
use lib.ListN.{length, take, drop, get_or}
use borrow.Author.Tests.{leb-true}
use Rattle.saiga.specs.declared.Base.{Base}
use Rattle.saiga.specs.Values.{of_bytes}
use Rattle.saiga.specs.Expressions.{Whole, no_expression, expression}
use Rattle.saiga.specs.Sheet.{Sheet, empty_sheet, node_count, attribute_count, Read as SheetRead, Command, attribute_command, node_command, figure_command, rule_command, forward_command, end_command, no_command, command_of}
use Rattle.saiga.specs.declared.stops.Refusal.{Refusal}
use Rattle.values.specs.Cells.{emptied}
use Rattle.sheets.specs.declared.Counts.{Counts}
use Rattle.sheets.specs.declared.Progress.{Progress}
use Rattle.sheets.specs.Scan.{pieces_at, piece_places, index_size, part_number, Scanned, stops◌at_offset◌, ends, goes_on, demand, scan_attribute, scan_node, scan_figure, demand_piece, scan_piece, scan_rule, scan_forward, scan_end, scan_at, scan_command, missing_in, Scan, scanned, scan_from, start, Reading, ReadAs, Declared, scan_of}
use Rattle.sheets.proofs.Indexed.{kind-by-index}
use Rattle.sheets.proofs.Told.{told-stops, told-ends, told-goes-on}
use Rattle.sheets.proofs.Scan.{progress, SoFar, Agrees, stop, end, next, next-agrees, start-so-far}

-- ---- How a command moves the pass

-- A stop's place is the command's or the byte after it; any other command but the end lies within the bytes.
abbrev pub Moves : List ℕ → Progress → Scanned → Type 0
Moves bytes p (stops number at_offset offset) = offset ≤ 1
Moves bytes p ends = Unit {0}
Moves bytes p (goes_on p' index) = (p.at < p'.at) × (p'.at ≤ length bytes) × (part_number p'.part ≤ 3)

module _ (bytes : List ℕ) (p : Progress) where
  demand-moves : (b : Bool) (number : ℕ) (t : Scanned) → (b ≡ true → Moves bytes p t) → Moves bytes p (demand b number t)
  unfolding demand
  demand-moves true number t h = h refl
  demand-moves false number t h = omega arith

  demand-piece-moves : (q t : Base) (w : Whole) (r : Scanned) → Moves bytes p r → Moves bytes p (demand_piece bytes p q t w r)
  unfolding demand_piece
  demand-piece-moves q t no_expression r h = omega arith
  demand-piece-moves q t (expression e) r h = demand-moves _ 7 r λ b. h

  piece-moves : (index : List ℕ) (place before : ℕ) (has-parameter : Bool) (q t : Base) → p.at < before → before + 3 + of_bytes (take 2 (drop (before + 1) bytes)) ≤ length bytes
      → Moves bytes p (scan_piece bytes p index place before has-parameter q t)
  unfolding scan_piece
  piece-moves index place before has-parameter q t behind fits = demand-moves _ _ _ λ e. demand-piece-moves q t _ _ (omega arith, fits, omega arith)

  -- The end stops at the byte after it, or not at all.
  pub end-moves : (b : Bool) → Moves bytes p (cond b ends (stops 2 at_offset 1))
  end-moves true = tt
  end-moves false = omega arith

  -- the second of two tests, which is that the command's bytes are there
  long : (a : Bool) (n : ℕ) → (a && leb n (length bytes)) ≡ true → n ≤ length bytes
  long a n e = leb-true n (length bytes) ((and-eq-true_iff a (leb n (length bytes))).0 e).1

  command-moves : (index : List ℕ) (c : Command) → Moves bytes p (scan_at bytes p index c)
  unfolding scan_at scan_attribute scan_node scan_figure scan_rule scan_forward scan_end
  command-moves index attribute_command =
      demand-moves _ _ _ λ e. demand-moves _ _ _ λ f. demand-moves _ _ _ λ g. (omega arith, long (leb (part_number p.part) 0) _ e, omega arith)
  command-moves index node_command =
      demand-moves _ _ _ λ e. demand-moves _ _ _ λ f. demand-moves _ _ _ λ g. (omega arith, long (leb (part_number p.part) 1) _ e, omega arith)
  command-moves index figure_command =
      demand-moves _ _ _ λ e. demand-moves _ _ _ λ f. demand-moves _ _ _ λ g. (omega arith, long (leb (part_number p.part) 2) _ e, omega arith)
  command-moves index rule_command =
      let length_at : p.at + 2 + 1 ≡ p.at + 3 = omega arith in
      let piece-at : p.at + 2 + 3 ≡ p.at + 5 = omega arith in
      demand-moves _ _ _ λ e. demand-moves _ _ _ λ f.
      piece-moves index _ _ _ _ _ (omega arith) (rw (length_at, piece-at) (long (leb (part_number p.part) 3 && leb (p.at + 5) (length bytes)) _ e))
  command-moves index forward_command =
      let length_at : p.at + 1 + 1 ≡ p.at + 2 = omega arith in
      let piece-at : p.at + 1 + 3 ≡ p.at + 4 = omega arith in
      demand-moves _ _ _ λ e. demand-moves _ _ _ λ f.
      piece-moves index _ _ _ _ _ (omega arith) (rw (length_at, piece-at) (long (leb (part_number p.part) 3 && leb (p.at + 4) (length bytes)) _ e))
  command-moves index end_command = end-moves (eqb (p.at + 1) (length bytes))
  command-moves index no_command = omega arith

  -- So it is of each command that is scanned.
  pub next-moves : (index : List ℕ) → Moves bytes p (scan_command bytes p index)
  unfolding scan_command
  next-moves index = go (ltb p.at (length bytes))
    where
      go : (b : Bool) → Moves bytes p (cond b (scan_at bytes p index (command_of (get_or bytes p.at 0))) (stops 2 at_offset 0))
      go true = command-moves index (command_of (get_or bytes p.at 0))
      go false = omega arith

-- ---- Between two commands

-- The pass has come from `first` to `p` and `index`: the fuel left lasts to the end.
pub record Reached (bytes first : List ℕ) (p : Progress) (index : List ℕ) : Type 0 where
  pub sheet : Sheet
  pub counts : p ≡ progress sheet p.at p.part
  pub so_far : SoFar bytes sheet p.at p.part index
  pub within : p.at ≤ length bytes
  pub fuel : ℕ
  pub enough : length bytes < p.at + fuel
  pub rest : scan_from fuel bytes p index ≡ scan_from (suc (length bytes)) bytes start first

pub reached-start : (bytes first cleared : List ℕ) → length bytes ≤ 65536 → length first ≡ index_size → cleared ≡ emptied first pieces_at piece_places
    → Reached bytes cleared start cleared
reached-start bytes first cleared short size e = record {
  sheet = empty_sheet;
  counts = refl;
  so_far = rw e (start-so-far bytes first short size);
  within = omega arith;
  fuel = suc (length bytes);
  enough = omega arith;
  rest = refl;
}

module _ (bytes first : List ℕ) (p : Progress) (index : List ℕ) (h : Reached bytes first p index) where
  attributes_are : p.attributes ≡ attribute_count h.sheet
  attributes_are = ap (λ q. q.attributes) h.counts

  nodes-are : p.nodes ≡ node_count h.sheet
  nodes-are = ap (λ q. q.nodes) h.counts

  pub reached-reading : Reading bytes p
  reached-reading =
      let a = attributes_are in
      let n = nodes-are in
      let i = h.so_far.known in
      record {
        within = h.within;
        short = i.short;
        room = rw (a, n) i.room;
        attributes_bound = rw a i.attributes_bound;
        nodes_bound = rw n i.nodes_bound;
      }

  reached-declared : (n : ℕ) → n < p.nodes → Declared bytes index p.attributes n
  reached-declared n q =
      let i = h.so_far.known in
      let a = attributes_are in
      let m : n < node_count h.sheet = rw nodes-are at q in
      record {
        size = i.size;
        room = rw a (omega (arith, i.room));
        attributes_bound = rw a i.attributes_bound;
        node_bound = omega (arith, i.nodes_bound);
        kind_bound = rw (a, ← kind-by-index bytes h.sheet index i n m) (i.kinds_bound n m);
      }

  -- ---- What the next command brings

  -- what the pass comes to, from what it comes to where the fuel lasts for one more command
  left_over : (c : Scan)
      → ((k : ℕ) → scan_from (suc k) bytes p index ≡ scan_from (suc (length bytes)) bytes start first → c ≡ scan_from (suc (length bytes)) bytes start first)
      → c ≡ scan_from (suc (length bytes)) bytes start first
  left_over c f = go h.fuel h.enough h.rest
    where
      go : (k : ℕ) → length bytes < p.at + k → scan_from k bytes p index ≡ scan_from (suc (length bytes)) bytes start first
          → c ≡ scan_from (suc (length bytes)) bytes start first
      go zero more same = absurd (omega (arith, h.within))
      go (suc k) more same = f k same

  module _ (after : List ℕ) where
    pub pass-stops : (r : Refusal) (whole : List ℕ) → ReadAs p.at (Err r) after index (scan_command bytes p index) → first ≡ emptied whole pieces_at piece_places
        → scan_of (Err r) after ≡ scan_from (suc (length bytes)) bytes start (emptied whole pieces_at piece_places)
    unfolding scan_from
    pass-stops r whole s cleared =
        let (offset, told, place) = told-stops _ _ _ _ r s in
        let kept : after ≡ index = rw told at s.index_is in
        rw (kept, place, ← cleared) (left_over _ λ k same. rw (told, scan_from) at same)

    module _ (s : ReadAs p.at (Ok none) after index (scan_command bytes p index)) where
      kept : after ≡ index
      kept = rw (told-ends _ _ _ _ s) at s.index_is

      completed : scanned p after (missing_in bytes after p.attributes p.nodes) ≡ scan_from (suc (length bytes)) bytes start first
      unfolding scan_from
      completed = rw kept (left_over (scanned p index (missing_in bytes index p.attributes p.nodes)) λ k same. rw (told-ends _ _ _ _ s, scan_from) at same)

      pub pass-ends : (whole last : List ℕ) (check : Result Counts Refusal) → first ≡ emptied whole pieces_at piece_places
          → scan_of check last ≡ scanned p after (missing_in bytes after p.attributes p.nodes)
          → scan_of check last ≡ scan_from (suc (length bytes)) bytes start (emptied whole pieces_at piece_places)
      pass-ends whole last check cleared e = rw (← cleared) (e ∙ completed)

      pub all-declared : (n : ℕ) → n < p.nodes → Declared bytes after p.attributes n
      all-declared = rw kept reached-declared

    module _ (p' : Progress) (s : ReadAs p.at (Ok (some p')) after index (scan_command bytes p index)) where
      is : scan_command bytes p index ≡ goes_on p' after
      is = told-goes-on _ _ _ _ p' s

      -- what is known behind the command
      record Known : Type 0 where
        sheet : Sheet
        counts : p' ≡ progress sheet p'.at p'.part
        so_far : SoFar bytes sheet p'.at p'.part after
        further : p.at < p'.at
        within : p'.at ≤ length bytes

      known : Known
      known = go _ _ (rw (← h.counts) at (next-agrees bytes h.sheet p.at p.part index h.so_far)) is
        where
          go : (q : SheetRead) (t : Scanned) → Agrees bytes p.at q t → t ≡ goes_on p' after → Known
          go q t stop f = absurd (cc)
          go q t end f = absurd (cc)
          go q t (next {width} {part} {s} {p = to} {index = made} wide fits same so_far) f =
              let e : p' ≡ progress s (p.at + width) part = cc in
              let i : after ≡ made = cc in
              record { sheet = s; counts = rw e; so_far = rw (e, i) so_far; further = rw e (omega arith); within = rw e fits }

      pub less-left : length bytes - p'.at < length bytes - p.at
      less-left = omega (arith, known.further, known.within)

      rest-next : (k : ℕ) → length bytes < p.at + k → scan_from k bytes p index ≡ scan_from (suc (length bytes)) bytes start first
          → (k' : ℕ) × (length bytes < p'.at + k') × (scan_from k' bytes p' after ≡ scan_from (suc (length bytes)) bytes start first)
      unfolding scan_from
      rest-next zero more same = absurd (omega (arith, h.within))
      rest-next (suc k) more same = (k, omega (arith, known.further), rw (is, scan_from) at same)

      pub reached-next : Reached bytes first p' after
      reached-next =
          let left = rest-next h.fuel h.enough h.rest in
          record {
            sheet = known.sheet;
            counts = known.counts;
            so_far = known.so_far;
            within = known.within;
            fuel = left.0;
            enough = left.1;
            rest = left.2;
          }
