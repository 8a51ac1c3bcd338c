-- What the check of a sheet notes: the width of each expression in each rule and each forward (Noted.antt of crate expressions), a byte for each byte of the sheet.
use Rattle.std.specs.Prelude.{List, ◌≡◌, ℕ, suc, ◌+◌, ◌≤◌, ◌<◌, length, drop, get_or, Option, None, Some, Result, Ok, Err}
use Rattle.saiga.specs.declared.stops.Refusal.{Refusal}
use Rattle.expressions.specs.Noted.{Noted}
use Rattle.sheets.specs.Scan.{pieces_at, attributes_place, piece_at}
use Rattle.sheets.specs.declared.Counts.{Counts}
use Rattle.sheets.specs.declared.Progress.{Progress}

-- the expressions of the piece behind an offset
abbrev pub PieceNoted : List ℕ → List ℕ → ℕ → Type 0
PieceNoted bytes notes at = Noted (piece_at bytes at) (drop (at + 3) notes) (length (piece_at bytes at))

-- each piece that the index has
pub record PiecesNoted (bytes index notes : List ℕ) : Type 0 where
  pub piece : (place at : ℕ) → pieces_at ≤ place → place < attributes_place → get_or index place 0 ≡ suc at → PieceNoted bytes notes at

-- and each stands before the offset reached
pub record NotedTo (bytes index notes : List ℕ) (reached : ℕ) : Type 0 where
  pub pieces : PiecesNoted bytes index notes
  pub stands : (place at : ℕ) → pieces_at ≤ place → place < attributes_place → get_or index place 0 ≡ suc at → at + 3 + length (piece_at bytes at) ≤ reached

-- That is kept by a command, from the offset and the index before it to those after it.
abbrev pub NotesOn : List ℕ → Progress → List ℕ → List ℕ → List ℕ → List ℕ → Result (Option Progress) Refusal → Type 0
NotesOn bytes p index notes index' notes' (Err r) = Unit {0}
NotesOn bytes p index notes index' notes' (Ok None) = NotedTo bytes index notes p.at → NotedTo bytes index' notes' p.at
NotesOn bytes p index notes index' notes' (Ok (Some p')) = NotedTo bytes index notes p.at → NotedTo bytes index' notes' p'.at

-- An accepted sheet has its rules and forwards noted.
abbrev pub ChecksNotes : List ℕ → Result Counts Refusal → List ℕ → List ℕ → Type 0
ChecksNotes bytes (Err r) index notes = Unit {0}
ChecksNotes bytes (Ok counts) index notes = PiecesNoted bytes index notes
