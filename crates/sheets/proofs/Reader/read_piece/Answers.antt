-- `Reader::read_piece` meets its contract: a piece that is read is noted, and those before it stay so.
use Rattle.sheets.proofs.Noted.{piece-notes}
use Rattle.sheets.proofs.Reader.read_piece.Goals as goal

pub returns-clause-notes_on : goal.returns-clause-notes_on
returns-clause-notes_on c = search piece-notes
