-- `attributes::open_piece` meets its contract: the piece that it hands on is as long as the command says.
use Rattle.attributes.proofs.Opening.{piece-runs, piece-beyond}
use Rattle.attributes.proofs.open_piece.Goals as goal

pub returns-clause-follows : goal.returns-clause-follows
returns-clause-follows c store =
    piece-runs _ _ c.requires.0 _ c.piece-piece.ensures _ c.args.m _ _ _ _ c.requires.2 c.requires.1 c.form_place-f.ensures store

pub returns-clause-opens_same : goal.returns-clause-opens_same
returns-clause-opens_same c =
    piece-beyond _ _ c.requires.0 _ c.piece-piece.ensures _ c.args.m _ _ _ _ c.requires.2 c.requires.1 c.form_place-f.ensures
