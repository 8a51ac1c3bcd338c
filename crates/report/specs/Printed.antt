-- What the report program prints (document 01, "Sheet L and its questions"): sheet.bin and standard input as bytes, and the lines as bytes.
use Rattle.std.specs.Prelude.{List, [], ◌∷◌, ◌++◌, ℕ}
use Rattle.saiga.specs.Limits.{entry_limit, budget_limit}
use Rattle.saiga.specs.Ask.{Call, asking, Answer}
use Rattle.saiga.specs.Calls.{empty, answers}
use Rattle.lines.specs.Lines.{line_of}
use Rattle.stream.specs.Stream.{Item, question, cut, items}

-- "A question over 256 bytes is passed over whole and answered like any malformed one; one cut by the end .. is too": a question that is cut
-- is put as no bytes.
unfoldable pub put : Item → List ℕ
put (question bytes) = bytes
put cut = []

-- "all to one store of 1,024 with budget 1,000,000"
abbrev pub asks : List ℕ → Call
asks bytes = asking bytes budget_limit

unfoldable pub calls : List Item → List Call
calls [] = []
calls (i ∷ l) = asks (put i) ∷ calls l

unfoldable pub lines : List Answer → List ℕ
lines [] = []
lines (a ∷ l) = line_of a ++ lines l

unfoldable pub printed : List ℕ → List ℕ → List ℕ
printed sheet input = lines (answers sheet (empty entry_limit) (calls (items input)))
