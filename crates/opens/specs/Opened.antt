-- The index of the open forms. It is never cleared, and nothing is taken out of it: a cell counts only if the form that it names is open and was put into
-- this cell. So the innermost form is out of it once it is closed, and whatever the memory held before is an index of no form.
use Rattle.std.specs.Prelude.{cond, List, [], ◌∷◌, ◌++◌, ◌≡◌, ℕ, zero, suc, ◌+◌, ◌<◌, leb, eqb, length, get_or, set}
use Rattle.std.specs.Prelude.{Result, Ok, Err}
use Rattle.saiga.specs.Limits.{depth_limit}
use Rattle.stores.specs.declared.Key.{Key}
use Rattle.stores.specs.Walks.{Free, Trie}
use Rattle.engine.specs.Decode.{open_cells, opens_size, words_in, forms_in, opens_in}
use Rattle.engine.specs.OpenKeys.{form_key}

-- ---- What its cells count for

-- the cell into which form j was put
abbrev pub place_of : List ℕ → ℕ → ℕ
place_of opens j = get_or opens (open_cells + j) 0

-- what cell c counts for while k forms are open: the number of its form and one, or 0
unfoldable pub cell_in : List ℕ → ℕ → ℕ → ℕ
cell_in opens k c =
    let j = get_or opens c 0 in
    cond (leb k j) 0 (cond (eqb (place_of opens j) c) (suc j) 0)

-- the first n values of a function
unfoldable pub listed : (ℕ → ℕ) → ℕ → List ℕ
listed f zero = []
listed f (suc n) = listed f n ++ f n ∷ []

-- all its cells, with what they count for
abbrev pub counted_in : List ℕ → ℕ → List ℕ
counted_in opens k = listed (cell_in opens k) open_cells

-- ---- The invariant

-- The index has the k open forms, and those that are left when inner ones are closed.
pub record Opened (forms opens : List ℕ) (k : ℕ) : Type 0 where
  pub size : length opens ≡ opens_size
  pub trie : Trie (form_key forms) depth_limit k (counted_in opens k)
  pub outer : (i : ℕ) → i < k → Trie (form_key forms) depth_limit i (counted_in opens i)

-- the walk of a key comes to an empty cell
abbrev pub FreeFor : List ℕ → ℕ → Key → ℕ → Type 0
FreeFor opens k q cell = Free (counted_in opens k) q cell

-- ---- What the code answers

abbrev pub ClosedAt : List ℕ → ℕ → Key → Result ℕ ℕ → Type 0
ClosedAt opens k q (Ok j) = Unit {0}
ClosedAt opens k q (Err cell) = FreeFor opens k q cell

-- ---- A form more

-- form k is put into a cell
abbrev pub planted : List ℕ → ℕ → ℕ → List ℕ
planted opens k cell = set (set opens cell k) (open_cells + k) cell

pub record Plants (run run' : List ℕ) (k cell : ℕ) : Type 0 where
  pub words : words_in run' ≡ words_in run
  pub forms : forms_in run' ≡ forms_in run
  pub opens : opens_in run' ≡ planted (opens_in run) k cell
