-- The search for a key in an index, by what is seen at its cells.
use Rattle.std.specs.Prelude.{List, ◌≡◌, ℕ, ◌≤◌, ◌<◌, get_or}
use Rattle.std.specs.Prelude.{Result, Ok, Err}
use Rattle.saiga.specs.Limits.{entry_limit}
use Rattle.stores.specs.declared.Key.{Key}
use Rattle.stores.specs.declared.Seen.{Seen}
use Rattle.stores.specs.Walks.{first_cell, Free, Trie}
use Rattle.stores.specs.Keys.{seen_in}

-- Where one who looks for a key may look, and what is seen there, are the cells of an index over keys.
pub record Cells (q : Key) (may : ℕ → Type 0) (sees : ℕ → Seen → Type 0) : Type 0 where
  pub keys : ℕ → Key
  pub limit : ℕ
  pub count : ℕ
  pub index : List ℕ
  pub trie : Trie keys limit count index
  pub room : limit ≤ entry_limit
  pub open_to : (cell : ℕ) → cell < first_cell count → may cell
  pub shows : (cell : ℕ) (seen : Seen) → cell < first_cell count → sees cell seen → seen ≡ seen_in keys q (get_or index cell 0)

-- What the search finds of the first k keys: one that is the key, or the free cell for it if none is.
abbrev pub Searched : (ℕ → Key) → ℕ → List ℕ → Key → Result ℕ ℕ → Type 0
Searched keys k index q (Ok j) = (j < k) × (keys j ≡ q)
Searched keys k index q (Err cell) = Free index q cell × ((j : ℕ) → j < k → keys j ≡ q → ⊥)
