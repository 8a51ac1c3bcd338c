-- Cells of an index, from one on, are emptied.
use Rattle.std.specs.Prelude.{List, ℕ, zero, suc, ◌+◌, set}

-- n cells of the index from one on hold 0
unfoldable pub emptied : List ℕ → ℕ → ℕ → List ℕ
emptied index from zero = index
emptied index from (suc n) = set (emptied index from n) (from + n) 0
