-- The numbers that the C calls bring (document 01, "Stops by origin").
use Rattle.std.specs.Prelude.{List, [], ◌∷◌, ◌≡◌, ℕ, ◌/◌, min, length, get_or, replicate}
use Rattle.saiga.specs.Sheet.{Sheet, node_count, attribute_count, Checked, refused◌at_place◌, accepted}
use Rattle.saiga.specs.Store.{check_store}
use Rattle.values.specs.Layout.{attributes_in}
use Rattle.sheets.specs.Scan.{attributes_place, nodes_place}
use Rattle.stores.specs.Keys.{links_size}
use Rattle.calls.specs.Prepared.{PreparedSheet, PreparedStore}

-- the number and the place of a check: 0 and 0 where nothing is refused
unfoldable pub number_of : {A : Type 0} → Checked A → ℕ
number_of (refused number at_place place) = number
number_of (accepted x) = 0

unfoldable pub place_of : {A : Type 0} → Checked A → ℕ
place_of (refused number at_place place) = place
place_of (accepted x) = 0

-- the number, the place, and the numbers of attributes and nodes of a sheet that is accepted
unfoldable pub sheet_found : Checked Sheet → List ℕ
sheet_found (refused number at_place place) = number ∷ place ∷ 0 ∷ 0 ∷ []
sheet_found (accepted s) = 0 ∷ 0 ∷ attribute_count s ∷ node_count s ∷ []

-- ---- The check of a store alone

-- A sheet as far as the check of a store looks at it: its attributes' types stand in these bytes, and its nodes are so many. Of attributes that
-- the bytes are too short for there are as many as stand there whole.
unfoldable pub declaring : List ℕ → ℕ → ℕ → Sheet
declaring bytes attributes nodes =
    record { attributes = attributes_in bytes (min attributes (length bytes / 3)); kinds = replicate nodes 0; figures = []; rules = []; forwards = [] }

-- What the check of a store brings, for any arguments: its sheet declares as many attributes and nodes as the index says. Of a sheet that was accepted
-- with this index it is the check of document 01, and a store that passes is then indexed. The links keep their length; of a store that is refused
-- what they hold is free.
pub record StoreFound (sheet index store : List ℕ) (kept : ℕ) (links : List ℕ) (number place : ℕ) : Type 0 where
  pub number_is : number ≡ number_of (check_store (declaring sheet (get_or index attributes_place 0) (get_or index nodes_place 0)) store kept)
  pub place_is : place ≡ place_of (check_store (declaring sheet (get_or index attributes_place 0) (get_or index nodes_place 0)) store kept)
  pub of-sheet : (p : PreparedSheet sheet index)
      → (number ≡ number_of (check_store p.of store kept)) × (place ≡ place_of (check_store p.of store kept))
  pub prepared : PreparedSheet sheet index → number ≡ 0 → PreparedStore sheet store kept links
  pub links_length : length links ≡ links_size
