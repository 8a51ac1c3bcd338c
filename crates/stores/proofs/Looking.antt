-- What the search of the code finds, by what is seen at the cells to which the walk of the key comes.
use mathlib.Core.Path.{◌≡◌, sym}
use Rattle.std.specs.Prelude.{Ok, Err}
use Prim.Native.Nat.{ℕ, suc, ◌/◌, ◌%◌, ◌<◌}
use native.Mathlib.Omega.{arith}
use Rattle.saiga.specs.Limits.{entry_limit}
use Rattle.stores.specs.declared.Key.{Key}
use Rattle.stores.specs.declared.Seen.{Seen}
use Rattle.stores.specs.declared.Seen.TheVariants.{Empty, Has, Other}
use Rattle.stores.specs.Walks.{first_cell, cell_of, bucket_of, Keyed, key_digits, trail_of}
use Rattle.stores.specs.Search.{Cells, Searched}
use Rattle.stores.proofs.Walks.{empty-seen, has-seen, other-seen, Searching, search-starts, cell-small, search-ends, entry-below, search-goes-on}

module _ {q : Key} {may : ℕ → Type 0} {sees : ℕ → Seen → Type 0} (c : Cells q may sees) where
  -- the search stands at a cell
  abbrev pub Stands : ℕ → ℕ → ℕ → Type 0
  Stands cell rest passed = Searching c.keys c.index q cell rest passed

  -- the search comes to a cell of entry j, for the lowest digit of what is left of the trail
  abbrev pub Comes : ℕ → ℕ → ℕ → Type 0
  Comes j rest passed = Stands (cell_of j (rest % 8)) (rest / 8) passed

  pub stands-first : (b : ℕ) → b ≡ bucket_of q → Stands b (trail_of q) 0
  stands-first b e = search-starts c.keys c.index q b e

  module _ (cell rest passed : ℕ) (at : Stands cell rest passed) where
    small : cell < first_cell c.count
    small = cell-small c.keys c.limit c.count c.index c.trie q cell rest passed at

    pub may-look : may cell
    may-look = c.open_to cell small

    pub empty-ends : sees cell Empty → Searched c.keys c.count c.index q (Err cell)
    empty-ends seen =
        let empty = empty-seen c.keys q _ (sym (c.shows cell Empty small seen)) in
        (record { passed = passed; passes = at.passes; comes = at.at-cell; empty = empty }, search-ends c.keys c.limit c.count c.index c.trie q cell rest passed at empty)

    pub has-ends : (j : ℕ) → sees cell (Has j) → Searched c.keys c.count c.index q (Ok j)
    has-ends j seen =
        let found = has-seen c.keys q _ j (sym (c.shows cell (Has j) small seen)) in
        (entry-below c.keys c.limit c.count c.index c.trie q cell rest passed at j found.0, found.1)

    pub goes-on : Keyed q → (j : ℕ) → sees cell (Other j) → Comes j rest (suc passed)
    goes-on keyed j seen =
        let found = other-seen c.keys q _ j (sym (c.shows cell (Other j) small seen)) in
        search-goes-on c.keys c.limit c.count c.index c.trie q cell rest passed at j found.0 keyed found.1

  -- an entry whose cell the search comes to
  pub entry_small : (j rest passed : ℕ) → Comes j rest passed → j < entry_limit
  entry_small j rest passed at = omega (arith, small (cell_of j (rest % 8)) (rest / 8) passed at, c.trie.few, c.room)

  pub no_more : (cell rest passed : ℕ) → Stands cell rest passed → key_digits < passed → ⊥
  no_more cell rest passed at over = omega (arith, at.within, over)
