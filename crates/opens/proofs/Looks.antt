-- What the code sees at a cell of the index of the open forms, what it answers, and what it writes.
use mathlib.Core.Bool.{Bool, true, false}
use mathlib.Core.List.{List}
use mathlib.Core.Path.{◌≡◌, refl, sym, ◌∙◌, ap}
use Rattle.std.specs.Prelude.{Result, Ok, Err, is_ok}
use Prim.Native.Nat.{ℕ, suc, ◌+◌, ◌≤◌, ◌<◌}
use native.Mathlib.Omega.{arith}
use lib.ListN.{get_or, set}
use Rattle.saiga.specs.Limits.{depth_limit}
use Rattle.stores.specs.declared.Key.{Key}
use Rattle.stores.specs.declared.Seen.{Seen}
use Rattle.stores.specs.declared.Seen.TheVariants.{Empty, Has, Other}
use Rattle.stores.specs.Keys.{same_key, seen_in}
use Rattle.stores.specs.Search.{Cells, Searched}
use Rattle.engine.specs.Decode.{open_cells, opens_place, forms_in, opens_in}
use Rattle.engine.specs.OpenKeys.{form_key, key_open}
use Rattle.engine.proofs.RunMemory.{open_at, words-kept, forms-kept, open-written}
use Rattle.opens.specs.Opened.{place_of, cell_in, counted_in, Opened, ClosedAt, Plants}
use Rattle.opens.proofs.FormKeys.{key-open, key-closed}
use Rattle.opens.proofs.Cells.{listed_at, cell-not-open, cell-not-here, cell-counts}

-- ---- A cell

module _ (run : List ℕ) (k cell : ℕ) (q : Key) (small : cell < open_cells) where
  abbrev keys : ℕ → Key
  keys = form_key (forms_in run)

  abbrev opens : List ℕ
  opens = opens_in run

  -- the form that the cell names, and the cell into which that was put
  abbrev j : ℕ
  j = get_or run (opens_place + cell) 0

  abbrev place : ℕ
  place = get_or run (opens_place + open_cells + j) 0

  named : get_or opens cell 0 ≡ j
  named = sym (open_at run cell (opens_place + cell) refl)

  placed : place_of opens (get_or opens cell 0) ≡ place
  placed = rw named (sym (open_at run (open_cells + j) (opens_place + open_cells + j) (omega arith)))

  abbrev Sees : Seen → Type 0
  Sees r = r ≡ seen_in keys q (get_or (counted_in opens k) cell 0)

  sees : (n : ℕ) → cell_in opens k cell ≡ n → Sees (seen_in keys q n)
  sees n e = rw (listed_at (cell_in opens k) open_cells cell small, e)

  pub looks-not-open : k ≤ j → Sees Empty
  unfolding seen_in
  looks-not-open h = sees 0 (cell-not-open opens k cell (rw named h))

  pub looks-not-here : (place ≡ cell → ⊥) → Sees Empty
  unfolding seen_in
  looks-not-here other = sees 0 (cell-not-here opens k cell (rw placed other))

  module _ (opened : j < k) (here : place ≡ cell) {has : Bool} (key : has ≡ same_key (keys j) q) where
    sees-form : Sees (seen_in keys q (suc j))
    sees-form = sees (suc j) (cell-counts opens k cell (rw named opened) (placed ∙ here) ∙ ap suc named)

    pub looks-has : has ≡ true → Sees (Has j)
    unfolding seen_in
    looks-has e = rw (← key, e) at sees-form

    pub looks-other : has ≡ false → Sees (Other j)
    unfolding seen_in
    looks-other e = rw (← key, e) at sees-form

-- ---- What is answered

-- One who may look at the cells, and sees there the open forms.
module _ (forms opens : List ℕ) (k : ℕ) (o : Opened forms opens k) (q : Key) (may : ℕ → Type 0) (sees : ℕ → Seen → Type 0)
    (open_to : (cell : ℕ) → cell < open_cells → may cell)
    (shows : (cell : ℕ) (seen : Seen) → sees cell seen → seen ≡ seen_in (form_key forms) q (get_or (counted_in opens k) cell 0)) where
  abbrev pub open-forms : Cells q may sees
  open-forms =
      record {
        keys = form_key forms;
        limit = depth_limit;
        count = k;
        index = counted_in opens k;
        trie = o.trie;
        room = omega arith;
        open_to = λ cell h. open_to cell (omega (arith, h, o.trie.few));
        shows = λ cell seen h. shows cell seen;
      }

  module _ (r : Result ℕ ℕ) (found : (c : Cells q may sees) → Searched c.keys c.count c.index q r) where
    finds : (r : Result ℕ ℕ) → Searched (form_key forms) k (counted_in opens k) q r → (is_ok r ≡ key_open forms k q) × ClosedAt opens k q r
    finds (Ok j) (below, has) = (sym (key-open forms q k j below has), tt)
    finds (Err cell) (free, none_has) = (sym (key-closed forms q k none_has), free)

    pub finds-open : is_ok r ≡ key_open forms k q
    finds-open = (finds r (found open-forms)).0

    pub finds-cell : ClosedAt opens k q r
    finds-cell = (finds r (found open-forms)).1

-- ---- What is written

pub plants : (run : List ℕ) (k cell : ℕ) → Plants run (set (set run (opens_place + cell) k) (opens_place + open_cells + k) cell) k cell
plants run k cell =
    let first = set run (opens_place + cell) k in
    record {
      words = words-kept first _ cell (omega arith) ∙ words-kept run _ k (omega arith);
      forms = forms-kept first _ cell (omega arith) ∙ forms-kept run _ k (omega arith);
      opens = open-written first (open_cells + k) _ cell (omega arith) ∙ ap (λ l. set l (open_cells + k) cell) (open-written run cell _ k refl);
    }
