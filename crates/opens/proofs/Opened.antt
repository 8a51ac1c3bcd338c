-- The index of the open forms through a run: with no form, one more, one fewer, and over other numbers behind the forms.
use mathlib.Core.Bool.{Bool, true, false}
use mathlib.Core.List.{List}
use mathlib.Core.Path.{◌≡◌, refl, sym, ◌∙◌, ap}
use Prim.Native.Nat.{ℕ, zero, suc, ◌+◌, ◌*◌, ◌≤◌, ◌<◌}
use native.Mathlib.Nat.{le_refl}
use native.Mathlib.Omega.{arith}
use lib.Dec.{eqb}
use lib.ListN.{length, take, get_or, set, length-set}
use lib.Seq.{set-get_or}
use borrow.Author.Tests.{eqb-true, eqb-false}
use Rattle.saiga.specs.Limits.{depth_limit}
use Rattle.values.specs.Cells.{emptied}
use Rattle.stores.specs.declared.Key.{Key}
use Rattle.stores.specs.Walks.{fan_out, first_cell, Keyed, walk, Trie, planted as planted_in}
use Rattle.stores.proofs.Walks.{walk-small, free-small, trie-more, trie-none, trie-same}
use Rattle.engine.specs.Decode.{open_cells, opens_size}
use Rattle.engine.specs.OpenKeys.{form_key, key_open}
use Rattle.opens.specs.Opened.{cell_in, counted_in, Opened, FreeFor, planted}
use Rattle.opens.proofs.FormKeys.{none_open, form-key-same}
use Rattle.opens.proofs.Cells.{listed-length, listed_at, listed_same, listed-set, cell-not-open, counted, counts-here, counts-other, counts-before}

-- ---- No form, and one fewer

pub opened-none : (forms opens : List ℕ) → length opens ≡ opens_size → Opened forms opens 0
opened-none forms opens size =
    record {
      size = size;
      trie = trie-none _ _ _ (listed-length _ open_cells) (λ b g. listed_at _ open_cells b (omega arith) ∙ cell-not-open opens 0 b (omega arith));
      outer = λ i h. absurd (omega arith);
    }

pub opened-fewer : (forms opens : List ℕ) (k : ℕ) → Opened forms opens (suc k) → Opened forms opens k
opened-fewer forms opens k o = record { size = o.size; trie = o.outer k (omega arith); outer = λ i h. o.outer i (omega arith) }

-- The first 4 * k numbers of the forms alone matter.
pub opened-same : (forms forms' opens : List ℕ) (k : ℕ) → Opened forms opens k → take (4 * k) forms' ≡ take (4 * k) forms → Opened forms' opens k
opened-same forms forms' opens k o e = record { size = o.size; trie = over k (omega arith) o.trie; outer = λ i h. over i (omega arith) (o.outer i h) }
  where
    over : (i : ℕ) → i ≤ k → Trie (form_key forms) depth_limit i (counted_in opens i) → Trie (form_key forms') depth_limit i (counted_in opens i)
    over i h l = trie-same _ _ _ i _ (λ j g. sym (form-key-same forms forms' k j e (omega arith))) l

-- ---- One more

pub free-cell : (forms opens : List ℕ) (k : ℕ) → Opened forms opens k → (q : Key) (cell : ℕ) → FreeFor opens k q cell → cell < open_cells
free-cell forms opens k o q cell free = omega (arith, o.trie.few, free-small _ _ k _ o.trie q cell free)

-- The cells of forms that are not open count for nothing: each open form was put where its key's walk comes to it.
beyond-empty : (keys : ℕ → Key) (opens : List ℕ) (k : ℕ) → Trie keys depth_limit k (counted_in opens k) → (c : ℕ) → first_cell k ≤ c → cell_in opens k c ≡ 0
beyond-empty keys opens k l c high = go (cell_in opens k c) refl
  where
    go : (n : ℕ) → cell_in opens k c ≡ n → cell_in opens k c ≡ 0
    go zero e = e
    go (suc j) e =
        let counts = counted opens k c j e in
        let w = walk (counted_in opens k) (keys j) (l.depth j) in
        let low : w < first_cell k = walk-small keys _ k _ l (keys j) (l.depth j) (l.passes j counts.opened) in
        let there = counted opens k w j (sym (listed_at (cell_in opens k) open_cells w (omega (arith, low, l.few))) ∙ l.reached j counts.opened) in
        absurd (omega (arith, low, high, counts.place, there.place))

emptied-empty : (index : List ℕ) (from n : ℕ) → ((i : ℕ) → i < n → get_or index (from + i) 0 ≡ 0) → emptied index from n ≡ index
unfolding emptied
emptied-empty index from zero empty = refl
emptied-empty index from (suc n) empty =
    rw (emptied-empty index from n (λ i h. empty i (omega arith)))
    (ap (λ z. set index (from + n) z) (sym (empty n (omega arith))) ∙ set-get_or index (from + n) 0)

module _ (forms forms' opens opens' : List ℕ) (k : ℕ) (o : Opened forms opens k) (room : k < depth_limit) (q : Key) (cell : ℕ)
    (free : FreeFor opens k q cell) (closed : key_open forms k q ≡ false) (keyed : Keyed q) (has : form_key forms' k ≡ q)
    (same : take (4 * k) forms' ≡ take (4 * k) forms) (is : opens' ≡ planted opens k cell) where
  abbrev after : List ℕ
  after = planted opens k cell

  small : cell < open_cells
  small = free-cell forms opens k o q cell free

  before : Opened forms' opens k
  before = opened-same forms forms' opens k o same

  empty : cell_in opens k cell ≡ 0
  empty = sym (listed_at (cell_in opens k) open_cells cell small) ∙ free.empty

  -- What the cells count for then is what planting the form in an index of the store's way gives.
  counted-more : counted_in after (k + 1) ≡ planted_in (counted_in opens k) cell k
  counted-more =
      let own : emptied (counted_in opens k) (first_cell k) fan_out ≡ counted_in opens k =
      emptied-empty (counted_in opens k) (first_cell k) fan_out
      (λ i h. listed_at (cell_in opens k) open_cells (first_cell k + i) (omega arith) ∙ beyond-empty _ opens k before.trie (first_cell k + i) (omega arith)) in
      listed-set (cell_in opens k) (cell_in after (k + 1)) open_cells cell small (counts-other opens k cell o.size room small)
      ∙ rw (counts-here opens k cell o.size room small, own)

  -- While the form is not open, nothing has changed.
  counted-before : (i : ℕ) → i ≤ k → counted_in after i ≡ counted_in opens i
  counted-before i h = listed_same (cell_in opens i) (cell_in after i) open_cells (counts-before opens k cell o.size room small empty i h)

  pub opened-more : Opened forms' opens' (k + 1)
  opened-more =
      rw is record {
        size = simp length-set o.size;
        trie = rw counted-more (trie-more _ _ k _ before.trie room q has keyed new cell free);
        outer = λ i h. go i h (eqb i k) refl;
      }
    where
      new : (j : ℕ) → j < k → form_key forms' j ≡ q → ⊥
      new j h e = none_open forms q k closed j h (sym (form-key-same forms forms' k j same h) ∙ e)

      go : (i : ℕ) → i < k + 1 → (t : Bool) → eqb i k ≡ t → Trie (form_key forms') depth_limit i (counted_in after i)
      go i h true t = rw (eqb-true i k t, counted-before k (le_refl k)) before.trie
      go i h false t =
          let other = eqb-false i k t in
          let inner : i < k = omega arith in
          rw (counted-before i (omega arith)) (before.outer i inner)
