-- What the cells of the index of the open forms count for, before and after a form is put in.
use mathlib.Core.Bool.{Bool, true, false, cond}
use mathlib.Core.List.{List, [], ◌∷◌, ◌++◌}
use mathlib.Core.Path.{◌≡◌, refl, sym, ◌∙◌}
use Prim.Native.Nat.{ℕ, zero, suc, ◌+◌, ◌≤◌, ◌<◌}
use native.Mathlib.Numerals.{add-one}
use native.Mathlib.Omega.{arith}
use lib.Dec.{leb, eqb}
use lib.ListN.{length, get_or, set, length-append, length-set, get_or-append}
use lib.Seq.{get_or_at, get_or-set_same, get_or-set_other, ext_get_or}
use borrow.Author.Tests.{eqb-true, eqb-false, eq-eqb, ne_eqb, le-leb, lt-leb, leb-true, leb-false}
use Rattle.saiga.specs.Limits.{depth_limit}
use Rattle.engine.specs.Decode.{open_cells, opens_size}
use Rattle.opens.specs.Opened.{place_of, cell_in, listed, planted}

-- ---- The values of a function in a list

pub listed-length : (f : ℕ → ℕ) (n : ℕ) → length (listed f n) ≡ n
unfolding listed
listed-length f zero = refl
listed-length f (suc n) = rw (length-append, listed-length f n) (add-one n)

pub listed_at : (f : ℕ → ℕ) (n c : ℕ) → c < n → get_or (listed f n) c 0 ≡ f c
unfolding listed
listed_at f zero c h = absurd (omega arith)
listed_at f (suc n) c h = go (eqb c n) refl (listed_at f n c)
  where
    go : (t : Bool) → eqb c n ≡ t → (c < n → get_or (listed f n) c 0 ≡ f c) → get_or (listed f n ++ f n ∷ []) c 0 ≡ f c
    go true t rest = rw (eqb-true c n t) (get_or_at (listed f n) (f n) [] 0 n (listed-length f n))
    go false t rest =
        let other = eqb-false c n t in
        let below : c < n = omega arith in
        get_or-append (listed f n) (f n ∷ []) 0 c (rw (listed-length f n) below) ∙ rest below

module _ (f g : ℕ → ℕ) (n : ℕ) where
  pub listed_same : ((c : ℕ) → c < n → g c ≡ f c) → listed g n ≡ listed f n
  listed_same same =
      ext_get_or 0 (listed g n) (listed f n) (listed-length g n ∙ sym (listed-length f n))
      (λ c h. let below = rw (listed-length g n) at h in listed_at g n c below ∙ same c below ∙ sym (listed_at f n c below))

  -- one value is another
  pub listed-set : (i : ℕ) → i < n → ((c : ℕ) → c < n → (c ≡ i → ⊥) → g c ≡ f c) → listed g n ≡ set (listed f n) i (g i)
  listed-set i small same =
      ext_get_or 0 (listed g n) (set (listed f n) i (g i)) (listed-length g n ∙ sym (simp length-set (listed-length f n)))
      (λ c h. at c (rw (listed-length g n) at h) (eqb c i) refl)
    where
      at : (c : ℕ) → c < n → (t : Bool) → eqb c i ≡ t → get_or (listed g n) c 0 ≡ get_or (set (listed f n) i (g i)) c 0
      at c h true t =
          let here = eqb-true c i t in
          rw here (listed_at g n i small ∙ sym (get_or-set_same (listed f n) i (g i) 0 (rw (listed-length f n) small)))
      at c h false t =
          let other = eqb-false c i t in
          listed_at g n c h ∙ same c h other ∙ sym (get_or-set_other (listed f n) i c (g i) 0 other ∙ listed_at f n c h)

-- ---- A cell

module _ (opens : List ℕ) (k c : ℕ) where
  abbrev named : ℕ
  named = get_or opens c 0

  pub cell-not-open : k ≤ named → cell_in opens k c ≡ 0
  unfolding cell_in
  cell-not-open h = rw (le-leb _ _ h)

  pub cell-not-here : (place_of opens named ≡ c → ⊥) → cell_in opens k c ≡ 0
  unfolding cell_in
  cell-not-here other = rw (ne_eqb _ _ other) (go (leb k named))
    where
      go : (t : Bool) → ◌≡◌ {A = ℕ} (cond t 0 0) 0
      go true = refl
      go false = refl

  pub cell-counts : named < k → place_of opens named ≡ c → cell_in opens k c ≡ suc named
  unfolding cell_in
  cell-counts h here = rw (lt-leb _ _ h, eq-eqb _ _ here)

  -- the form that it counts for
  pub record Counts (j : ℕ) : Type 0 where
    pub is : named ≡ j
    pub opened : j < k
    pub place : place_of opens j ≡ c

  pub counted : (j : ℕ) → cell_in opens k c ≡ suc j → Counts j
  counted j e = go (leb k named) refl (eqb (place_of opens named) c) refl
    where
      go : (t : Bool) → leb k named ≡ t → (u : Bool) → eqb (place_of opens named) c ≡ u → Counts j
      go true t u v = absurd (omega (arith, e, cell-not-open (leb-true _ _ t)))
      go false t false v = absurd (omega (arith, e, cell-not-here (eqb-false _ _ v)))
      go false t true v =
          let below = leb-false _ _ t in
          let here = eqb-true _ _ v in
          let is : named ≡ j = omega (arith, e, cell-counts below here) in
          record { is = is; opened = rw is at below; place = rw is at here }

-- what counts for nothing while more forms are open
fewer-empty : (opens : List ℕ) (i k c : ℕ) → i ≤ k → cell_in opens k c ≡ 0 → cell_in opens i c ≡ 0
fewer-empty opens i k c h empty = go (cell_in opens i c) refl
  where
    go : (n : ℕ) → cell_in opens i c ≡ n → cell_in opens i c ≡ 0
    go zero e = e
    go (suc j) e =
        let counts = counted opens i c j e in
        absurd (omega (arith, empty, cell-counts opens k c (rw counts.is (omega (arith, counts.opened))) (rw counts.is counts.place)))

-- ---- Form k is put into a cell

module _ (opens : List ℕ) (k cell : ℕ) (size : length opens ≡ opens_size) (few : k < depth_limit) (small : cell < open_cells) where
  abbrev after : List ℕ
  after = planted opens k cell

  cell-here : get_or after cell 0 ≡ k
  cell-here =
      get_or-set_other (set opens cell k) (open_cells + k) cell cell 0 (λ e. omega (arith, e)) ∙ get_or-set_same opens cell k 0 (omega arith)

  cell_other : (c : ℕ) → c < open_cells → (c ≡ cell → ⊥) → get_or after c 0 ≡ get_or opens c 0
  cell_other c h other = get_or-set_other (set opens cell k) (open_cells + k) c cell 0 (λ e. omega (arith, e)) ∙ get_or-set_other opens cell c k 0 other

  place_here : place_of after k ≡ cell
  place_here = get_or-set_same (set opens cell k) (open_cells + k) cell 0 (rw length-set (omega arith))

  place_other : (j : ℕ) → (j ≡ k → ⊥) → place_of after j ≡ place_of opens j
  place_other j other =
      get_or-set_other (set opens cell k) (open_cells + k) (open_cells + j) cell 0 (λ e. other (omega (arith, e)))
      ∙ get_or-set_other opens cell (open_cells + j) k 0 (λ e. omega (arith, e))

  pub counts-here : cell_in after (k + 1) cell ≡ k + 1
  counts-here = cell-counts after (k + 1) cell (rw cell-here (omega arith)) (rw cell-here place_here) ∙ rw cell-here (sym (add-one k))

  -- forms before it count as they did
  old-form : (i c : ℕ) → c < open_cells → (c ≡ cell → ⊥) → get_or opens c 0 < k → leb i (get_or opens c 0) ≡ false → (i' : ℕ) → leb i' (get_or opens c 0) ≡ false
      → cell_in after i c ≡ cell_in opens i' c
  unfolding cell_in
  old-form i c h other below t i' t' = rw (cell_other c h other, place_other (get_or opens c 0) (λ e. omega (arith, e, below)), t, t')

  pub counts-other : (c : ℕ) → c < open_cells → (c ≡ cell → ⊥) → cell_in after (k + 1) c ≡ cell_in opens k c
  counts-other c h other = go (leb k (get_or opens c 0)) refl
    where
      new : (t : Bool) → eqb (get_or opens c 0) k ≡ t → k ≤ get_or opens c 0 → cell_in after (k + 1) c ≡ 0
      new true t above =
          let named = cell_other c h other ∙ eqb-true _ _ t in
          cell-not-here after (k + 1) c (λ e. other (sym (rw named at e) ∙ place_here))
      new false t above = let differs = eqb-false (get_or opens c 0) k t in cell-not-open after (k + 1) c (rw (cell_other c h other) (omega (arith, differs, above)))

      go : (t : Bool) → leb k (get_or opens c 0) ≡ t → cell_in after (k + 1) c ≡ cell_in opens k c
      go true t = let above = leb-true _ _ t in new (eqb (get_or opens c 0) k) refl above ∙ sym (cell-not-open opens k c above)
      go false t = let below = leb-false k (get_or opens c 0) t in old-form (k + 1) c h other below (lt-leb (k + 1) (get_or opens c 0) (omega arith)) k t

  -- and while it is not open, nothing has changed
  pub counts-before : cell_in opens k cell ≡ 0 → (i : ℕ) → i ≤ k → (c : ℕ) → c < open_cells → cell_in after i c ≡ cell_in opens i c
  counts-before empty i within c h = go (eqb c cell) refl
    where
      outside : (c ≡ cell → ⊥) → (t : Bool) → leb i (get_or opens c 0) ≡ t → cell_in after i c ≡ cell_in opens i c
      outside other true t =
          let above = leb-true _ _ t in
          cell-not-open after i c (rw (cell_other c h other) above) ∙ sym (cell-not-open opens i c above)
      outside other false t = let below = leb-false i (get_or opens c 0) t in old-form i c h other (omega arith) t i t

      go : (t : Bool) → eqb c cell ≡ t → cell_in after i c ≡ cell_in opens i c
      go true t = rw (eqb-true c cell t) (cell-not-open after i cell (rw cell-here within) ∙ sym (fewer-empty opens i k cell within empty))
      go false t = outside (eqb-false c cell t) (leb i (get_or opens c 0)) refl
