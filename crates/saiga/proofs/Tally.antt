-- Laws of the tally: its rows one by one, a step more, and what they add up to.
use mathlib.Core.Bool.{Bool, true, false, ◌&&◌}
use mathlib.Core.List.{List, ◌∷◌}
use mathlib.Core.Path.{◌≡◌, refl, sym, ap, ap₂, ◌∙◌}
use Prim.Native.Nat.{ℕ, zero, suc, ◌+◌, ◌≤◌, ◌<◌}
use native.Mathlib.Nat.{add-zero, add-suc, suc-add}
use native.Mathlib.Omega.{arith}
use lib.Dec.{eqb, ltb, lit<}
use lib.ListN.{length, get_or}
use lib.Seq.{ext_get_or}
use borrow.Author.Tests.{eqb-true, eqb-false, eq-eqb, ne_eqb, lt-ltb}
use Rattle.saiga.specs.Limits.{attribute_limit, tally_rows, applications_row, conditions_row}
use Rattle.saiga.specs.Caching.{Counted, CondTrue, CondFalse, AppApp, AttrApp}
use Rattle.saiga.specs.Tally.{in_row, steps_in, rows_from, tally, total}
use Rattle.saiga.specs.Sound.{All, all_none, all_cons}

-- ---- The row of a step

unfoldable pub row_of : Counted → ℕ
row_of CondTrue = conditions_row
row_of CondFalse = conditions_row
row_of AppApp = applications_row
row_of (AttrApp a) = a

-- AttrApp is of one of the first n attributes.
abbrev pub AmongFirst : ℕ → Counted → Type 0
AmongFirst n CondTrue = Unit {0}
AmongFirst n CondFalse = Unit {0}
AmongFirst n AppApp = Unit {0}
AmongFirst n (AttrApp a) = a < n

pub among-more : {m n : ℕ} → m ≤ n → (r : Counted) → AmongFirst m r → AmongFirst n r
among-more le CondTrue h = tt
among-more le CondFalse h = tt
among-more le AppApp h = tt
among-more le (AttrApp a) h = omega arith

-- An attribute's row is before the others.
abbrev pub HasRow : Counted → Type 0
HasRow r = AmongFirst attribute_limit r

pub row_inside : (r : Counted) → HasRow r → row_of r < tally_rows
unfolding row_of
row_inside CondTrue h = lit< tt
row_inside CondFalse h = lit< tt
row_inside AppApp h = lit< tt
row_inside (AttrApp a) h = omega arith

in-its-row : (i : ℕ) (r : Counted) → HasRow r → in_row i r ≡ eqb i (row_of r)
unfolding in_row row_of
in-its-row i CondTrue h = refl
in-its-row i CondFalse h = refl
in-its-row i AppApp h = refl
in-its-row i (AttrApp a) h = go (eqb i a) refl (ltb i attribute_limit) refl
  where
    go : (b : Bool) → eqb i a ≡ b → (c : Bool) → ltb i attribute_limit ≡ c → (c && b) ≡ b
    go b e true f = refl
    go false e false f = refl
    go true e false f = sym f ∙ lt-ltb i attribute_limit (let same = eqb-true i a e in omega arith)

-- one step more in its row, and none in another
pub one_more : (r : Counted) → HasRow r → (l : List Counted) → steps_in (row_of r) (r ∷ l) ≡ suc (steps_in (row_of r) l)
unfolding steps_in
one_more r h l = rw (in-its-row (row_of r) r h, eqb_same (row_of r))
  where
    eqb_same : (n : ℕ) → eqb n n ≡ true
    eqb_same n = eq-eqb n n refl

pub no_more : (i : ℕ) (r : Counted) → HasRow r → (i ≡ row_of r → ⊥) → (l : List Counted) → steps_in i (r ∷ l) ≡ steps_in i l
unfolding steps_in
no_more i r h other l = rw (in-its-row i r h, ne_eqb i (row_of r) other)

-- ---- The rows

rows-length : (i n : ℕ) (l : List Counted) → length (rows_from i n l) ≡ n
unfolding rows_from
rows-length i zero l = refl
rows-length i (suc n) l = ap suc (rows-length (suc i) n l)

row_at : (i n j : ℕ) (l : List Counted) → j < n → get_or (rows_from i n l) j 0 ≡ steps_in (i + j) l
unfolding rows_from
row_at i zero j l h = absurd (omega arith)
row_at i (suc n) zero l h = rw add-zero
row_at i (suc n) (suc j) l h = rw (add-suc, ← suc-add) (row_at (suc i) n j l (omega arith))

pub tally-length : (l : List Counted) → length (tally l) ≡ tally_rows
unfolding tally
tally-length l = rows-length 0 tally_rows l

pub tally-row : (l : List Counted) (i : ℕ) → i < tally_rows → get_or (tally l) i 0 ≡ steps_in i l
unfolding tally
tally-row l i h = row_at 0 tally_rows i l h ∙ ap (λ j. steps_in j l) (omega arith)

-- A list with these rows is the tally.
pub is-tally : (rows : List ℕ) (l : List Counted) → length rows ≡ tally_rows → ((i : ℕ) → i < tally_rows → get_or rows i 0 ≡ steps_in i l) → rows ≡ tally l
is-tally rows l size same =
    ext_get_or 0 rows (tally l) (size ∙ sym (tally-length l)) (λ i h. let inside : i < tally_rows = rw size at h in same i inside ∙ sym (tally-row l i inside))

-- ---- What they add up to

module _ (r : Counted) (has : HasRow r) (l : List Counted) where
  -- rows past its row
  others-add : (i n : ℕ) → row_of r < i → total (rows_from i n (r ∷ l)) ≡ total (rows_from i n l)
  unfolding rows_from total
  others-add i zero h = refl
  others-add i (suc n) h = ap₂ (λ x y. x + y) (no_more i r has (λ e. omega arith) l) (others-add (suc i) n (omega arith))

  -- rows among which its row is
  one-adds : (i n : ℕ) → i ≤ row_of r → row_of r < i + n → total (rows_from i n (r ∷ l)) ≡ suc (total (rows_from i n l))
  unfolding rows_from total
  one-adds i zero from to = absurd (omega arith)
  one-adds i (suc n) from to = go (eqb i (row_of r)) refl (λ from to. one-adds (suc i) n from to)
    where
      go : (b : Bool) → eqb i (row_of r) ≡ b
          → (suc i ≤ row_of r → row_of r < suc i + n → total (rows_from (suc i) n (r ∷ l)) ≡ suc (total (rows_from (suc i) n l)))
          → steps_in i (r ∷ l) + total (rows_from (suc i) n (r ∷ l)) ≡ suc (steps_in i l + total (rows_from (suc i) n l))
      go true e rest =
          let same = eqb-true i (row_of r) e in
          let here : steps_in i (r ∷ l) ≡ suc (steps_in i l) = rw same (one_more r has l) in
          omega (arith, here, others-add (suc i) n (omega arith))
      go false e rest =
          let other = eqb-false i (row_of r) e in
          let here = no_more i r has other l in
          omega (arith, here, rest (omega arith) (omega arith))

-- "the rows add up to the answer's steps": to the number of the steps
pub tally-adds : {l : List Counted} → All HasRow l → total (tally l) ≡ length l
unfolding tally rows_from steps_in total
tally-adds all_none = refl
tally-adds (all_cons {x = r} {l = l} h t) = one-adds r h l 0 tally_rows (omega arith) (row_inside r h) ∙ ap suc (tally-adds t)
