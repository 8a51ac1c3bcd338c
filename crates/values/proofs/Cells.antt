-- What an index holds when a run of its cells is emptied, and how the code empties them.
use mathlib.Core.Bool.{Bool, true, false}
use mathlib.Core.List.{List, []}
use mathlib.Core.Path.{◌≡◌, refl, sym, ap, ◌∙◌}
use Prim.Native.Nat.{ℕ, zero, suc, ◌+◌, ◌-◌, ◌≤◌, ◌<◌}
use native.Mathlib.Numerals.{add-one}
use native.Mathlib.Omega.{arith}
use lib.Dec.{eqb}
use lib.ListN.{length, get_or, take, drop, replicate, set, length-set}
use borrow.Rule.Slice.PartMut.{put_mid}
use Rattle.std.proofs.lemmas.List.Edits.{paste_none, fill_from_more, length-between}
use Rattle.std.proofs.lemmas.Slice.{put_mid-paste}
use Rattle.std.proofs.lemmas.List.{length-replicate}
use lib.Seq.{paste, get_or-set_same, get_or-set_other}
use borrow.Author.Tests.{eqb-true, eqb-false}
use Rattle.values.specs.Cells.{emptied}

module _ (index : List ℕ) (from : ℕ) where
  pub emptied-length : (n : ℕ) → length (emptied index from n) ≡ length index
  unfolding emptied
  emptied-length zero = refl
  emptied-length (suc n) = simp length-set (emptied-length n)

  pub emptied-inside : (n c : ℕ) → from ≤ c → c < from + n → c < length index → get_or (emptied index from n) c 0 ≡ 0
  unfolding emptied
  emptied-inside zero c low high within = absurd (omega arith)
  emptied-inside (suc n) c low high within = go (eqb c (from + n)) refl (emptied-inside n c low)
    where
      go : (t : Bool) → eqb c (from + n) ≡ t → (c < from + n → c < length index → get_or (emptied index from n) c 0 ≡ 0)
          → get_or (set (emptied index from n) (from + n) 0) c 0 ≡ 0
      go true t rest = let last = eqb-true c (from + n) t in rw last (get_or-set_same (emptied index from n) (from + n) 0 0 (rw (emptied-length n, ← last) within))
      go false t rest = let other = eqb-false c (from + n) t in get_or-set_other (emptied index from n) (from + n) c 0 0 other ∙ rest (omega arith) within

  pub emptied-outside : (n c : ℕ) → (from ≤ c → c < from + n → ⊥) → get_or (emptied index from n) c 0 ≡ get_or index c 0
  unfolding emptied
  emptied-outside zero c h = refl
  emptied-outside (suc n) c h =
      get_or-set_other (emptied index from n) (from + n) c 0 0 (λ e. h (omega arith) (omega arith)) ∙ emptied-outside n c (λ low high. h low (omega arith))

  emptied-paste : (n : ℕ) → from + n ≤ length index → emptied index from n ≡ paste index from (replicate n 0) n
  unfolding emptied
  emptied-paste zero h = paste_none index from []
  emptied-paste (suc n) h = rw (emptied-paste n (omega arith)) (fill_from_more index from n 0 (omega arith) ∙ ap (λ k. paste index from (replicate k 0) k) (add-one n))

  -- The code writes zeros over them.
  pub cleared : (n : ℕ) (zeros : List ℕ) → from + n ≤ length index → zeros ≡ replicate (length (take (from + n - from) (drop from index))) 0
      → put_mid from (from + n - from) index zeros ≡ emptied index from n
  cleared n zeros h is =
      let width : from + n - from ≡ n = omega arith in
      let all : zeros ≡ replicate n 0 = is ∙ ap (λ k. replicate k 0) (length-between index from (from + n) h ∙ width) in
      put_mid-paste from (from + n - from) index zeros (replicate n 0) n all (sym width) (sym (length-replicate n 0)) ∙ sym (emptied-paste n h)
