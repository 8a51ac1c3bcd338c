-- What a search of all the entries finds.
use mathlib.Core.Bool.{Bool, true, false, cond, and-eq-true_iff, true≢false}
use mathlib.Core.List.{List}
use Rattle.std.specs.Prelude.{Option, None as none, Some as some}
use Rattle.std.specs.Prelude.{Result, Ok, Err}
use Rattle.std.specs.Result.{result_ok}
use mathlib.Core.Path.{◌≡◌, refl, sym, ◌∙◌, ap}
use Prim.Native.Nat.{ℕ, zero, suc, ◌<◌}
use native.Mathlib.Omega.{arith}
use borrow.Author.Tests.{eqb-true, eqb-false, eq-eqb}
use lib.Dec.{eqb}
use Rattle.stores.specs.declared.Key.{Key}
use Rattle.stores.specs.Keys.{same_key, key_at, find_key}

-- ---- Keys

pub same-key : (p q : Key) → same_key p q ≡ true → p ≡ q
unfolding same_key
same-key p q e i =
    let t = simp and-eq-true_iff at e in
    record { node = eqb-true p.node q.node t.0 i; attribute = eqb-true p.attribute q.attribute t.1.0 i; word = eqb-true p.word q.word t.1.1 i }

pub key-refl : (q : Key) → same_key q q ≡ true
unfolding same_key
key-refl q = rw (eq-eqb q.node q.node refl, eq-eqb q.attribute q.attribute refl, eq-eqb q.word q.word refl)

pub other_key : (p q : Key) → same_key p q ≡ false → p ≡ q → ⊥
other_key p q e same = true≢false (sym (key-refl q) ∙ rw same at e)

-- ---- What is found

pub found_below : (store : List ℕ) (k : ℕ) (q : Key) (j : ℕ) → find_key store k q ≡ some j → (j < k) × (same_key (key_at store j) q ≡ true)
unfolding find_key
found_below store zero q j e = absurd (let z : ◌≡◌ {A = ℕ} 0 1 = cc in omega arith)
found_below store (suc k) q j e = go (same_key (key_at store k) q) refl e (found_below store k q j)
  where
    go : (b : Bool) → same_key (key_at store k) q ≡ b → cond b (some k) (find_key store k q) ≡ some j
        → (find_key store k q ≡ some j → (j < k) × (same_key (key_at store j) q ≡ true)) → (j < suc k) × (same_key (key_at store j) q ≡ true)
    go true t e f = let same : k ≡ j = cc in (omega arith, rw (← same) t)
    go false t e f = (let below = (f e).0 in omega arith, (f e).1)

-- Nothing is found exactly if no entry has the key.
pub find_none : (store : List ℕ) (k : ℕ) (q : Key) → ((j : ℕ) → j < k → key_at store j ≡ q → ⊥) → find_key store k q ≡ none
find_none store k q none_has = go (find_key store k q) refl
  where
    go : (o : Option ℕ) → find_key store k q ≡ o → find_key store k q ≡ none
    go none e = e
    go (some j) e = let (below, same) = found_below store k q j e in absurd (none_has j below (same-key _ _ same))

pub none_has : (store : List ℕ) (k : ℕ) (q : Key) → find_key store k q ≡ none → (j : ℕ) → j < k → key_at store j ≡ q → ⊥
unfolding find_key
none_has store zero q e j h same = absurd (omega arith)
none_has store (suc k) q e j h same = go (same_key (key_at store k) q) refl e (none_has store k q)
  where
    go : (b : Bool) → same_key (key_at store k) q ≡ b → cond b (some k) (find_key store k q) ≡ none
        → (find_key store k q ≡ none → (j : ℕ) → j < k → key_at store j ≡ q → ⊥) → ⊥
    go true t e f = let z : ◌≡◌ {A = ℕ} 0 1 = cc in omega arith
    go false t e f = last (eqb j k) refl
      where
        last : (c : Bool) → eqb j k ≡ c → ⊥
        last true c = other_key _ _ t (rw (eqb-true j k c) at same)
        last false c = let other = eqb-false j k c in f e j (omega arith) same

-- An entry with the key is what is found, if no other has it.
pub find-only : (store : List ℕ) (k : ℕ) (q : Key) (j : ℕ) → j < k → key_at store j ≡ q → ((i : ℕ) → i < k → key_at store i ≡ q → i ≡ j)
    → find_key store k q ≡ some j
find-only store k q j below has only = go (find_key store k q) refl
  where
    go : (o : Option ℕ) → find_key store k q ≡ o → find_key store k q ≡ some j
    go none e = absurd (none_has store k q e j below has)
    go (some i) e = let (h, same) = found_below store k q i e in e ∙ ap some (only i h (same-key _ _ same))

-- What the code says of a search.
module _ (store : List ℕ) (k : ℕ) {p q : Key} {r : Result ℕ ℕ} (e : result_ok r ≡ find_key store k p) (same : p ≡ q) where
  pub nothing-found : {cell : ℕ} → r ≡ Err cell → find_key store k q ≡ none
  nothing-found n = rw same at (sym e ∙ ap result_ok n)

  pub found_at : (j : ℕ) → r ≡ Ok j → find_key store k q ≡ some j
  found_at j n = rw same at (sym e ∙ ap result_ok n)
