-- Which of the open forms have a key.
use mathlib.Core.Bool.{Bool, true, false, ◌&&◌, ◌||◌, or-true, true≢false}
use Rattle.std.proofs.Math.Bool.{and_assoc}
use mathlib.Core.List.{List}
use mathlib.Core.Path.{◌≡◌, refl, sym, ◌∙◌, ap}
use Prim.Native.Nat.{ℕ, zero, suc, ◌+◌, ◌*◌, ◌/◌, ◌%◌, ◌<◌}
use native.Mathlib.Omega.{arith}
use lib.Dec.{eqb}
use lib.ListN.{take, get_or}
use lib.Seq.{get_or-take}
use borrow.Author.Tests.{eqb-true, eqb-false}
use Rattle.saiga.specs.Limits.{depth_limit}
use Rattle.stores.specs.declared.Key.{Key}
use Rattle.stores.specs.Keys.{same_key}
use Rattle.stores.proofs.Searches.{same-key, key-refl}
use Rattle.engine.specs.Decode.{form_place, forms_in}
use Rattle.engine.specs.OpenKeys.{form_key, key_open}
use Rattle.engine.proofs.RunMemory.{form-at}

-- ---- Of the first k

module _ (forms : List ℕ) (q : Key) where
  pub key-open : (k j : ℕ) → j < k → form_key forms j ≡ q → key_open forms k q ≡ true
  unfolding key_open
  key-open zero j h has = absurd (omega arith)
  key-open (suc k) j h has = go (eqb j k) refl (λ below. key-open k j below has)
    where
      go : (t : Bool) → eqb j k ≡ t → (j < k → key_open forms k q ≡ true) → (same_key (form_key forms k) q || key_open forms k q) ≡ true
      go true t rest = rw (← eqb-true j k t, has, key-refl q)
      go false t rest = let other = eqb-false j k t in rw (rest (omega arith)) (or-true (same_key (form_key forms k) q))

  pub none_open : (k : ℕ) → key_open forms k q ≡ false → (j : ℕ) → j < k → form_key forms j ≡ q → ⊥
  none_open k closed j h has = true≢false (sym (key-open k j h has) ∙ closed)

  pub key-closed : (k : ℕ) → ((j : ℕ) → j < k → form_key forms j ≡ q → ⊥) → key_open forms k q ≡ false
  unfolding key_open
  key-closed zero none_has = refl
  key-closed (suc k) none_has = go (same_key (form_key forms k) q) refl (key-closed k (λ j h. none_has j (omega arith)))
    where
      go : (t : Bool) → same_key (form_key forms k) q ≡ t → key_open forms k q ≡ false → (t || key_open forms k q) ≡ false
      go true t rest = absurd (none_has k (omega arith) (same-key _ _ t))
      go false t rest = rest

-- The first k forms stand in the first 4 * k numbers.
pub form-key-same : (forms forms' : List ℕ) (k j : ℕ) → take (4 * k) forms' ≡ take (4 * k) forms → j < k → form_key forms' j ≡ form_key forms j
unfolding form_key
form-key-same forms forms' k j e h = rw (number (4 * j) (omega arith), number (4 * j + 1) (omega arith))
  where
    number : (i : ℕ) → i < 4 * k → get_or forms' i 0 ≡ get_or forms i 0
    number i g = sym (get_or-take (4 * k) forms' i 0 g) ∙ ap (λ l. get_or l i 0) e ∙ get_or-take (4 * k) forms i 0 g

-- ---- The code's tests of the numbers of form j

module _ (run : List ℕ) (j : ℕ) (q : Key) (few : j < depth_limit) (f : ℕ) (is : f ≡ form_place j) where
  pair : get_or run f 0 ≡ get_or (forms_in run) (4 * j) 0
  pair = form-at run (4 * j) f is (omega arith)

  word : get_or run (f + 1) 0 ≡ get_or (forms_in run) (4 * j + 1) 0
  word = form-at run (4 * j + 1) (f + 1) (omega (arith, is)) (omega arith)

  -- The code's test of the three numbers of a key, in 64 bits.
  pub form-has : {node attribute word' : ℕ} → node ≡ q.node → attribute ≡ q.attribute → word' ≡ q.word
      → {has : Bool} → has ≡ (eqb (get_or run f 0 / 32) node && eqb (get_or run f 0 % 32) attribute && eqb (get_or run (f + 1) 0) word')
      → has ≡ same_key (form_key (forms_in run) j) q
  unfolding same_key form_key
  form-has n a w e = e ∙ rw (n, a, w, and_assoc, ← pair, ← word) refl
