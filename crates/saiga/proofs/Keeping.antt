-- What a store keeps after CacheWrite and after a run: all that it kept, and nothing but right values.
use mathlib.Core.Bool.{Bool, true, false, ◌||◌}
use mathlib.Core.Bool as Bool
use mathlib.Core.Logic.{◌⊎◌, inl, inr}
use Rattle.std.specs.Prelude.{None as none, Some as some}
use Rattle.std.proofs.lemmas.Option.{none-some}
use mathlib.Core.List.{List, [], ◌∷◌, ◌++◌}
use mathlib.Core.Path.{◌≡◌, refl}
use Prim.Native.Nat.{ℕ, ◌≤◌}
use native.Mathlib.Omega.{arith}
use lib.Dec.{leb}
use lib.ListN.{length}
use borrow.Author.Tests.{leb-false, le-leb, lt-leb}
use Rattle.saiga.specs.Values.{Value}
use Rattle.saiga.specs.Expressions.{Expr}
use Rattle.saiga.specs.Terms.{Occurrence}
use Rattle.saiga.specs.Caching.{Entry, same_occurrence, kept, is_kept, write, State, Ended, due_at}
use Rattle.saiga.specs.Runs.{Runs, ends_value, ends_by, goes_counted, goes_writing}
use Rattle.saiga.proofs.Equality.{same-occurrence}
use Rattle.saiga.proofs.Erasure.{Yields, Right, Faithful, Seen, seen}

-- What is kept stays kept when entries are added.
kept-before : (l m : List Entry) (o : Occurrence) (v : Value) → kept l o ≡ some v → kept (l ++ m) o ≡ some v
unfolding kept
kept-before [] m o v e = absurd (none-some v e)
kept-before (n ∷ l) m o v e = go (kept-before l m o v) (same_occurrence n.occurrence o) e
  where
    go : (kept l o ≡ some v → kept (l ++ m) o ≡ some v) → (b : Bool)
        → Bool.cond b (some n.value) (kept l o) ≡ some v → Bool.cond b (some n.value) (kept (l ++ m) o) ≡ some v
    go rest true e = e
    go rest false e = rest e

-- One more entry brings its own value at most.
kept-added : (l : List Entry) (n : Entry) (o : Occurrence) (v : Value) → kept (l ++ n ∷ []) o ≡ some v
    → (kept l o ≡ some v) ⊎ ((n.occurrence ≡ o) × (n.value ≡ v))
unfolding kept
kept-added [] n o v e = go (same_occurrence n.occurrence o) refl e
  where
    go : (b : Bool) → same_occurrence n.occurrence o ≡ b → Bool.cond b (some n.value) none ≡ some v
        → (none ≡ some v) ⊎ ((n.occurrence ≡ o) × (n.value ≡ v))
    go true same e = inr (same-occurrence n.occurrence o same, cc)
    go false same e = inl e
kept-added (m ∷ l) n o v e = go (kept-added l n o v) (same_occurrence m.occurrence o) e
  where
    go : (kept (l ++ n ∷ []) o ≡ some v → (kept l o ≡ some v) ⊎ ((n.occurrence ≡ o) × (n.value ≡ v))) → (b : Bool)
        → Bool.cond b (some m.value) (kept (l ++ n ∷ []) o) ≡ some v
        → (Bool.cond b (some m.value) (kept l o) ≡ some v) ⊎ ((n.occurrence ≡ o) × (n.value ≡ v))
    go rest true e = inl e
    go rest false e = rest e

-- CacheWrite of what is kept, or into a full store, changes nothing.
pub write_kept : (C : ℕ) (s : List Entry) (n : Entry) → kept s n.occurrence ≡ some n.value → write C s n ≡ s
unfolding write is_kept
write_kept C s n k = rw k

pub write-full : (C : ℕ) (s : List Entry) (n : Entry) → C ≤ length s → write C s n ≡ s
unfolding write
write-full C s n full = go (is_kept (kept s n.occurrence))
  where
    go : (b : Bool) → Bool.cond (b || leb C (length s)) s (s ++ n ∷ []) ≡ s
    go true = refl
    go false = rw (le-leb C (length s) full)

-- While the smaller of two capacities has room, both write alike.
pub write-alike : (C C' : ℕ) (s : List Entry) (n : Entry) → C ≤ C' → leb C (length s) ≡ false → write C s n ≡ write C' s n
unfolding write
write-alike C C' s n le room = rw (room, lt-leb C' (length s) (omega (arith, leb-false C (length s) room)))

-- What is kept stays kept.
pub kept-write : (C : ℕ) (s : List Entry) (n : Entry) (o : Occurrence) (v : Value) → kept s o ≡ some v → kept (write C s n) o ≡ some v
unfolding write
kept-write C s n o v k = go (is_kept (kept s n.occurrence) || leb C (length s))
  where
    go : (b : Bool) → kept (Bool.cond b s (s ++ n ∷ [])) o ≡ some v
    go true = k
    go false = kept-before s (n ∷ []) o v k

-- Of another occurrence, what is kept stays as it is.
pub kept-other : (l : List Entry) (n : Entry) (o : Occurrence) → same_occurrence n.occurrence o ≡ false → kept (l ++ n ∷ []) o ≡ kept l o
unfolding kept
kept-other [] n o other = rw other
kept-other (m ∷ l) n o other = rw (kept-other l n o other)

pub write-other : (C : ℕ) (s : List Entry) (n : Entry) (o : Occurrence) → same_occurrence n.occurrence o ≡ false → kept (write C s n) o ≡ kept s o
unfolding write
write-other C s n o other = go (is_kept (kept s n.occurrence) || leb C (length s))
  where
    go : (b : Bool) → kept (Bool.cond b s (s ++ n ∷ [])) o ≡ kept s o
    go true = refl
    go false = kept-other s n o other

pub kept_run : {context : ℕ → ℕ → Expr} {C budget : ℕ} {st : State} {end : Ended} → Runs context C budget st end
    → (o : Occurrence) (v : Value) → kept st.entries o ≡ some v → kept end.entries o ≡ some v
kept_run (ends_value d) o v k = k
kept_run (ends_by d) o v k = k
kept_run (goes_counted d rest) o v k = kept_run rest o v k
kept_run {C} (goes_writing {st} {n} d rest) o v k = kept_run rest o v (kept-write C st.entries n o v k)

module _ (context : ℕ → ℕ → Expr) where
  -- A store of right values stays one: what is written is what plain Saiga makes of σ.
  pub right-write : (C : ℕ) (s : List Entry) (n : Entry) → Right context s → Yields context n.occurrence n.value → Right context (write C s n)
  unfolding write
  right-write C s n r y = go (is_kept (kept s n.occurrence) || leb C (length s))
    where
      added : (o : Occurrence) (v : Value) → (kept s o ≡ some v) ⊎ ((n.occurrence ≡ o) × (n.value ≡ v)) → Yields context o v
      added o v (inl k) = r.right o v k
      added o v (inr same) = rw (← same.0, ← same.1) y

      go : (b : Bool) → Right context (Bool.cond b s (s ++ n ∷ []))
      go true = r
      go false = record { right = λ o v k. added o v (kept-added s n o v k) }

  -- what plain Saiga sees of a state's due step
  pub seen_at : (C budget : ℕ) (st : State) → Right context st.entries → Faithful context st.term → Seen context [] st.term (due_at context C budget st)
  unfolding due_at
  seen_at C budget st r f = seen context st.entries _ [] st.term r f

  pub right-run : {C budget : ℕ} {st : State} {end : Ended} → Runs context C budget st end
      → Right context st.entries → Faithful context st.term → Right context end.entries
  right-run (ends_value d) r f = r
  right-run (ends_by d) r f = r
  right-run {C} {budget} {st} (goes_counted d rest) r f =
      let step = rw d at (seen_at C budget st r f) in right-run rest r step.1
  right-run {C} {budget} {st} (goes_writing {n} d rest) r f =
      let step = rw d at (seen_at C budget st r f) in right-run rest (right-write C st.entries n r step.2) step.1
