-- CacheWrite on bytes: the store that it leaves passes, with the entries that `write` leaves.
use mathlib.Core.Bool.{Bool, true, false, cond}
use Rattle.std.specs.Prelude.{Option, None as none, Some as some}
use mathlib.Core.List.{List, [], ◌∷◌, ◌++◌, append-nil}
use mathlib.Core.Path.{◌≡◌, refl}
use Prim.Native.Nat.{ℕ, ◌+◌, ◌*◌, ◌/◌, ◌≤◌, ◌<◌}
use native.Mathlib.Omega.{arith}
use lib.Dec.{leb}
use lib.ListN.{length, length-append}
use lib.Seq.{drop_at}
use borrow.Author.Tests.{leb-true, leb-false, lt-leb}
use Rattle.saiga.specs.Values.{of_word, to_word}
use Rattle.saiga.specs.declared.Value.{Value}
use Rattle.saiga.specs.Types.{attribute_at}
use Rattle.saiga.specs.Sheet.{Sheet, node_count, accepted}
use Rattle.saiga.specs.Terms.{Occurrence}
use Rattle.saiga.specs.Caching.{Entry, kept, is_kept, write}
use Rattle.saiga.specs.Store.{entry_fields, entry_bytes, check_store, entries_bytes, left_store}
use Rattle.saiga.specs.Sound.{IsA, OccurrenceIn, EntryIn, all_none, all_cons}
use Rattle.saiga.proofs.Keeping.{write-full}
use Rattle.saiga.proofs.Entries.{store_in, left-length, left-passes}
use Rattle.stores.specs.declared.Key.{Key}
use Rattle.stores.specs.Keys.{find_key, key_in, value_word, fields_for, put_at}
use Rattle.engine.specs.Steps.{appended, unless_found, cache_write}

-- an occurrence in bytes
abbrev pub key_of : Occurrence → Key
key_of o = record { node = o.node; attribute = o.attribute; word = to_word o.parameter }

-- What a store keeps for an occurrence is what its key finds there.
pub record ByKey (s : Sheet) (store : List ℕ) (k : ℕ) (entries : List Entry) : Type 0 where
  pub missing : (o : Occurrence) → OccurrenceIn (node_count s) s.attributes o → find_key store k (key_of o) ≡ none → kept entries o ≡ none
  pub found : (o : Occurrence) (j : ℕ) → OccurrenceIn (node_count s) s.attributes o → find_key store k (key_of o) ≡ some j
      → kept entries o ≡ some (of_word (attribute_at s.attributes o.attribute).result (value_word store j))

-- a store of the same length that passes with the entries `after`
pub record Written (s : Sheet) (store : List ℕ) (after : List Entry) (w : List ℕ × ℕ) : Type 0 where
  pub passes : check_store s w.0 w.1 ≡ accepted after
  pub same_length : length w.0 ≡ length store

module _ (s : Sheet) (few : node_count s ≤ 1024) (store : List ℕ) (k : ℕ) (entries : List Entry) (passes : check_store s store k ≡ accepted entries)
    (by_key : ByKey s store k entries) (o : Occurrence) (v : Value) (o-in : OccurrenceIn (node_count s) s.attributes o)
    (v-in : IsA (node_count s) (attribute_at s.attributes o.attribute).result v) where
  abbrev new : Entry
  new = record { occurrence = o; value = v }

  count : length entries ≡ k
  count = (store_in s store k entries passes).count

  -- the bytes of one more entry
  appended-is : appended store k (fields_for (key_of o) v) ≡ left_store store k (entries ++ new ∷ [])
  unfolding appended put_at fields_for left_store entry_fields entry_bytes entries_bytes
  appended-is = rw (drop_at entries (new ∷ []) k count, append-nil, after) refl
    where
      after : 12 * length (entries ++ new ∷ []) ≡ 12 * k + 12
      after = rw length-append (omega (arith, count))

  unless-found : k < length store / 12 → (f : Option ℕ) → find_key store k (key_of o) ≡ f
      → Written s store (write (length store / 12) entries new) (unless_found store k (fields_for (key_of o) v) f)
  unfolding unless_found write is_kept
  unless-found room none e =
      let one_more : length (entries ++ new ∷ []) ≡ k + 1 = rw length-append (omega (arith, count)) in
      let fits : length (entries ++ new ∷ []) ≤ length store / 12 = omega arith in
      let absent = by_key.missing o o-in e in
      let entry_in : EntryIn (node_count s) s.attributes new = record { occurrence_in = o-in; value-in = v-in } in
      rw (absent, count, lt-leb (length store / 12) k room, appended-is, ← one_more)
      (record {
        passes = left-passes s few store k entries (new ∷ []) passes (all_cons entry_in all_none) (rw absent refl, tt) fits;
        same_length = left-length store k entries (new ∷ []) count fits;
      })
  unless-found room (some j) e = rw (by_key.found o j o-in e) (record { passes = passes; same_length = refl })

  pub cache-write : Written s store (write (length store / 12) entries new) (cache_write store k (fields_for (key_of o) v))
  unfolding cache_write key_in fields_for
  cache-write = go (leb (length store / 12) k) refl
    where
      go : (b : Bool) → leb (length store / 12) k ≡ b
          → Written s store (write (length store / 12) entries new) (cond b (store, k) (unless_found store k (fields_for (key_of o) v) (find_key store k (key_of o))))
      go true e = rw (write-full (length store / 12) entries new (omega (arith, leb-true, count))) (record { passes = passes; same_length = refl })
      go false e = unless-found (leb-false _ _ e) (find_key store k (key_of o)) refl
