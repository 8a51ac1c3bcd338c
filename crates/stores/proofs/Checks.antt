-- What the code's tests say of a store's checks.
use mathlib.Core.Bool.{Bool, true, false, ◌&&◌, and-false, and-eq-true_iff}
use mathlib.Core.List.{List, []}
use mathlib.Core.Path.{◌≡◌, refl, sym, ◌∙◌, ap}
use Rattle.std.specs.Prelude.{Option, None as none, Some as some, is_some, Ok, Err, ◌⊎◌}
use Rattle.std.proofs.Common.{inl, inr}
use Prim.Native.Nat.{ℕ, ◌+◌, ◌*◌, ◌≤◌, ◌<◌}
use native.Mathlib.Numerals.{add-one}
use native.Mathlib.Omega.{arith}
use lib.Dec.{ltb, eqb}
use lib.ListN.{length, take, drop}
use borrow.Author.Tests.{lt-ltb, le-ltb, eq-eqb, ne_eqb, leb-true}
use Rattle.saiga.specs.Values.{base_code, base_of, is_word}
use denote.Enum.Declared.{tag_of}
use Rattle.saiga.specs.contracts.Base.{the_type}
use Rattle.saiga.specs.declared.Base.{Base}
use Rattle.saiga.specs.declared.Base.TheVariants.{Unit as unit_t, Bool as bool_t, Int as int_t, Node as node_t}
use Rattle.saiga.specs.declared.Fields.{Fields}
use Rattle.saiga.specs.Types.{attribute_at}
use Rattle.values.specs.Cells.{emptied}
use Rattle.values.specs.Layout.{result_at, parameter_at, attributes_in}
use Rattle.saiga.specs.Stops.{stop_number}
use Rattle.saiga.specs.declared.stops.Stop.{Stop}
use Rattle.saiga.specs.declared.stops.Stop.TheVariants.{StoreShape, BadEntry}
use Rattle.saiga.specs.declared.stops.Refusal.{Refusal}
use Rattle.saiga.specs.Sheet.{Sheet, node_count, refused◌at_place◌, accepted}
use Rattle.saiga.specs.Store.{is_entry, read_entries, check_store}
use Rattle.stores.specs.Walks.{bucket_count, planted}
use Rattle.stores.specs.Keys.{fields_at, key_in, key_at, entries_in, Linked, is_shaped, EntryTested, StoreChecked}
use Rattle.values.proofs.Attributes.{attribute_in, attribute-at, attributes-count}
use Rattle.stores.proofs.Linked.{linked-none, free-inside, linked-more}
use Rattle.stores.proofs.ByKey.{tests, first-tests, entry_read, entry-refused}

-- ---- The tests of an entry

-- the number of a base type in the code
pub base-tag : {b : Base} (n : ℕ) → b ≡ base_of n → tag_of the_type b ≡ base_code (base_of n)
base-tag {b} n e = rw (← e) (tag b)
  where
    tag : (b : Base) → tag_of the_type b ≡ base_code b
    tag unit_t = refl
    tag bool_t = refl
    tag int_t = refl
    tag node_t = refl

-- What the code's tests of the numbers f of entry j say, for each sheet of these attributes and nodes.
module _ (s : Sheet) (types : List ℕ) (attributes nodes : ℕ) (a : s.attributes ≡ attributes_in types attributes) (n : node_count s ≡ nodes) (store : List ℕ) (j : ℕ)
    (f : Fields) (e : f ≡ fields_at store j) where
  tests-are : is_entry s [] (take 12 (drop (12 * j) store)) ≡
      (ltb f.node nodes && ltb f.attribute attributes && eqb f.code (base_code (attribute_at (attributes_in types attributes) f.attribute).result)
      && is_word nodes (attribute_at (attributes_in types attributes) f.attribute).parameter-type f.parameter
      && is_word nodes (attribute_at (attributes_in types attributes) f.attribute).result f.value)
  unfolding tests key_in
  tests-are = first-tests s store j ∙ rw (a, n, attributes-count, e)

  pub undeclared-fails : {node attribute : ℕ} → node ≡ f.node → attribute ≡ f.attribute → (nodes ≤ node) ⊎ ((node < nodes) × (attributes ≤ attribute))
      → false ≡ is_entry s [] (take 12 (drop (12 * j) store))
  undeclared-fails n-is a-is (inl h) = sym (tests-are ∙ rw (le-ltb f.node nodes (rw n-is at h)) refl)
  undeclared-fails n-is a-is (inr (_, h)) = sym (tests-are ∙ rw (le-ltb f.attribute attributes (rw a-is at h), and-false) refl)

  module _ {attribute : ℕ} (attribute-is : attribute ≡ f.attribute) (declared : attribute < attributes) {result : ℕ} (result-is : result ≡ result_at types attribute)
      {code : ℕ} (code_is : code ≡ base_code (base_of result)) where
    attribute-are : attribute_at (attributes_in types attributes) f.attribute ≡ attribute_in types f.attribute
    attribute-are = attribute-at types attributes f.attribute (rw attribute-is at declared)

    pub type-fails : (f.code ≡ code → ⊥) → false ≡ is_entry s [] (take 12 (drop (12 * j) store))
    type-fails h = sym (tests-are ∙ rw (attribute-are, ← attribute-is, ← result-is, ← code_is, ne_eqb _ _ h, and-false))

    module _ {parameter : ℕ} (parameter-is : parameter ≡ parameter_at types attribute) {w : Bool} (word : w ≡ is_word nodes (base_of parameter) f.parameter) where
      pub parameter-fails : w ≡ false → w ≡ is_entry s [] (take 12 (drop (12 * j) store))
      parameter-fails h = h ∙ sym (tests-are ∙ rw (attribute-are, ← attribute-is, ← parameter-is, ← word, h, and-false))

      pub by_value : {node : ℕ} → node ≡ f.node → node < nodes → f.code ≡ code → w ≡ true → {v : Bool} → v ≡ is_word nodes (base_of result) f.value
          → v ≡ is_entry s [] (take 12 (drop (12 * j) store))
      by_value node-is h same p v =
          v ∙ sym (tests-are ∙ rw (attribute-are, ← attribute-is, ← parameter-is, ← result-is, ← code_is, ← node-is, lt-ltb _ _ h, lt-ltb _ _ declared, eq-eqb _ _ same, ← word, p))

-- ---- The check

-- Where the check stands after i entries.
pub record Checking (types : List ℕ) (attributes nodes : ℕ) (store : List ℕ) (kept : ℕ) (index : List ℕ) (i : ℕ) : Type 0 where
  pub within : i ≤ kept
  pub few : kept ≤ 1024
  pub stands : 12 * kept ≤ length store
  pub linked : Linked store i index
  pub reads : (s : Sheet) → s.attributes ≡ attributes_in types attributes → node_count s ≡ nodes → read_entries s i [] store ≡ accepted (entries_in s store i)

module _ (types : List ℕ) (attributes nodes : ℕ) (store : List ℕ) (kept : ℕ) where
  pub check-starts : {shape : Bool} → shape ≡ is_shaped store kept → shape ≡ true → (index : List ℕ) {index' : List ℕ} → length index ≡ 9216 → index' ≡ emptied index 0 bucket_count
      → Checking types attributes nodes store kept index' 0
  unfolding is_shaped read_entries entries_in
  check-starts is shaped index size cleared =
      let t = simp and-eq-true_iff at (sym is ∙ shaped) in
      let small = leb-true _ _ t.0.1 in
      let room = leb-true _ _ t.1 in
      record { within = omega arith; few = omega (arith, small, room); stands = omega (arith, room); linked = linked-none store index size cleared; reads = λ s a n. refl }

  -- The test of entry i settles how the check goes on.
  module _ (index : List ℕ) (i : ℕ) (c : Checking types attributes nodes store kept index i) (more : i < kept) {r : Option ℕ}
      (test : EntryTested types attributes nodes store i index r) where
    last : i < 1024
    last = omega (arith, more, c.few)

    pub check-goes-on : (cell : ℕ) → r ≡ some cell → {index' : List ℕ} → index' ≡ planted index cell i → Checking types attributes nodes store kept index' (i + 1)
    check-goes-on cell e written =
        record {
          within = omega arith;
          few = c.few;
          stands = c.stands;
          linked = rw written
              (linked-more store i index c.linked last (key_at store i) refl (test.keyed cell e) (test.new cell e) cell (test.free cell e)
              (omega (arith, more, c.stands)));
          reads = λ s a n. rw add-one (entry_read s store i (c.reads s a n) (sym (test.answer s a n (c.reads s a n)) ∙ ap is_some e));
        }

    pub check-cell : (cell : ℕ) → r ≡ some cell → cell < 9216
    check-cell cell e = free-inside store i index c.linked last (key_at store i) cell (test.free cell e)

    check-stops : r ≡ none → (s : Sheet) → s.attributes ≡ attributes_in types attributes → node_count s ≡ nodes → read_entries s kept [] store ≡ refused 10 at_place i
    check-stops e s a n = entry-refused s store i (c.reads s a n) (sym (test.answer s a n (c.reads s a n)) ∙ ap is_some e) kept more

  module _ (index : List ℕ) (size : length index ≡ 9216) where
    -- a refusal by a stop at a place
    module _ (r : Refusal) (stop : Stop) (place : ℕ) (is-stop : r.stop ≡ stop) (is-place : r.place ≡ place) where
      refuses : ((s : Sheet) → s.attributes ≡ attributes_in types attributes → node_count s ≡ nodes → check_store s store kept ≡ refused stop_number stop at_place place)
          → StoreChecked types attributes nodes store kept index (Err r)
      refuses e = record {
        answer = λ s a n. rw (e s a n, is-stop, is-place) refl;
        size = size;
        linked = λ q. cc;
      }

    pub shape-refused : {shape : Bool} → shape ≡ is_shaped store kept → shape ≡ false → (r : Refusal) → (r.stop ≡ StoreShape) × (r.place ≡ 0) → StoreChecked types attributes nodes store kept index (Err r)
    shape-refused is bad r (is-stop, is-place) = refuses r StoreShape 0 is-stop is-place λ s a n. unfold check_store is_shaped in rw (sym is ∙ bad) refl

    module _ {shape : Bool} (is : shape ≡ is_shaped store kept) (shaped : shape ≡ true) where
      all_read : (s : Sheet) → check_store s store kept ≡ read_entries s kept [] store
      unfolding check_store is_shaped
      all_read s = rw (sym is ∙ shaped) refl

      pub check-refuses : (i : ℕ) → Checking types attributes nodes store kept index i → i < kept → {tested : Option ℕ}
          → EntryTested types attributes nodes store i index tested → tested ≡ none → (r : Refusal) → (r.stop ≡ BadEntry) × (r.place ≡ i)
          → StoreChecked types attributes nodes store kept index (Err r)
      check-refuses i c more test e r (is-stop, is-place) =
          refuses r BadEntry i is-stop is-place λ s a n. all_read s ∙ check-stops index i c more test e s a n

      pub check-accepts : (i : ℕ) → Checking types attributes nodes store kept index i → kept ≤ i → StoreChecked types attributes nodes store kept index (Ok tt)
      check-accepts i c all =
          let end : i ≡ kept = let h = c.within in omega arith in
          record {
            answer = λ s a n. rw (all_read s, rw end at (c.reads s a n)) refl;
            size = size;
            linked = λ q. rw end at c.linked;
          }
