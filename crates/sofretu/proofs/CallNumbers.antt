-- The numbers of the C calls: a refusal's number is never 0, and what the checks of a sheet and of a store tell.
use mathlib.Core.Bool.{Bool, true, false, cond, ◌&&◌}
use mathlib.Core.List.{List, [], ◌∷◌, ◌++◌}
use mathlib.Core.Path.{◌≡◌, refl, sym, ap, ◌∙◌}
use Prim.Native.Nat.{ℕ, zero, suc, ◌/◌, ◌%◌, ◌<◌, min}
use native.Mathlib.Omega.{arith}
use lib.Dec.{leb, eqb}
use lib.ListN.{length, take, drop, get_or, length-replicate}
use Rattle.std.specs.Prelude.{Result, Ok, Err}
use Rattle.saiga.specs.Limits.{sheet_limit, entry_width, store_limit}
use Rattle.saiga.specs.declared.stops.Stop.{Stop}
use Rattle.saiga.specs.declared.stops.Refusal.{Refusal}
use Rattle.saiga.specs.Sheet.{Sheet, Checked, refused◌at_place◌, accepted, check_sheet}
use Rattle.saiga.specs.Stops.{stop_number, checked_of, says}
use Rattle.saiga.specs.Caching.{Entry}
use Rattle.saiga.specs.Store.{is_entry, entry_of, read_entries, capacity, check_store}
use Rattle.sheets.specs.declared.Counts.{Counts}
use Rattle.sheets.specs.Notes.{ChecksNotes}
use Rattle.sheets.specs.Scan.{attributes_place, nodes_place, Checks}
use Rattle.stores.specs.Keys.{StoreChecked}
use Rattle.calls.specs.Prepared.{PreparedSheet, NotedSheet}
use Rattle.calls.proofs.CheckLaws.{SheetWith, counted, sheet-prepared, sheet-refused, sheet-noted, sheet-of, attributes-fit, store-prepared}
use Rattle.sofretu.specs.Check.{number_of, place_of, sheet_found, declaring, StoreFound}

-- ---- What a check tells

pub stop-numbered : (s : Stop) → 0 < stop_number s
stop-numbered s = grind arith

-- number 0 is told of what passes alone
passing : (r : Result (Unit {0}) Refusal) → number_of (checked_of r) ≡ 0 → r ≡ Ok tt
unfolding number_of
passing (Ok x) is = refl
passing (Err q) is = absurd (omega (arith, stop-numbered q.stop))

-- The number and the place of a check that says less are the check's.
module _ {A B : Type 0} (f : A → B) where
  pub number-says : (C : Checked A) → number_of (says f C) ≡ number_of C
  unfolding number_of
  number-says (refused number at_place place) = refl
  number-says (accepted x) = refl

  pub place-says : (C : Checked A) → place_of (says f C) ≡ place_of C
  unfolding place_of
  place-says (refused number at_place place) = refl
  place-says (accepted x) = refl

-- ---- The sheet

module _ {sheet index : List ℕ} {r : Result Counts Refusal} (checked : Checks sheet r index) where
  pub sheet-told : {q : Refusal} → r ≡ Err q → stop_number q.stop ∷ q.place ∷ 0 ∷ 0 ∷ [] ≡ sheet_found (check_sheet sheet)
  unfolding sheet_found
  sheet-told is = rw (sheet-refused checked is)

  pub counts-told : {counts : Counts} → r ≡ Ok counts → 0 ∷ 0 ∷ counts.attributes ∷ counts.nodes ∷ [] ≡ sheet_found (check_sheet sheet)
  unfolding sheet_found
  counts-told is = let p = sheet-prepared checked is in rw (p.prepared.accepts, p.attributes_are, p.nodes-are)

  pub ready : {notes : List ℕ} → length notes ≡ sheet_limit → ChecksNotes sheet r index notes → {counts : Counts} → r ≡ Ok counts
      → PreparedSheet sheet index × NotedSheet sheet index notes
  ready size noted is =
      let p = sheet-prepared checked is in (p.prepared, sheet-noted checked size noted p.prepared.of p.prepared.accepts)

-- ---- The store

-- An entry is refused with 10.
entries-refused : (s : Sheet) (k : ℕ) (before : List Entry) (l : List ℕ) (number place : ℕ) → read_entries s k before l ≡ refused number at_place place → number ≡ 10
unfolding read_entries
entries-refused s zero before l number place e = absurd (let z : ◌≡◌ {A = ℕ} 0 1 = cc in omega arith)
entries-refused s (suc k) before l number place e = go (is_entry s before (take entry_width l)) (entries-refused s k (before ++ entry_of s (take entry_width l) ∷ []) (drop entry_width l) number place) e
  where
    go : (b : Bool) → (read_entries s k (before ++ entry_of s (take entry_width l) ∷ []) (drop entry_width l) ≡ refused number at_place place → number ≡ 10)
        → ◌≡◌ {A = Checked (List Entry)} (elim b [ true ↦ read_entries s k (before ++ entry_of s (take entry_width l) ∷ []) (drop entry_width l) | false ↦ refused 10 at_place (length before) ]) (refused number at_place place) → number ≡ 10
    go true f e = f e
    go false f e = cc

-- A store is never refused with 0.
pub store-number : (s : Sheet) (store : List ℕ) (kept number place : ℕ) → check_store s store kept ≡ refused number at_place place → 0 < number
unfolding check_store
store-number s store kept number place = go (eqb (length store % entry_width) 0 && leb (length store) store_limit && leb kept (capacity store)) (entries-refused s kept [] store number place)
  where
    go : (b : Bool) → (read_entries s kept [] store ≡ refused number at_place place → number ≡ 10) → cond b (read_entries s kept [] store) (refused 9 at_place 0) ≡ refused number at_place place → 0 < number
    go true f e = omega (arith, f e)
    go false f e = let nine : number ≡ 9 = cc in omega arith

-- The check of a store, put to so many of the attributes as the bytes have.
module _ {sheet : List ℕ} (index : List ℕ) {attributes stand nodes : ℕ} {store : List ℕ} {kept : ℕ} {links : List ℕ} {r : Result (Unit {0}) Refusal}
    (checked : StoreChecked sheet stand nodes store kept links r) (as_many : stand ≡ min attributes (length sheet / 3))
    (attributes-in : attributes ≡ get_or index attributes_place 0) (nodes-in : nodes ≡ get_or index nodes_place 0) where
  module _ (p : PreparedSheet sheet index) where
    abbrev with-counts : SheetWith sheet index attributes nodes
    with-counts = counted p attributes-in nodes-in

    all-stand : stand ≡ attributes
    all-stand = let fit = attributes-fit with-counts in omega arith

  pub found : {number place : ℕ} → number ≡ number_of (checked_of r) → place ≡ place_of (checked_of r) → StoreFound sheet index store kept links number place
  unfolding declaring
  found {number} {place} number-is place-is =
      record {
        number_is = rw (attributes-in, nodes-in) at (numbered _ declared);
        place_is = rw (attributes-in, nodes-in) at (placed _ declared);
        of-sheet = λ p. (numbered _ (of p), placed _ (of p));
        prepared = λ p z. store-prepared (with-counts p) (rw (all-stand p) at checked) (passing r (sym number-is ∙ z));
        links_length = checked.size;
      }
    where
      declared : checked_of r ≡ says (λ _. tt) (check_store (declaring sheet attributes nodes) store kept)
      declared = checked.answer (declaring sheet attributes nodes) (rw as_many refl) (length-replicate nodes 0)

      of : (p : PreparedSheet sheet index) → checked_of r ≡ says (λ _. tt) (check_store p.of store kept)
      of p = checked.answer p.of (rw (all-stand p) (sheet-of (with-counts p)).attributes_are) (with-counts p).nodes-are

      numbered : (C : Checked (List Entry)) → checked_of r ≡ says (λ _. tt) C → number ≡ number_of C
      numbered C e = number-is ∙ ap number_of e ∙ number-says (λ _. tt) C

      placed : (C : Checked (List Entry)) → checked_of r ≡ says (λ _. tt) C → place ≡ place_of C
      placed C e = place-is ∙ ap place_of e ∙ place-says (λ _. tt) C
