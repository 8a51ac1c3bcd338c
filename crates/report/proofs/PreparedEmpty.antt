-- A checked sheet and an empty store are prepared.
use mathlib.Core.List.{List, []}
use mathlib.Core.Path.{◌≡◌, sym, ◌∙◌}
use Prim.Native.Nat.{ℕ}
use lib.ListN.{length}
use Rattle.std.specs.Prelude.{Result, Ok, Err}
use Rattle.saiga.specs.Limits.{sheet_limit, store_limit}
use Rattle.saiga.specs.Sheet.{Sheet, accepted}
use Rattle.saiga.specs.declared.stops.Refusal.{Refusal}
use Rattle.saiga.specs.Store.{check_store, read_entries}
use Rattle.sheets.specs.Scan.{Checks}
use Rattle.sheets.specs.Notes.{ChecksNotes}
use Rattle.sheets.specs.declared.Counts.{Counts}
use Rattle.stores.specs.Keys.{StoreChecked}
use Rattle.calls.proofs.CheckLaws.{sheet-prepared, sheet-noted, sheet-of, store-prepared, check-passes}
use Rattle.report.specs.declared.CheckedSheet.{CheckedSheet}
use Rattle.report.specs.Report.{Prepared}

-- a store of 1,024 entries, of which none is kept
empty-store : (s : Sheet) (store : List ℕ) → length store ≡ store_limit → check_store s store 0 ≡ accepted []
unfolding check_store read_entries
empty-store s store e = rw e

module _ (c : CheckedSheet) (checked : Checks c.sheet.bytes.now c.check c.sheet.index.now) (notes : ChecksNotes c.sheet.bytes.now c.check c.sheet.index.now c.sheet.notes.now)
    (long : length c.sheet.notes.now ≡ sheet_limit) {store links : List ℕ} where
  pub prepared-accepted : {counts : Counts} {q : Result (Unit {0}) Refusal} → c.check ≡ Ok counts → length store ≡ store_limit
      → StoreChecked c.sheet.bytes.now counts.attributes counts.nodes store 0 links q → Prepared c store 0 links
  prepared-accepted {counts} e size stored =
      let p = sheet-prepared checked e in
      let passes = check-passes (λ _. tt) (stored.answer p.prepared.of (sheet-of p).attributes_are p.nodes-are) (empty-store p.prepared.of store size) in
      record {
        checked = checked;
        noted = λ m h. sheet-noted checked long notes p.prepared.of p.prepared.accepts;
        store_ready = λ m h. store-prepared p stored passes;
      }

  pub prepared-refused : {q : Refusal} → c.check ≡ Err q → Prepared c store 0 links
  prepared-refused e =
      record {
        checked = checked;
        noted = λ m h. let never = sym e ∙ h in cc;
        store_ready = λ m h. let never = sym e ∙ h in cc;
      }
