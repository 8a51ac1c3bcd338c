-- A question put to a refused sheet, and to one that was accepted.
use mathlib.Core.List.{List, []}
use mathlib.Core.Path.{◌≡◌, sym, ap, ap₂, ◌∙◌}
use Prim.Native.Nat.{ℕ}
use Rattle.std.specs.Prelude.{Ok, Err}
use Rattle.saiga.specs.Ask.{lent, refusal, ask}
use Rattle.saiga.specs.Calls.{leaves}
use Rattle.saiga.specs.Stops.{stop_number}
use Rattle.saiga.specs.declared.stops.Refusal.{Refusal}
use Rattle.sheets.specs.declared.Counts.{Counts}
use Rattle.calls.specs.Answers.{answer_of}
use Rattle.calls.specs.Prepared.{PreparedSheet, NotedSheet}
use Rattle.calls.proofs.CheckLaws.{sheet-prepared, sheet-refused, refused-by-sheet}
use Rattle.calls.proofs.Preparing.{refuses}
use Rattle.lines.specs.Lines.{line_of}
use Rattle.report.specs.declared.CheckedSheet.{CheckedSheet}
use Rattle.report.specs.Printed.{asks}
use Rattle.report.specs.Report.{Prepared, Put, after}
use Rattle.calls.specs.declared.Answer as Declared

module _ {c : CheckedSheet} {store : List ℕ} {kept : ℕ} {links : List ℕ} (p : Prepared c store kept links) where
  pub put_refused : {q : Refusal} {r : Declared.Answer} (question : List ℕ) → c.check ≡ Err q
      → answer_of r ≡ (refusal (lent [] kept) (stop_number q.stop) q.place).answer → Put c question store kept store links r
  put_refused {q} {r} question e a =
      let sheet = c.sheet.bytes.now in
      let same = refuses sheet (lent store kept) (asks question) r (refused-by-sheet sheet (lent store kept) (asks question) (sheet-refused p.checked e)) a in
      record {
        answer = same.0;
        store_is = same.2;
        prepared =
            record {
              checked = p.checked;
              noted = p.noted;
              store_ready = λ counts h. let never = sym e ∙ h in cc;
            };
      }

  pub sheet-ready : {counts : Counts} → c.check ≡ Ok counts → PreparedSheet c.sheet.bytes.now c.sheet.index.now
  sheet-ready e = (sheet-prepared p.checked e).prepared

  pub notes-ready : {counts : Counts} → c.check ≡ Ok counts → NotedSheet c.sheet.bytes.now c.sheet.index.now c.sheet.notes.now
  notes-ready e = p.noted _ e

-- What the question leaves, where `kept'` is the number kept that its answer has, and the line of its answer.
module _ (c : CheckedSheet) (question store : List ℕ) (kept : ℕ) (left links : List ℕ) (r : Declared.Answer) (p : Put c question store kept left links r) where
  pub leaves_after : (kept' : ℕ) → kept' ≡ (answer_of r).kept → lent left kept' ≡ after c.sheet.bytes.now (lent store kept) question
  unfolding after leaves
  leaves_after kept' same = ap₂ lent p.store_is (same ∙ ap (λ a. a.kept) p.answer)

  pub leaves-line : (line : List ℕ) → line ≡ line_of (answer_of r) → line ≡ line_of (ask c.sheet.bytes.now (lent store kept) (asks question)).answer
  leaves-line line written = written ∙ ap line_of p.answer
