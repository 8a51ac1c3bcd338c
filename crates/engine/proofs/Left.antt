-- What a move does to the store's bytes: nothing, or an entry is written behind those that are kept. So the bytes stay those that a
-- call leaves.
use mathlib.Core.Bool.{Bool, true, false}
use Rattle.std.specs.Prelude.{Option, None as none, Some as some}
use mathlib.Core.List.{List, [], ◌∷◌, ◌++◌}
use mathlib.Core.Path.{◌≡◌, refl, sym, ◌∙◌, ap}
use Prim.Native.Nat.{ℕ, zero, suc, ◌+◌, ◌*◌, ◌/◌, ◌%◌, ◌≤◌, ◌<◌}
use native.Mathlib.Numerals.{add-one}
use native.Mathlib.Omega.{arith}
use lib.Dec.{leb, eqb}
use lib.ListN.{length}
use borrow.Author.Tests.{leb-false}
use Rattle.saiga.specs.Values.{null, of_bytes, to_bytes, truth}
use Rattle.saiga.specs.declared.Value.{Value}
use Rattle.saiga.specs.Expressions.{Head, base_literal, function_literal, if_head, application_head, attribute_head, this_head, parameter_head, no_head, head_of}
use Rattle.saiga.specs.Sheet.{Sheet, accepted}
use Rattle.saiga.specs.Caching.{Entry}
use Rattle.saiga.specs.Store.{field_bytes, fields_of, entry_fields, entry_bytes, entry_of, is_entry, read_entries, check_store, left_store}
use Rattle.saiga.proofs.Preservation.{either}
use Rattle.saiga.proofs.FourBytes.{word-trip, word_in, in_code}
use Rattle.saiga.proofs.Entries.{passes, first-bytes, store_in}
use Rattle.saiga.specs.declared.Fields.{Fields}
use Rattle.sheets.specs.Scan.{rule_number}
use Rattle.stores.specs.Keys.{find_key, key_in, entries_in, put_at}
use Rattle.stores.proofs.ByKey.{entries-are, entries-last}
use Rattle.stores.proofs.Written.{put-length, put-before, put-there, left-more}
use Rattle.engine.specs.FrameWords.{kind_of, if_kind, left_kind, skip_kind, right_kind, node_kind, parameter_kind, form_kind}
use Rattle.engine.specs.Steps.{Memory, Stepped, goes, waits, finishes, stops, read_head, appended, unless_found, cache_write, close_form, take_if, open_piece, open_rule, open_figure, take_kept, attribute_due, give, read_next, step_of}
use Rattle.engine.specs.declared.Registers.{Registers}
use Rattle.engine.proofs.Limited.{within-holds, right-holds, missing-holds}

-- ---- Moves

-- The store and the kept number after a move: as before, or with one entry more.
pub data Changed (store : List ℕ) (kept : ℕ) (store' : List ℕ) (kept' : ℕ) : Type 0 where
  same : store' ≡ store → kept' ≡ kept → Changed store kept store' kept'
  more : (f : Fields) → kept < length store / 12 → store' ≡ put_at store kept (field_bytes f) → kept' ≡ kept + 1 → Changed store kept store' kept'

unchanged : {store : List ℕ} {kept : ℕ} → Changed store kept store kept
unchanged = same refl refl

write-changes : (store : List ℕ) (kept : ℕ) (f : Fields) → Changed store kept (cache_write store kept f).0 (cache_write store kept f).1
unfolding cache_write unless_found appended
write-changes store kept f =
    either P (leb (length store / 12) kept) (λ _. unchanged) (λ room. go (leb-false _ _ room) (find_key store kept (key_in f)))
  where
    P : List ℕ × ℕ → Type 0
    P r = Changed store kept r.0 r.1

    go : kept < length store / 12 → (found : Option ℕ) → P (unless_found store kept f found)
    go room none = more f room refl refl
    go room (some j) = unchanged

abbrev Moves : Memory → Registers → Stepped → Type 0
Moves mem m (goes m' mem') = Changed mem.store m.kept mem'.store m'.kept
Moves mem m waits = Unit {0}
Moves mem m finishes = Unit {0}
Moves mem m (stops n) = Unit {0}

module _ (sheet index : List ℕ) (mem : Memory) (m : Registers) where
  abbrev P : Stepped → Type 0
  P = Moves mem m

  reads-moves : (h : Head) (l : List ℕ) → P (read_head sheet mem m h l)
  unfolding read_head
  reads-moves (base_literal t) l = unchanged
  reads-moves function_literal l = unchanged
  reads-moves if_head l = unchanged
  reads-moves application_head l = unchanged
  reads-moves attribute_head l = unchanged
  reads-moves this_head l = unchanged
  reads-moves parameter_head l = unchanged
  reads-moves no_head l = tt

  next-moves : (l : List ℕ) → P (read_next sheet index mem m l)
  unfolding read_next
  next-moves [] = tt
  next-moves (c ∷ l) = reads-moves (head_of c) l

  if-moves : (skip : ℕ) (b : Bool) → P (take_if skip mem m b)
  unfolding take_if
  if-moves skip true = unchanged
  if-moves skip false = unchanged

  rule-moves : (n a word : ℕ) → P (open_rule sheet index mem m n a word)
  unfolding open_rule open_piece
  rule-moves n a word = either P (eqb (rule_number sheet index n a) 0) (λ _. unchanged) (λ _. unchanged)

  figure-moves : (n a word : ℕ) (f : Option Value) → P (open_figure sheet index mem m n a word f)
  unfolding open_figure
  figure-moves n a word none = rule-moves n a word
  figure-moves n a word (some v) = write-changes mem.store m.kept _

  kept-moves : (budget limit n a : ℕ) (f : Option ℕ) → P (take_kept sheet index budget limit mem m n a f)
  unfolding take_kept
  kept-moves budget limit n a none =
      missing-holds P sheet index budget limit mem m n a (λ _. tt) (λ _ _. tt) (λ _ _ _. tt) (λ _ _ _ _. tt) (λ _ _ _ _. figure-moves n a _ _)
  kept-moves budget limit n a (some j) = within-holds P limit m _ budget (λ _. tt) (λ _ _. tt) (λ _ _. unchanged)

  attribute-moves : (budget limit n a : ℕ) → P (attribute_due sheet index budget limit mem m n a)
  unfolding attribute_due
  attribute-moves budget limit n a = either P (eqb n null) {x = stops 14} (λ _. tt) (λ _. kept-moves budget limit n a _)

  give-moves : (budget limit skip packed w : ℕ) → P (give sheet index budget limit skip packed mem m w)
  unfolding give close_form
  give-moves budget limit skip packed w =
      either P (eqb (kind_of w) if_kind) (λ _. within-holds P limit m _ budget (λ _. tt) (λ _ _. tt) (λ _ _. if-moves skip (truth m.value))) λ _.
      either P (eqb (kind_of w) left_kind) (λ _. unchanged) λ _.
      either P (eqb (kind_of w) skip_kind) (λ _. unchanged) λ _.
      either P (eqb (kind_of w) right_kind) (λ _. right-holds P budget limit mem m _ tt tt tt (λ _ _. unchanged)) λ _.
      either P (eqb (kind_of w) node_kind) (λ _. unchanged) λ _.
      either P (eqb (kind_of w) form_kind) (λ _. write-changes mem.store m.kept _) λ _.
      either P (eqb (kind_of w) parameter_kind) (λ _. attribute-moves budget limit _ _) (λ _. unchanged)

  store-moves-to : (question : List ℕ) (budget limit skip packed : ℕ) → P (step_of sheet index question budget limit skip packed mem m)
  unfolding step_of
  store-moves-to question budget limit skip packed =
      either P m.returning
      (λ _. either P (eqb m.frames 0) {x = finishes} (λ _. tt) (λ _. give-moves budget limit skip packed _))
      (λ _. next-moves _)

  pub store-moves : (question : List ℕ) (budget limit skip packed : ℕ) {m' : Registers} {mem' : Memory}
      → step_of sheet index question budget limit skip packed mem m ≡ goes m' mem'
      → Changed mem.store m.kept mem'.store m'.kept
  store-moves question budget limit skip packed e = rw e at (store-moves-to question budget limit skip packed)

-- ---- Bytes

bytes-again : (k n : ℕ) → to_bytes k (of_bytes (to_bytes k n)) ≡ to_bytes k n
unfolding to_bytes of_bytes
bytes-again zero n = refl
bytes-again (suc k) n =
    let rest = of_bytes (to_bytes k (n / 256)) in
    let low : (n % 256 + 256 * rest) % 256 ≡ n % 256 = omega arith in
    let high : (n % 256 + 256 * rest) / 256 ≡ rest = omega arith in
    rw (low, high, bytes-again k (n / 256))

-- Bytes that pass are those of the entry that is read from them.
entry-again : (s : Sheet) (before : List Entry) (f : Fields) → is_entry s before (field_bytes f) ≡ true → entry_bytes (entry_of s (field_bytes f)) ≡ field_bytes f
unfolding entry_fields entry_bytes entry_of field_bytes fields_of to_bytes
entry-again s before f passed =
    let p = passes s before (field_bytes f) passed in
    let code = in_code (word_in _ _ _ p.value-word) ∙ sym p.type-code in
    let parameter = ap (to_bytes 4) (word-trip _ _ _ p.parameter-word) ∙ bytes-again 4 f.parameter in
    let value = ap (to_bytes 4) (word-trip _ _ _ p.value-word) ∙ bytes-again 4 f.value in
    λ i. bytes-again 2 f.node i ++ f.attribute ∷ code i ∷ parameter i ++ value i

-- ---- The store with one entry more

module _ (s : Sheet) (store : List ℕ) (k : ℕ) (f : Fields) (room : k < length store / 12) where
  abbrev after : List ℕ
  after = put_at store k (field_bytes f)

  fits : 12 * k + 12 ≤ length store
  fits = omega arith

  -- What is read is one entry more, whose bytes these are.
  one_more : (es es' : List Entry) → check_store s store k ≡ accepted es → check_store s after (k + 1) ≡ accepted es'
      → (e : Entry) × (es' ≡ es ++ e ∷ []) × (entry_bytes e ≡ field_bytes f)
  unfolding entries_in
  one_more es es' before passed =
      let reads : read_entries s (suc k) [] after ≡ accepted es' = rw add-one at (store_in s after (k + 1) es' passed).reads in
      let all = entries-are s after (suc k) es' reads in
      let last = entries-last s after k (rw all at reads) in
      let first : read_entries s k [] after ≡ accepted es = first-bytes s k [] store after (sym (put-before store k fits f)) ∙ (store_in s store k es before).reads in
      let olds : es ≡ entries_in s after k = entries-are s after k es first in
      let there = put-there store k fits f in
      (entry_of s (field_bytes f), all ∙ rw (there, ← olds) refl, entry-again s (entries_in s after k) f (rw there at last.passes))

-- The bytes stay those that a call leaves which was lent the store `first` with so many kept entries.
pub left-on : (s : Sheet) (first : List ℕ) (lent : ℕ) {store : List ℕ} {k : ℕ} {store' : List ℕ} {k' : ℕ} {es es' : List Entry}
    → Changed store k store' k' → check_store s store k ≡ accepted es → check_store s store' k' ≡ accepted es'
    → length store ≡ length first → lent ≤ k → store ≡ left_store first lent es
    → (store' ≡ left_store first lent es') × (length store' ≡ length first) × (lent ≤ k')
left-on s first lent {es} {es'} (same e f) before passes size enough left =
    let entries : es ≡ es' = let p = rw (e, f) at passes in cc in
    (rw (e, ← entries) left, rw e size, rw f enough)
left-on s first lent {store} {k} {es} {es'} (more g room e f) before passed size enough left =
    let (n, appends, bytes) = one_more s store k g room es es' before (rw (e, f) at passed) in
    let count = (store_in s store k es before).count in
    let grown = left-more first lent es (omega arith) (omega arith) n in
    (cc, rw (e, put-length store k (fits s store k g room) g) size, rw f (omega arith))
