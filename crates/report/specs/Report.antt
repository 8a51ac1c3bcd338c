-- What the report program keeps from question to question, and what a turn of its run makes of it (document 01, "The report program").
use Rattle.std.specs.Prelude.{Bool, true, false, List, [], ◌∷◌, ◌++◌, ◌⊎◌, ◌≡◌, ℕ, suc, ◌+◌, ◌-◌, ◌≤◌, eqb, length, take, drop, Ok}
use Rattle.saiga.specs.Limits.{entry_limit}
use Rattle.saiga.specs.Ask.{Lent, lent, Answer, ask}
use Rattle.saiga.specs.Calls.{empty, leaves}
use Rattle.sheets.specs.Scan.{Checks}
use Rattle.sheets.specs.declared.Counts.{Counts}
use Rattle.calls.specs.Answers.{answer_of}
use Rattle.calls.specs.Prepared.{NotedSheet, PreparedStore}
use Rattle.stream.specs.declared.Next.{Next}
use Rattle.stream.specs.declared.Next.TheVariants.{Question, Cut, End, More}
use Rattle.stream.specs.Stream.{front}
use Rattle.stream.specs.Next.{next_of}
use Rattle.report.specs.Printed.{asks}
use Rattle.report.specs.declared.CheckedSheet.{CheckedSheet}
use Rattle.report.specs.declared.State.{State}
use Rattle.calls.specs.declared.Answer as Declared

-- ---- A question

-- The sheet was checked, with this index and these notes if it was accepted, and then the store was accepted, with its index.
pub record Prepared (c : CheckedSheet) (store : List ℕ) (kept : ℕ) (links : List ℕ) : Type 0 where
  pub checked : Checks c.sheet.bytes.now c.check c.sheet.index.now
  pub noted : (counts : Counts) → c.check ≡ Ok counts → NotedSheet c.sheet.bytes.now c.sheet.index.now c.sheet.notes.now
  pub store_ready : (counts : Counts) → c.check ≡ Ok counts → PreparedStore c.sheet.bytes.now store kept links

-- What a question brings, with the budget of 1,000,000, and what it leaves for the next one.
pub record Put (c : CheckedSheet) (question store : List ℕ) (kept : ℕ) (left links : List ℕ) (r : Declared.Answer) : Type 0 where
  pub answer : answer_of r ≡ (ask c.sheet.bytes.now (lent store kept) (asks question)).answer
  pub store_is : left ≡ (ask c.sheet.bytes.now (lent store kept) (asks question)).store
  pub prepared : Prepared c left (answer_of r).kept links

-- what a question leaves of what it is lent
unfoldable pub after : List ℕ → Lent → List ℕ → Lent
after sheet m question = leaves (ask sheet m (asks question))

-- ---- A turn

-- What a turn works on: the bytes at hand, whether the input's end was seen, whether there is more to do, and what the next question is
-- lent.
pub record View : Type 0 where
  pub hand : List ℕ
  pub ended : Bool
  pub going : Bool
  pub lends : Lent

abbrev pub view_of : List ℕ → List ℕ → State → View
view_of input store s =
    record {
      hand = take (s.to - s.from) (drop s.from input);
      ended = s.ended;
      going = s.going;
      lends = lent store s.kept;
    }

-- the bytes that were read for the next turn
abbrev pub chunk_of : List ℕ → State → List ℕ
chunk_of input s = take s.came (drop s.to input)

-- what comes next, of the bytes at hand
abbrev pub next : View → Next
next v = next_of (front v.hand) v.ended

-- What a turn leaves, by what comes next. A question is put, and taken off the bytes at hand; one that is cut is put as no bytes, which is as
-- malformed as any, and ends the run, as the input's end does. Where more of the input is asked for, the chunk that was read comes after the
-- bytes at hand, and an empty one is the input's end.
unfoldable pub turned_by : List ℕ → View → List ℕ → Next → View
turned_by sheet v chunk (Question n) =
    record {
      hand = drop (2 + n) v.hand;
      ended = v.ended;
      going = true;
      lends = after sheet v.lends (take n (drop 2 v.hand));
    }
turned_by sheet v chunk Cut = record { hand = v.hand; ended = v.ended; going = false; lends = after sheet v.lends [] }
turned_by sheet v chunk End = record { hand = v.hand; ended = v.ended; going = false; lends = v.lends }
turned_by sheet v chunk More = record { hand = v.hand ++ chunk; ended = eqb (length chunk) 0; going = true; lends = v.lends }

abbrev pub turned : List ℕ → View → List ℕ → View
turned sheet v chunk = turned_by sheet v chunk (next v)

-- The answers that a turn gives: one to a question, whole or cut.
unfoldable pub given_by : List ℕ → View → Next → List Answer
given_by sheet v (Question n) = (ask sheet v.lends (asks (take n (drop 2 v.hand)))).answer ∷ []
given_by sheet v Cut = (ask sheet v.lends (asks [])).answer ∷ []
given_by sheet v End = []
given_by sheet v More = []

abbrev pub given : List ℕ → View → List Answer
given sheet v = given_by sheet v (next v)

-- What a turn takes of the input: the chunk, where more of it is asked for.
unfoldable pub taken_by : List ℕ → Next → List ℕ
taken_by chunk (Question n) = []
taken_by chunk Cut = []
taken_by chunk End = []
taken_by chunk More = chunk

abbrev pub taken : View → List ℕ → List ℕ
taken v chunk = taken_by chunk (next v)

-- the bytes at hand, and those after them that were read, are within the buffer
abbrev pub Within : List ℕ → State → Type 0
Within input s = (s.from ≤ s.to) × (s.to + s.came ≤ length input)

-- What a read for the next turn leaves of the buffer: what the turn works on is the same; and where no more is asked for, so are buffer and
-- state. A read that fails brings nothing.
pub record Fetched (input left : List ℕ) (s r : State) : Type 0 where
  pub within : Within left r
  pub same : (store : List ℕ) → view_of left store r ≡ view_of input store s
  pub unasked : (store : List ℕ) → (next (view_of input store s) ≡ More → ⊥) → (left ≡ input) × (r ≡ s)
  pub failing : r.failed ≡ true → (s.failed ≡ true) ⊎ (r.came ≡ 0)

-- ---- The run

-- before the first turn
abbrev pub start : View
start = record { hand = []; ended = false; going = true; lends = empty entry_limit }

-- So many turns from the start, each as there was more to do: what they took of the input, the answers that they gave, and where they lead.
pub data Turns (sheet : List ℕ) : ℕ → List ℕ → List Answer → View → Type 0 where
  none : Turns sheet 0 [] [] start
  one_more : {k : ℕ} {input : List ℕ} {l : List Answer} {v : View} (chunk : List ℕ) → Turns sheet k input l v → v.going ≡ true
      → Turns sheet (suc k) (input ++ taken v chunk) (l ++ given sheet v) (turned sheet v chunk)

-- How a run has ended, which makes 2^64 - 1 turns at most: there is no more to do, or all turns are made, or a line was not written.
pub record Ran (sheet : List ℕ) (v : View) (written : Bool) : Type 0 where
  pub made : ℕ
  pub input : List ℕ
  pub answers : List Answer
  pub turns : Turns sheet made input answers v
  pub counted : made ≤ 18446744073709551615
  pub over : (v.going ≡ false) ⊎ ((made ≡ 18446744073709551615) ⊎ (written ≡ false))
