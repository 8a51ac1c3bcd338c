-- The limits and sizes of document 01, each with the words that it comes from. src/limits.rt has them for the code.
use Rattle.std.specs.Prelude.{ℕ}

-- ---- The sheet

-- "At most 65,536 bytes."
abbrev pub sheet_limit : ℕ
sheet_limit = 65536

-- attributes: "Numbered from 0; at most 32."
abbrev pub attribute_limit : ℕ
attribute_limit = 32

-- nodes: "Numbered from 0; at most 1,024."
abbrev pub node_limit : ℕ
node_limit = 1024

-- "kind 0 to 15"
abbrev pub last_kind : ℕ
last_kind = 15

-- a rule's "length 1 to 256", and "a question is an expression of 1 to 256 bytes"
abbrev pub expression_limit : ℕ
expression_limit = 256

-- ---- The store

-- "entries of 12 bytes"
abbrev pub entry_width : ℕ
entry_width = 12

-- "capacity 0 to 1,024"
abbrev pub entry_limit : ℕ
entry_limit = 1024

-- "store length no multiple of 12 or over 12,288"
abbrev pub store_limit : ℕ
store_limit = 12288

-- ---- The run

-- "The budget is 0 to 1,000,000 counted steps."
abbrev pub budget_limit : ℕ
budget_limit = 1000000

-- "AttrApp due inside 64 open forms"
abbrev pub depth_limit : ℕ
depth_limit = 64

-- ---- The tally (F-2 of document 02)

-- "It has 34 rows: the AttrApp steps for each of the 32 attribute numbers, the AppApp steps, and CondTrue with CondFalse together."
abbrev pub tally_rows : ℕ
tally_rows = 34

abbrev pub applications_row : ℕ
applications_row = 32

abbrev pub conditions_row : ℕ
conditions_row = 33
