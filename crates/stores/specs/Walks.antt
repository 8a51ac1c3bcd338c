-- An index over keys as a graph of cells: which way the walk of a key takes through it, by the digits of the key.
use Rattle.std.specs.Prelude.{List, ◌≡◌, ℕ, zero, suc, ◌+◌, ◌*◌, ◌-◌, ◌/◌, ◌%◌, ◌≤◌, ◌<◌, length, get_or, set}
use Rattle.saiga.specs.Limits.{entry_limit}
use Rattle.saiga.specs.Values.{word_limit}
use Rattle.values.specs.Cells.{emptied}
use Rattle.stores.specs.declared.Key.{Key}

-- ---- Cells

-- Buckets stand first, and behind them eight cells for each entry, one for each digit in base 8. A cell holds the number of an entry and one, or 0.
abbrev pub bucket_count : ℕ
bucket_count = 1024

abbrev pub fan_out : ℕ
fan_out = 8

abbrev pub first_cell : ℕ → ℕ
first_cell j = bucket_count + fan_out * j

abbrev pub cell_of : ℕ → ℕ → ℕ
cell_of j digit = first_cell j + digit

-- ---- Keys

-- The numbers of an entry's key have two, one and four bytes.
pub record Keyed (q : Key) : Type 0 where
  pub node : q.node < 65536
  pub attribute : q.attribute < 256
  pub word : q.word < word_limit

-- The bucket of a key. Attribute and parameter turn the nodes round by any amount: nodes of one attribute and parameter have buckets of their own.
abbrev pub turn_of : Key → ℕ
turn_of q = (q.attribute * 2246822519 + q.word * 2654435769) / 4194304

unfoldable pub bucket_of : Key → ℕ
bucket_of q = (q.node + turn_of q) % bucket_count

-- The trail of a key: what its bucket does not tell, 16 digits in base 8. The lowest tell parameters apart, and attributes.
abbrev pub key_digits : ℕ
key_digits = 16

abbrev pub trail_step : ℕ
trail_step = 8589934592

unfoldable pub trail_of : Key → ℕ
trail_of q = q.word + q.attribute + trail_step * (q.attribute + 256 * (q.node / bucket_count))

-- ---- Digits

-- a number without its lowest d digits, and the next digit
unfoldable pub rest_after : ℕ → ℕ → ℕ
rest_after n zero = n
rest_after n (suc d) = rest_after n d / fan_out

abbrev pub digit_at : ℕ → ℕ → ℕ
digit_at n d = rest_after n d % fan_out

-- the lowest d digits are the same
abbrev pub Agree : ℕ → ℕ → ℕ → Type 0
Agree m n d = (e : ℕ) → e < d → digit_at m e ≡ digit_at n e

-- ---- The walk of a key

-- the cell to which it comes when it has passed d entries: of the last of them, the cell of the key's next digit
unfoldable pub walk : List ℕ → Key → ℕ → ℕ
walk index q zero = bucket_of q
walk index q (suc d) = cell_of (get_or index (walk index q d) 0 - 1) (digit_at (trail_of q) d)

-- it passes d entries
abbrev pub Passes : List ℕ → Key → ℕ → Type 0
Passes index q d = (e : ℕ) → e < d → 0 < get_or index (walk index q e) 0

-- it comes to an empty cell
pub record Free (index : List ℕ) (q : Key) (cell : ℕ) : Type 0 where
  pub passed : ℕ
  pub passes : Passes index q passed
  pub comes : cell ≡ walk index q passed
  pub empty : get_or index cell 0 ≡ 0

-- ---- The index of keys

-- Entry j stands in a bucket: it is one of the bucket's entries, with no other above it.
pub record First (keys : ℕ → Key) (depth : ℕ → ℕ) (b j : ℕ) : Type 0 where
  pub no_deeper : depth j ≡ 0
  pub bucket : bucket_of (keys j) ≡ b

-- Entry j stands in the cell of entry i for a digit: in its bucket, deeper by one, with the digits that lead to i, and then this one.
pub record Below (keys : ℕ → Key) (depth : ℕ → ℕ) (i digit j : ℕ) : Type 0 where
  pub deeper : depth j ≡ suc (depth i)
  pub bucket : bucket_of (keys j) ≡ bucket_of (keys i)
  pub agree : Agree (trail_of (keys j)) (trail_of (keys i)) (depth i)
  pub next : digit_at (trail_of (keys j)) (depth i) ≡ digit

-- The index, with cells for `limit` entries, has the first k: their keys differ, and the walk of its key comes to each of them, at its depth.
pub record Trie (keys : ℕ → Key) (limit k : ℕ) (index : List ℕ) : Type 0 where
  pub size : length index ≡ first_cell limit
  pub few : k ≤ limit
  pub keyed : (j : ℕ) → j < k → Keyed (keys j)
  pub differ : (i j : ℕ) → i < k → j < k → keys i ≡ keys j → i ≡ j
  pub within : (c : ℕ) → c < first_cell k → get_or index c 0 ≤ k
  pub depth : ℕ → ℕ
  pub passes : (j : ℕ) → j < k → Passes index (keys j) (depth j)
  pub reached : (j : ℕ) → j < k → get_or index (walk index (keys j) (depth j)) 0 ≡ suc j
  pub heads : (b j : ℕ) → b < bucket_count → get_or index b 0 ≡ suc j → First keys depth b j
  pub below : (i digit j : ℕ) → i < k → digit < fan_out → get_or index (cell_of i digit) 0 ≡ suc j → Below keys depth i digit j

-- an index of entries of which none has a key
pub record Without (index : List ℕ) (q : Key) : Type 0 where
  pub keys : ℕ → Key
  pub count : ℕ
  pub trie : Trie keys entry_limit count index
  pub none_has : (j : ℕ) → j < count → keys j ≡ q → ⊥

-- ---- Writing cells

-- Entry k is put into a cell, and its own cells are emptied.
abbrev pub planted : List ℕ → ℕ → ℕ → List ℕ
planted index cell k = set (emptied index (first_cell k) fan_out) cell (k + 1)
