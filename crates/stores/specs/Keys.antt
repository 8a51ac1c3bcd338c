-- The entries of a store by their keys, and an index over them.
use Rattle.std.specs.Prelude.{Bool, ◌&&◌, cond, List, [], ◌∷◌, ◌++◌, ◌≡◌, ℕ, zero, suc, ◌+◌, ◌*◌, ◌%◌, ◌≤◌, eqb, leb, length, take, drop, is_some}
use Rattle.std.specs.Prelude.{Option, None as none, Some as some}
use Rattle.std.specs.Prelude.{Result, Ok, Err}
use Rattle.saiga.specs.Limits.{entry_width, entry_limit, store_limit}
use Rattle.saiga.specs.Values.{of_word, to_word, type_code}
use Rattle.saiga.specs.declared.Base.{Base}
use Rattle.saiga.specs.declared.Value.{Value}
use Rattle.saiga.specs.Sheet.{Sheet, node_count, Checked, accepted}
use Rattle.saiga.specs.Stops.{checked_of, says}
use Rattle.saiga.specs.declared.stops.Refusal.{Refusal}
use Rattle.values.specs.Layout.{attributes_in}
use Rattle.saiga.specs.Terms.{Occurrence}
use Rattle.saiga.specs.Caching.{Entry}
use Rattle.saiga.specs.declared.Fields.{Fields}
use Rattle.saiga.specs.Store.{field_bytes, fields_of, entry_of, is_entry, read_entries, capacity, check_store}
use Rattle.stores.specs.declared.Key.{Key}
use Rattle.stores.specs.declared.WideKey.{WideKey}
use Rattle.stores.specs.declared.WideFields.{WideFields}
use Rattle.stores.specs.Walks.{first_cell, Keyed, Free, Trie}
use Rattle.stores.specs.declared.Seen.{Seen}
use Rattle.stores.specs.declared.Seen.TheVariants.{Empty, Has, Other}

-- ---- Keys

unfoldable pub key_of : Occurrence → Key
key_of o = record { node = o.node; attribute = o.attribute; word = to_word o.parameter }

unfoldable pub same_key : Key → Key → Bool
same_key p q = eqb p.node q.node && (eqb p.attribute q.attribute && eqb p.word q.word)

-- The numbers of entry j, which its bytes hold, and its key.
unfoldable pub fields_at : List ℕ → ℕ → Fields
fields_at store j = fields_of (take entry_width (drop (entry_width * j) store))

unfoldable pub key_in : Fields → Key
key_in f = record { node = f.node; attribute = f.attribute; word = f.parameter }

abbrev pub key_at : List ℕ → ℕ → Key
key_at store j = key_in (fields_at store j)

-- the last of the first k entries with a key
unfoldable pub find_key : List ℕ → ℕ → Key → Option ℕ
find_key store zero q = none
find_key store (suc k) q = cond (same_key (key_at store k) q) (some k) (find_key store k q)

-- where no entry is found, the cell that is answered is free for the key
abbrev pub FreeIn : List ℕ → Key → Result ℕ ℕ → Type 0
FreeIn index q (Ok j) = Unit {0}
FreeIn index q (Err cell) = Free index q cell

-- what the code sees at a cell of an index over these keys: nothing, an entry with the key, or one with another
unfoldable pub seen_in : (ℕ → Key) → Key → ℕ → Seen
seen_in keys q zero = Empty
seen_in keys q (suc j) = cond (same_key (keys j) q) (Has j) (Other j)

-- what is seen of a key that no entry has: nothing, or an entry with another
unfoldable pub other_in : ℕ → Seen
other_in zero = Empty
other_in (suc j) = Other j

-- ---- Entries

-- entry j
abbrev pub entry_at : Sheet → List ℕ → ℕ → Entry
entry_at s store j = entry_of s (take entry_width (drop (entry_width * j) store))

-- the first k entries
unfoldable pub entries_in : Sheet → List ℕ → ℕ → List Entry
entries_in s store zero = []
entries_in s store (suc k) = entries_in s store k ++ entry_at s store k ∷ []

-- the four-byte form of the value of entry j
abbrev pub value_word : List ℕ → ℕ → ℕ
value_word store j = (fields_at store j).value

-- the value of an entry that was found, of type B
unfoldable pub kept_at : Base → List ℕ → Option ℕ → Option Value
kept_at B store none = none
kept_at B store (some j) = some (of_word B (value_word store j))

-- the numbers of the entry that keeps a value for a key
unfoldable pub fields_for : Key → Value → Fields
fields_for q v = record { node = q.node; attribute = q.attribute; code = type_code v; parameter = q.word; value = to_word v }

-- and for an occurrence in numbers of any size
unfoldable pub wide_fields_for : WideKey → Value → WideFields
wide_fields_for q v = record { node = q.node; attribute = q.attribute; code = type_code v; parameter = q.word; value = to_word v }

-- a store with these bytes for entry k
unfoldable pub put_at : List ℕ → ℕ → List ℕ → List ℕ
put_at store k bytes = take (entry_width * k) store ++ bytes ++ drop (entry_width * k + entry_width) store

-- ---- The index

-- its buckets, and eight cells for each entry that can be kept
abbrev pub links_size : ℕ
links_size = first_cell entry_limit

-- The index has the first k entries.
pub record Linked (store : List ℕ) (k : ℕ) (index : List ℕ) : Type 0 where
  pub stands : entry_width * k ≤ length store
  pub trie : Trie (key_at store) entry_limit k index

-- ---- The check

-- "9 store length no multiple of 12 or over 12,288, or kept above capacity": that it is none of these
unfoldable pub is_shaped : List ℕ → ℕ → Bool
is_shaped store k = eqb (length store % entry_width) 0 && leb (length store) store_limit && leb k (capacity store)

-- What the test of entry i answers, for every sheet of these attributes and nodes on which those before it pass; and the free cell for its key.
pub record EntryTested (types : List ℕ) (attributes nodes : ℕ) (store : List ℕ) (i : ℕ) (index : List ℕ) (r : Option ℕ) : Type 0 where
  pub answer : (s : Sheet) → s.attributes ≡ attributes_in types attributes → node_count s ≡ nodes → read_entries s i [] store ≡ accepted (entries_in s store i)
      → is_some r ≡ is_entry s (entries_in s store i) (take entry_width (drop (entry_width * i) store))
  pub keyed : (cell : ℕ) → r ≡ some cell → Keyed (key_at store i)
  pub new : (cell : ℕ) → r ≡ some cell → find_key store i (key_at store i) ≡ none
  pub free : (cell : ℕ) → r ≡ some cell → Free index (key_at store i) cell

-- what the code answers of a store
abbrev pub store_check_of : Checked (List Entry) → Checked (Unit {0})
store_check_of = says (λ entries. tt)

-- What the check of a store answers, for every sheet of these attributes and nodes, and the index that it leaves.
pub record StoreChecked (types : List ℕ) (attributes nodes : ℕ) (store : List ℕ) (kept : ℕ) (index : List ℕ) (r : Result (Unit {0}) Refusal) : Type 0 where
  pub answer : (s : Sheet) → s.attributes ≡ attributes_in types attributes → node_count s ≡ nodes → checked_of r ≡ store_check_of (check_store s store kept)
  pub size : length index ≡ links_size
  pub linked : r ≡ Ok tt → Linked store kept index

-- ---- An entry more

-- What writing an entry of these numbers leaves of a store and an index over its kept entries.
pub record EntryPut (store : List ℕ) (kept : ℕ) (f : Fields) (store' index' : List ℕ) : Type 0 where
  pub bytes : store' ≡ put_at store kept (field_bytes f)
  pub linked : Linked store' (kept + 1) index'
