-- The store in bytes, and stops 9 and 10 (document 01, "The steps" and "Stops by origin"; document 02, F-6).
use Rattle.std.specs.Prelude.{Bool, true, false, not, ◌&&◌, cond, List, [], ◌∷◌, ◌++◌, ℕ, zero, suc, ◌*◌, ◌/◌, ◌%◌, leb, ltb, eqb, length, take, drop, get_or}
use Rattle.saiga.specs.Limits.{entry_width, store_limit}
use Rattle.saiga.specs.Values.{base_code, of_bytes, to_bytes, is_word, of_word, to_word, type_code}
use Rattle.saiga.specs.Types.{attribute_at}
use Rattle.saiga.specs.Sheet.{Sheet, node_count, attribute_count, Checked, refused◌at_place◌, accepted}
use Rattle.saiga.specs.Caching.{Entry, kept, is_kept}
use Rattle.saiga.specs.declared.Fields.{Fields}

-- "An entry is node (2), attribute (1), a zero byte, parameter (4), value (4)", and "the fourth byte of an entry, zero until now, carries the
-- type code of the entry's value": the bytes of its numbers, and the numbers in its bytes.
unfoldable pub field_bytes : Fields → List ℕ
field_bytes f = to_bytes 2 f.node ++ f.attribute ∷ f.code ∷ to_bytes 4 f.parameter ++ to_bytes 4 f.value

unfoldable pub fields_of : List ℕ → Fields
fields_of l =
    record {
      node = of_bytes (take 2 l);
      attribute = get_or l 2 0;
      code = get_or l 3 0;
      parameter = of_bytes (take 4 (drop 4 l));
      value = of_bytes (take 4 (drop 8 l));
    }

-- "CacheWrite writes it": the numbers of an entry that is kept, its parameter and its value in their four-byte forms.
unfoldable pub entry_fields : Entry → Fields
entry_fields e =
    let o = e.occurrence in
    record {
      node = o.node;
      attribute = o.attribute;
      code = type_code e.value;
      parameter = to_word o.parameter;
      value = to_word e.value;
    }

unfoldable pub entry_bytes : Entry → List ℕ
entry_bytes e = field_bytes (entry_fields e)

-- the entry that twelve bytes hold, by the types of its attribute
unfoldable pub entry_of : Sheet → List ℕ → Entry
entry_of s l =
    let f = fields_of l in
    let t = attribute_at s.attributes f.attribute in
    record {
      occurrence = record { node = f.node; attribute = f.attribute; parameter = of_word t.parameter-type f.parameter };
      value = of_word t.result f.value;
    }

-- "10 a kept entry with undeclared node or attribute, ..., bytes that are no value of the type, or an occurrence already kept before it",
-- and of the type code "10 is given where it is not the attribute's result type": `before` are the entries before it.
unfoldable pub is_entry : Sheet → List Entry → List ℕ → Bool
is_entry s before l =
    let f = fields_of l in
    let t = attribute_at s.attributes f.attribute in
    ltb f.node (node_count s) && ltb f.attribute (attribute_count s) && eqb f.code (base_code t.result)
    && is_word (node_count s) t.parameter-type f.parameter
    && is_word (node_count s) t.result f.value
    && not (is_kept (kept before (entry_of s l).occurrence))

-- The kept entries, the first number of them still to be read from `l`, those before them in `before`.
unfoldable pub read_entries : Sheet → ℕ → List Entry → List ℕ → Checked (List Entry)
read_entries s zero before l = accepted before
read_entries s (suc k) before l =
    elim (is_entry s before (take entry_width l)) [
      | true ↦ read_entries s k (before ++ entry_of s (take entry_width l) ∷ []) (drop entry_width l)
      | false ↦ refused 10 at_place length before
    ]

-- "capacity 0 to 1,024"
abbrev pub capacity : List ℕ → ℕ
capacity store = length store / entry_width

-- "9 store length no multiple of 12 or over 12,288, or kept above capacity."
unfoldable pub check_store : Sheet → List ℕ → ℕ → Checked (List Entry)
check_store s store k =
    cond (eqb (length store % entry_width) 0 && leb (length store) store_limit && leb k (capacity store))
    (read_entries s k [] store)
    (refused 9 at_place 0)

-- The store that a call leaves: what it held, the figures finished, and "bytes past the kept entries stay".
unfoldable pub entries_bytes : List Entry → List ℕ
entries_bytes [] = []
entries_bytes (e ∷ l) = entry_bytes e ++ entries_bytes l

unfoldable pub left_store : List ℕ → ℕ → List Entry → List ℕ
left_store store k after =
    take (entry_width * k) store ++ entries_bytes (drop k after) ++ drop (entry_width * length after) store
