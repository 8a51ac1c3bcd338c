-- The index of a store: the walk of a key comes to the entry that a search of all the entries finds.
use mathlib.Core.List.{List}
use Rattle.std.specs.Prelude.{None as none}
use Rattle.std.specs.Prelude.{Result, Ok, Err, IsErr}
use Rattle.std.specs.Result.{result_ok}
use mathlib.Core.Path.{◌≡◌, refl, sym, ◌∙◌}
use Prim.Native.Nat.{ℕ, ◌+◌, ◌*◌, ◌≤◌, ◌<◌}
use native.Mathlib.Nat.{le_refl}
use native.Mathlib.Omega.{arith}
use lib.ListN.{length, take, get_or}
use Rattle.saiga.specs.Limits.{entry_limit}
use Rattle.values.specs.Cells.{emptied}
use Rattle.values.proofs.Cells.{emptied-length, emptied-inside}
use Rattle.stores.specs.declared.Key.{Key}
use Rattle.stores.specs.declared.Seen.{Seen}
use Rattle.stores.specs.Walks.{bucket_count, Keyed, Free, Without, planted}
use Rattle.stores.specs.Keys.{links_size, key_at, find_key, seen_in, other_in, FreeIn, Linked}
use Rattle.stores.specs.Search.{Cells, Searched}
use Rattle.stores.proofs.Parts.{key-same}
use Rattle.stores.proofs.Searches.{find_none, none_has, find-only}
use Rattle.stores.proofs.Walks.{others-seen, free-small, trie-more, trie-none, trie-same}

-- ---- What a search finds

-- One who may look at the cells of the index, and sees there the entries of the store.
module _ (store : List ℕ) (k : ℕ) (index : List ℕ) (l : Linked store k index) (q : Key) (may : ℕ → Type 0) (sees : ℕ → Seen → Type 0)
    (open_to : (cell : ℕ) → cell < length index → 12 * get_or index cell 0 ≤ length store → may cell)
    (shows : (cell : ℕ) (seen : Seen) → sees cell seen → seen ≡ seen_in (key_at store) q (get_or index cell 0)) where
  abbrev pub store-cells : Cells q may sees
  store-cells =
      record {
        keys = key_at store;
        limit = entry_limit;
        count = k;
        index = index;
        trie = l.trie;
        room = le_refl entry_limit;
        open_to = λ cell h. open_to cell (omega (arith, h, l.trie.size, l.trie.few)) (omega (arith, l.trie.within cell h, l.stands));
        shows = λ cell seen h. shows cell seen;
      }

  module _ (r : Result ℕ ℕ) (found : (c : Cells q may sees) → Searched c.keys c.count c.index q r) where
    finds : (o : Result ℕ ℕ) → Searched (key_at store) k index q o → result_ok o ≡ find_key store k q
    finds (Ok j) (below, has) = sym (find-only store k q j below has (λ i h same. l.trie.differ i j h below (same ∙ sym has)))
    finds (Err cell) (free, none_has) = sym (find_none store k q none_has)

    pub finds-key : result_ok r ≡ find_key store k q
    finds-key = finds r (found store-cells)

    free : (o : Result ℕ ℕ) → Searched (key_at store) k index q o → FreeIn index q o
    free (Ok j) s = tt
    free (Err cell) s = s.0

    pub finds-cell : FreeIn index q r
    finds-cell = free r (found store-cells)

-- ---- The index with no entry, with one more, and over other bytes behind the entries

pub linked-none : (store index : List ℕ) {index' : List ℕ} → length index ≡ links_size → index' ≡ emptied index 0 bucket_count → Linked store 0 index'
linked-none store index size e =
    rw e record {
      stands = omega arith;
      trie = trie-none _ _ (emptied index 0 bucket_count) (emptied-length index 0 bucket_count ∙ size)
          (λ b h. emptied-inside index 0 bucket_count b (omega arith) h (omega (arith, size)));
    }

pub free-inside : (store : List ℕ) (k : ℕ) (index : List ℕ) → Linked store k index → k < 1024 → (q : Key) (cell : ℕ) → Free index q cell → cell < links_size
free-inside store k index l few q cell free = omega (arith, few, free-small _ _ k index l.trie q cell free)

pub linked-more : (store : List ℕ) (k : ℕ) (index : List ℕ) → Linked store k index → k < 1024 → (q : Key) → key_at store k ≡ q → Keyed q → find_key store k q ≡ none
    → (cell : ℕ) → Free index q cell → 12 * k + 12 ≤ length store → Linked store (k + 1) (planted index cell k)
linked-more store k index l few q has keyed new cell free stands =
    record { stands = omega (arith, stands); trie = trie-more _ _ k index l.trie few q has keyed (none_has store k q new) cell free }

-- The first 12 * k bytes alone matter.
pub linked-same : (store store' : List ℕ) (k : ℕ) → take (12 * k) store ≡ take (12 * k) store' → (index : List ℕ) → 12 * k ≤ length store'
    → Linked store k index → Linked store' k index
linked-same store store' k e index h l =
    record { stands = h; trie = trie-same _ _ _ k index (λ j g. key-same store store' k j e g) l.trie }

-- The index of a store in which a key is not found.
pub linked-without : (store : List ℕ) (k : ℕ) (index : List ℕ) (q : Key) → Linked store k index → find_key store k q ≡ none → Without index q
linked-without store k index q l absent =
    record { keys = key_at store; count = k; trie = l.trie; none_has = none_has store k q absent }

-- One who may look at the cells of the index, and takes each entry that he sees there for another's.
module _ (index : List ℕ) (q : Key) (w : Without index q) (may : ℕ → Type 0) (sees : ℕ → Seen → Type 0) (open_to : (cell : ℕ) → cell < length index → may cell)
    (shows : (cell : ℕ) (seen : Seen) → sees cell seen → seen ≡ other_in (get_or index cell 0)) where
  abbrev pub cells-past : Cells q may sees
  cells-past =
      record {
        keys = w.keys;
        limit = entry_limit;
        count = w.count;
        index = index;
        trie = w.trie;
        room = le_refl entry_limit;
        open_to = λ cell h. open_to cell (omega (arith, h, w.trie.size, w.trie.few));
        shows = λ cell seen h s. shows cell seen s ∙ others-seen w.keys q w.count w.none_has (get_or index cell 0) (w.trie.within cell h);
      }

  module _ (r : Result ℕ ℕ) (found : (c : Cells q may sees) → Searched c.keys c.count c.index q r) where
    pub passes-all : IsErr r
    passes-all = go r (found cells-past)
      where
        go : (o : Result ℕ ℕ) → Searched w.keys w.count index q o → IsErr o
        go (Ok j) (below, has) = absurd (w.none_has j below has)
        go (Err cell) s = refl

    pub ends-free : (cell : ℕ) → r ≡ Err cell → Free index q cell
    ends-free cell e = let (free, none_has) = rw e at (found cells-past) in free
