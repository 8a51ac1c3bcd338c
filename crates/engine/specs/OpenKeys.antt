-- The open forms by the keys of their occurrences.
use Rattle.std.specs.Prelude.{Bool, false, ◌||◌, List, ℕ, zero, suc, ◌+◌, ◌*◌, get_or}
use Rattle.stores.specs.declared.Key.{Key}
use Rattle.stores.specs.Keys.{same_key}
use Rattle.engine.specs.FrameWords.{pair_node, pair_attribute}

-- the key of form k, the outermost being form 0
unfoldable pub form_key : List ℕ → ℕ → Key
form_key forms k = record { node = pair_node (get_or forms (4 * k) 0); attribute = pair_attribute (get_or forms (4 * k) 0); word = get_or forms (4 * k + 1) 0 }

-- whether one of the first k forms has a key
unfoldable pub key_open : List ℕ → ℕ → Key → Bool
key_open forms zero q = false
key_open forms (suc k) q = same_key (form_key forms k) q || key_open forms k q
