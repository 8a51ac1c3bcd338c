-- ByKey of every store that passes.
use mathlib.Core.List.{List}
use mathlib.Core.Path.{◌≡◌, ◌∙◌}
use Prim.Native.Nat.{ℕ}
use Rattle.saiga.specs.Sheet.{Sheet, accepted}
use Rattle.saiga.specs.Caching.{Entry}
use Rattle.saiga.specs.Store.{check_store}
use Rattle.stores.specs.Keys.{key_of, kept_at}
use Rattle.stores.proofs.ByKey.{kept-by-key}
use Rattle.engine.proofs.StoreWritten.{ByKey}

pub by_key : (s : Sheet) (store : List ℕ) (k : ℕ) (entries : List Entry) → check_store s store k ≡ accepted entries → ByKey s store k entries
unfolding key_of kept_at
by_key s store k entries passes =
    record {
      missing = λ o o-in e. kept-by-key s store k entries passes o o-in ∙ rw e;
      found = λ o j o-in e. kept-by-key s store k entries passes o o-in ∙ rw e;
    }
