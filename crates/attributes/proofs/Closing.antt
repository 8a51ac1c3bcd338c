-- The innermost form closes: its occurrence is not kept, and CacheWrite keeps its value.
use mathlib.Core.Bool.{true}
use mathlib.Core.List.{List}
use Rattle.std.specs.Prelude.{None as none}
use mathlib.Core.Path.{◌≡◌, ap}
use Prim.Native.Nat.{ℕ, ◌+◌, ◌*◌, ◌-◌, ◌/◌, ◌%◌, ◌<◌}
use native.Mathlib.Omega.{arith}
use lib.ListN.{get_or}
use Rattle.stores.specs.declared.Key.{Key}
use Rattle.stores.specs.Keys.{find_key, fields_for}
use Rattle.engine.specs.declared.Registers.{Registers}
use Rattle.engine.specs.Decode.{forms_size}
use Rattle.engine.specs.OpenKeys.{form_key}
use Rattle.engine.specs.Ready.{memory_of, innermost_place}
use Rattle.engine.proofs.RunMemory.{form-at}
use Rattle.engine.specs.Steps.{goes, cache_write, close_form}
use Rattle.attributes.specs.Due.{CloseReady}

-- The numbers of the innermost form stand at `f`.
module _ (run : List ℕ) (m : Registers) (f : ℕ) (is : f ≡ innermost_place m) where
  -- its occurrence
  abbrev closing : Key
  closing = record { node = get_or run f 0 / 32; attribute = get_or run f 0 % 32; word = get_or run (f + 1) 0 }

  -- it is not kept
  pub form-absent : (store links : List ℕ) → CloseReady store links run m → find_key store m.kept closing ≡ none
  unfolding form_key
  form-absent store links ready =
      let k = 4 * (m.forms - 1) in
      let small : k + 1 < forms_size = omega (arith, ready.node.opened, ready.node.few) in
      rw (form-at run k f is (omega arith), form-at run (k + 1) (f + 1) (omega (arith, is)) small)
      ready.not_kept

  -- the registers when its value is given to the frame around it
  abbrev closed : ℕ → Registers
  closed kept' =
      record m { returning = true; at = get_or run (f + 2) 0; end = get_or run (f + 3) 0; frames = m.frames - 1; forms = m.forms - 1; kept = kept' }

  -- It is closed with what CacheWrite leaves.
  pub closes : (store links store' : List ℕ) (kept' : ℕ) → CloseReady store links run m → (store', kept') ≡ cache_write store m.kept (fields_for closing m.value)
      → goes (closed kept') (memory_of store' run) ≡ close_form (memory_of store run) m
  unfolding close_form
  closes store links store' kept' ready written =
      let k = 4 * (m.forms - 1) in
      let small : k + 3 < forms_size = omega (arith, ready.node.opened, ready.node.few) in
      rw (
        ← form-at run k f is (omega arith),
        ← form-at run (k + 1) (f + 1) (omega (arith, is)) (omega arith),
        ← form-at run (k + 2) (f + 2) (omega (arith, is)) (omega arith),
        ← form-at run (k + 3) (f + 3) (omega (arith, is)) small,
      )
      (ap (λ (w : List ℕ × ℕ). goes (closed w.1) (memory_of w.0 run)) written)
