-- What the definitions read, by what the code answers.
use mathlib.Core.List.{List}
use Rattle.std.specs.Prelude.{None as none, Some as some, Ok, Err}
use mathlib.Core.Path.{◌≡◌, refl}
use Prim.Native.Nat.{ℕ, ◌+◌}
use Rattle.saiga.specs.Stops.{stop_number}
use Rattle.saiga.specs.declared.stops.Refusal.{Refusal}
use Rattle.sheets.specs.declared.Progress.{Progress}
use Rattle.sheets.specs.Scan.{Scanned, stops◌at_offset◌, ends, goes_on, placed, ReadAs}

module _ (at : ℕ) (index after : List ℕ) (t : Scanned) where
  pub told-stops : (r : Refusal) → ReadAs at (Err r) after index t → (offset : ℕ) × (t ≡ stops (stop_number r.stop) at_offset offset) × (r.place ≡ at + offset)
  told-stops r s = go t s.read
    where
      go : (t : Scanned) → stops (stop_number r.stop) at_offset r.place ≡ placed at t
          → (offset : ℕ) × (t ≡ stops (stop_number r.stop) at_offset offset) × (r.place ≡ at + offset)
      go (stops number at_offset offset) e = (offset, cc, cc)
      go ends e = absurd (cc)
      go (goes_on p i) e = absurd (cc)

  pub told-ends : ReadAs at (Ok none) after index t → t ≡ ends
  told-ends s = go t s.read
    where
      go : (t : Scanned) → ends ≡ placed at t → t ≡ ends
      go (stops number at_offset offset) e = cc
      go ends e = refl
      go (goes_on p i) e = cc

  pub told-goes-on : (p : Progress) → ReadAs at (Ok (some p)) after index t → t ≡ goes_on p after
  told-goes-on p s = go t s.read
    where
      go : (t : Scanned) → goes_on p after ≡ placed at t → t ≡ goes_on p after
      go (stops number at_offset offset) e = cc
      go ends e = cc
      go (goes_on q i) e = cc
