-- As many bytes as a sheet counts for were read.
use mathlib.Core.Path.{◌≡◌}
use Prim.Native.Nat.{ℕ, ◌≤◌}
use native.Mathlib.Omega.{arith}
use Rattle.std.specs.Prelude.{Result, Ok, Err, IfOk}
use Rattle.report.specs.Notices.{size_of}
use Rattle.report.specs.declared.system.NoSheet.{NoSheet}

pub size_fits : (file : Result ℕ NoSheet) (room : ℕ) → IfOk file (λ n. n ≤ room) → size_of file ≤ room
unfolding size_of
size_fits (Ok n) room h = h
size_fits (Err e) room h = omega arith
