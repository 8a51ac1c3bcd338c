-- The version of the library as one number, by which a program that links it tells it from another.
use Rattle.std.specs.Prelude.{ℕ, ◌+◌, ◌*◌}

abbrev pub version_number : ℕ → ℕ → ℕ → ℕ
version_number major minor patch = major * 10000 + minor * 100 + patch

-- 0.2.0
abbrev pub version : ℕ
version = version_number 0 2 0
