-- What check 21 asks of a stored value where some chain closes. Assumes nothing.
use Rattle.std.specs.Prelude.{ℕ, Bool, ◌&&◌, List, ℤ}
use Rattle.integers.specs.Integers.{eq_z}
use Rattle.paper.specs.Tables.{Tables, values_in}
use Rattle.paper.specs.Chains.{worth, determined}

-- v is determined by the stored values, and its own is the fresh one
abbrev pub is_fresh : Tables → List ℤ → ℕ → Bool
is_fresh t stored v = let old = values_in t stored in determined t old v && eq_z (old v) (worth t old v)
