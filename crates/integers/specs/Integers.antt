-- The integers as `omega` can read them: z is up z - dn z, two naturals of which one is 0. Assumes nothing.
use Rattle.std.specs.Prelude.{Bool, false, ℕ, suc, ◌+◌, eqb, ℤ, pos, negsuc}

-- how far z lies above 0
abbrev pub up : ℤ → ℕ
up (pos n) = n
up (negsuc n) = 0

-- how far it lies below 0
abbrev pub dn : ℤ → ℕ
dn (pos n) = 0
dn (negsuc n) = suc n

-- how far it lies from 0
abbrev pub away : ℤ → ℕ
away z = up z + dn z

-- equality, as a test
abbrev pub eq_z : ℤ → ℤ → Bool
eq_z (pos a) (pos b) = eqb a b
eq_z (pos a) (negsuc b) = false
eq_z (negsuc a) (pos b) = false
eq_z (negsuc a) (negsuc b) = eqb a b
