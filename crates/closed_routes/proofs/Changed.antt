-- The inputs of a row: those that its part of the entries names. Assumes nothing.
use Prim.Native.Nat.{ℕ, suc, ◌+◌, ◌-◌, ◌<◌}
use native.Mathlib.Omega.{arith}
use mathlib.Core.Bool.{Bool, true, false, ◌||◌}
use mathlib.Core.List.{List, [], ◌∷◌, Memᴰ}
use mathlib.Core.Path.{◌≡◌, refl, ap, sym, ◌∙◌, subst}
use lib.Dec.{ltb}
use lib.ListN.{length, get_or}
use Rattle.std.proofs.lemmas.List.{get_or_default}
use borrow.Author.Tests.{ltb-true}
use Rattle.std.specs.List.{list_any}
use Rattle.paper.specs.Lists.{any, all, nat}
use Rattle.paper.proofs.Lists.{all_in}
use Rattle.formulas.specs.Inputs.{part_of}
use Rattle.routes.specs.Work.{entries}
use Rattle.routes.proofs.Members.{at_place}
use Rattle.routes.proofs.Asks.{lawful-work, idle, row-ins}
use Rattle.closed_routes.specs.Looking.{shapes, Parts}
use Rattle.closed_routes.specs.Whole.{whole_net}

-- the paper's test of a list is std's
pub any-is : {A : Type 0} (test : A → Bool) (xs : List A) → list_any test xs ≡ any test xs
any-is test [] = refl
any-is test (x ∷ xs) = ap (test x ||◌) (any-is test xs)

-- a row r that makes v, by a row of makers
pub record Row (firsts counts vars by : List ℕ) (v r first last : ℕ) : Type 0 where
  pub parts : Parts firsts counts vars by
  pub row : nat by v ≡ suc r
  pub first-is : first ≡ nat firsts r
  pub last-is : last ≡ nat firsts r + nat counts r

-- a search variable has no inputs
pub sees-none : (changes : ℕ → Bool) (firsts counts vars by : List ℕ) (v : ℕ) → nat by v ≡ 0 → false ≡ any changes ((whole_net firsts counts vars by).ins v)
sees-none changes firsts counts vars by v e =
    sym (ap (any changes) ((lawful-work (shapes [] firsts counts vars) by).bare v (idle (shapes [] firsts counts vars) by v e)))

module _ {firsts counts vars by : List ℕ} {v r first last : ℕ} (K : Row firsts counts vars by v r first last) where
  part-is : entries vars first last ≡ part_of (nat firsts r) (nat counts r) vars
  part-is = let z = K.last-is in let f = K.first-is in let d : last - first ≡ nat counts r = omega arith in rw (d, f)

  pub row-inputs : entries vars first last ≡ (whole_net firsts counts vars by).ins v
  row-inputs = part-is ∙ sym (row-ins (shapes [] firsts counts vars) by v r K.row)

  -- each of them is a variable
  pub input-low : (u k : ℕ) → k < length (entries vars first last) → u ≡ get_or (entries vars first last) k u → u < length by
  input-low u k h e = ltb-true u (length by) (all_in (λ u. ltb u (length by)) (entries vars first last)
      (subst (λ (us : List ℕ). all (λ u. ltb u (length by)) us ≡ true) (sym part-is) (K.parts.inputs v r K.row))
      (subst (λ z. Memᴰ z (entries vars first last)) (sym (e ∙ get_or_default (entries vars first last) k u 0 h)) (at_place (entries vars first last) k h)))
