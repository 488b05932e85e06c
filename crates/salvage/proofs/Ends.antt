-- Without the rows whose variable has no topological number every chain ends: a row that is left has the inputs that it had, and a variable
-- whose row is dropped has none. Assumes nothing.
use Prim.Native.Nat.{ℕ, zero, suc, ◌<◌}
use mathlib.Core.Bool.{Bool, true, false}
use mathlib.Core.List.{List, []}
use mathlib.Core.Logic.{◌⊎◌, inl, inr}
use mathlib.Core.Path.{◌≡◌, refl, ap, sym, ◌∙◌}
use lib.ListN.{length}
use Rattle.paper.specs.Lists.{all, nat, those}
use Rattle.paper.specs.Net.{runs, able}
use Rattle.paper.specs.Tables.{Tables, net, row_of, is_made, inputs_of, ends}
use Rattle.paper.specs.Checks.{Sound}
use Rattle.paper.proofs.Lists.{all_of}
use Rattle.paper.proofs.Sections.{those-place}
use Rattle.paper.proofs.Lawful.{lawful}
use Rattle.paper.proofs.Fix.{able-suc}
use Rattle.paper.proofs.Circle.{free}
use Rattle.paper.proofs.Accept.{made_row, made_by, made-below, inputs-below}
use Rattle.damage.specs.Saved.{packed}
use Rattle.damage.proofs.Packed.{Rows, makes-at, packed-sound, packed-inputs}
use Rattle.damage.proofs.KeptRows.{those-at}

-- variables that keep their inputs or lose all: what ended still ends
able-less : (f g : ℕ → List ℕ) → ((v : ℕ) → (g v ≡ []) ⊎ (g v ≡ f v)) → (k v : ℕ) → able f k v ≡ true → able g k v ≡ true
unfolding runs
able-less f g h zero v e = e
able-less f g h (suc k) v e = go (h v) (able-less f g h k)
  where
    go : (g v ≡ []) ⊎ (g v ≡ f v) → ((i : ℕ) → able f k i ≡ true → able g k i ≡ true) → all (able g k) (g v) ≡ true
    go (inl z) ih = ap (all (able g k)) z
    go (inr z) ih = ap (all (able g k)) z ∙ all_of (able g k) (f v) (λ i m. ih i (able-suc f k v e m))

-- the rows that pass q, and those of them that are left
module _ (t : Tables) (p q : ℕ → Bool) (m : ℕ) (less : (r : ℕ) → r < m → p r ≡ true → q r ≡ true) (all-rows : Rows t (those q m)) (left : Rows t (those p m)) where
  abbrev A : Tables
  A = packed t (those q m)

  abbrev B : Tables
  B = packed t (those p m)

  module _ (top : (r : ℕ) → r < m → p r ≡ true → ends A (nat t.makes r) ≡ true) where
    -- a variable that is made has its inputs and its number
    pub record Left (v : ℕ) : Type 0 where
      pub inputs : inputs_of B v ≡ inputs_of A v
      pub ended : ends A v ≡ true

    made-left : (v : ℕ) → is_made B v ≡ true → Left v
    made-left v e =
        let sound = packed-sound t (those p m) left in
        let k = row_of B v in let l = made_row B sound v e in let r = nat (those p m) k in let a = those-at p m k l in
        let is : nat t.makes r ≡ v = sym (makes-at t (those p m) left.whole k l) ∙ made_by B sound v e in
        let there = those-place q r m a.low (less r a.low a.passes) in
        let before = rw there.1 at (packed-inputs t (those q m) all-rows (length (those q r)) there.0) in
        rw (← is) (record {
          inputs = packed-inputs t (those p m) left k l ∙ sym before;
          ended = top r a.low a.passes;
        })

    pub all_end : (v : ℕ) → ends B v ≡ true
    all_end v = go (is_made B v) refl
      where
        sound : Sound B
        sound = packed-sound t (those p m) left

        same : (u : ℕ) → (inputs_of B u ≡ []) ⊎ (inputs_of B u ≡ inputs_of A u)
        same u = other (is_made B u) refl
          where
            other : (b : Bool) → is_made B u ≡ b → (inputs_of B u ≡ []) ⊎ (inputs_of B u ≡ inputs_of A u)
            other true e = inr (made-left u e).inputs
            other false e = inl ((lawful B).bare u e)

        go : (b : Bool) → is_made B v ≡ b → ends B v ≡ true
        go true e = able-less (inputs_of A) (inputs_of B) same t.n v (made-left v e).ended
        go false e = free (net B) (lawful B) t.n (inputs-below B sound) (made-below B sound) left.n-some t.n v left.n-some e
