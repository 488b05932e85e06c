-- With all new values worked out by following the choices, the flags of what the route evaluates, and the new values of these in the trial row, the rows are as
-- the route leaves them. Assumes nothing.
use Prim.Native.Nat.{ℕ, ◌≤◌, ◌<◌}
use native.Mathlib.Omega.{arith}
use mathlib.Core.Bool.{Bool, true, false, cond}
use mathlib.Core.List.{List}
use mathlib.Core.Path.{◌≡◌, refl, ap, ap₂, sym, ◌∙◌}
use lib.Dec.{eqb}
use lib.IntN.{ℤ, pos}
use lib.ListN.{length, get_or, take}
use lib.Seq.{get_or-take}
use Rattle.paper.specs.Lists.{nat, over}
use Rattle.paper.specs.Net.{Values, Route}
use Rattle.paper.specs.Tables.{Tables, values_in}
use Rattle.paper.specs.Chains.{worth, determined}
use Rattle.paper.proofs.Buffers.{below-list, over-length, over-at, over-front, over-same}
use Rattle.routes.specs.Rows.{values_of}
use Rattle.routes.specs.Routed.{Begun, new_of, evaluated_of, Routed}
use Rattle.choices.specs.Choices.{Followed}
use Rattle.closed_routes.specs.Following.{Steady, Renewed, Flagged}
use Rattle.closed_routes.proofs.Flags.{new_is}

module _ (t : Tables) (stored trial : List ℤ) (flags : List ℕ) (S : Steady t stored trial) (B : Begun t stored trial flags) where
  module _ (before copied values : List ℤ) (states : List ℕ) (long : t.n ≤ length before) (is : copied ≡ over t.n (λ v. get_or trial v (pos 0)) before)
      (F : Followed t copied values states) where
    pub copied-long : t.n ≤ length copied
    copied-long = let e = ap length is ∙ over-length (λ v. get_or trial v (pos 0)) t.n before long in omega arith

    same : values_in t copied ≡ values_in t trial
    same = ap {B = Values} (λ (row : List ℤ) (v : ℕ). get_or row v (pos 0)) (ap (take t.n) is ∙ over-front (λ v. get_or trial v (pos 0)) t.n before ∙ below-list trial (pos 0) t.n B.in-trial)

    abbrev found : Values → Values
    found s v = cond (determined t s v) (worth t s v) (s v)

    pub renewed : Renewed t stored trial values
    renewed = record {
      steady = S;
      in-stored = B.in-stored;
      in-values = let e = ap length F.values-are ∙ over-length (found (values_in t copied)) t.n copied copied-long in let k = copied-long in omega arith;
      new = λ v l.
          ap (λ row. values_of row v) F.values-are ∙ over-at (found (values_in t copied)) t.n copied v (pos 0) l ∙ ap (λ (s : Values). found s v) same
          ∙ ap (λ b. cond b (worth t (values_in t trial) v) (values_in t trial v)) (S.determined v l);
    }

  pub flagged-long : (route : Route) (asked flags' : List ℕ) → Flagged t stored trial route asked flags flags' → t.n ≤ length flags'
  flagged-long route asked flags' F =
      let e = ap length F.are ∙ over-length (λ v. cond (evaluated_of t route stored trial asked v) 1 0) t.n flags B.in-flags in let k = B.in-flags in omega arith

  module _ (route : Route) (asked : List ℕ) (values trial' : List ℤ) (flags' : List ℕ) (R : Renewed t stored trial values) (F : Flagged t stored trial route asked flags flags')
      (is : trial' ≡ over t.n (λ v. cond (eqb (nat flags' v) 1) (values_of values v) (values_of trial v)) trial) where
    abbrev evaluates : ℕ → Bool
    evaluates = evaluated_of t route stored trial asked

    flag_is : (v : ℕ) → v < t.n → eqb (nat flags' v) 1 ≡ evaluates v
    flag_is v l = ap (λ row. eqb (nat row v) 1) F.are ∙ ap (λ k. eqb k 1) (over-at (λ u. cond (evaluates u) 1 0) t.n flags v 0 l) ∙ one (evaluates v)
      where
        one : (b : Bool) → eqb (cond b 1 0) 1 ≡ b
        one true = refl
        one false = refl

    pub followed-routed : Routed t route stored trial flags asked trial' flags'
    followed-routed = record {
      values =
          is ∙ over-same (λ v. cond (eqb (nat flags' v) 1) (values_of values v) (values_of trial v)) t.n trial
          (λ v. cond (evaluates v) (new_of t route stored trial asked v) (values_in t trial v))
          (λ v l. ap (λ b. cond b (values_of values v) (values_of trial v)) (flag_is v l)
          ∙ ap₂ (λ (a b : ℤ). cond (evaluates v) a b) (new_is t stored trial S values R route asked v l) (sym (get_or-take t.n trial v (pos 0) l)));
      flagged = F.are;
    }
