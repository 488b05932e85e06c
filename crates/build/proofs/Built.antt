-- What build writes, step by step, is what the paper leaves. Assumes nothing.
use Prim.Native.Nat.{ℕ}
use native.Mathlib.Omega.{arith}
use mathlib.Core.List.{List, ◌++◌}
use mathlib.Core.Path.{◌≡◌, ap, ◌∙◌}
use lib.IntN.{ℤ, pos}
use lib.ListN.{length, get_or, take, drop, length-append}
use lib.Seq.{take_at}
use Rattle.paper.specs.Lists.{nat, over}
use Rattle.paper.specs.Tables.{Tables, values_in}
use Rattle.paper.specs.Checks.{accepted}
use Rattle.paper.specs.Chains.{group_number, group_order, worth, determined}
use Rattle.paper.specs.Calls.{BuildLent, build_leaves}
use Rattle.paper.proofs.Buffers.{over-over, over-same}
use Rattle.paper.proofs.Closes.{group-order-length}
use Rattle.choices.specs.Workable.{Workable}
use Rattle.chains.proofs.Kinded.{kinded_of, number-kinded, order-kinded}
use Rattle.choices.proofs.Renewed.{copy-long, copy-values}
use Rattle.build.specs.Buildable.{Buildable}

module _ (l : BuildLent) (state : List ℕ) (b : Buildable l state) where
  abbrev t : Tables
  t = l.tables

  pub numbers-left : (now : List ℕ) → now ≡ over t.n (nat state) l.numbers → now ≡ (build_leaves l accepted).numbers
  numbers-left now e =
      e ∙ over-same (nat state) t.n l.numbers (group_number t) (λ v h. b.grouped.shared.at v h ∙ ap (λ (f : ℕ → ℕ). f v) (number-kinded t))

  pub order-left : (now : List ℕ) → now ≡ group_order (kinded_of t) ++ drop t.m l.order → now ≡ (build_leaves l accepted).order
  order-left now e = e ∙ ap (◌++ drop t.m l.order) (order-kinded t)

  -- the start values copied, before every variable is worked out over them
  module _ (mid : List ℤ) (copied : mid ≡ over t.n (λ v. get_or l.starts v (pos 0)) l.stored) where
    pub workable : (ord : List ℕ) → ord ≡ group_order (kinded_of t) ++ drop t.m l.order → Workable t state ord mid
    workable ord e =
        let is = order-left ord e in let size = group-order-length t in
        record {
          sound = b.sound;
          grouped = b.grouped;
          in_order = let c = ap length is ∙ length-append (group_order t) (drop t.m l.order) in omega arith;
          order_is = ap (take t.m) is ∙ take_at (group_order t) (drop t.m l.order) t.m size;
          in-values = copy-long t l.starts l.stored b.in-starts b.in-stored copied;
          determined = λ v h. ap (λ s. determined t s v) (copy-values t l.starts l.stored b.in-starts b.in-stored copied) ∙ b.determined v;
        }

    pub stored-left : (now : List ℤ) → now ≡ over t.n (worth t (values_in t mid)) mid → now ≡ (build_leaves l accepted).stored
    stored-left now worked =
        worked
        ∙ ap (over t.n (worth t (values_in t mid))) copied
        ∙ over-over (worth t (values_in t mid)) t.n l.stored (λ v. get_or l.starts v (pos 0))
        ∙ ap (λ s. over t.n (worth t s) l.stored) (copy-values t l.starts l.stored b.in-starts b.in-stored copied)
