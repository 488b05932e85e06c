-- Values worked out along the order are those worked out afresh where no chain closes, since build's order is then that of `Straight`; and values found by following
-- the choices are, wherever every variable is determined. Assumes nothing.
use Prim.Native.Nat.{ℕ}
use mathlib.Core.Bool.{Bool, false, cond}
use mathlib.Core.List.{List}
use mathlib.Core.Path.{◌≡◌, ap, sym, ◌∙◌}
use lib.IntN.{ℤ}
use Rattle.paper.specs.Lists.{first_fail, over}
use Rattle.paper.specs.Net.{Values}
use Rattle.paper.specs.Tables.{Tables, values_in}
use Rattle.paper.specs.Checks.{Sound}
use Rattle.paper.specs.Chains.{worth, determined, closes}
use Rattle.paper.proofs.Buffers.{over-same}
use Rattle.paper.proofs.Least.{first_fail-none}
use Rattle.paper.proofs.Closes.{opened}
use Rattle.chains.proofs.Kinded.{kinded_of, closes-kinded}
use Rattle.routes.specs.Rows.{Along}
use Rattle.choices.specs.Choices.{Followed}
use Rattle.choices.specs.Workable.{Workable}

pub closes-told : (t : Tables) {b c : Bool} → b ≡ closes (kinded_of t) → b ≡ c → closes t ≡ c
closes-told t e q = sym (closes-kinded t) ∙ sym e ∙ q

pub open-determined-least : (t : Tables) → Sound t → closes t ≡ false → (s : Values) → t.n ≡ first_fail (determined t s) t.n
open-determined-least t sound e s = first_fail-none (determined t s) t.n (λ v l. (opened t sound e).determined s v)

module _ (t : Tables) (numbers order : List ℕ) (before : List ℤ) (w : Workable t numbers order before) where
  pub open-along : closes t ≡ false → Along t order
  open-along e = let o = opened t w.sound e in record { sound = w.sound; chains = o.chains; long = w.in_order; order_is = w.order_is ∙ o.order_is }

  pub followed-worth : {values : List ℤ} {states : List ℕ} → Followed t before values states → values ≡ over t.n (worth t (values_in t before)) before
  followed-worth F =
      let s = values_in t before in
      F.values-are ∙ over-same (λ v. cond (determined t s v) (worth t s v) (s v)) t.n before (worth t s) (λ v l. ap (λ b. cond b (worth t s v) (s v)) (w.determined v l))
