-- A route can be run where no chain closes along the order, and where one does by following the choices. Assumes nothing.
use Prim.Native.Nat.{ℕ}
use mathlib.Core.Bool.{true, false}
use mathlib.Core.List.{List}
use mathlib.Core.Path.{◌≡◌, ◌∙◌}
use lib.IntN.{ℤ}
use Rattle.paper.specs.Tables.{Tables, values_in}
use Rattle.paper.specs.Chains.{closes}
use Rattle.paper.proofs.Closes.{opened, closed}
use Rattle.routes.specs.Rows.{Along}
use Rattle.closed_routes.specs.Following.{Steady}
use Rattle.fills.specs.Running.{Running}

module _ (t : Tables) (ord : List ℕ) (stored trial : List ℤ) (k : Running t ord stored trial) where
  pub along : closes t ≡ false → Along t ord
  along e = let o = opened t k.sound e in record { sound = k.sound; chains = o.chains; long = k.in_order; order_is = k.order_is ∙ o.order_is }

  pub steady : closes t ≡ true → Steady t stored trial
  steady e = record { sound = k.sound; fresh = (closed t k.sound (values_in t stored) e k.fresh).fresh; determined = k.determined }
