-- Where chains may close too, the made ones among what the walks have marked are what route 3 works out. Assumes nothing.
use Prim.Native.Nat.{ℕ}
use mathlib.Core.Bool.{Bool, true, false, cond, ◌&&◌}
use mathlib.Core.List.{List}
use mathlib.Core.Path.{◌≡◌, refl, ap, ◌∙◌}
use lib.Dec.{eqb}
use lib.IntN.{ℤ}
use Rattle.paper.specs.Lists.{nat}
use Rattle.paper.specs.Net.{mark-guided, works}
use Rattle.paper.specs.Tables.{Tables, net, is_made}
use Rattle.paper.specs.Checks.{Sound}
use Rattle.order.specs.Numbering.{Clean}
use Rattle.index.specs.Index.{Indexed}
use Rattle.routes.specs.Reach.{Reaching}
use Rattle.routes.specs.Readers.{Moved, none}
use Rattle.closed_routes.specs.Readers.{LeadsUp}
use Rattle.routes.specs.Routed.{Begun, Named}
use Rattle.routes.proofs.Marked as Marks
use Rattle.routes.proofs.Marked.{front, from, old, new, is, marks-are}

module _ (t : Tables) (d : Sound t) (starts places : List ℕ) (x : Indexed t starts places) where
  pub upward : LeadsUp t.makes (front t d starts places x) places
  upward = record { inside = Marks.inside t d starts places x; row = Marks.row t d starts places x; below = Marks.below t d starts places x }

  module _ (stored trial : List ℤ) (flags moves : List ℕ) (B : Begun t stored trial flags) (N : Named t stored trial moves) where
    module _ (before after : List ℕ) (c : Clean t.n before) (r : Reaching (λ u. true) (from t d starts places x) (Moved moves stored trial) none before after) where
      pub marks-work : (v : ℕ) → (is_made t v && eqb (nat after v) 1) ≡ works (net t) mark-guided (old t d starts places x stored trial flags moves B N) (new t d starts places x stored trial flags moves B N) t.n v
      marks-work v = ap (λ k. is_made t v && eqb k 1) (marks-are t d starts places x stored trial flags moves B N before after c r v) ∙ ap (is_made t v &&◌) (one (is t d starts places x stored trial flags moves B N v))
        where
          one : (b : Bool) → eqb (cond b 1 0) 1 ≡ b
          one true = refl
          one false = refl
