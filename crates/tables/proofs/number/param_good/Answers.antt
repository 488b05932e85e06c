-- A bound is two tests (`within`), and 0 is within it (`param-known`). Assumes nothing.
use mathlib.Core.Bool.{◌&&◌, ◌||◌}
use mathlib.Core.Path.{ap₂, ◌∙◌}
use lib.IntN.{pos}
use lib.Dec.{eqb}
use mir.Syntax.{w32}
use mir.Facts.{to_z-of_z, sfits_lit}
use Rattle.integers.proofs.Bits.{eqb-bits}
use Rattle.tables.proofs.Numbers.{within, param-known}
use Rattle.tables.proofs.number.param_good.Goals as goal

pub returns : goal.returns
returns c =
    let z = c.args.param in let k = c.args.kind in
    simp (to_z-of_z c.ranges.param)
    (ap₂ (λ x y. x || ((eqb k 1 || eqb k 6) && y)) (eqb-bits w32 z (pos 0) c.ranges.param (sfits_lit tt)) (within z 999999999) ∙ param-known k z)
