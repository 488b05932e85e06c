-- The exact difference is judged once, where it is positive. Assumes nothing.
use mathlib.Core.Path.{◌≡◌, ◌∙◌, ap}
use lib.IntN.{◌-ℤ◌}
use mir.Syntax.{w32, w64}
use mir.Facts.{to_z-of_z}
use Rattle.integers.proofs.Bits.{lt-read, told}
use Rattle.paper.specs.Formula.{fit}
use Rattle.formulas.proofs.over.excess.Goals as goal

pub returns-then-b-a : goal.returns-then-b-a
returns-then-b-a c =
    let s = c.before.before.before in
    let d = c.difference in
    let e : d.result ≡ s.args.a -ℤ s.args.b = simp (to_z-of_z s.ranges.a, to_z-of_z s.ranges.b) at d.ensures in
    simp (lt-read w32 s.args.b s.args.a s.ranges.b s.ranges.a c.if-b-a.true)
    (told w32 c.fitted.type_inv (c.fitted.ensures ∙ ap fit (told w64 d.type_inv e)))

pub returns-else-b-a : goal.returns-else-b-a
returns-else-b-a c = let s = c.before in simp (lt-read w32 s.args.b s.args.a s.ranges.b s.ranges.a c.if-b-a.false)
