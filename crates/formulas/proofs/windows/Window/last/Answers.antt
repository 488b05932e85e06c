-- The last of n times is the one that n - 1 are before, and it lies from start to before end. Assumes nothing.
use native.Mathlib.Omega.{arith}
use mathlib.Core.Bool.{true}
use mathlib.Core.Path.{◌≡◌, ◌∙◌}
use borrow.Author.Rules.{rules}
use lib.IntN.{pos}
use lib.Signed.{lt_z}
use mir.Syntax.{w32, w64}
use mir.Val.{SFits, to_z, of_z}
use mir.Facts.{to_z-of_z}
use Rattle.integers.proofs.Bits.{told}
use Rattle.integers.proofs.Order.{le-lt}
use Rattle.paper.specs.Formula.{last}
use Rattle.formulas.proofs.Times.{trips-most, last-is, last_fits}
use Rattle.formulas.proofs.windows.Window.last.Goals as goal

pub time-requires : goal.time-requires
time-requires c =
    let w = c.args.self in
    let s : SFits w32 w.start = search rules in let e : SFits w32 w.end = search rules in let h : SFits w32 w.headway = search rules in
    let l : lt_z (pos 0) w.headway ≡ true = le-lt w.headway (pos 0) (simp (to_z-of_z h) at c.if-self-le0.false) in
    (l, omega (arith, trips-most w.start w.end w.headway s e l, c.times_before-n.ensures))

is : (c : goal.After-time) → to_z w64 (of_z w64 c.time.result) ≡ last c.args.self.start c.args.self.end c.args.self.headway
is c =
    let w = c.args.self in
    let h : SFits w32 w.headway = search rules in
    let l : lt_z (pos 0) w.headway ≡ true = le-lt w.headway (pos 0) (simp (to_z-of_z h) at c.if-self-le0.false) in
    (told w64 c.time.type_inv (c.time.ensures ∙ last-is w.start w.end w.headway c.times_before-n.result l c.times_before-n.ensures c.if-n-eq0.false))

fits : (c : goal.After-time) → let w = c.args.self in SFits w32 (last w.start w.end w.headway)
fits c = let w = c.args.self in let s : SFits w32 w.start = search rules in let e : SFits w32 w.end = search rules in last_fits w.start w.end w.headway s e

pub overflow_cast-result : goal.overflow_cast-result
overflow_cast-result c = rw (is c) (fits c)

pub returns : goal.returns
returns c = rw (is c) (to_z-of_z (fits c))
