use Prim.Native.Nat.{◌<◌}
use native.Mathlib.Numerals.{add-one}
use native.Mathlib.Omega.{arith}
use mathlib.Core.Path.{◌≡◌, sym, ap, ◌∙◌}
use borrow.Author.Rules.{rules}
use lib.IntN.{pos}
use lib.ListN.{get_or, take}
use lib.Seq.{get_or-take, length-take-le}
use mir.Syntax.{w32}
use mir.Val.{SFits}
use mir.Facts.{to_z-of_z}
use Rattle.integers.specs.Integers.{eq_z}
use Rattle.paper.specs.Formula.{blank}
use Rattle.paper.proofs.Count.{size-le}
use Rattle.formulas.proofs.blanks.blanks_among.Goals.{then-is_blank, else-is_blank}
use Rattle.formulas.proofs.blanks.blanks_among.Goals as goal

pub overflow_add-count : goal.overflow_add-count
overflow_add-count c =
    let values = c.args.values.now in let l = c.loop-value in
    omega (arith, l.invariant, size-le (λ u. eq_z (get_or values u (pos 0)) blank) l.value-index, length-take-le c.args.n values c.requires.0)

pub loop-value-preserved : goal.loop-value-preserved
loop-value-preserved c =
    let n = c.args.n in let values = c.args.values.now in let l = c.loop-value in let i = l.value-index in
    let low : i < n = omega (arith, length-take-le n values c.requires.0) in
    let fits : SFits w32 (get_or (take n values) i (pos 0)) = search rules in
    let test : eq_z (get_or values i (pos 0)) blank ≡ c.is_blank.result =
    sym (c.is_blank.ensures ∙ ap (λ x. eq_z x blank) (to_z-of_z fits ∙ get_or-take n values i (pos 0) low)) in
    elim c.if-is_blank.branch [
      | then-is_blank w ↦ rw (w.count-is, add-one i, test ∙ w.if-is_blank.true) (let e = l.invariant in omega arith)
      | else-is_blank w ↦ rw (w.count-is, add-one i, test ∙ w.if-is_blank.false) l.invariant
    ]
