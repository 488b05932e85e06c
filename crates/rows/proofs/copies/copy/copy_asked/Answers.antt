use native.Mathlib.Omega.{arith}
use mathlib.Core.Path.{ap, ◌∙◌}
use lib.Dec.{ltb}
use lib.IntN.{pos}
use lib.ListN.{length, get_or}
use mir.Syntax.{w32}
use mir.Facts.{to_z-of_z}
use borrow.Author.Rules.{sfits_of}
use borrow.Author.Tests.{ltb-true}
use Rattle.paper.specs.Lists.{nat}
use Rattle.paper.proofs.Lists.{all-at}
use Rattle.paper.proofs.Buffers.{filled-start, filled_next, filled-end}
use Rattle.rows.proofs.copies.copy.copy_asked.Goals as goal

pub loop-i-init : goal.loop-i-init
loop-i-init c = (omega arith, filled-start _ _)

pub bounds-values-wide : goal.bounds-values-wide
bounds-values-wide c =
    let s = c in let l = c.loop-i in let w = c.wide.ensures in
    omega (arith, ltb-true (nat s.args.asked.now l.i) (length s.args.values.now) (all-at (λ v. ltb v (length s.args.values.now)) s.args.asked.now s.requires.known l.i 0 (omega arith)))

pub bounds-results-i : goal.bounds-results-i
bounds-results-i c =
    let s = c in let l = c.loop-i in
    omega (arith, l.invariant.1.long, s.requires.room)

pub loop-i-preserved : goal.loop-i-preserved
loop-i-preserved c =
    let s = c in let l = c.loop-i in
    (omega arith, filled_next (λ k. get_or s.args.values.now (nat s.args.asked.now k) (pos 0)) s.args.results.now l.results l.i l.invariant.1 (omega (arith, s.requires.room)) (to_z-of_z {w = w32} (sfits_of c.results-1.given) ∙ ap (λ v. get_or s.args.values.now v (pos 0)) c.wide.ensures.0))

pub shape_of-results : goal.shape_of-results
shape_of-results c = c.loop-i.invariant.1.long

pub returns : goal.returns
returns c =
    let s = c in let l = c.loop-i in
    filled-end (λ k. get_or s.args.values.now (nat s.args.asked.now k) (pos 0)) s.args.results.now l.results l.i (length s.args.asked.now) l.invariant.1 (omega arith)
