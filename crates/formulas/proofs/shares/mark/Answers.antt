use native.Mathlib.Omega.{arith}
use borrow.Author.Rules.{rules}
use lib.IntN.{pos}
use lib.ListN.{get_or}
use mir.Syntax.{w32}
use mir.Val.{SFits}
use Rattle.integers.proofs.Bits.{eqb-bits}
use Rattle.formulas.proofs.Marking.{comparing-next, all-end}
use Rattle.formulas.proofs.shares.mark.Goals as goal

pub loop-k-preserved : goal.loop-k-preserved
loop-k-preserved g c =
    let x : SFits w32 (get_or c.args.held.now c.loop-j.j (pos 0)) = search rules in
    let z : SFits w32 (get_or c.args.values c.loop-k.k (pos 0)) = search rules in
    comparing-next _ _ _ _ _ _ _ _ _ c.loop-k.invariant (omega arith) c.loop-j-test.true (eqb-bits w32 _ _ x z) c.marked.ensures

pub returns-clause-found : goal.returns-clause-found
returns-clause-found g c = all-end _ _ _ _ _ c.loop-j.invariant.0 (omega arith)
