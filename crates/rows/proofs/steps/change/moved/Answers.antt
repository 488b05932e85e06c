-- Two values differ where their bits do (`eqb-bits`). Assumes nothing.
use mathlib.Core.Bool.{not}
use mathlib.Core.Path.{ap}
use lib.IntN.{pos}
use lib.ListN.{get_or}
use borrow.Author.Rules.{sfits_of}
use mir.Syntax.{w32}
use mir.Val.{SFits}
use Rattle.integers.proofs.Bits.{eqb-bits}
use Rattle.rows.proofs.steps.change.moved.Goals as goal

pub returns : goal.returns
returns c =
    let s = c.args in
    let a : SFits w32 (get_or s.trial.now s.v (pos 0)) = sfits_of c.result-1.given in
    let b : SFits w32 (get_or s.stored.now s.v (pos 0)) = sfits_of c.result-2-1.given in
    ap not (eqb-bits w32 _ _ a b)
