use native.Mathlib.Omega.{arith}
use mathlib.Core.Path.{ap, ◌∙◌}
use lib.IntN.{pos}
use lib.ListN.{get_or}
use borrow.Author.Rules.{rules}
use mir.Syntax.{w32}
use mir.Val.{SFits}
use mir.Facts.{to_z-of_z}
use Rattle.paper.specs.Lists.{nat}
use Rattle.paper.proofs.Scan.{joint-start, joint-next, joint-end}
use Rattle.tables.specs.Rows.{param_good}
use Rattle.tables.proofs.number.params_good.Goals as goal

pub loop-row-init : goal.loop-row-init
loop-row-init c = joint-start _ _

pub loop-row-preserved : goal.loop-row-preserved
loop-row-preserved c =
    let a = c.args in let l = c.loop-row in
    let fits : SFits w32 (get_or a.tables.now.params.now l.row (pos 0)) = search rules in
    joint-next _ _ l.row l.good _ l.invariant (omega arith) (c.param_good-good.ensures ∙ ap (param_good (nat a.tables.now.kinds.now l.row)) (to_z-of_z fits))

pub returns : goal.returns
returns c = joint-end _ _ _ _ c.loop-row.invariant (omega arith)
