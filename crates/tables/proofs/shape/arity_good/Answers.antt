-- Each arm is the paper's test with the kind put in. Assumes nothing.
use native.Mathlib.Omega.{arith}
use mathlib.Core.Logic.{⊎_elim}
use Rattle.tables.proofs.Shapes.{arity-four, arity-seven, arity-window, arity-other}
use Rattle.tables.proofs.shape.arity_good.Goals as goal

pub returns-in-4 : goal.returns-in-4
returns-in-4 c = arity-four _ _ c.in-4.is

pub returns-in-7 : goal.returns-in-7
returns-in-7 c = arity-seven _ _ c.in-7.is

pub returns-in-8 : goal.returns-in-8
returns-in-8 c = arity-window c.args.kind _ (omega arith) (omega arith)

pub returns-in_default : goal.returns-in_default
returns-in_default c =
    let k = c.args.kind in let r = c.in_default-1.rest in
    ⊎_elim (λ w. arity-other k _ r.0.1 r.1 (omega arith) (omega arith)) (λ w. arity-other k _ r.0.1 r.1 (omega arith) (omega arith)) c.in_default.branch-raw
