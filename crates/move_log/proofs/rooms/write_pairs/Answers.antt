use Prim.Native.Nat.{ℕ, ◌+◌, ◌-◌}
use native.Mathlib.Omega.{arith}
use mathlib.Core.List.{List, ◌++◌}
use mathlib.Core.Path.{◌≡◌, ap, ap₂, sym, ◌∙◌}
use lib.IntN.{ℤ, pos}
use lib.ListN.{get_or, take, drop}
use mir.Syntax.{w32}
use mir.Facts.{to_z-of_z}
use borrow.Author.Rules.{rules}
use Rattle.paper.specs.Lists.{nat}
use Rattle.paper.proofs.Buffers.{below-list}
use Rattle.move_log.proofs.Laid.{laid-start, laid_next, laid-long, laid_end}
use Rattle.move_log.proofs.rooms.write_pairs.Goals as goal

-- the stored value of the variable that a pair names
abbrev old : List ℤ → List ℕ → ℕ → ℤ
old stored vars i = get_or stored (nat vars i) (pos 0)

pub loop-i-init : goal.loop-i-init
loop-i-init c = (omega arith, laid-start _ _ _)

pub bounds-stored-wide : goal.bounds-stored-wide
bounds-stored-wide c =
    let w = c.wide.ensures in
    omega (arith, c.requires.named.low c.loop-i.i (omega arith))

pub bounds-log_values-at : goal.bounds-log_values-at
bounds-log_values-at c = omega (arith, laid-long _ _ _ _ _ c.loop-i.invariant.1)

pub loop-i-preserved : goal.loop-i-preserved
loop-i-preserved c =
    let l = c.loop-i in let a = c.args in (
      omega arith,
      laid_next (old a.stored.now a.mv.now.vars.now) a.at a.log_values.now l.log_values l.i l.invariant.1 (omega arith)
          (to_z-of_z {w = w32} (search rules) ∙ ap (λ v. get_or a.stored.now v (pos 0)) c.wide.ensures.0),
    )

pub shape_of-log_values : goal.shape_of-log_values
shape_of-log_values c = laid-long _ _ _ _ _ c.loop-i.invariant.1

pub returns-clause-log_vars_after : goal.returns-clause-log_vars_after
returns-clause-log_vars_after c =
    let a = c.args in let n = a.mv.now.pairs in let vars = a.mv.now.vars.now in let long = c.requires.named.in-vars in
    let same : (a.at + n) - a.at ≡ n = omega arith in
    ap (take a.at a.log_vars.now ++◌) (ap₂ ◌++◌ (c.copy_from_slice.ensures.after ∙ sym (below-list vars 0 n long)) (ap (λ k. drop k (drop a.at a.log_vars.now)) same))

pub returns-clause-log_values_after : goal.returns-clause-log_values_after
returns-clause-log_values_after c =
    let a = c.args in let l = c.loop-i in
    laid_end (old a.stored.now a.mv.now.vars.now) a.at a.log_values.now l.log_values l.i a.mv.now.pairs l.invariant.1 (omega arith)
