use Prim.Native.Nat.{◌+◌}
use native.Mathlib.Omega.{arith}
use mathlib.Core.Bool.{not}
use mathlib.Core.Path.{sym, ap, subst, ◌∙◌}
use Rattle.paper.proofs.Scan.{scan-start, scan-next, scan-some, scan-none}
use Rattle.checks.proofs.Seen.{Seen, seen_start, seen_next, seen-once}
use Rattle.checks.proofs.repeats.first_marked.Goals as goal

pub loop-i-init : goal.loop-i-init
loop-i-init c = (scan-start _ _, seen_start _)

pub returns-then-named_before : goal.returns-then-named_before
returns-then-named_before c =
    scan-some _ _ _ c.loop-i.invariant.0 (omega arith) (seen-once _ _ _ c.loop-i.invariant.1 ∙ ap not (sym c.named_before.ensures ∙ c.if-named_before.true))

pub loop-i-preserved : goal.loop-i-preserved
loop-i-preserved c = (
  scan-next _ _ _ c.loop-i.invariant.0 (omega arith) (seen-once _ _ _ c.loop-i.invariant.1 ∙ ap not (sym c.named_before.ensures ∙ c.if-named_before.false)),
  subst (λ seen. Seen c.args.vars.now seen (c.loop-i.i + 1)) (sym c.mark.ensures) (seen_next c.args.vars.now _ c.loop-i.i c.loop-i.invariant.1 (omega arith)),
)

pub returns : goal.returns
returns c = scan-none _ _ _ c.loop-i.invariant.0 (omega arith)
