use native.Mathlib.Omega.{arith}
use Prim.Native.Nat.{◌+◌, ◌-◌}
use mathlib.Core.Path.{◌≡◌, sym, ◌∙◌}
use Rattle.frequencies.proofs.Behind.{behind-found, behind-all}
use Rattle.frequencies.proofs.ends.body_end.Goals as goal

pub returns-then-not-ends_line : goal.returns-then-not-ends_line
returns-then-not-ends_line c =
    let l = c.loop-last in let a = c.args in let same : (l.last - 1) + 1 ≡ l.last = omega arith in
    rw same (behind-found a.bytes.now a.mark l.last l.invariant c.loop-last-test.true (sym c.ends_line.ensures ∙ c.if-not-ends_line.true))

pub returns : goal.returns
returns c =
    let l = c.loop-last in let a = c.args in let low = l.invariant.low in let same : l.last ≡ a.mark = omega arith in
    rw same at (behind-all a.bytes.now a.mark l.last l.invariant (omega arith))
