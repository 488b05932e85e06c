use native.Mathlib.Omega.{arith}
use mathlib.Core.Path.{◌∙◌}
use Rattle.frequencies.specs.Lent.{lent_windows}
use Rattle.frequencies.proofs.Filed.{file-starts, size-next}
use Rattle.frequencies.proofs.write.file_size.Goals as goal

pub loop-i-init : goal.loop-i-init
loop-i-init c = let e = file-starts c.args.text.now (lent_windows c.args.windows.now) in (omega (arith, e), omega arith)

pub loop-i-preserved : goal.loop-i-preserved
loop-i-preserved c =
    let given = simp c.window_at.ensures at c.window_size-line.ensures.0 in
    (c.min-size.ensures ∙ size-next c.args.text.now (lent_windows c.args.windows.now) c.loop-i.i c.loop-i.size _ 2147483648 c.loop-i.invariant.0 given, omega arith)
