use native.Mathlib.Omega.{arith}
use mathlib.Core.Path.{◌≡◌}
use borrow.Author.Rules.{rules}
use Rattle.frequencies.specs.Lent.{lent_windows}
use Rattle.frequencies.proofs.Filed.{lines_next, file-put}
use Rattle.frequencies.proofs.write.put_file.Goals as goal

pub loop-i-preserved : goal.loop-i-preserved
loop-i-preserved c =
    (omega arith, search rules, lines_next c.args.text.now (lent_windows c.args.windows.now) c.loop-i.i c.loop-i.invariant.2 (simp c.window_at.ensures at c.put_window-at.ensures))

pub returns : goal.returns
returns c =
    let all : c.loop-i.i ≡ c.args.windows.now.count = omega arith in
    file-put c.args.text.now (lent_windows c.args.windows.now) c.args.windows.now.count c.put_all-at.ensures (rw (← all) c.loop-i.invariant.2)
