use Rattle.std.proofs.Common.{sym, ◌∙◌, arith, rules, pos, get_or}
use mir.Syntax.{w32}
use mir.Val.{SFits}
use mir.Facts.{to_z-of_z}
use Rattle.paper.proofs.Scan.{scan-some, scan-none}
use Rattle.frequencies.proofs.checks.first_bad_time.Goals as goal

pub returns-then-not-times_good : goal.returns-then-not-times_good
returns-then-not-times_good c =
    let s : SFits w32 (get_or c.args.windows.now.starts.now c.loop-i.i (pos 0)) = search rules in
    let e : SFits w32 (get_or c.args.windows.now.ends.now c.loop-i.i (pos 0)) = search rules in
    scan-some _ _ _ c.loop-i.invariant (omega arith) (sym (simp (to_z-of_z s, to_z-of_z e) at c.times_good.ensures) ∙ c.if-not-times_good.true)

pub returns : goal.returns
returns c = scan-none _ _ _ c.loop-i.invariant (omega arith)
