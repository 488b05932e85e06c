-- The window's numbers are those of the test. Assumes nothing.
use Rattle.std.proofs.Common.{sym, arith, rules, pos, get_or}
use mir.Syntax.{w32}
use mir.Val.{SFits}
use mir.Facts.{to_z-of_z}
use Rattle.paper.proofs.Scan.{scan-next, scan-some, scan-none}
use Rattle.times.proofs.overlaps.first_bad_number.Goals as goal

pub returns-then-not-window_good : goal.returns-then-not-window_good
returns-then-not-window_good c =
    let w = c.args.windows.now in let i = c.loop-i.i in
    let s : SFits w32 (get_or w.starts.now i (pos 0)) = search rules in
    let e : SFits w32 (get_or w.ends.now i (pos 0)) = search rules in
    let h : SFits w32 (get_or w.headways.now i (pos 0)) = search rules in
    scan-some _ _ _ c.loop-i.invariant (omega arith) (simp (to_z-of_z s, to_z-of_z e, to_z-of_z h) at (sym c.if-not-window_good.ensures))

pub loop-i-preserved : goal.loop-i-preserved
loop-i-preserved c =
    let w = c.args.windows.now in let i = c.loop-i.i in
    let s : SFits w32 (get_or w.starts.now i (pos 0)) = search rules in
    let e : SFits w32 (get_or w.ends.now i (pos 0)) = search rules in
    let h : SFits w32 (get_or w.headways.now i (pos 0)) = search rules in
    scan-next _ _ _ c.loop-i.invariant (omega arith) (simp (to_z-of_z s, to_z-of_z e, to_z-of_z h) at (sym c.if-not-window_good.ensures))

pub returns : goal.returns
returns c = scan-none _ _ _ c.loop-i.invariant (omega arith)
