-- The windows' times are those of the test. Assumes nothing.
use Rattle.std.proofs.Common.{sym, ap, not, ◌∙◌, arith, rules, pos, get_or}
use mathlib.Core.Bool.{◌&&◌}
use lib.Dec.{eqb}
use mir.Syntax.{w32}
use mir.Val.{SFits}
use mir.Facts.{to_z-of_z}
use Rattle.paper.proofs.Scan.{scan-next, scan-some, scan-none}
use Rattle.times.proofs.overlaps.first_on.Goals as goal

pub returns-then-i-j : goal.returns-then-i-j
returns-then-i-j c =
    let w = c.args.windows.now in let i = c.args.i in let j = c.loop-j.j in
    let s : SFits w32 (get_or w.starts.now i (pos 0)) = search rules in
    let e : SFits w32 (get_or w.ends.now i (pos 0)) = search rules in
    let s' : SFits w32 (get_or w.starts.now j (pos 0)) = search rules in
    let e' : SFits w32 (get_or w.ends.now j (pos 0)) = search rules in
    scan-some _ _ _ c.loop-j.invariant (omega arith)
    (ap not (ap (not (eqb i j) &&◌) (sym (simp (to_z-of_z s, to_z-of_z e, to_z-of_z s', to_z-of_z e') at c.share.ensures)) ∙ c.if-i-j.true))

pub loop-j-preserved : goal.loop-j-preserved
loop-j-preserved c =
    let w = c.args.windows.now in let i = c.args.i in let j = c.loop-j.j in
    let s : SFits w32 (get_or w.starts.now i (pos 0)) = search rules in
    let e : SFits w32 (get_or w.ends.now i (pos 0)) = search rules in
    let s' : SFits w32 (get_or w.starts.now j (pos 0)) = search rules in
    let e' : SFits w32 (get_or w.ends.now j (pos 0)) = search rules in
    scan-next _ _ _ c.loop-j.invariant (omega arith)
    (ap not (ap (not (eqb i j) &&◌) (sym (simp (to_z-of_z s, to_z-of_z e, to_z-of_z s', to_z-of_z e') at c.share.ensures)) ∙ c.if-i-j.false))

pub returns : goal.returns
returns c = scan-none _ _ _ c.loop-j.invariant (omega arith)
