-- The parts of a line are put one behind the other (`puts_then`): the name is a part of the text, and the numbers are those of the window. Assumes nothing.
use mir.Syntax.{w32}
use mir.Val.{SFits}
use mir.Facts.{to_z-of_z}
use borrow.Author.Rules.{rules}
use Rattle.frequencies.proofs.Putting.{puts_then}
use Rattle.frequencies.proofs.lines.put_window.Goals as goal

pub returns : goal.returns
returns c =
    let w = c.args.window in
    let s : SFits w32 w.start = search rules in
    let e : SFits w32 w.end = search rules in
    let h : SFits w32 w.headway = search rules in
    let all = puts_then (puts_then (puts_then (puts_then (puts_then (puts_then (puts_then c.put_name-a.ensures c.put-b.ensures)
    c.put_time-c.ensures) c.put-d.ensures) c.put_time-e.ensures) c.put-f.ensures)
    c.put_digits-g.ensures) c.put_end.ensures in
    simp (c.name_in.ensures, c.whole.ensures, c.whole-2.ensures, c.whole-3.ensures, to_z-of_z s, to_z-of_z e, to_z-of_z h) at all
