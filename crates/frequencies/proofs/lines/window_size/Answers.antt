-- The sizes of the parts, with three commas and the three bytes at the end (`line-long`). Assumes nothing.
use native.Mathlib.Omega.{arith}
use mir.Syntax.{w32}
use mir.Val.{SFits}
use mir.Facts.{to_z-of_z}
use borrow.Author.Rules.{rules}
use lib.IntN.{nat_abs}
use lib.ListN.{take, drop, length-take}
use Rattle.frequencies.specs.Writing.{name_of}
use Rattle.frequencies.proofs.Saying.{line-long}
use Rattle.frequencies.proofs.lines.window_size.Goals as goal

pub returns : goal.returns
returns c =
    let w = c.args.window in
    let s : SFits w32 w.start = search rules in
    let e : SFits w32 w.end = search rules in
    let h : SFits w32 w.headway = search rules in
    let l = line-long (name_of w.double (take w.size (drop w.place c.args.text.now))) (nat_abs w.start) (nat_abs w.end) (nat_abs w.headway) w.exact in
    let n = simp c.name_in.ensures at c.name_size-name.ensures in
    let a = simp (c.whole.ensures, to_z-of_z s) at c.time_size.ensures in
    let b = simp (c.whole-2.ensures, to_z-of_z e) at c.time_size-2.ensures in
    let d = simp (c.whole-3.ensures, to_z-of_z h) at c.digits_size.ensures in
    let k = length-take w.size (drop w.place c.args.text.now) in
    (omega (arith, l, n.0, a.0, b.0, d.0), omega (arith, n.1, a.1, b.1, d.1, k))
