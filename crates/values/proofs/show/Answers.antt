-- The buffer shows the list of what building left, or the line of its refusal, and that is the text for the file (`Shown`). Assumes nothing.
use mathlib.Core.Bool.{false}
use native.Mathlib.Omega.{arith}
use Rattle.report.proofs.Shown.{list-shown, refusal-shown}
use Rattle.values.proofs.show.Goals as goal

pub returns-in_default-clause-value : goal.returns-in_default-clause-value
returns-in_default-clause-value c =
    let b = c.build_file-built in let l = b.new in let told = c.told-out in
    (list-shown false c.args.file.now b.result l.numbers l.stored l.reasons b.ensures _ c.in_default.is (omega arith) (c.lines.ensures.prefix_len, c.lines.ensures.shows)).1.0

pub returns-in_default-clause-out_after : goal.returns-in_default-clause-out_after
returns-in_default-clause-out_after c =
    let b = c.build_file-built in let l = b.new in let told = c.told-out in
    (list-shown false c.args.file.now b.result l.numbers l.stored l.reasons b.ensures _ c.in_default.is (omega arith) (c.lines.ensures.prefix_len, c.lines.ensures.shows)).1.1

pub returns-clause-value : goal.returns-clause-value
returns-clause-value c =
    let b = c.build_file-built in let l = b.new in let told = c.told-out in
    (refusal-shown false c.args.file.now b.result l.numbers l.stored l.reasons b.ensures _ c.in-Err.is (omega arith) (c.refusal.ensures.prefix_len, c.refusal.ensures.shows)).1.0

pub returns-clause-out_after : goal.returns-clause-out_after
returns-clause-out_after c =
    let b = c.build_file-built in let l = b.new in let told = c.told-out in
    (refusal-shown false c.args.file.now b.result l.numbers l.stored l.reasons b.ensures _ c.in-Err.is (omega arith) (c.refusal.ensures.prefix_len, c.refusal.ensures.shows)).1.1
