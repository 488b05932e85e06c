-- A file that is too long or not read is left with its refusal, and of one that is read is left what build leaves (`Told`). Assumes nothing.
use mathlib.Core.Path.{◌∙◌}
use Rattle.paper.specs.Tables.{lent}
use Rattle.paper.specs.File.{unbounded_contents}
use Rattle.report.proofs.Told.{unread-left, long-left, read_left, refused-left}
use Rattle.report.proofs.build_file.Goals as goal

pub returns-then-file-gt65536 : goal.returns-then-file-gt65536
returns-then-file-gt65536 c =
    let a = c.args in
    unread-left a.numbers.now a.stored.now a.reasons.now c.unread.result _ c.unread.ensures
    ∙ rw c.refused.ensures (long-left a.numbers.now a.stored.now a.reasons.now a.file.now c.if-file-gt65536.true)

pub returns-in-Ok : goal.returns-in-Ok
returns-in-Ok c =
    let a = c.args in let l = c.read-read.new in
    c.build_tables.ensures
    ∙ read_left a.numbers.now a.stored.now a.reasons.now a.file.now c.read-read.result
    (unbounded_contents (lent 0 0 0 l.kinds l.makes l.params l.firsts l.counts l.vars l.coefs) l.starts)
    c.read-read.ensures c.if-file-gt65536.false _ c.in-Ok.is

pub returns-in-Err : goal.returns-in-Err
returns-in-Err c =
    let a = c.args in let l = c.read-read.new in
    unread-left a.numbers.now a.stored.now a.reasons.now c.unread-in-Err.result _ c.unread-in-Err.ensures
    ∙ refused-left a.numbers.now a.stored.now a.reasons.now a.file.now c.read-read.result
    (unbounded_contents (lent 0 0 0 l.kinds l.makes l.params l.firsts l.counts l.vars l.coefs) l.starts)
    c.read-read.ensures c.if-file-gt65536.false _ c.in-Err.is
