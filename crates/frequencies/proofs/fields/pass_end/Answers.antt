-- What is left begins with a comma, a line feed, or a return and a line feed, or is nothing, and each says what is behind it. Assumes nothing.
use mathlib.Core.Path.{◌∙◌}
use native.Mathlib.Omega.{arith}
use borrow.Author.Tests.{eq-eqb, ne_eqb}
use Rattle.paper.specs.Lists.{nat}
use Rattle.frequencies.proofs.Scanning.{one-or-none, end-file, end-comma, end_line}
use Rattle.frequencies.proofs.fields.pass_end.Goals as goal

pub returns-then-bytes-at : goal.returns-then-bytes-at
returns-then-bytes-at c = end-file c.args.bytes.now c.args.end.at c.args.end.line c.requires.here (omega arith)

pub returns-then-b-eq44 : goal.returns-then-b-eq44
returns-then-b-eq44 c =
    let bytes = c.args.bytes.now in let at = c.args.end.at in
    end-comma bytes at c.args.end.line c.requires.here (omega arith) (eq-eqb 44 (nat bytes at) (omega arith))

pub returns : goal.returns
returns c =
    let bytes = c.args.bytes.now in let at = c.args.end.at in
    rw (c.from-size.ensures ∙ one-or-none _) (end_line bytes at c.args.end.line c.requires.here (omega arith) c.requires.ends (ne_eqb 44 (nat bytes at) (λ e. omega arith)))
