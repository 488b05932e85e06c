-- The latest move is checked as any other. Assumes nothing.
use Rattle.std.proofs.Common.{ap, ◌∙◌}
use Rattle.paper.specs.Tables.{values_in}
use Rattle.paper.specs.Checks.{fresh_lines, accepted, by_lines}
use Rattle.tables.specs.Answers.{answer_of}
use Rattle.tables.specs.Lent.{lent_tables}
use Rattle.verdicts.proofs.judges.back.back_checks.Goals as goal

pub latest_of-requires : goal.latest_of-requires
latest_of-requires c = let f = c.requires.latest in record { room = record { few = f.few; in-sizes = f.in-sizes; in-vars = f.in-vars; in-values = f.in-values } }

pub returns : goal.returns
returns c =
    let a = c.args in let t = lent_tables a.tables.now in
    c.fresh_checks.ensures
    ∙ ap (λ mv. answer_of tt (by_lines (fresh_lines mv t (values_in t a.stored.now)) accepted)) c.latest_of.ensures
