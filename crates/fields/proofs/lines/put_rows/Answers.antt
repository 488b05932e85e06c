use Rattle.std.proofs.Common.{get_or, pos, FitsSigned, to_z-of_z, refl, rules}
use Rattle.std.specs.Int.{w32}
use Rattle.fields.proofs.Runs.{lines_next}
use Rattle.fields.proofs.lines.put_rows.Goals as goal

pub loop-r-preserved : goal.loop-r-preserved
loop-r-preserved c =
    let fits : FitsSigned w32 (get_or c.args.tables.now.params.now c.loop-r.r (pos 0)) = search rules in
    lines_next c.loop-r.invariant 12 (λ r. refl) c.loop-r-test.true (rw (to_z-of_z fits) at c.put_row.ensures)
