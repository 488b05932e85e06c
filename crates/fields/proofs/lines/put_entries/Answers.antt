use Rattle.std.proofs.Common.{get_or, pos, FitsSigned, to_z-of_z, refl, rules}
use Rattle.std.specs.Int.{w16}
use Rattle.fields.proofs.Runs.{lines_next}
use Rattle.fields.proofs.lines.put_entries.Goals as goal

pub loop-i-preserved : goal.loop-i-preserved
loop-i-preserved c =
    let fits : FitsSigned w16 (get_or c.args.tables.now.coefs.now c.loop-i.i (pos 0)) = search rules in
    lines_next c.loop-i.invariant 4 (λ i. refl) c.loop-i-test.true (rw (to_z-of_z fits) at c.put_entry.ensures)
