use Rattle.std.proofs.Common.{arith}
use Rattle.index.proofs.ByEntry.{put_filled, rows_next}
use Rattle.index.proofs.readers.rows.write_rows.Goals as goal

pub loop-r-preserved : goal.loop-r-preserved
loop-r-preserved c =
    rows_next _ _ _ _ c.requires.apart c.loop-r.r _ _ _ _ c.loop-r-test.true c.loop-r.invariant c.wide-first.ensures.0 c.wide.ensures.0
    (put_filled _ _ _ _ _ _ (omega (arith, c.requires.apart.inside c.loop-r.r c.loop-r-test.true, c.wide-first.ensures.0, c.wide.ensures.0)) (omega arith)
    (c.fill.ensures.after (λ y e. e)))
