use native.Mathlib.Omega.{arith}
use borrow.Author.Tests.{ltb-true}
use lib.Dec.{ltb}
use Rattle.paper.specs.Lists.{nat}
use Rattle.paper.proofs.Lists.{all-at}
use Rattle.whys.proofs.reasoned.ask_by.Goals as goal

pub reason_now-requires-clause-reads : goal.reason_now-requires-clause-reads
reason_now-requires-clause-reads c =
    let n = c.args.tables.now.n in let asked = c.args.asked.now in
    let l = ltb-true (nat asked c.loop-i.i) n (all-at (λ v. ltb v n) asked c.requires.asked_value c.loop-i.i 0 c.loop-i-test.true) in
    c.requires.all_read.at c.wide-v.result (omega (arith, c.wide-v.ensures.0))
