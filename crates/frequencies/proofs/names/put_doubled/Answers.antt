use native.Mathlib.Omega.{arith}
use borrow.Author.Rules.{rules}
use Rattle.frequencies.proofs.Putting.{puts_then}
use Rattle.frequencies.proofs.Quoting.{doubled-next}
use Rattle.frequencies.proofs.names.put_doubled.Goals as goal

pub loop-byte-preserved : goal.loop-byte-preserved
loop-byte-preserved c =
    let l = c.loop-byte in let name = c.args.name.now in (
      search rules,
      rw (doubled-next name l.byte-index (omega arith)) (puts_then l.invariant.1 c.put_byte-next.ensures),
    )
