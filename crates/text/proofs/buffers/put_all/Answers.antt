use Rattle.std.proofs.Common.{rules, arith}
use lib.Seq.{take_all}
use Rattle.text.proofs.Laid.{put-nothing, put_next}
use Rattle.text.proofs.buffers.put_all.Goals as goal

pub loop-byte-init : goal.loop-byte-init
loop-byte-init c = (search rules, put-nothing _ _)

pub loop-byte-preserved : goal.loop-byte-preserved
loop-byte-preserved c = (search rules, put_next c.args.bytes.now c.loop-byte.byte-index (omega arith) c.loop-byte.invariant.1 c.put-next.ensures)

pub returns : goal.returns
returns c =
    let s = c.args.bytes.now in
    rw (← (take_all c.loop-byte.byte-index s (omega arith))) c.loop-byte.invariant.1
