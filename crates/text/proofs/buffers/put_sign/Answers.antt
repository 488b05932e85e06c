-- A number below 0 has the sign `-`, and another has none. Assumes nothing.
use lib.IntN.{pos}
use mir.Facts.{sfits_lit}
use mir.Syntax.{w32}
use Rattle.integers.proofs.Bits.{lt-read}
use Rattle.text.proofs.Laid.{put-nothing}
use Rattle.text.proofs.buffers.put_sign.Goals as goal

pub returns-then-v-lt0 : goal.returns-then-v-lt0
returns-then-v-lt0 c = rw (lt-read w32 c.args.v (pos 0) c.ranges.v (sfits_lit tt) c.if-v-lt0.true) c.put.ensures

pub returns-else-v-lt0 : goal.returns-else-v-lt0
returns-else-v-lt0 c = rw (lt-read w32 c.args.v (pos 0) c.ranges.v (sfits_lit tt) c.if-v-lt0.false) (put-nothing _ _)
