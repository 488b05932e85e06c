-- With room for the byte it stands at the place, and without the buffer is as before. Assumes nothing.
use Rattle.text.proofs.Laid.{put_byte, put-no-byte}
use Rattle.text.proofs.buffers.put.Goals as goal

pub returns-then-at-out : goal.returns-then-at-out
returns-then-at-out c = put_byte _ _ _ c.if-at-out.true

pub returns-else-at-out : goal.returns-else-at-out
returns-else-at-out c = put-no-byte _ _ _ c.if-at-out.false
