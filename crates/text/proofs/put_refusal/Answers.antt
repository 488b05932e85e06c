-- The five parts of the line are put one behind the other (`put_then`). Assumes nothing.
use Rattle.text.specs.Lines.{refusal}
use Rattle.text.proofs.Laid.{put_then}
use Rattle.text.proofs.put_refusal.Goals as goal

pub returns : goal.returns
unfolding refusal
returns c = put_then (put_then (put_then (put_then c.put_all-a.ensures (simp (c.from.ensures) at c.put_decimal-b.ensures)) c.put-c.ensures) (simp (c.from-2.ensures) at c.put_decimal-d.ensures)) c.put.ensures
