-- The test decides. Assumes nothing.
use Rattle.std.proofs.Common.{to_z-of_z}
use Rattle.text.specs.Lines.{value, value_or_reason}
use Rattle.text.proofs.Tens.{put_first, put_other}
use Rattle.text.proofs.reasons.put_field.Goals as goal

pub returns-then-reasons : goal.returns-then-reasons
returns-then-reasons c =
    put_first (value_or_reason c.args.value c.args.reason) (value c.args.value) c.if-reasons.true (simp (to_z-of_z c.ranges.value) at c.put_reasoned.ensures)

pub returns : goal.returns
returns c = put_other (value_or_reason c.args.value c.args.reason) (value c.args.value) c.if-reasons.false (simp (to_z-of_z c.ranges.value) at c.put_value.ensures)
