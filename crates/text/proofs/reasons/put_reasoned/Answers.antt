-- A blank is `blank:` and then its reason, and another value is itself (`put_then`). Assumes nothing.
use Rattle.std.proofs.Common.{sym, ◌∙◌, to_z-of_z}
use Rattle.text.proofs.Laid.{put_then}
use Rattle.text.proofs.Tens.{put-reason, put-no-reason}
use Rattle.text.proofs.reasons.put_reasoned.Goals as goal

pub returns-then-is_blank : goal.returns-then-is_blank
returns-then-is_blank c =
    put-reason c.args.value c.args.reason (simp (to_z-of_z c.ranges.value) at (sym c.is_blank.ensures ∙ c.if-is_blank.true)) (put_then c.put_all-next.ensures (simp (c.from.ensures) at c.put_decimal.ensures))

pub returns : goal.returns
returns c =
    put-no-reason c.args.value c.args.reason (simp (to_z-of_z c.ranges.value) at (sym c.is_blank.ensures ∙ c.if-is_blank.false)) (simp (to_z-of_z c.ranges.value) at c.put_value.ensures)
