-- Blank is `-`, and another value is its sign and then its digits (`put_then`). Assumes nothing.
use Rattle.std.proofs.Common.{sym, ◌∙◌, to_z-of_z}
use Rattle.text.proofs.Laid.{put_then}
use Rattle.text.proofs.Tens.{put-blank, put-number}
use Rattle.text.proofs.numbers.put_value.Goals as goal

pub returns-then-is_blank : goal.returns-then-is_blank
returns-then-is_blank c = put-blank c.args.v (simp (to_z-of_z c.ranges.v) at (sym c.is_blank.ensures ∙ c.if-is_blank.true)) c.put.ensures

pub returns : goal.returns
returns c =
    put-number c.args.v (simp (to_z-of_z c.ranges.v) at (sym c.is_blank.ensures ∙ c.if-is_blank.false))
    (put_then (simp (to_z-of_z c.ranges.v) at c.put_sign-next.ensures)
    (simp (c.from.ensures, c.unsigned_abs.ensures.value, to_z-of_z c.ranges.v) at c.put_decimal.ensures))
