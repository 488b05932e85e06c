-- A number below 10 is its own last digit, and the digits of another are those of its tenth and then its last (`digits_more`). Assumes nothing.
use Rattle.frequencies.proofs.Putting.{puts_then}
use Rattle.frequencies.proofs.Digits.{digits_more}
use Rattle.frequencies.proofs.puts.+put_digits.Goals as goal

pub returns : goal.returns
returns t c =
    rw (digits_more c.args.most c.args.n c.if-most-eq0.false c.if-n-lt10.false) (puts_then c.put_digits-next.ensures c.put-2.ensures)
