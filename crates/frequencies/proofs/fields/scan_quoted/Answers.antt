-- Behind the first quote come the bytes to the quote that closes the field, and any behind it are wrong. Assumes nothing.
use Rattle.frequencies.proofs.Scanning.{quoted-scanned}
use Rattle.frequencies.proofs.fields.scan_quoted.Goals as goal

pub returns : goal.returns
returns c =
    let q = c.pass_quotes-closing in let p = c.pass_plain-passed in let e = c.pass_end-behind in
    quoted-scanned c.args.bytes.now c.args.from.at c.args.from.line c.requires.quoted q.result q.ensures p.result p.ensures e.result e.ensures
