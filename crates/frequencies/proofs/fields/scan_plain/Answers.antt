-- The bytes to the end are those of the field, whose quotes are right if it has none. Assumes nothing.
use Rattle.frequencies.proofs.Scanning.{plain-scanned}
use Rattle.frequencies.proofs.fields.scan_plain.Goals as goal

pub returns : goal.returns
returns c =
    let p = c.pass_plain-passed in let e = c.pass_end-behind in
    plain-scanned c.args.bytes.now c.args.from.at c.args.from.line c.requires.plain p.result p.ensures e.result e.ensures
