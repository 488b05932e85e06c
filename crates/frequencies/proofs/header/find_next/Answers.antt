-- What stands in the field is compared, and what is left is what was left without it (`sought-next`). Assumes nothing.
use mathlib.Core.Path.{ap, ap₂, ◌∙◌}
use lib.ListN.{take, drop}
use Prim.Native.Nat.{◌+◌}
use Rattle.frequencies.specs.Values.{same}
use Rattle.frequencies.proofs.Scanning.{one-or-none}
use Rattle.frequencies.proofs.ByField.{field-stands}
use Rattle.frequencies.proofs.Naming.{sought-next}
use Rattle.frequencies.proofs.ByField.{field-stands}
use Rattle.frequencies.proofs.Naming.{sought-next}
use Rattle.frequencies.proofs.header.find_next.Goals as goal

pub returns : goal.returns
returns c =
    let f = c.scan_field-f in let a = c.args in let bytes = a.bytes.now in
    sought-next bytes a.name.now a.sought a.from c.requires.next f.result f.ensures c.same-named.result
    c.from-2.result c.from-3.result
    (c.same-named.ensures ∙ ap (λ b. same b a.name.now)
    (c.part.ensures ∙ ap₂ (λ x y. take x (drop (a.from.at + y) bytes)) c.held.ensures (c.from.ensures ∙ one-or-none _)
    ∙ (field-stands bytes a.from.at a.from.line f.result f.ensures).bytes-are))
    (c.from-2.ensures ∙ one-or-none _)
    (c.from-3.ensures ∙ one-or-none _) c.requires.few.0 c.requires.few.1
