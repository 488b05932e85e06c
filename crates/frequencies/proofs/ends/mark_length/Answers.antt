-- The mark is there if all of its three bytes are. Assumes nothing.
use native.Mathlib.Omega.{arith}
use mathlib.Core.Bool.{cond}
use mathlib.Core.Path.{refl, sym, ap, ◌∙◌}
use Rattle.frequencies.proofs.Behind.{mark-is}
use Rattle.frequencies.proofs.ends.mark_length.Goals as goal

pub returns-then-starts_with : goal.returns-then-starts_with
returns-then-starts_with c =
    (ap (λ b. cond b 3 0) (sym c.if-starts_with.true ∙ c.starts_with.ensures.value) ∙ mark-is c.args.bytes.now, c.if-starts_with.ensures.bound refl)

pub returns-else-starts_with : goal.returns-else-starts_with
returns-else-starts_with c =
    (ap (λ b. cond b 3 0) (sym c.if-starts_with.false ∙ c.starts_with.ensures.value) ∙ mark-is c.args.bytes.now, omega arith)
