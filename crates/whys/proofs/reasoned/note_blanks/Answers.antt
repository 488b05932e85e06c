use native.Mathlib.Omega.{arith}
use mathlib.Core.Path.{◌≡◌, sym, ◌∙◌}
use lib.Dec.{eqb}
use Rattle.paper.specs.Lists.{nat}
use Rattle.whys.proofs.Parts.{part_join, part-still, part-all, none-blank}
use Rattle.whys.proofs.reasoned.note_blanks.Goals as goal

pub loop-v-preserved : goal.loop-v-preserved
loop-v-preserved c =
    let l = c.loop-v in
    let none = sym c.blanks_among.ensures ∙ c.if-blanks_among-ne0.false in
    (omega arith, part_join l.invariant.1 (omega arith) (part-still (λ u low high. none-blank c.args.values.now l.v c.min-end.result none u low high (eqb (nat c.args.flags.now u) 1) _ (nat l.reasons u))))

pub returns : goal.returns
returns c = let l = c.loop-v in let q : l.v ≡ c.args.tables.now.n = omega arith in part-all c.requires.n_bound.3 (rw q at l.invariant.1)
