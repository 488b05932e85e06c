-- What is found anew is what build gives, and the lent rows are compared with it in turn (`right-order`). Assumes nothing.
use Rattle.std.proofs.Common.{◌∙◌, sym, rules, replicate}
use mathlib.Core.Bool.{true≢false}
use Rattle.chains.specs.Links.{kinded_lent}
use Rattle.chains.proofs.Compared.{right-none, right-numbers, right-order}
use Rattle.chains.proofs.permits.right.groups_right.Goals as goal
use Rattle.chains.proofs.permits.right.groups_right.Goals.{then-is_none, else-is_none}

pub returns-then-eq : goal.returns-then-eq
returns-then-eq c =
    let found = c.find_shared-barred.ensures in
    elim c.if-is_none.branch [
      | then-is_none w ↦
          c.eq-then-eq.ensures
          ∙ right-order (kinded_lent c.args.tables.now) c.requires.kinded.formed c.args.numbers.now c.args.order.now (replicate 4096 0) _ found.least c.is_none.ensures found.numbered c.write_shared_order.ensures c.requires.long (search rules)
          w.if-is_none.true (sym w.eq.ensures ∙ sym w.value-is ∙ c.if-eq.true)
      | else-is_none w ↦ absurd (true≢false (sym c.if-eq.true ∙ w.value-is ∙ w.if-is_none.false))
    ]

pub returns-else-eq : goal.returns-else-eq
returns-else-eq c =
    let found = c.find_shared-barred.ensures in
    elim c.if-is_none.branch [
      | then-is_none w ↦
          c.if-eq.false
          ∙ right-numbers (kinded_lent c.args.tables.now) c.requires.kinded.formed c.args.numbers.now c.args.order.now (replicate 4096 0) _ found.least c.is_none.ensures found.numbered c.write_shared_order.ensures c.requires.long (search rules)
          w.if-is_none.true (sym w.eq.ensures ∙ sym w.value-is ∙ c.if-eq.false)
      | else-is_none w ↦
          c.if-eq.false
          ∙ right-none (kinded_lent c.args.tables.now) c.requires.kinded.formed c.args.numbers.now c.args.order.now (replicate 4096 0) _ found.least c.is_none.ensures found.numbered c.write_shared_order.ensures c.requires.long (search rules)
          w.if-is_none.false
    ]
