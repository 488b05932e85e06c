use Rattle.std.proofs.Common.{arith, ap, sym, ◌∙◌}
use Rattle.paper.proofs.Sizes.{sized-facts}
use Rattle.tables.specs.Answers.{answer_of}
use Rattle.tables.specs.Lent.{lent_tables, lent_move}
use Rattle.tables.proofs.Answered.{place-fits, err-said}
use Rattle.choices.proofs.Refreshed.{fresh-open, fresh-stale, fresh-waiting}
use Rattle.choices.proofs.renewals.fresh_checks.Goals as goal

pub returns-then-not-closed : goal.returns-then-not-closed
returns-then-not-closed c =
    let t = lent_tables c.args.tables.now in
    sym (ap (answer_of tt) (fresh-open t c.args.stored.now (lent_move c.args.mv.now) c.requires.sound (sym c.requires.closing ∙ c.if-not-closed.true)))

pub none_fails-requires : goal.none_fails-requires
none_fails-requires c =
    let few = (sized-facts (lent_tables c.args.tables.now) c.requires.sound.sized).n-most in place-fits _ _ _ c.first_stale.ensures (omega arith)

pub returns-in_err-none_fails : goal.returns-in_err-none_fails
returns-in_err-none_fails c =
    let t = lent_tables c.args.tables.now in let closes = sym c.requires.closing ∙ c.if-not-closed.false in
    err-said _ _ c.from_residual.ensures.1
    ∙ fresh-stale t c.args.stored.now (lent_move c.args.mv.now) closes c.first_stale.ensures _ (sym c.none_fails.ensures ∙ c.in_err-none_fails.was)

pub none_fails-requires-2 : goal.none_fails-requires-2
none_fails-requires-2 c =
    let few = (sized-facts (lent_tables c.args.tables.now) c.requires.sound.sized).n-most in place-fits _ _ _ c.first_stuck.ensures (omega arith)

pub returns : goal.returns
returns c =
    let t = lent_tables c.args.tables.now in let closes = sym c.requires.closing ∙ c.if-not-closed.false in
    c.none_fails-2.ensures
    ∙ fresh-waiting t c.args.stored.now (lent_move c.args.mv.now) closes c.first_stale.ensures _ (sym c.none_fails.ensures ∙ c.in_ok-none_fails.was) c.first_stuck.ensures
