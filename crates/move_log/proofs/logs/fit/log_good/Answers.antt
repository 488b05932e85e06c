-- It holds no more moves than it may, and each is good. Assumes nothing.
use native.Mathlib.Omega.{arith}
use mathlib.Core.Bool.{true, false}
use borrow.Author.Rules.{rules}
use borrow.Author.Tests.{tests}
use Rattle.std.proofs.lemmas.Iterator.{cases_from_all, YieldsList-from_range}
use Rattle.tables.specs.Lent.{lent_bounds, lent_log}
use Rattle.move_log.proofs.Room.{log-long}
use Rattle.move_log.proofs.Good.{log-many, log-more, Says, log-told}
use Rattle.move_log.proofs.logs.fit.log_good.Goals as goal

pub bounds-log-0 : goal.bounds-log-0
bounds-log-0 c = omega (arith, (log-long (lent_log c.args.log.now) c.requires.log_values_value).0)

pub returns-then-held-gt64 : goal.returns-then-held-gt64
returns-then-held-gt64 c = record { of = λ t e q. log-many (lent_log c.args.log.now) t (lent_bounds c.args.bounds.now) _ (omega (arith, c.wide-held.ensures.0)) }

pub returns-then-kept-held : goal.returns-then-kept-held
returns-then-kept-held c = record {
  of = λ t e q. log-more (lent_log c.args.log.now) t (lent_bounds c.args.bounds.now) _ (omega (arith, c.wide-held.ensures.0)) (omega (arith, c.wide-held.ensures.0));
}

pub returns : goal.returns
returns c =
    let a = c.args in let l = lent_log a.log.now in let bs = lent_bounds a.bounds.now in let held = c.wide-held.result in let w = c.wide-held.ensures.0 in
    log-told l bs a.kept a.n a.by.now held w (omega arith) (omega arith) _
    (cases_from_all _ _ _ (Says l bs a.kept a.n a.by.now true) (Says l bs a.kept a.n a.by.now false) c.all.ensures.ran (YieldsList-from_range 0 held held (cc) (omega arith))
    (λ x q k. search (rules, tests)) (λ x q k. search (rules, tests)))
