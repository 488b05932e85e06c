-- Past 64 pairs it is not good, and else one pass and the search for a variable named twice decide as the chain would. Assumes nothing.
use native.Mathlib.Omega.{arith}
use mathlib.Core.Path.{ap, sym, ◌∙◌}
use lib.ListN.{length-take, length-drop}
use Rattle.std.specs.Prelude.{is_some}
use Rattle.tables.specs.Lent.{lent_bounds, lent_log}
use Rattle.move_log.proofs.Room.{log-long}
use Rattle.move_log.proofs.Good.{back-many, passes-all, passes-none, lent, back-told}
use Rattle.move_log.proofs.logs.fit.logged_good.Goals as goal

pub bounds-log-k : goal.bounds-log-k
bounds-log-k c = omega (arith, (log-long (lent_log c.args.log.now) c.requires.log_values_value).0, c.requires.n_in_bounds)

pub returns-then-pairs-gt64 : goal.returns-then-pairs-gt64
returns-then-pairs-gt64 c =
    record { of = λ t e q. back-many (lent_log c.args.log.now) c.args.k c.wide-pairs.result c.wide-pairs.ensures.0 t (lent_bounds c.args.bounds.now) c.if-pairs-gt64.true }

pub slice_bounds-logged-count : goal.slice_bounds-logged-count
slice_bounds-logged-count c = omega (arith, (log-long (lent_log c.args.log.now) c.requires.log_values_value).1, c.requires.n_in_bounds)

pub slice_bounds-logged-start : goal.slice_bounds-logged-start
slice_bounds-logged-start c = omega (arith, (log-long (lent_log c.args.log.now) c.requires.log_values_value).1, c.requires.n_in_bounds)

pub slice_bounds-logged-count-2 : goal.slice_bounds-logged-count-2
slice_bounds-logged-count-2 c = omega (arith, (log-long (lent_log c.args.log.now) c.requires.log_values_value).2, c.requires.n_in_bounds)

pub slice_bounds-logged-start-2 : goal.slice_bounds-logged-start-2
slice_bounds-logged-start-2 c = omega (arith, (log-long (lent_log c.args.log.now) c.requires.log_values_value).2, c.requires.n_in_bounds)

pub all_pairs_good-requires : goal.all_pairs_good-requires
all_pairs_good-requires c =
    let few = c.if-pairs-gt64.false in let long = log-long (lent_log c.args.log.now) c.requires.log_values_value in
    simp (length-take, length-drop) (c.requires.n_in_bounds.0, omega (arith, few, long.1, c.requires.n_in_bounds), omega (arith, few, long.2, c.requires.n_in_bounds))

pub first_again-requires : goal.first_again-requires
first_again-requires c =
    let few = c.if-pairs-gt64.false in let long = log-long (lent_log c.args.log.now) c.requires.log_values_value in
    simp (length-take, length-drop) (omega (arith, few, long.1, c.requires.n_in_bounds))

pub returns-then-all_pairs_good : goal.returns-then-all_pairs_good
returns-then-all_pairs_good c =
    let l = lent_log c.args.log.now in let bs = lent_bounds c.args.bounds.now in
    record {
      of = λ t e q.
          passes-all t c.args.by.now q c.args.n e bs (lent l c.args.k c.wide-pairs.result c.wide-pairs.ensures.0) (sym c.all_pairs_good.ensures ∙ c.if-all_pairs_good.true) c.is_none.result
          (ap is_some (sym c.first_again.ensures) ∙ c.is_none.ensures)
          ∙ back-told l c.args.k c.wide-pairs.result c.wide-pairs.ensures.0 t bs c.if-pairs-gt64.false;
    }

pub returns-else-all_pairs_good : goal.returns-else-all_pairs_good
returns-else-all_pairs_good c =
    let l = lent_log c.args.log.now in let bs = lent_bounds c.args.bounds.now in
    record {
      of = λ t e q.
          c.if-all_pairs_good.false ∙ passes-none t c.args.by.now q c.args.n e bs (lent l c.args.k c.wide-pairs.result c.wide-pairs.ensures.0) (sym c.all_pairs_good.ensures ∙ c.if-all_pairs_good.false)
          ∙ back-told l c.args.k c.wide-pairs.result c.wide-pairs.ensures.0 t bs c.if-pairs-gt64.false;
    }
