-- A refusal has written nothing; an acceptance is what `write_list` leaves, once all checks are passed. Assumes nothing.
use Rattle.std.proofs.Common.{length, refl, sym, ap, ◌∙◌}
use Rattle.std.specs.Prelude.{Ok, Err}
use Rattle.paper.specs.Checks.{accepted, refused}
use Rattle.tables.proofs.Answered.{err-said, accepted-is, accepted-as, refused-is}
use Rattle.times.specs.Windows.{list, board_verdict}
use Rattle.times.specs.Lent.{lent_windows}
use Rattle.boards.proofs.Judging.{passed, board-meets}
use Rattle.boards.proofs.boards.list_departures.Goals as goal

pub returns-in_err-length : goal.returns-in_err-length
returns-in_err-length c =
    let b = lent_windows c.args.windows.now c.args.row.now in let r = c.in_err-length.field-0.0 in
    rw (err-said _ _ c.from_residual.ensures.1)
    (board-meets b (Err r) _ (refused r.number r.place) (refused-is (length (list b)) r (board_verdict b) (sym c.judge.ensures ∙ c.in_err-length.was)) refl refl)

-- ── accepted ──
pub write_list-requires : goal.write_list-requires
write_list-requires c =
    let b = lent_windows c.args.windows.now c.args.row.now in
    passed b (accepted-is (length (list b)) _ (board_verdict b) (sym c.judge.ensures ∙ c.in_ok-length.was))

pub returns : goal.returns
returns c =
    let b = lent_windows c.args.windows.now c.args.row.now in let e = sym c.judge.ensures ∙ c.in_ok-length.was in
    board-meets b (Ok c.in_ok-length.length) _ accepted (accepted-is (length (list b)) _ (board_verdict b) e)
    (ap Ok (sym (accepted-as (length (list b)) _ (board_verdict b) e))) c.write_list.ensures
