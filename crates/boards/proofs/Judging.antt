-- The verdict of a board: which check stops it, what is known once all five are passed, and what it leaves. Assumes nothing.
use Prim.Native.Nat.{ℕ, ◌≤◌}
use mathlib.Core.Bool.{true, false}
use mathlib.Core.List.{List, ◌++◌}
use mathlib.Core.Path.{◌≡◌, ap, ap₂, sym, ◌∙◌}
use lib.IntN.{ℤ}
use lib.ListN.{length, drop}
use borrow.Author.Tests.{leb-true}
use Rattle.paper.specs.Checks.{Verdict, accepted, refused, check, require, leaves}
use Rattle.paper.proofs.Lists.{each}
use Rattle.paper.proofs.Verdicts.{check-rest, check-held, require-next, require-stops, require-rest, require-held}
use Rattle.times.specs.Windows.{Board, list, windows_fit, numbers_good, apart, few_enough, room_given, board_verdict, BoardPassed}
use Rattle.boards.specs.Board.{listed_by, board_leaves, board, left_by_board}
use Rattle.std.specs.Prelude.{Result}
use Rattle.tables.specs.declared.Refusal.{Refusal}

-- ── what check 1 leaves ──
pub record Lent (b : Board) : Type 0 where
  pub few : b.windows ≤ 64
  pub starts : b.windows ≤ length b.starts
  pub ends : b.windows ≤ length b.ends
  pub headways : b.windows ≤ length b.headways

pub lent_of : (b : Board) → windows_fit b ≡ true → Lent b
lent_of b e = let f = each _ e in record { few = leb-true _ _ f.0; starts = leb-true _ _ f.1.0; ends = leb-true _ _ f.1.1.0; headways = leb-true _ _ f.1.1.1.0 }

-- ── the chain from each check on ──
module _ (b : Board) where
  abbrev pub from_five : Verdict
  from_five = require 5 0 (room_given b) accepted

  abbrev pub from_four : Verdict
  from_four = require 4 0 (few_enough b) from_five

  abbrev pub from_three : Verdict
  from_three = check 3 b.windows (apart b) from_four

  abbrev from_two : Verdict
  from_two = check 2 b.windows (numbers_good b) from_three

  pub stops-1 : windows_fit b ≡ false → board_verdict b ≡ refused 1 0
  unfolding board_verdict
  stops-1 = require-stops 1 0 (windows_fit b) from_two

  pub past-1 : windows_fit b ≡ true → board_verdict b ≡ from_two
  unfolding board_verdict
  past-1 = require-next 1 0 (windows_fit b) from_two

  -- accepted: all five are passed
  pub passed : board_verdict b ≡ accepted → BoardPassed b
  unfolding board_verdict
  passed e =
      let e₂ = require-rest 1 0 (windows_fit b) from_two e in
      let e₃ = check-rest 2 b.windows (numbers_good b) from_three e₂ in
      let e₄ = check-rest 3 b.windows (apart b) from_four e₃ in
      record {
        fits = require-held 1 0 (windows_fit b) from_two e;
        numbers = check-held 2 b.windows (numbers_good b) from_three e₂;
        apart = check-held 3 b.windows (apart b) from_four e₃;
        few = require-held 4 0 (few_enough b) from_five e₄;
        room = require-held 5 0 (room_given b) accepted (require-rest 4 0 (few_enough b) from_five e₄);
      }

-- ── the answer, and what is left, by the verdict ──
pub answers : (b : Board) (r : Result ℕ Refusal) (v : Verdict) → board_verdict b ≡ v → r ≡ listed_by v (length (list b)) → r ≡ listed_by (board_verdict b) (length (list b))
answers b r v e p = p ∙ ap (λ x. listed_by x (length (list b))) (sym e)

pub board-meets : (b : Board) (r : Result ℕ Refusal) (row : List ℤ) (v : Verdict) → board_verdict b ≡ v → r ≡ listed_by v (length (list b))
    → row ≡ leaves v (list b ++ drop (length (list b)) b.row) b.row → left_by_board r row ≡ board b
unfolding board
board-meets b r row v e p q = ap₂ left_by_board p q ∙ ap (board_leaves b) (sym e)
