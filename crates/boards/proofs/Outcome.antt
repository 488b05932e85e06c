-- The call's equation in words: what it leaves is by its verdict, which is acceptance or a refusal by one of the five checks. Assumes nothing.
use Prim.Native.Nat.{ℕ}
use native.Mathlib.Omega.{arith}
use mathlib.Core.Bool.{Bool, true, false, cond}
use mathlib.Core.Path.{◌≡◌, refl, ap, sym, ◌∙◌}
use lib.Dec.{ltb}
use lib.ListN.{length, take, drop, length-append, length-drop}
use lib.Seq.{take_at, drop_at}
use borrow.Author.Tests.{leb-true}
use Rattle.paper.specs.Lists.{between, first_fail}
use Rattle.paper.specs.Formula.{places}
use Rattle.paper.specs.Checks.{Verdict, accepted, refused, check, require}
use Rattle.times.specs.Order.{ascends}
use Rattle.times.proofs.Listing.{list-ascends, list-gives, list-only}
use Rattle.times.specs.Windows.{Board, list, windows_fit, numbers_good, apart, few_enough, room_given, board_verdict}
use Rattle.boards.specs.Board.{BoardLeft, length_of, board_leaves, board, BoardHad}
use Rattle.boards.specs.Outcome.{Outcome, refuses, accepts, ListedRight}
use Rattle.std.specs.Prelude.{Ok}
use Rattle.boards.proofs.Judging.{passed}

-- ── the numbers of the five checks ──
abbrev own : Verdict → Bool
own accepted = true
own (refused number place) = between 1 number 5

own-check : (code bound : ℕ) (good : ℕ → Bool) (next : Verdict) → between 1 code 5 ≡ true → own next ≡ true → own (check code bound good next) ≡ true
own-check code bound good next o h = go (ltb (first_fail good bound) bound)
  where
    go : (t : Bool) → own (cond t (refused code (first_fail good bound)) next) ≡ true
    go true = o
    go false = h

own-require : (code place : ℕ) (good : Bool) (next : Verdict) → between 1 code 5 ≡ true → own next ≡ true → own (require code place good next) ≡ true
own-require code place true next o h = h
own-require code place false next o h = o

module _ (b : Board) where
  own-number : own (board_verdict b) ≡ true
  unfolding board_verdict
  own-number =
      own-require 1 0 (windows_fit b) _ refl (own-check 2 b.windows (numbers_good b) _ refl (own-check 3 b.windows (apart b) _ refl
      (own-require 4 0 (few_enough b) _ refl (own-require 5 0 (room_given b) accepted refl refl))))

  -- ── by the verdict ──
  by-verdict : (v : Verdict) → board_verdict b ≡ v → Outcome b (board_leaves b v)
  by-verdict (refused number place) e = refuses number place (record { answer = refl; own = sym (ap own e) ∙ own-number; none = refl; row = refl })
  by-verdict accepted e =
      let all = list b in let ok = passed b e in let room = leb-true (length all) (length b.row) ok.room in
      accepts (record {
        answer = refl;
        passed = ok;
        front = take_at all (drop (length all) b.row) (length all) refl;
        rest = drop_at all (drop (length all) b.row) (length all) refl;
        long = omega (arith, length-append all (drop (length all) b.row), length-drop (length all) b.row);
      })

  -- what a caller has, by the call's contract
  pub outcome : (x : BoardLeft) → x ≡ board b → Outcome b x
  unfolding board
  outcome x e = rw e (by-verdict (board_verdict b) refl)

-- ── an accepted one's row begins with the departures in time order ──
pub listed-right : (b : Board) (o : BoardHad b) (size : ℕ) → o.answer ≡ Ok size → ListedRight o size
listed-right b o size e = go (outcome b (record { answer = o.answer; row = o.row }) o.stated)
  where
    go : Outcome b (record { answer = o.answer; row = o.row }) → ListedRight o size
    go (refuses number place r) = cc
    go (accepts a) =
        let is : length (list b) ≡ size = sym (ap length_of a.answer) ∙ ap length_of e in
        let top : take size o.row ≡ list b = ap (λ k. take k o.row) (sym is) ∙ a.front in
        record {
          ascending = ap ascends top ∙ list-ascends b;
          times = λ z. ap (places z) top ∙ list-gives b z;
          only = λ xs up each. list-only b xs up each ∙ sym top;
          rest = ap (λ k. drop k o.row) (sym is) ∙ a.rest ∙ ap (λ k. drop k b.row) is;
        }
