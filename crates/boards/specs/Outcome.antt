-- What a caller has at exit of the call, refused or accepted. `proofs/Outcome.antt` proves it of the call's equation. Assumes nothing.
use Rattle.std.specs.Prelude.{ℕ, true, List, ◌≡◌, ℤ, length, take, drop, Ok, Err}
use Rattle.paper.specs.Lists.{between}
use Rattle.paper.specs.Formula.{places}
use Rattle.times.specs.Windows.{Board, list, BoardPassed}
use Rattle.times.specs.Order.{ascends, times_given}
use Rattle.boards.specs.Board.{BoardLeft, length_of, BoardHad}
use Rattle.tables.specs.Answers.{refusal}

-- refused with a number from 1 to 5: the length is 0, and the row is as it was
pub record Refusal (b : Board) (x : BoardLeft) (number place : ℕ) : Type 0 where
  pub answer : x.answer ≡ Err (refusal number place)
  pub own : between 1 number 5 ≡ true
  pub none : length_of x.answer ≡ 0
  pub row : x.row ≡ b.row

-- accepted, all checks passed: the length is the list's, the list stands in the first places of the row, and the rest is as it was
pub record Acceptance (b : Board) (x : BoardLeft) : Type 0 where
  pub answer : x.answer ≡ Ok (length (list b))
  pub passed : BoardPassed b
  pub front : take (length (list b)) x.row ≡ list b
  pub rest : drop (length (list b)) x.row ≡ drop (length (list b)) b.row
  pub long : length x.row ≡ length b.row

pub data Outcome (b : Board) (x : BoardLeft) : Type 0 where
  refuses : (number place : ℕ) → Refusal b x number place → Outcome b x
  accepts : Acceptance b x → Outcome b x

-- an accepted board: the first places ascend and have each time as often as the windows give it, and beyond them the row is as it was
pub record ListedRight {b : Board} (o : BoardHad b) (size : ℕ) : Type 0 where
  pub ascending : ascends (take size o.row) ≡ true
  pub times : (z : ℤ) → places z (take size o.row) ≡ times_given b z b.windows
  pub only : (xs : List ℤ) → ascends xs ≡ true → ((z : ℤ) → places z xs ≡ times_given b z b.windows) → xs ≡ take size o.row
  pub rest : drop size o.row ≡ drop size b.row
