-- What holds of many moves in one call: each is given what it is given alone, so their order permutes the answers and changes nothing else.
-- `proofs/Order` proves it. Assumes nothing.
use Rattle.std.specs.Prelude.{ℕ, Bool, true, ◌&&◌, List, ◌∷◌, map, ◌≡◌, eqb, ℤ, length}
use Rattle.paper.specs.Lists.{all, total}
use Rattle.paper.specs.Checks.{Move}
use Rattle.paper.specs.Calls.{Session, Model, TrialLeft}
use Rattle.trials.specs.Trials.{Question, try_one, tries, joined, evaluations_given}

-- one list is the other in another order
pub data Rearranged {A : Type 0} : List A → List A → Type 0 where
  same : {xs : List A} → Rearranged xs xs
  behind : {x : A} {xs ys : List A} → Rearranged xs ys → Rearranged (x ∷ xs) (x ∷ ys)
  swapped : {x y : A} {xs : List A} → Rearranged (x ∷ y ∷ xs) (y ∷ x ∷ xs)
  next : {xs ys zs : List A} → Rearranged xs ys → Rearranged ys zs → Rearranged xs zs

-- a move with its own places of the rows for results and reasons
pub record Lot : Type 0 where
  pub move : Move
  pub results : List ℤ
  pub why : List ℕ

-- as many places as are asked
abbrev pub placed : Question → List Lot → Bool
placed q = all (λ (l : Lot). eqb (length l.results) q.asked && eqb (length l.why) q.asked)

module _ (s : Session) (w : Model) (q : Question) where
  -- what it is given alone, and what all are given that are lent one behind the other
  abbrev pub alone : Lot → TrialLeft
  alone l = try_one s w q l.move l.results l.why

  abbrev pub together : List Lot → List TrialLeft
  together lots = tries s w q (map (λ (l : Lot). l.move) lots) (joined (map (λ (l : Lot). l.results) lots)) (joined (map (λ (l : Lot). l.why) lots))

abbrev pub EachAlone : Type 0
EachAlone = (s : Session) (w : Model) (q : Question) (lots : List Lot) → placed q lots ≡ true → together s w q lots ≡ map (alone s w q) lots

abbrev pub OrderPermutes : Type 0
OrderPermutes =
    (s : Session) (w : Model) (q : Question) (lots lots' : List Lot) → placed q lots ≡ true → placed q lots' ≡ true → Rearranged lots lots'
    → Rearranged (together s w q lots) (together s w q lots') × (total (map evaluations_given (together s w q lots)) ≡ total (map evaluations_given (together s w q lots')))
