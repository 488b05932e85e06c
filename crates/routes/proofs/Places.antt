-- Which places a row asks, one after another: at each the variable there, and then those from the next place on. Assumes nothing.
use Prim.Native.Nat.{ℕ, zero, suc, ◌+◌, ◌-◌, ◌≤◌, ◌<◌}
use native.Mathlib.Omega.{arith}
use mathlib.Core.Bool.{Bool, true, false, cond}
use mathlib.Core.List.{List, [], ◌∷◌}
use mathlib.Core.Path.{◌≡◌, refl, ap, sym, ◌∙◌}
use lib.Dec.{eqb, ltb}
use lib.IntN.{ℤ, pos, negsuc}
use lib.ListN.{length, take, drop, drop_of_length-le}
use lib.Seq.{drop-drop}
use borrow.Author.Tests.{eqb-true, ltb-true, ltb-false, ne_eqb}
use Rattle.paper.specs.Lists.{nat}
use Rattle.paper.specs.Formula.{looked, chosen, element_looks}
use Rattle.paper.specs.Net.{Values}
use Rattle.paper.proofs.Lists.{eqb-self}
use Rattle.paper.proofs.Scan.{next, part_length}
use Rattle.rows.specs.Asking.{chosen_place, next_place}
use Rattle.routes.specs.Work.{entries, asked_from}

-- ── the entries from a place on ──
entries_next : (vars : List ℕ) (i last : ℕ) → i < last → last ≤ length vars → entries vars i last ≡ nat vars i ∷ entries vars (i + 1) last
entries_next vars i last h k = let d : last - i ≡ suc (last - (i + 1)) = omega arith in rw (next vars i 0 (omega arith), d)

entries_none : (vars : List ℕ) (i last : ℕ) → last ≤ i → entries vars i last ≡ []
entries_none vars i last h = let d : last - i ≡ 0 = omega arith in rw d

-- the first that is left k places on
one-take : (k c : ℕ) (l : List ℕ) → k < c → take 1 (drop k (take c l)) ≡ take 1 (drop k l)
one-take k zero l h = absurd (omega arith)
one-take zero (suc c) [] h = refl
one-take zero (suc c) (x ∷ l) h = refl
one-take (suc k) (suc c) [] h = refl
one-take (suc k) (suc c) (x ∷ l) h = one-take k c l (omega arith)

one_on : (vars : List ℕ) (i k last : ℕ) → i + k < last → take 1 (drop k (entries vars i last)) ≡ take 1 (entries vars (i + k) last)
one_on vars i k last h =
    one-take k (last - i) (drop i vars) (omega arith) ∙ ap (take 1) (drop-drop k i vars)
    ∙ sym (one-take 0 (last - (i + k)) (drop (i + k) vars) (omega arith))

module _ (kind : ℕ) (f : Values) (vars : List ℕ) (first last : ℕ) where
  pub asked-start : asked_from kind f vars first last first ≡ looked kind f (entries vars first last)
  unfolding looked asked_from
  asked-start = ap (λ b. cond (eqb kind 4) (cond b (element_looks f (entries vars first last)) (take 1 (entries vars first last))) (entries vars first last)) (eqb-self first)

  pub asked-end : (i : ℕ) → last ≤ i → asked_from kind f vars first last i ≡ []
  unfolding asked_from
  asked-end i h = rw (entries_none vars i last h) (go (eqb kind 4) (eqb i first))
    where
      go : (a b : Bool) → cond a (cond b (element_looks f []) (take 1 [])) [] ≡ []
      go true true = refl
      go true false = refl
      go false b = refl

  -- the candidate that the index chooses
  chosen_on : (z : ℤ) → first < last → last ≤ length vars → chosen z (entries vars (first + 1) last) ≡ take 1 (entries vars (chosen_place z first last) last)
  chosen_on (negsuc k) h l = sym (ap (take 1) (entries_none vars last last (omega arith)))
  chosen_on (pos k) h l = go (ltb (first + 1 + k) last) refl
    where
      go : (b : Bool) → ltb (first + 1 + k) last ≡ b → take 1 (drop k (entries vars (first + 1) last)) ≡ take 1 (entries vars (cond b (first + 1 + k) last) last)
      go true e = one_on vars (first + 1) k last (ltb-true (first + 1 + k) last e)
      go false e =
          let q = ltb-false (first + 1 + k) last e in
          let n = part_length vars (first + 1) (last - (first + 1)) (omega arith) in
          ap (take 1) (drop_of_length-le (entries vars (first + 1) last) {i = k} (omega arith)) ∙ sym (ap (take 1) (entries_none vars last last (omega arith)))

  later : (z : ℤ) → first < last → eqb (chosen_place z first last) first ≡ false
  later (negsuc k) h = ne_eqb last first (λ q. omega arith)
  later (pos k) h = go (ltb (first + 1 + k) last)
    where
      go : (b : Bool) → eqb (cond b (first + 1 + k) last) first ≡ false
      go true = ne_eqb (first + 1 + k) first (λ q. omega arith)
      go false = ne_eqb last first (λ q. omega arith)

  pub asked-next : (i : ℕ) (x : ℤ) → first ≤ i → i < last → last ≤ length vars → x ≡ f (nat vars i)
      → asked_from kind f vars first last i ≡ nat vars i ∷ asked_from kind f vars first last (next_place kind x i first last)
  unfolding asked_from next_place
  asked-next i x g h l e = go (eqb kind 4)
    where
      element : (b : Bool) → eqb i first ≡ b → cond b (element_looks f (entries vars i last)) (take 1 (entries vars i last))
          ≡ nat vars i ∷ cond (eqb (cond b (chosen_place x first last) last) first) (element_looks f (entries vars (cond b (chosen_place x first last) last) last)) (take 1 (entries vars (cond b (chosen_place x first last) last) last))
      element true q =
          let z = eqb-true i first q in
          ap (element_looks f) (entries_next vars i last h l)
          ∙ ap (nat vars i ∷◌) (ap (λ y. chosen y (entries vars (i + 1) last)) (sym e) ∙ ap (λ j. chosen x (entries vars (j + 1) last)) z ∙ chosen_on x (omega arith) l ∙ sym (ap (λ b. cond b (element_looks f (entries vars (chosen_place x first last) last)) (take 1 (entries vars (chosen_place x first last) last))) (later x (omega arith))))
      element false q = rw (entries_next vars i last h l, ne_eqb last first (λ q. omega arith), entries_none vars last last (omega arith))

      go : (b : Bool) → cond b (cond (eqb i first) (element_looks f (entries vars i last)) (take 1 (entries vars i last))) (entries vars i last)
          ≡ nat vars i ∷ cond b (cond (eqb (cond b (cond (eqb i first) (chosen_place x first last) last) (i + 1)) first) (element_looks f (entries vars (cond b (cond (eqb i first) (chosen_place x first last) last) (i + 1)) last)) (take 1 (entries vars (cond b (cond (eqb i first) (chosen_place x first last) last) (i + 1)) last)))
          (entries vars (cond b (cond (eqb i first) (chosen_place x first last) last) (i + 1)) last)
      go true = element (eqb i first) refl
      go false = entries_next vars i last h l
