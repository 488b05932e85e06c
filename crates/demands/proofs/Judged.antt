-- The one law of the tables: the verdict by a list of lines is what the list says, and nothing else. Assumes nothing.
use Prim.Native.Nat.{ℕ}
use native.Mathlib.Omega.{arith}
use mathlib.Core.Bool.{Bool, true, false, cond}
use mathlib.Core.List.{List, [], ◌∷◌}
use mathlib.Core.Path.{◌≡◌, refl, ap, ◌∙◌, subst⁻¹}
use lib.Dec.{ltb}
use borrow.Author.Tests.{ltb-true, ltb-false}
use Rattle.paper.specs.Lists.{first_fail, all}
use Rattle.paper.specs.Checks.{Verdict, accepted, refused, Line, places, whole, by_lines}
use Rattle.paper.specs.Calls.{Answer, number_of, place_of, answered}
use Rattle.paper.proofs.Lists.{clash, and_left, and_right}
use Rattle.paper.proofs.Least.{first_fail-fails, first_fail-before, first_fail-is}
use Rattle.paper.proofs.Outcomes as outcomes
use Rattle.paper.proofs.Verdicts.{check-next, check-stops, require-next, require-stops}
use Rattle.demands.specs.Refusals.{line_number, Passed, Passes, none, next, Gives, here, later, Exactly, Works}

abbrev pub Says : List Line → Verdict → Type 0
Says table accepted = Passes table
Says table (refused k p) = Gives k p table

-- a test that does not fail is passed
not-failed : (b : Bool) → (b ≡ false → ⊥) → b ≡ true
not-failed true h = refl
not-failed false h = absurd (h refl)

-- the rest says v, and the line is passed
passed-says : (line : Line) (rest : List Line) → Passed line → (v : Verdict) → Says rest v → Says (line ∷ rest) v
passed-says line rest p accepted s = next p s
passed-says line rest p (refused k q) s = later p s

pub judged-says : (table : List Line) → Says table (by_lines table accepted)
judged-says [] = none
judged-says (places number bound good ∷ rest) = go (ltb (first_fail good bound) bound) refl (judged-says rest)
  where
    go : (x : Bool) → ltb (first_fail good bound) bound ≡ x → Says rest (by_lines rest accepted)
        → Says (places number bound good ∷ rest) (cond x (refused number (first_fail good bound)) (by_lines rest accepted))
    go true e s = let low = ltb-true (first_fail good bound) bound e in
        here {line = places number bound good} (refl, record { low = low; here = first_fail-fails good bound low; before = λ i l. clash (first_fail-before good bound i l) })
    go false e s = let high = ltb-false (first_fail good bound) bound e in
        passed-says (places number bound good) rest (λ i l. first_fail-before good bound i (omega arith)) (by_lines rest accepted) s
judged-says (whole number place true ∷ rest) = passed-says (whole number place true) rest refl (by_lines rest accepted) (judged-says rest)
judged-says (whole number place false ∷ rest) = here {line = whole number place false} (refl, refl, refl)

pub says-judged : (table : List Line) (v : Verdict) → Says table v → by_lines table accepted ≡ v
says-judged [] accepted s = refl
says-judged (places number bound good ∷ rest) accepted (next p s) = check-next number bound good _ p ∙ says-judged rest accepted s
says-judged (whole number place good ∷ rest) accepted (next p s) = require-next number place good _ p ∙ says-judged rest accepted s
says-judged (places number bound good ∷ rest) (refused k q) (here f) =
    check-stops number bound good _ q (first_fail-is good bound q f.1.low f.1.here (λ i l. not-failed (good i) (f.1.before i l))) f.1.low ∙ ap (λ z. refused z q) f.0
says-judged (whole number place good ∷ rest) (refused k q) (here f) = require-stops number place good _ f.2 ∙ ap (λ z. refused z place) f.0 ∙ ap (refused k) f.1
says-judged (places number bound good ∷ rest) (refused k q) (later p s) = check-next number bound good _ p ∙ says-judged rest (refused k q) s
says-judged (whole number place good ∷ rest) (refused k q) (later p s) = require-next number place good _ p ∙ says-judged rest (refused k q) s
says-judged [] (refused k q) s = elim s [ ]

-- ── an answer by a table whose numbers are not 0 ──
abbrev pub numbers_some : List Line → Bool
numbers_some = all (λ line. ltb 0 (line_number line))

gives-some : (table : List Line) (k p : ℕ) → numbers_some table ≡ true → Gives k p table → k ≡ 0 → ⊥
gives-some (places number bound good ∷ rest) k p e (here f) z = let low = ltb-true 0 number (and_left (ltb 0 number) _ e) in let h = f.0 in omega arith
gives-some (whole number place good ∷ rest) k p e (here f) z = let low = ltb-true 0 number (and_left (ltb 0 number) _ e) in let h = f.0 in omega arith
gives-some (line ∷ rest) k p e (later q s) z = gives-some rest k p (and_right (ltb 0 (line_number line)) _ e) s z
gives-some [] k p e x3 z = elim x3 [ ]

pub exactly : (table : List Line) (v : Verdict) (count : ℕ) → numbers_some table ≡ true → v ≡ by_lines table accepted → Exactly table count (answered v count)
exactly table v count some e = record {
  accepted-if = λ s. ap (λ u. answered u count) (is accepted s);
  accepted-only = λ z. only v says z;
  refused-if = λ k p s. ap (λ u. answered u count) (is (refused k p) s);
  refused-only = λ wrong. given v says wrong;
}
  where
    is : (u : Verdict) → Says table u → v ≡ u
    is u s = e ∙ says-judged table u s

    says : Says table v
    says = rw e (judged-says table)

    only : (u : Verdict) → Says table u → number_of (answered u count) ≡ 0 → Passes table
    only accepted s z = s
    only (refused k p) s z = absurd (gives-some table k p some s z)

    given : (u : Verdict) → Says table u → (number_of (answered u count) ≡ 0 → ⊥) → Gives (number_of (answered u count)) (place_of (answered u count)) table
    given accepted s wrong = absurd (wrong refl)
    given (refused k p) s wrong = s

-- ── a call: by its verdict, what it leaves where it refuses, and its contract ──
pub works : {Left : Type 0} (table : List Line) (answer : Left → Answer) (as_was : Left → Left) (x y : Left) (v : Verdict) (count : ℕ)
    → numbers_some table ≡ true → v ≡ by_lines table accepted → answer x ≡ answered v count → ((number_of (answer x) ≡ 0 → ⊥) → x ≡ as_was x) → y ≡ x
    → Works table count answer as_was y
works table answer as_was x y v count some e a same stated =
    subst⁻¹ (Works table count answer as_was) stated (record { exactly = subst⁻¹ (Exactly table count) a (exactly table v count some e); unchanged = same })

-- of a call that the paper judges
pub call-works : {Left : Type 0} {answer : Left → Answer} {left : Verdict → Left} {as_was : Answer → Left} {ok : ℕ → Bool} {v : Verdict} {x : Left} (table : List Line) (y : Left) (count : ℕ)
    → outcomes.Judged answer left as_was ok v x → numbers_some table ≡ true → v ≡ by_lines table accepted → answer (left v) ≡ answered v count → y ≡ x
    → Works table count answer (λ z. as_was (answer z)) y
call-works {answer = answer} {as_was = as_was} {v = v} {x = x} table y count judged some e a stated =
    works table answer (λ z. as_was (answer z)) x y v count some e (ap answer (judged.is v refl) ∙ a) judged.as-was stated
