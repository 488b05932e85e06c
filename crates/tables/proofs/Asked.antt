-- The two tests before a part is named to whoever asks: there is such a row, and its part ends within e. Together they are those of the paper.
-- Assumes nothing.
use Prim.Native.Nat.{ℕ, ◌+◌, ◌-◌, ◌≤◌, ◌<◌}
use native.Mathlib.Omega.{arith}
use mathlib.Core.Bool.{Bool, true, false, cond, ◌&&◌}
use mathlib.Core.List.{List, [], ◌∷◌}
use mathlib.Core.Path.{◌≡◌, refl, sym, ap, ap₂, ◌∙◌}
use lib.Dec.{leb, ltb}
use lib.ListN.{length, take, drop}
use denote.Ref.{Bor}
use borrow.Author.Tests.{ltb-true, leb-true}
use Rattle.paper.specs.Lists.{nat, every}
use Rattle.paper.proofs.Lists.{and_left, and_right, each}
use Rattle.tables.proofs.Tests.{in_two}
use Rattle.tables.proofs.Cut.{cut}
use Rattle.tables.specs.Given.{part_asked, lies_at, part_named}
use Rattle.tables.specs.declared.parts.Part.{Part}

module _ (m e : ℕ) (firsts counts vars : List ℕ) (row : ℕ) where
  abbrev there : Bool
  there = ltb row m && ltb row (length firsts) && ltb row (length counts)

  abbrev inside : ℕ → Bool
  inside end = leb end e && leb end (length vars)

  pub row-there : there ≡ true → (row < length firsts) × (row < length counts)
  row-there h =
      let a = ltb row m in let b = ltb row (length firsts) in let c = ltb row (length counts) in
      (ltb-true _ _ (and_right a b (and_left (a && b) c h)), ltb-true _ _ (and_right (a && b) c h))

  pub asked : (first count : ℕ) → first ≡ nat firsts row → count ≡ nat counts row → (a b : Bool) → there ≡ a → inside (first + count) ≡ b
      → cond (a && b) (first, count) (0, 0) ≡ part_asked m e firsts counts vars row
  asked first count p q a b t i =
      let end = nat firsts row + nat counts row in
      ap₂ (λ x y. cond (x && y) (first, count) (0, 0)) (sym t) (sym i) ∙ ap₂ (λ f k. cond (there && inside (f + k)) (f, k) (0, 0)) p q
      ∙ ap (λ x. cond x (nat firsts row, nat counts row) (0, 0))
      (sym (in_two (ltb row m) (ltb row (length firsts) ∷ ltb row (length counts) ∷ []) (leb end e) (leb end (length vars) ∷ [])))

  -- the part that is answered ends within the lent entries
  abbrev tests : ℕ → List Bool
  tests end = ltb row m ∷ ltb row (length firsts) ∷ ltb row (length counts) ∷ leb end e ∷ leb end (length vars) ∷ []

  ends-inside : (t : Bool) → every (tests (nat firsts row + nat counts row)) ≡ t → let p : ℕ × ℕ = cond t (nat firsts row, nat counts row) (0, 0) in p.0 + p.1 ≤ length vars
  ends-inside true h = leb-true _ _ (each (tests (nat firsts row + nat counts row)) h).1.1.1.1.0
  ends-inside false h = omega arith

  pub within : (part : Part) → part ≡ part_named (part_asked m e firsts counts vars row) → part.first + part.count ≤ length vars
  within part said = rw said (ends-inside _ refl)

-- a part cut out by its two ends, where it lies, is that very part
pub very : (whole : Bor (List ℕ)) (first count : ℕ) (part : ℕ × ℕ) → (first, count) ≡ part
    → (cut first count whole.now ≡ take part.1 (drop part.0 whole.now)) × (lies_at whole first ≡ lies_at whole part.0)
very whole first count part s =
    let same : (first + count) - first ≡ count = omega arith in (
      ap (λ k. take k (drop first whole.now)) same ∙ ap (λ (p : ℕ × ℕ). take p.1 (drop p.0 whole.now)) s,
      ap (λ (p : ℕ × ℕ). lies_at whole p.0) s,
    )
