-- The numbers are right if those of the search variables are 0 and those of what the rows make are right: each variable is one of the two, and
-- each made one is what its row makes. Assumes nothing.
use Prim.Native.Nat.{ℕ, ◌<◌}
use mathlib.Core.Bool.{Bool, true, false, cond, not, ◌||◌}
use mathlib.Core.List.{List, []}
use mathlib.Core.Path.{◌≡◌, refl, ap, ap₂, sym, ◌∙◌}
use lib.Dec.{eqb, ltb}
use borrow.Author.Tests.{ltb-true, lt-ltb}
use Rattle.paper.specs.Lists.{nat, all_below}
use Rattle.paper.specs.Tables.{Tables, part, row_of, is_made, inputs_of}
use Rattle.paper.proofs.Least.{all_below-at, below_all}
use Rattle.tables.specs.Makers.{Makers}
use Rattle.tables.proofs.Made.{maker-zero}
use Rattle.order.specs.Formed.{Formed}
use Rattle.order.specs.Numbering.{above, searched_right, made_right}

-- v's number is the least above its inputs'
abbrev pub right_at : (ℕ → List ℕ) → List ℕ → ℕ → Bool
right_at dep nums v = eqb (nat nums v) (above (nat nums) (dep v))

-- two tests that imply each other are one
pub iff : (a b : Bool) → (a ≡ true → b ≡ true) → (b ≡ true → a ≡ true) → a ≡ b
iff true b p q = sym (p refl)
iff false true p q = q refl
iff false false p q = refl

-- the inputs of what a row makes are the row's part
row-inputs : (t : Tables) → Formed t → (r : ℕ) → r < t.m → inputs_of t (nat t.makes r) ≡ part t r t.vars
row-inputs t F r l = ap₂ (λ b q. cond b (part t q t.vars) []) (ap (λ k. ltb k t.m) (F.row-of r l) ∙ lt-ltb r t.m l) (F.row-of r l)

module _ (t : Tables) (F : Formed t) (by nums : List ℕ) (M : Makers t by) where
  pub at_all : all_below (searched_right by nums) t.n ≡ true → all_below (made_right t nums) t.m ≡ true → (v : ℕ) → v < t.n → right_at (inputs_of t) nums v ≡ true
  at_all searched made v l = go (is_made t v) refl
    where
      go : (b : Bool) → is_made t v ≡ b → eqb (nat nums v) (above (nat nums) (cond b (part t (row_of t v) t.vars) [])) ≡ true
      go true q = rw (F.made_by v q) at (all_below-at (made_right t nums) t.m made (row_of t v) (ltb-true (row_of t v) t.m q))
      go false q = rw (maker-zero t by M v l ∙ ap not q) at (all_below-at (searched_right by nums) t.n searched v l)

  module _ (h : (v : ℕ) → v < t.n → right_at (inputs_of t) nums v ≡ true) where
    pub made_of : all_below (made_right t nums) t.m ≡ true
    made_of = below_all (made_right t nums) t.m (λ r l. rw (row-inputs t F r l) at (h (nat t.makes r) (F.row_makes r l)))

    pub searched-of : all_below (searched_right by nums) t.n ≡ true
    searched-of = below_all (searched_right by nums) t.n free
      where
        free : (v : ℕ) → v < t.n → searched_right by nums v ≡ true
        free v l = ap (λ z. not z || eqb (nat nums v) 0) (maker-zero t by M v l) ∙ go (is_made t v) (h v l)
          where
            go : (b : Bool) → eqb (nat nums v) (above (nat nums) (cond b (part t (row_of t v) t.vars) [])) ≡ true → (not (not b) || eqb (nat nums v) 0) ≡ true
            go true k = refl
            go false k = k
