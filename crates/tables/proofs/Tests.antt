-- Tests that do not wait for one another are joined by `&` in the code, one after another, and listed in the paper. Assumes nothing.
use mathlib.Core.Bool.{Bool, ◌&&◌, and-true, and_assoc, and_comm}
use mathlib.Core.List.{List, [], ◌∷◌, ◌++◌}
use mathlib.Core.Path.{◌≡◌, sym, ap, ◌∙◌}
use Rattle.paper.specs.Lists.{every}

abbrev pub joined : Bool → List Bool → Bool
joined b [] = b
joined b (c ∷ cs) = joined (b && c) cs

pub joined-every : (b : Bool) (bs : List Bool) → joined b bs ≡ every (b ∷ bs)
unfolding every
joined-every b [] = sym (and-true b)
joined-every b (c ∷ cs) = joined-every (b && c) cs ∙ and_assoc b c (every cs)

-- the first of them, and then the rest
pub in_two : (a : Bool) (rest : List Bool) (b : Bool) (bs : List Bool) → every ((a ∷ rest) ++ (b ∷ bs)) ≡ (joined a rest && joined b bs)
unfolding every
in_two a [] b bs = ap (a &&◌) (sym (joined-every b bs))
in_two a (c ∷ cs) b bs = sym (and_assoc a c (every (cs ++ (b ∷ bs)))) ∙ in_two (a && c) cs b bs

-- the second of them last
pub second-last : (a b : Bool) (cs : List Bool) → every (a ∷ b ∷ cs) ≡ (joined a cs && b)
unfolding every
second-last a b cs = ap (a &&◌) (and_comm b (every cs)) ∙ sym (and_assoc a (every cs) b) ∙ ap (◌&& b) (sym (joined-every a cs))
