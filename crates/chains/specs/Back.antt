-- Tests over marks: which links lead back into the group that they come from, and which groups are barred for it. Assumes nothing.
use Rattle.std.specs.Prelude.{ℕ, ◌≤◌, ◌<◌, Bool, true, false, not, ◌&&◌, List, ◌≡◌, eqb, length, get_or}
use Rattle.paper.specs.Lists.{any, nat, all_below}
use Rattle.groups.specs.declared.links.Links.{Links}
use Rattle.chains.specs.Links.{by_element}

-- v has a link to a variable with its mark
abbrev pub leads_back : (ℕ → List ℕ) → List ℕ → ℕ → Bool
leads_back dep marks v = any (λ i. eqb (nat marks v) (nat marks i)) (dep v)

-- an ELEMENT makes v, and its index, the first entry of its part, has v's mark
abbrev pub index_back : List ℕ → List ℕ → List ℕ → List ℕ → List ℕ → ℕ → Bool
index_back kinds by begins vars marks v = by_element kinds (nat by v) && eqb (nat marks v) (nat marks (nat vars (nat begins v)))

abbrev pub back_in : List ℕ → List ℕ → Links → List ℕ → ℕ → Bool
back_in kinds by links = index_back kinds by links.begins.now links.vars.now

-- each ELEMENT has an index
pub record HasIndices (n : ℕ) (kinds by begins vars : List ℕ) : Type 0 where
  pub few : n ≤ 4096
  pub long : n ≤ length by
  pub rows : (v : ℕ) → v < n → nat by v ≤ length kinds
  pub there : (v : ℕ) → v < n → by_element kinds (nat by v) ≡ true → nat begins v < length vars
  pub below : (v : ℕ) → v < n → by_element kinds (nat by v) ≡ true → nat vars (nat begins v) < n

abbrev pub Indexed : List ℕ → List ℕ → Links → Type 0
Indexed kinds by links = HasIndices links.n kinds by links.begins.now links.vars.now

-- one flag for each mark that there can be: it is set at the mark of a variable if one of the variables below k that pass the test has that mark too
pub record BarredFlags (test : ℕ → Bool) (marks : List ℕ) (k : ℕ) (barred : List Bool) : Type 0 where
  pub full : length barred ≡ 65536
  pub at : (v : ℕ) → get_or barred (nat marks v) false ≡ not (all_below (λ u. not (test u && eqb (nat marks u) (nat marks v))) k)
