-- Closed chains of inputs: which are permitted, by a test and link by link, the groups of variables that depend on each other with the topological number that a
-- group shares, and which variables are determined. Assumes nothing.
use Rattle.std.specs.Prelude.{ℕ, zero, suc, ◌<◌, Bool, true, false, cond, not, ◌&&◌, ◌||◌, ◌⊎◌, ◌≡◌, eqb, take, drop}
use mathlib.Core.List.{List, [], ◌∷◌, map, Memᴰ}
use Rattle.integers.specs.Integers.{eq_z}
use Rattle.paper.specs.Lists.{any, every, greatest, nat, joined, all_below}
use Rattle.paper.specs.Net.{Values, Rule, runs, able, afresh}
use Rattle.paper.specs.Tables.{Tables, net, row_of, is_made, inputs_of, asks_of, ends, levels}

-- the entries that pass a test
abbrev pub only : (ℕ → Bool) → List ℕ → List ℕ
only p [] = []
only p (x ∷ xs) = cond (p x) (x ∷ only p xs) (only p xs)

-- ── over any links among n variables: v has one to each of dep v ──
-- v depends on w
abbrev pub depending : (ℕ → List ℕ) → ℕ → Rule Bool
depending dep w f v = any (λ i. eqb i w || f i) (dep v)

module _ (dep : ℕ → List ℕ) (n : ℕ) where
  abbrev pub depends : ℕ → ℕ → Bool
  depends v w = runs (depending dep w) (λ u. false) n v

  -- v and w are on one closed chain
  abbrev pub together : ℕ → ℕ → Bool
  together v w = depends v w && depends w v

  -- w is of v's group: it is v, or on a closed chain with v
  abbrev pub grouped : ℕ → ℕ → Bool
  grouped v w = eqb v w || together v w

  -- where the links of v's group lead out of it
  abbrev pub outside : ℕ → List ℕ
  outside v = joined (λ u. cond (grouped v u) (only (λ i. not (grouped v i)) (dep u)) []) n

module _ (t : Tables) where
  -- ── which closed chains are permitted ──
  abbrev pub is_element : ℕ → Bool
  is_element v = eqb (nat t.kinds (row_of t v)) 4

  -- the inputs of v, unless it is made by ELEMENT; the index of an ELEMENT, and its candidates
  abbrev pub plain_inputs : ℕ → List ℕ
  plain_inputs v = cond (is_element v) [] (inputs_of t v)

  abbrev pub indices : ℕ → List ℕ
  indices v = cond (is_element v) (take 1 (inputs_of t v)) []

  abbrev pub candidates : ℕ → List ℕ
  candidates v = cond (is_element v) (drop 1 (inputs_of t v)) []

  -- v is on a closed chain that goes from x to its index
  abbrev pub round_index : ℕ → ℕ → Bool
  round_index v x = any (λ i. together (inputs_of t) t.n v x && together (inputs_of t) t.n v i) (indices x)

  -- 6: no closed chain through v is without a candidate, and none passes through an index
  abbrev pub permitted : ℕ → Bool
  permitted v = not (depends plain_inputs t.n v v) && all_below (λ x. not (round_index v x)) t.n

  -- ── topological numbers: 0 at search variables; 1 plus the greatest among the inputs of a group from outside it ──
  abbrev pub group_numbering : Rule ℕ
  group_numbering f v = cond (is_made t v) (suc (greatest (map f (outside (inputs_of t) t.n v)))) zero

  unfoldable pub group_number : ℕ → ℕ
  group_number = runs group_numbering (λ v. zero) t.n

  -- the rows by the number of the variable made, ties by row number
  abbrev pub group_order : List ℕ
  group_order = levels t group_number (suc t.n)

  -- ── which variables are determined, from the search variables' values s ──
  -- the values worked out afresh, and what each formula looks at over them
  abbrev pub worth : Values → Values
  worth s = afresh (net t) s t.n

  abbrev pub needs : Values → ℕ → List ℕ
  needs s v = asks_of t v (worth s)

  -- working v out ends: it needs neither itself nor a variable that is not determined
  unfoldable pub determined : Values → ℕ → Bool
  determined s v = able (needs s) t.n v

  -- ── the checks ──
  -- some chain of inputs closes
  abbrev pub closes : Bool
  closes = not (all_below (ends t) t.n)

  -- 8: closed chains are permitted, and the lent numbers and order are what build gives
  abbrev pub groups_numbered : List ℕ → List ℕ → Bool
  groups_numbered nums ord =
      every (
      all_below permitted t.n ∷ all_below (λ v. eqb (nat nums v) (group_number v)) t.n
      ∷ all_below (λ i. eqb (nat ord i) (nat group_order i)) t.m ∷ [])

  -- 21: where a chain closes, v is determined and its stored value is the fresh one
  abbrev pub stored_fresh : Values → ℕ → Bool
  stored_fresh old v = not closes || (determined old v && eq_z (old v) (worth old v))

-- ── chains of inputs link by link, with what each passes through ──
-- what a link from a made variable to an input passes through
pub data Through : Type 0 where
  input index candidate : Through

abbrev pub is_index : Through → Bool
is_index input = false
is_index index = true
is_index candidate = false

abbrev pub is_candidate : Through → Bool
is_candidate input = false
is_candidate index = false
is_candidate candidate = true

module _ (t : Tables) where
  abbrev pub linked : Through → ℕ → List ℕ
  linked input v = plain_inputs t v
  linked index v = indices t v
  linked candidate v = candidates t v

  -- a chain from v down to w: whether it passes through a candidate of some ELEMENT, and whether through the index of one
  pub data Chain : ℕ → ℕ → Bool → Bool → Type 0 where
    link : (k : Through) {v w : ℕ} → Memᴰ w (linked k v) → Chain v w (is_candidate k) (is_index k)
    on : (k : Through) {v i w : ℕ} {c x : Bool} → Memᴰ i (linked k v) → Chain i w c x → Chain v w (is_candidate k || c) (is_index k || x)

-- v is on a closed chain that is not permitted: it passes through no candidate, or through an index. A closed chain may begin at any of its variables
pub record Barred (t : Tables) (v : ℕ) : Type 0 where
  pub candidate : Bool
  pub index : Bool
  pub chain : Chain t v v candidate index
  pub barred : (candidate ≡ false) ⊎ (index ≡ true)

-- some closed chain is not permitted
abbrev pub Circular : Tables → Type 0
Circular t = (v : ℕ) × Barred t v

-- the least variable of which something holds
pub record LeastOf (n : ℕ) (holds : ℕ → Type 0) (place : ℕ) : Type 0 where
  pub low : place < n
  pub here : holds place
  pub before : (v : ℕ) → v < place → holds v → ⊥
