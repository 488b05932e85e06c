-- What an accepted call works over, and what stands in the rows of a trial or keep once it has written. Assumes nothing.
use Rattle.std.specs.Prelude.{ℕ, ◌≤◌, ◌<◌, true, false, List, [], ◌≡◌, ltb, ℤ, length, take}
use Rattle.paper.specs.Lists.{all, nat}
use Rattle.paper.specs.Net.{moved}
use Rattle.paper.specs.Tables.{Tables, Index, index_in, is_made, values_in}
use Rattle.paper.specs.Checks.{accepted, bounds_in, pairs_of_move, Sound}
use Rattle.paper.specs.Chains.{group_order, determined, stored_fresh}
use Rattle.paper.specs.Calls.{evaluations_of, TrialLent, TrialLeft, asked_list, trial_leaves, KeepLent, kept_count, kept_stored, kept_flags}
use Rattle.rows.specs.Put.{PairsFit}
use Rattle.index.specs.Index.{Indexed}

-- what a trial is lent without the row for reasons, which are asked over what it has written
abbrev pub without_reasons : TrialLent → TrialLent
without_reasons c = record {
  move = c.move;
  asked = c.asked;
  asked_vars = c.asked_vars;
  route = c.route;
  results = c.results;
  trial = c.trial;
  flags = c.flags;
  why = [];
}

module _ (t : Tables) (ord : List ℕ) (x : Index) (stored : List ℤ) where
  -- sound tables, the order and index of build, and fresh stored values that a move of search variables leaves determined; the flags are lent
  pub record KeepAccepted (c : KeepLent) : Type 0 where
    pub sound : Sound t
    pub in_order : t.m ≤ length ord
    pub order_is : take t.m ord ≡ group_order t
    pub fresh : (v : ℕ) → v < t.n → stored_fresh t (values_in t stored) v ≡ true
    pub determined : (v : ℕ) → determined t (moved (pairs_of_move c.move) (values_in t stored)) v ≡ true
    pub indexed : Indexed t x.starts x.places
    pub in-stored : t.n ≤ length stored
    pub in-flags : t.n ≤ length c.flags
    pub pairs : PairsFit t.n c.move
    pub search : (i : ℕ) → i < c.move.pairs → is_made t (nat c.move.vars i) ≡ false

  -- the same of a trial, with its two rows and what it asks lent, and variables of the model asked
  pub record Trying (c : TrialLent) : Type 0 where
    pub keeping : KeepAccepted (record { move = c.move; flags = c.flags })
    pub in-trial : t.n ≤ length c.trial
    pub in-asked : c.asked ≤ length c.asked_vars
    pub in-results : c.asked ≤ length c.results
    pub asked : all (λ v. ltb v t.n) (asked_list c) ≡ true

module _ (t : Tables) (stored : List ℤ) where
  -- what an accepted trial leaves
  abbrev pub trial_left : TrialLent → TrialLeft
  trial_left c = trial_leaves (record { tables = t; bounds = bounds_in [] []; numbers = []; order = []; stored = stored; index = index_in [] []; reasons = [] }) c (record { kept = 0; evaluations = 0; blanks = 0 }) accepted

  -- the count and the rows are what it leaves
  pub record TrialFilled (c : TrialLent) (count : ℕ) (results trial : List ℤ) (flags : List ℕ) : Type 0 where
    pub count-is : count ≡ evaluations_of (trial_left c).answer
    pub results-are : results ≡ (trial_left c).results
    pub trial-is : trial ≡ (trial_left c).trial
    pub flags-are : flags ≡ (trial_left c).flags

  pub record KeepFilled (c : KeepLent) (count : ℕ) (stored' : List ℤ) (flags : List ℕ) : Type 0 where
    pub count-is : count ≡ kept_count t stored c
    pub stored_is : stored' ≡ kept_stored t stored c
    pub flags-are : flags ≡ kept_flags t stored c
