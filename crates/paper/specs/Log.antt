-- The log of kept moves, in three lent rows: for each of the latest, at most 64, the variables that it moved and the values that they had before
-- it. `sizes` holds how many moves there are, and then how many pairs each has, the oldest first; the pairs of move k stand from place 64 k on.
-- Assumes nothing.
use Rattle.std.specs.Prelude.{ℕ, suc, pred, min, ◌*◌, Bool, cond, List, [], ◌∷◌, ◌++◌, ℤ, leb, ltb, length, set, take, drop}
use Rattle.paper.specs.Lists.{every, nat, all_below, over}
use Rattle.paper.specs.Net.{Values}
use Rattle.paper.specs.Tables.{Tables}
use Rattle.paper.specs.Checks.{Bounds, Move, movable, named_once, has_value, pair_within}

pub record Log : Type 0 where
  pub sizes : List ℕ
  pub vars : List ℕ
  pub values : List ℤ

abbrev pub log_in : List ℕ → List ℕ → List ℤ → Log
log_in sizes vars values = record { sizes = sizes; vars = vars; values = values }

-- a move as a log may hold it: at most 64 pairs, of search variables, each named once, and no value blank or outside its bounds
abbrev pub move_good : Tables → Bounds → Move → Bool
move_good t b mv = every (
    leb mv.pairs 64 ∷ all_below (movable mv t) mv.pairs ∷ all_below (named_once mv) mv.pairs ∷ all_below (has_value mv) mv.pairs
    ∷ all_below (pair_within mv b) mv.pairs ∷ [])

-- a buffer whose n entries from k on come first; what stands from n on stays
abbrev pub slid : {A : Type 0} → ℕ → ℕ → List A → List A
slid k n before = take n (drop k before) ++ drop n before

-- a buffer with f at n places from `at` on
abbrev pub laid_at : {A : Type 0} → ℕ → ℕ → (ℕ → A) → List A → List A
laid_at at n f before = take at before ++ over n f (drop at before)

module _ (l : Log) where
  -- how many moves it holds
  abbrev pub logged : ℕ
  logged = nat l.sizes 0

  -- the move that takes move k back: its variables, with their values before it
  abbrev pub back : ℕ → Move
  back k = record { pairs = nat l.sizes (suc k); vars = drop (64 * k) l.vars; values = drop (64 * k) l.values }

  -- 1: room for 64 moves of 64 pairs
  abbrev pub log_fits : Bool
  log_fits = every (leb 65 (length l.sizes) ∷ leb 4096 (length l.vars) ∷ leb 4096 (length l.values) ∷ [])

  -- 16: no more moves than 64 or than the record's number kept, and each as a log may hold it
  abbrev pub log_good : Tables → Bounds → ℕ → Bool
  log_good t b kept = every (leb logged 64 ∷ leb logged kept ∷ all_below (λ k. move_good t b (back k)) logged ∷ [])

  -- without its oldest move, if it has 64
  abbrev pub room_made : Log
  room_made = cond (ltb logged 64) l (log_in (slid 1 64 l.sizes) (slid 64 4032 l.vars) (slid 64 4032 l.values))

  -- with a move as its latest, over the values before that; the oldest goes if there are 64
  abbrev pub noted : Values → Move → Log
  noted old mv = let k = min logged 63 in record {
    sizes = set (set room_made.sizes 0 (suc k)) (suc k) mv.pairs;
    vars = laid_at (64 * k) mv.pairs (nat mv.vars) room_made.vars;
    values = laid_at (64 * k) mv.pairs (λ i. old (nat mv.vars i)) room_made.values;
  }

  -- without its latest move, whose room the next one takes
  abbrev pub dropped : Log
  dropped = log_in (set l.sizes 0 (pred logged)) l.vars l.values
