-- The model of one window: checks 1 to 6 and 20 of build are passed by computing, 7 by what is not blank, and variable 3 is DEPARTURES of the three
-- numbers. Assumes nothing.
use Prim.Native.Nat.{◌<◌, ◌^◌}
use native.Mathlib.Omega.{arith}
use mathlib.Core.Bool.{Bool, true, false, cond, not, ◌&&◌, ◌||◌}
use mathlib.Core.List.{[], ◌∷◌}
use mathlib.Core.Path.{◌≡◌, refl, ap, ◌∙◌}
use lib.IntN.{ℤ, pos, negsuc}
use lib.Dec.{eqb, leb}
use borrow.Author.Tests.{eqb-false, le-leb}
use lib.ListN.{get_or, replicate}
use lib.Signed.{le_z}
use mir.Syntax.{w32}
use mir.Val.{SFits, hbits}
use Rattle.integers.specs.Integers.{eq_z}
use Rattle.paper.specs.Lists.{every}
use Rattle.paper.specs.Formula.{blank, departures, strict, formula, looked}
use Rattle.paper.specs.Net.{runs}
use Rattle.paper.specs.Tables.{row_of, lent, index_in}
use Rattle.paper.specs.Chains.{determined}
use Rattle.paper.specs.Checks.{Verdict, accepted, refused, check, leaves, bounds_in, lowest, highest}
use Rattle.paper.specs.Calls.{BuildLent, build_verdict, build_leaves, build}

-- a number of 32 bits that is not blank lies within full bounds
full-allowed : (z : ℤ) → SFits w32 z → (not (eq_z z blank) && (le_z lowest z && le_z z highest)) ≡ not (eq_z z blank)
full-allowed (pos n) f = let l : n < 2 ^ hbits w32 = f.sfits in le-leb n 2147483647 (omega arith)
full-allowed (negsuc n) f = go (eqb n 2147483647) refl
  where
    go : (x : Bool) → eqb n 2147483647 ≡ x → (not x && (leb n 2147483646 && true)) ≡ not x
    go true e = refl
    go false e = let l : n < 2 ^ hbits w32 = f.sfits in let other = eqb-false n 2147483647 e in ap (◌&& true) (le-leb n 2147483646 (omega arith))

module _ (s e h : ℤ) where
  -- what build is lent
  abbrev pub one_window : BuildLent
  one_window = record {
    session = record { kept = 0; evaluations = 0; blanks = 0 };
    tables = lent 4 1 3 (8 ∷ []) (3 ∷ []) (pos 0 ∷ []) (0 ∷ []) (3 ∷ []) (0 ∷ 1 ∷ 2 ∷ []) (pos 1 ∷ pos 1 ∷ pos 1 ∷ []);
    bounds = bounds_in (replicate 4096 lowest) (replicate 4096 highest);
    starts = s ∷ e ∷ h ∷ pos 0 ∷ [];
    numbers = replicate 4 0;
    order = replicate 1 0;
    stored = replicate 4 blank;
    index = index_in (replicate 5 0) (replicate 3 0);
    reasons = replicate 4 0;
    log_sizes = replicate 65 0;
  }

  -- check 7 of the model, by which numbers are allowed, and by which are blank
  abbrev seven_by : Bool → Bool → Bool → Verdict
  seven_by a b c = check 7 4 (λ v. cond (eqb v 0) a (cond (eqb v 1) b (cond (eqb v 2) c true))) accepted

  abbrev seven : Bool → Bool → Bool → Verdict
  seven a b c = seven_by (not a) (not b) (not c)

  allowed : build_verdict one_window ≡ seven_by (not (eq_z s blank) && (le_z lowest s && le_z s highest)) (not (eq_z e blank) && (le_z lowest e && le_z e highest)) (not (eq_z h blank) && (le_z lowest h && le_z h highest))
  unfolding every runs row_of looked determined build_verdict
  allowed = refl

  judged : SFits w32 s → SFits w32 e → SFits w32 h → build_verdict one_window ≡ seven (eq_z s blank) (eq_z e blank) (eq_z h blank)
  judged fs fe fh = allowed ∙ (λ i. seven_by (full-allowed s fs i) (full-allowed e fe i) (full-allowed h fh i))

  -- the value of variable 3 by a verdict
  valued_by : (v : Verdict) → get_or (build_leaves one_window v).stored 3 (pos 0) ≡ leaves v (strict 8 (pos 0) [] (s ∷ e ∷ h ∷ [])) blank
  unfolding runs row_of formula
  valued_by accepted = refl
  valued_by (refused number place) = refl

  either : (v : Verdict) → leaves v blank blank ≡ blank
  either accepted = refl
  either (refused number place) = refl

  -- a blank number stops build, and then DEPARTURES is blank as well
  by-blanks : (a b c : Bool) (x : ℤ) → leaves (seven a b c) (cond (a || (b || (c || false))) blank x) blank ≡ cond (a || (b || (c || false))) blank x
  by-blanks true b c x = either (seven true b c)
  by-blanks false true c x = either (seven false true c)
  by-blanks false false true x = either (seven false false true)
  by-blanks false false false x = refl

  pub departures-stored : SFits w32 s → SFits w32 e → SFits w32 h → get_or (build one_window).stored 3 (pos 0) ≡ strict 8 (pos 0) [] (s ∷ e ∷ h ∷ [])
  unfolding build
  departures-stored fs fe fh =
      ap (λ v. get_or (build_leaves one_window v).stored 3 (pos 0)) (judged fs fe fh) ∙ valued_by (seven (eq_z s blank) (eq_z e blank) (eq_z h blank))
      ∙ by-blanks (eq_z s blank) (eq_z e blank) (eq_z h blank) (departures s e h)
