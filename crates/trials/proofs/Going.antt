-- The loop over the moves: what is filled in and what the moves that are left will be given make what all are given. Assumes nothing.
use Prim.Native.Nat.{ℕ, ◌+◌, ◌*◌, ◌≤◌, ◌<◌}
use native.Mathlib.Nat.{mul-le-mul, le_refl}
use native.Mathlib.Numerals.{add-one}
use native.Mathlib.Omega.{arith}
use mathlib.Core.Bool.{true}
use mathlib.Core.List.{List, [], ◌∷◌, ◌++◌, map}
use mathlib.Core.Path.{◌≡◌, sym, ap, ap₂, ◌∙◌, subst}
use lib.IntN.{ℤ}
use lib.ListN.{length, take, drop, set, drop_of_length-le}
use lib.Seq.{drop-cons, drop-drop, get_or-take, length-take-le}
use borrow.Author.Tests.{leb-true}
use Rattle.paper.specs.Lists.{nat, total}
use Rattle.paper.specs.Checks.{Move}
use Rattle.paper.specs.Calls.{Session, Answer, number_of, place_of, evaluations_of, Model, TrialLeft}
use Rattle.paper.proofs.Lists.{each}
use Rattle.std.specs.Prelude.{Result}
use Rattle.tables.specs.declared.Refusal as code
use Rattle.records.specs.Left.{answer_in}
use Rattle.trials.specs.Batch.{Batch, unpacked, moves_of}
use Rattle.trials.specs.Trials.{Question, Rows, rows_in, as_trial, try_one, GivenAt, tries, joined, number_given, place_given, evaluations_given, results_given, why_given, trials_fit, filled}
use Rattle.trials.proofs.Low.{evaluations-low}
use Rattle.trials.proofs.Laid.{Laid, laid-start, laid_next, laid-set, laid_end, piece-long}

-- ── what fits ──
pub record Fitting (b : Batch) (q : Question) (rows : Rows) : Type 0 where
  pub few : b.moves ≤ 1000
  pub each-pairs : b.moves ≤ length b.pairs
  pub few-asked : q.asked ≤ 32
  pub in-asked : q.asked ≤ length q.vars
  pub in-numbers : b.moves ≤ length rows.numbers
  pub in-places : b.moves ≤ length rows.places
  pub in-evaluations : b.moves ≤ length rows.evaluations
  pub in-results : b.moves * q.asked ≤ length rows.results
  pub in-why : b.moves * q.asked ≤ length rows.why

pub fitting : (b : Batch) (q : Question) (rows : Rows) → trials_fit b q rows ≡ true → Fitting b q rows
fitting b q rows h = let f = each _ h in record {
  few = leb-true _ _ f.0;
  each-pairs = leb-true _ _ f.1.0;
  few-asked = leb-true _ _ f.1.1.0;
  in-asked = leb-true _ _ f.1.1.1.0;
  in-numbers = leb-true _ _ f.1.1.1.1.0;
  in-places = leb-true _ _ f.1.1.1.1.1.0;
  in-evaluations = leb-true _ _ f.1.1.1.1.1.1.0;
  in-results = leb-true _ _ f.1.1.1.1.1.1.1.0;
  in-why = leb-true _ _ f.1.1.1.1.1.1.1.1.0;
}

-- ── the loop ──
module _ (s : Session) (w : Model) (b : Batch) (q : Question) (rows : Rows) where
  abbrev pub move_at : ℕ → ℕ → Move
  move_at first k = record { pairs = k; vars = take k (drop first b.vars); values = take k (drop first b.values) }

  -- what all are given, and what those from i on, whose pairs stand from `first` on, their results and reasons from `at` on
  abbrev all : List TrialLeft
  all = tries s w q (moves_of b) rows.results rows.why

  abbrev rest : ℕ → ℕ → ℕ → List TrialLeft
  rest i first at = tries s w q (unpacked (drop i (take b.moves b.pairs)) (drop first b.vars) (drop first b.values)) (drop at rows.results) (drop at rows.why)

  pub record Going (filling : Rows) (evaluations first at i : ℕ) : Type 0 where
    pub within : i ≤ b.moves
    pub first-most : first ≤ i * 65535
    pub at-is : at ≡ i * q.asked
    pub few : evaluations ≤ i * 4096
    counted : evaluations + total (map evaluations_given (rest i first at)) ≡ total (map evaluations_given all)
    numbers : Laid (map number_given all) (map number_given (rest i first at)) rows.numbers filling.numbers i
    places : Laid (map place_given all) (map place_given (rest i first at)) rows.places filling.places i
    counts : Laid (map evaluations_given all) (map evaluations_given (rest i first at)) rows.evaluations filling.evaluations i
    results : Laid (joined (map results_given all)) (joined (map results_given (rest i first at))) rows.results filling.results at
    why : Laid (joined (map why_given all)) (joined (map why_given (rest i first at))) rows.why filling.why at

  pub going_start : Going rows 0 0 0 0
  going_start = record {
    within = omega arith;
    first-most = omega arith;
    at-is = omega arith;
    few = omega arith;
    counted = omega arith;
    numbers = laid-start _ _;
    places = laid-start _ _;
    counts = laid-start _ _;
    results = laid-start _ _;
    why = laid-start _ _;
  }

  module _ (fit : Fitting b q rows) (filling : Rows) (evaluations first at i : ℕ) (g : Going filling evaluations first at i) where
    -- the rows are as long as they were
    pub going-long : (length filling.numbers ≡ length rows.numbers) × (length filling.places ≡ length rows.places) × (length filling.evaluations ≡ length rows.evaluations)
        × (length filling.results ≡ length rows.results) × (length filling.why ≡ length rows.why)
    going-long = (g.numbers.long, g.places.long, g.counts.long, g.results.long, g.why.long)

    -- there is room for one more
    pub going-room : i < b.moves → (i < length filling.numbers) × (i < length filling.places) × (i < length filling.evaluations)
        × (at + q.asked ≤ length filling.results) × (at + q.asked ≤ length filling.why) × (at + q.asked ≤ 32000)
    going-room l =
        let up : i + 1 ≤ b.moves = omega arith in let step : (i + 1) * q.asked ≤ b.moves * q.asked = mul-le-mul up (le_refl q.asked) in
        let most : b.moves * q.asked ≤ 1000 * 32 = mul-le-mul fit.few fit.few-asked in
        let here = g.at-is in (
          omega (arith, fit.in-numbers, g.numbers.long),
          omega (arith, fit.in-places, g.places.long),
          omega (arith, fit.in-evaluations, g.counts.long),
          omega (arith, fit.in-results, g.results.long),
          omega (arith, fit.in-why, g.why.long),
          omega arith,
        )

    -- none is left
    pub going_end : b.moves ≤ i → (evaluations ≡ total (map evaluations_given all)) × (filling ≡ filled b.moves q.asked all rows)
    going_end l =
        let here : i ≡ b.moves = let h = g.within in omega arith in
        let there : at ≡ b.moves * q.asked = g.at-is ∙ ap (λ k. k * q.asked) here in
        let no = ap (λ xs. total (map evaluations_given xs)) none in let c = g.counted in (
          omega arith,
          λ j. record {
            numbers = laid_end _ _ filling.numbers i b.moves (subst (λ xs. Laid (map number_given all) (map number_given xs) rows.numbers filling.numbers i) none g.numbers) here j;
            places = laid_end _ _ filling.places i b.moves (subst (λ xs. Laid (map place_given all) (map place_given xs) rows.places filling.places i) none g.places) here j;
            evaluations = laid_end _ _ filling.evaluations i b.moves (subst (λ xs. Laid (map evaluations_given all) (map evaluations_given xs) rows.evaluations filling.evaluations i) none g.counts) here j;
            results = laid_end _ _ filling.results at (b.moves * q.asked) (subst (λ xs. Laid (joined (map results_given all)) (joined (map results_given xs)) rows.results filling.results at) none g.results) there j;
            why = laid_end _ _ filling.why at (b.moves * q.asked) (subst (λ xs. Laid (joined (map why_given all)) (joined (map why_given xs)) rows.why filling.why at) none g.why) there j;
          },
        )
      where
        none : rest i first at ≡ []
        none =
            let long = length-take-le b.moves b.pairs fit.each-pairs in
            ap (λ ks. tries s w q (unpacked ks (drop first b.vars) (drop first b.values)) (drop at rows.results) (drop at rows.why))
            (drop_of_length-le (take b.moves b.pairs) {i = i} (omega arith))

    -- one more move
    module _ (l : i < b.moves) (k : ℕ) (e : k ≡ nat b.pairs i) where
      abbrev tried : TrialLeft
      tried = try_one s w q (move_at first k) (take q.asked (drop at rows.results)) (take q.asked (drop at rows.why))

      rest-is : rest i first at ≡ tried ∷ rest (i + 1) (first + k) (at + q.asked)
      rest-is =
          let long = length-take-le b.moves b.pairs fit.each-pairs in let h = l in
          ap (λ ks. tries s w q (unpacked ks (drop first b.vars) (drop first b.values)) (drop at rows.results) (drop at rows.why))
          (drop-cons (take b.moves b.pairs) i 0 (omega arith) ∙ ap₂ ◌∷◌ (get_or-take b.moves b.pairs i 0 l ∙ sym e) (ap (λ j. drop j (take b.moves b.pairs)) (sym (add-one i))))
          ∙ ap₂ (λ vs xs. tried ∷ tries s w q (unpacked (drop (i + 1) (take b.moves b.pairs)) vs xs) (drop q.asked (drop at rows.results)) (drop q.asked (drop at rows.why)))
          (drop-drop k first b.vars) (drop-drop k first b.values)
          ∙ ap₂ (λ rs ys. tried ∷ tries s w q (unpacked (drop (i + 1) (take b.moves b.pairs)) (drop (first + k) b.vars) (drop (first + k) b.values)) rs ys)
          (drop-drop q.asked at rows.results) (drop-drop q.asked at rows.why)

      module _ (mv : Move) (is : mv ≡ move_at first k) (r : Result ℕ code.Refusal) (results' : List ℤ) (why' : List ℕ) (given : GivenAt s w q mv at filling.results filling.why r results' why') where
        same : try_one s w q mv (take q.asked (drop at filling.results)) (take q.asked (drop at filling.why)) ≡ tried
        same = λ j. try_one s w q (is j) (take q.asked (g.results.back j)) (take q.asked (g.why.back j))

        told : answer_in r ≡ tried.answer
        told = given.answer ∙ ap (λ (x : TrialLeft). x.answer) same

        pub going-low : evaluations_of (answer_in r) ≤ 4096
        going-low = subst (λ (a : Answer). evaluations_of a ≤ 4096) (sym told) (evaluations-low s w (as_trial q (move_at first k) (take q.asked (drop at rows.results)) (take q.asked (drop at rows.why))))

        results-put : results' ≡ take at filling.results ++ (tried.results ++ drop q.asked (drop at filling.results))
        results-put = given.results-are ∙ ap (λ (x : TrialLeft). take at filling.results ++ (x.results ++ drop q.asked (drop at filling.results))) same

        why-put : why' ≡ take at filling.why ++ (tried.why ++ drop q.asked (drop at filling.why))
        why-put = given.why-is ∙ ap (λ (x : TrialLeft). take at filling.why ++ (x.why ++ drop q.asked (drop at filling.why))) same

        pub going_next : k < 65536 → length results' ≡ length filling.results → length why' ≡ length filling.why → (numbers' places' counts' : List ℕ)
            → numbers' ≡ set filling.numbers i (number_of (answer_in r)) → places' ≡ set filling.places i (place_of (answer_in r)) → counts' ≡ set filling.evaluations i (evaluations_of (answer_in r))
            → (more : ℕ) → more ≡ evaluations_of (answer_in r) → Going (rows_in numbers' places' counts' results' why') (evaluations + more) (first + k) (at + q.asked) (i + 1)
        going_next low long wide numbers' places' counts' n p c more m =
            let room = going-room l in let here = g.at-is in record {
              within = omega arith;
              first-most = let h = g.first-most in omega arith;
              at-is = omega arith;
              few = let h = g.few in let lows = going-low in omega arith;
              counted = let h = g.counted in let next = ap (λ xs. total (map evaluations_given xs)) rest-is in let x = ap evaluations_of told in omega arith;
              numbers = laid-set _ _ rows.numbers filling.numbers numbers' (number_given tried) (number_of (answer_in r)) i
                  (subst (λ xs. Laid (map number_given all) (map number_given xs) rows.numbers filling.numbers i) rest-is g.numbers) (omega (arith, room.0, g.numbers.long)) (ap number_of told) n;
              places = laid-set _ _ rows.places filling.places places' (place_given tried) (place_of (answer_in r)) i
                  (subst (λ xs. Laid (map place_given all) (map place_given xs) rows.places filling.places i) rest-is g.places) (omega (arith, room.1, g.places.long)) (ap place_of told) p;
              counts = laid-set _ _ rows.evaluations filling.evaluations counts' (evaluations_given tried) (evaluations_of (answer_in r)) i
                  (subst (λ xs. Laid (map evaluations_given all) (map evaluations_given xs) rows.evaluations filling.evaluations i) rest-is g.counts) (omega (arith, room.2, g.counts.long)) (ap evaluations_of told) c;
              results = laid_next _ _ rows.results filling.results results' tried.results at q.asked
                  (subst (λ xs. Laid (joined (map results_given all)) (joined (map results_given xs)) rows.results filling.results at) rest-is g.results)
                  (piece-long filling.results results' tried.results at q.asked room.3 results-put long) (omega (arith, room.3, g.results.long)) results-put (long ∙ g.results.long);
              why = laid_next _ _ rows.why filling.why why' tried.why at q.asked
                  (subst (λ xs. Laid (joined (map why_given all)) (joined (map why_given xs)) rows.why filling.why at) rest-is g.why)
                  (piece-long filling.why why' tried.why at q.asked room.4 why-put wide) (omega (arith, room.4, g.why.long)) why-put (wide ∙ g.why.long);
            }
