-- 20 and 21 link by link: a line of a table is the one that a call gives exactly if the lines before it pass and it fails, and that these two lines fail at a
-- variable is that working it out comes to one that needs itself, or that its stored value is not the fresh one. Assumes nothing.
use Prim.Native.Nat.{ℕ, zero, suc, ◌<◌}
use native.Mathlib.Omega.{arith}
use mathlib.Core.Bool.{Bool, true, false, not, ◌&&◌, ◌||◌, true≢false}
use mathlib.Core.List.{List, [], ◌∷◌, ◌++◌}
use mathlib.Core.Logic.{◌⊎◌, inl, inr}
use mathlib.Core.Path.{◌≡◌, refl, ap, sym, ◌∙◌, subst, subst⁻¹}
use lib.Dec.{eqb, ltb}
use borrow.Author.Tests.{eq-eqb, ltb-true, ltb-false, not-true, not-false}
use Rattle.integers.specs.Integers.{eq_z}
use Rattle.integers.proofs.Order.{eq_z-yes, eq_z-self}
use Rattle.paper.specs.Lists.{all, first_fail}
use Rattle.paper.specs.Net.{Values, Depends, moved}
use Rattle.paper.specs.Tables.{Tables, inputs_of, ends}
use Rattle.paper.specs.Chains.{worth, determined, closes, stored_fresh, LeastOf}
use Rattle.paper.specs.Checks.{Line, places, whole, Bounds, table_lines, Sound, sized, pairs_of_move}
use Rattle.paper.specs.Calls.{Answer, number_of, place_of, build_fits, start_values, build_lines, stored_values, trial_fits, trial_lines, keep_fits, keep_lines, latest, take_fits, take_lines}
use Rattle.paper.proofs.Lists.{and_left, and_right, or-false-left, or-false-right, each}
use Rattle.paper.proofs.Least.{first_fail-fails, first_fail-le}
use Rattle.paper.proofs.Accept.{inputs-below}
use Rattle.paper.proofs.Circle.{unable-comes}
use Rattle.paper.proofs.Ends.{comes-unable}
use Rattle.paper.proofs.Depends.{depends-low}
use Rattle.paper.proofs.Closes.{closes-not}
use Rattle.records.specs.Stated.{left_built, left_tried, left_kept, left_taken}
use Rattle.demands.specs.Sentences.{Undetermined, DeterminedExactly}
use Rattle.demands.specs.Refusals.{line_number, Passed, Passes, none, next, Fails, Gives, here, later, Exactly, before_last, UndeterminedExactly, Stale, StaleExactly, ChoicesExactly}
use Rattle.demands.proofs.One.{build-works, trial-works, keep-works, take-works}
use Rattle.demands.proofs.Sentences.{sentences-right}

-- ── one line of a table ──
abbrev lacks : ℕ → List Line → Bool
lacks k lines = all (λ line. not (eqb (line_number line) k)) lines

other-number : (line : Line) (k p : ℕ) → not (eqb (line_number line) k) ≡ true → Fails line k p → ⊥
other-number (places number bound good) k p e f = true≢false (sym (eq-eqb number k f.0) ∙ not-true (eqb number k) e)
other-number (whole number place good) k p e f = true≢false (sym (eq-eqb number k f.0) ∙ not-true (eqb number k) e)

passed-fails : (line : Line) (k p : ℕ) → Passed line → Fails line k p → ⊥
passed-fails (places number bound good) k p q f = true≢false (sym (q p f.1.low) ∙ f.1.here)
passed-fails (whole number place good) k p q f = true≢false (sym q ∙ f.2)

none-lacks : (k p : ℕ) (lines : List Line) → lacks k lines ≡ true → Gives k p lines → ⊥
none-lacks k p (line ∷ rest) e (here f) = other-number line k p (and_left (not (eqb (line_number line) k)) _ e) f
none-lacks k p (line ∷ rest) e (later q g) = none-lacks k p rest (and_right (not (eqb (line_number line) k)) _ e) g
none-lacks k p [] e x'' = elim x'' [ ]

module _ (k n : ℕ) (good : ℕ → Bool) (after : List Line) where
  abbrev from : List Line → List Line
  from before = before ++ places k n good ∷ after

  -- it is given only if the lines before it pass
  at-line : (before : List Line) (p : ℕ) → lacks k before ≡ true → lacks k after ≡ true → Gives k p (from before) → Passes before × LeastOf n (λ i. good i ≡ false) p
  at-line [] p a b (here f) = (none, f.1)
  at-line [] p a b (later q g) = absurd (none-lacks k p after b g)
  at-line (line ∷ before) p a b (here f) = absurd (other-number line k p (and_left (not (eqb (line_number line) k)) _ a) f)
  at-line (line ∷ before) p a b (later q g) = let r = at-line before p (and_right (not (eqb (line_number line) k)) _ a) b g in (next q r.0, r.1)

  -- where they pass and it fails, no other is given
  no_other : (before : List Line) (j p v : ℕ) → v < n → good v ≡ false → Passes before → Gives j p (from before) → j ≡ k
  no_other [] j p v l e none (here f) = sym f.0
  no_other [] j p v l e none (later q g) = absurd (true≢false (sym (q v l) ∙ e))
  no_other (line ∷ before) j p v l e (next q r) (here f) = absurd (passed-fails line j p q f)
  no_other (line ∷ before) j p v l e (next q r) (later q' g) = no_other before j p v l e r g

  passes-good : (before : List Line) → Passes (from before) → (v : ℕ) → v < n → good v ≡ true
  passes-good [] (next q r) = q
  passes-good (line ∷ before) (next q r) = passes-good before r

  passes-before : (before : List Line) → Passes (from before) → Passes before
  passes-before [] r = none
  passes-before (line ∷ before) (next q r) = next q (passes-before before r)

  -- an answer by the table
  module _ (before : List Line) (count : ℕ) (a : Answer) (by : Exactly (from before) count a) where
    given-at : Passes before → (v : ℕ) → v < n → good v ≡ false → number_of a ≡ k
    given-at r v l e = go (number_of a) refl
      where
        go : (j : ℕ) → number_of a ≡ j → number_of a ≡ k
        go zero z = absurd (true≢false (sym (passes-good before (by.accepted-only z) v l) ∙ e))
        go (suc j) z = no_other before (number_of a) (place_of a) v l e r (by.refused-only (λ z'. let x = sym z ∙ z' in absurd (omega arith)))

    only_at : lacks k before ≡ true → lacks k after ≡ true → 0 < k → number_of a ≡ k → Passes before × LeastOf n (λ i. good i ≡ false) (place_of a)
    only_at x y some e = at-line before (place_of a) x y (rw e at (by.refused-only (λ z. let w = sym e ∙ z in absurd (omega arith))))

-- ── sound tables, by the lines that they pass ──
sound-by : (t : Tables) (bs : Bounds) (fits : Bool) (rest : List Line) → (fits ≡ true → sized t ≡ true) → Passes (whole 1 0 fits ∷ (table_lines t bs ++ rest)) → Sound t
sound-by t bs fits rest has (next f (next kinds (next shapes (next all-of-them (next numbers (next bounds (next once r))))))) =
    record { sized = has f; kinds = kinds; shapes = shapes; whole = all-of-them; numbers = numbers; once = once }

-- ── what the two lines say ──
module _ (t : Tables) (sound : Sound t) where
  exactly-determined : (s : Values) (v : ℕ) → v < t.n → DeterminedExactly t s v
  exactly-determined s v l = sentences-right.determined t (inputs-below t sound) s v l

  undetermined-is : (s : Values) (v : ℕ) → v < t.n → determined t s v ≡ false → Undetermined t s v
  undetermined-is s v l e = (exactly-determined s v l).round e

  is-undetermined : (s : Values) (v : ℕ) → v < t.n → Undetermined t s v → determined t s v ≡ false
  is-undetermined s v l u = go (determined t s v) refl
    where
      go : (b : Bool) → determined t s v ≡ b → b ≡ false
      go true e = absurd ((exactly-determined s v l).ends e u)
      go false e = refl

  -- some chain closes exactly if some variable depends on itself
  closed-chain : closes t ≡ true → (u : ℕ) × Depends (inputs_of t) u u
  closed-chain e = go (ltb (first_fail (ends t) t.n) t.n) refl
    where
      go : (b : Bool) → ltb (first_fail (ends t) t.n) t.n ≡ b → (u : ℕ) × Depends (inputs_of t) u u
      go true q =
          let low = ltb-true (first_fail (ends t) t.n) t.n q in
          let c = unable-comes (inputs_of t) t.n (inputs-below t sound) (first_fail (ends t) t.n) low (first_fail-fails (ends t) t.n low) in (c.0, c.2)
      go false q =
          let high = ltb-false (first_fail (ends t) t.n) t.n q in let le = first_fail-le (ends t) t.n in
          absurd (true≢false (sym e ∙ ap not (eq-eqb (first_fail (ends t) t.n) t.n (omega arith))))

  chain-closes : (u : ℕ) → Depends (inputs_of t) u u → closes t ≡ true
  chain-closes u d = go (closes t) refl
    where
      go : (b : Bool) → closes t ≡ b → b ≡ true
      go true e = refl
      go false e = absurd (true≢false (sym (closes-not t e u (depends-low (inputs_of t) t.n (inputs-below t sound) d)) ∙ comes-unable (inputs_of t) t.n u (u, inl refl, d)))

  module _ (old : Values) (v : ℕ) (low : v < t.n) where
    stale-is : stored_fresh t old v ≡ false → Stale t old v
    stale-is e = (closed-chain (not-false (closes t) (or-false-left (not (closes t)) _ e)), go (determined t old v) refl (eq_z (old v) (worth t old v)) refl (or-false-right (not (closes t)) _ e))
      where
        go : (d : Bool) → determined t old v ≡ d → (q : Bool) → eq_z (old v) (worth t old v) ≡ q → (d && q) ≡ false → Undetermined t old v ⊎ (old v ≡ worth t old v → ⊥)
        go false d q s x = inl (undetermined-is old v low d)
        go true d false s x = inr (λ same. true≢false (sym (ap (eq_z (old v)) (sym same) ∙ eq_z-self (old v)) ∙ s))
        go true d true s x = absurd (true≢false x)

    is-stale : Stale t old v → stored_fresh t old v ≡ false
    is-stale (chain, side) = ap (λ c. not c || (determined t old v && eq_z (old v) (worth t old v))) (chain-closes chain.0 chain.1) ∙ go side
      where
        go : Undetermined t old v ⊎ (old v ≡ worth t old v → ⊥) → (determined t old v && eq_z (old v) (worth t old v)) ≡ false
        go (inl u) = ap (◌&& eq_z (old v) (worth t old v)) (is-undetermined old v low u)
        go (inr differs) = other (determined t old v) (eq_z (old v) (worth t old v)) refl
          where
            other : (d q : Bool) → eq_z (old v) (worth t old v) ≡ q → (d && q) ≡ false
            other d true e = absurd (differs (eq_z-yes (old v) (worth t old v) e))
            other true false e = refl
            other false false e = refl

-- ── an answer by a table in which such a line stands behind `before` ──
-- what holds of a variable is that the line fails there
module _ (k n : ℕ) (good : ℕ → Bool) (holds : ℕ → Type 0) (before after : List Line) (count : ℕ) (a : Answer) (by : Exactly (before ++ places k n good ∷ after) count a)
    (sound : Passes before → (v : ℕ) → v < n → ((good v ≡ false → holds v) × (holds v → good v ≡ false))) where
  line-given : Passes before → (v : ℕ) → v < n → holds v → number_of a ≡ k
  line-given r v l h = given-at k n good after before count a by r v l ((sound r v l).1 h)

  line-none : number_of a ≡ 0 → (v : ℕ) → v < n → holds v → ⊥
  line-none z v l h = let r = by.accepted-only z in true≢false (sym (passes-good k n good after before r v l) ∙ (sound (passes-before k n good after before r) v l).1 h)

  module _ (x : lacks k before ≡ true) (y : lacks k after ≡ true) (some : 0 < k) (e : number_of a ≡ k) where
    line-only : Passes before
    line-only = (only_at k n good after before count a by x y some e).0

    line-place : LeastOf n holds (place_of a)
    line-place = let (r, least) = only_at k n good after before count a by x y some e in record {
      low = least.low;
      here = (sound r (place_of a) least.low).0 least.here;
      before = λ v l h. let low = least.low in least.before v l ((sound r v (omega arith)).1 h);
    }

module _ (t : Tables) (table before : List Line) (count : ℕ) (a : Answer) (sound : Passes before → Sound t) where
  undetermined-by : (s : Values) → Exactly (before ++ places 20 t.n (determined t s) ∷ []) count a → lacks 20 before ≡ true → before_last table ≡ before → UndeterminedExactly table t s a
  undetermined-by s by x same =
      let says : Passes before → (v : ℕ) → v < t.n → ((determined t s v ≡ false → Undetermined t s v) × (Undetermined t s v → determined t s v ≡ false)) =
      λ r v l. (undetermined-is t (sound r) s v l, is-undetermined t (sound r) s v l) in
      record {
        given = λ r. line-given 20 t.n (determined t s) (Undetermined t s) before [] count a by says (subst Passes same r);
        only = λ e. subst⁻¹ Passes same (line-only 20 t.n (determined t s) (Undetermined t s) before [] count a by says x refl (omega arith) e);
        place = line-place 20 t.n (determined t s) (Undetermined t s) before [] count a by says x refl (omega arith);
        none = line-none 20 t.n (determined t s) (Undetermined t s) before [] count a by says;
      }

  stale-by : (old : Values) (after : List Line) → Exactly (before ++ places 21 t.n (stored_fresh t old) ∷ after) count a → lacks 21 before ≡ true → lacks 21 after ≡ true
      → before_last (before_last table) ≡ before → StaleExactly table t old a
  stale-by old after by x y same =
      let says : Passes before → (v : ℕ) → v < t.n → ((stored_fresh t old v ≡ false → Stale t old v) × (Stale t old v → stored_fresh t old v ≡ false)) =
      λ r v l. (stale-is t (sound r) old v l, is-stale t (sound r) old v l) in
      record {
        given = λ r. line-given 21 t.n (stored_fresh t old) (Stale t old) before after count a by says (subst Passes same r);
        only = λ e. subst⁻¹ Passes same (line-only 21 t.n (stored_fresh t old) (Stale t old) before after count a by says x y (omega arith) e);
        place = line-place 21 t.n (stored_fresh t old) (Stale t old) before after count a by says x y (omega arith);
        none = line-none 21 t.n (stored_fresh t old) (Stale t old) before after count a by says;
      }

-- ── each call ──
pub choices-exactly : ChoicesExactly
choices-exactly = record {
  build = λ l o. let t = l.tables in let before = before_last (build_lines l) in
      undetermined-by t (build_lines l) before t.m (left_built o).answer (sound-by t l.bounds (build_fits l) _ (and_left (sized t) _)) (start_values l) (build-works l o).exactly refl refl;
  trial = λ s w c o. let t = w.tables in let table = trial_lines s w c in let old = stored_values w in let has : trial_fits w c ≡ true → sized t ≡ true = λ e. and_left (sized t) _ (each _ e).0 in (
    undetermined-by t table (before_last table) _ (left_tried o).answer (sound-by t w.bounds (trial_fits w c) _ has) (moved (pairs_of_move c.move) old) (trial-works s w c o).exactly refl refl,
    stale-by t table (before_last (before_last table)) _ (left_tried o).answer (sound-by t w.bounds (trial_fits w c) _ has) old _ (trial-works s w c o).exactly refl refl refl,
  );
  keep = λ s g w c o. let t = w.tables in let table = keep_lines s g w c in let old = stored_values w in let has : keep_fits g w c ≡ true → sized t ≡ true = λ e. and_left (sized t) _ (each _ e).0 in (
    undetermined-by t table (before_last table) _ (left_kept o).answer (sound-by t w.bounds (keep_fits g w c) _ has) (moved (pairs_of_move c.move) old) (keep-works s g w c o).exactly refl refl,
    stale-by t table (before_last (before_last table)) _ (left_kept o).answer (sound-by t w.bounds (keep_fits g w c) _ has) old _ (keep-works s g w c o).exactly refl refl refl,
  );
  take_back = λ s g w c o. let t = w.tables in let table = take_lines s g w c in let old = stored_values w in let has : take_fits g w c ≡ true → sized t ≡ true = λ e. and_left (sized t) _ (each _ e).0 in (
    undetermined-by t table (before_last table) _ (left_taken o).answer (sound-by t w.bounds (take_fits g w c) _ has) (moved (pairs_of_move (latest g c).move) old) (take-works s g w c o).exactly refl refl,
    stale-by t table (before_last (before_last table)) _ (left_taken o).answer (sound-by t w.bounds (take_fits g w c) _ has) old _ (take-works s g w c o).exactly refl refl refl,
  );
}
