-- The sentences hold of the definitions: each formula's law, each reason's, and those of what is determined are the paper's, put in these words.
-- Assumes nothing.
use Prim.Native.Nat.{ℕ, zero, suc, ◌≤◌, ◌<◌}
use native.Mathlib.Nat.{le_of_suc-le-suc, not-suc-le-zero, le_refl}
use native.Mathlib.Omega.{arith}
use mathlib.Core.Bool.{Bool, true, false, cond, not, ◌||◌, false≢true}
use mathlib.Core.List.{List, [], ◌∷◌, Memᴰ}
use mathlib.Core.Path.{◌≡◌, refl, ap, ap₂, sym, ◌∙◌, fun_ext}
use lib.IntN.{ℤ, pos}
use lib.Signed.{lt_z, le_z}
use borrow.Author.Tests.{ltb-true, lt-ltb}
use Rattle.integers.specs.Integers.{eq_z}
use Rattle.integers.proofs.Order.{eq_z-yes, lt_yes, lt_no, yes_le, no_le}
use Rattle.paper.specs.Lists.{all}
use Rattle.paper.specs.Formula.{blank, in_range, some_blank, trips, last, formula}
use Rattle.paper.specs.Net.{Values, runs, able, valuation}
use Rattle.paper.specs.Tables.{Tables, net, inputs_of}
use Rattle.paper.specs.Chains.{worth, needs, determined}
use Rattle.paper.proofs.Lists.{clash}
use Rattle.paper.proofs.Fix.{able-suc}
use Rattle.paper.proofs.Ends.{able-more}
use Rattle.paper.proofs.Lawful.{lawful}
use Rattle.paper.proofs.Needs.{comes-undetermined, undetermined-comes, worth-meets}
use Rattle.paper.proofs.Extreme.{Extreme}
use Rattle.paper.proofs.Windows as window
use Rattle.paper.proofs.Formulas.{blank-law, linear-law, min-law, max-law, min-blank, max-blank, element-law, shared-law, count_law, over-law, departures-law, last-law, partial-sum-leaves}
use Rattle.paper.proofs.Reason.{reason-right}
use Rattle.demands.specs.Sentences.{WindowRight, FarthestValue, FormulasRight, DeterminedExactly, SentencesRight}

-- ── values and blank ──
has_value : (z : ℤ) → in_range z ≡ true → eq_z z blank ≡ false
has_value z e = go (eq_z z blank) refl
  where
    go : (b : Bool) → eq_z z blank ≡ b → b ≡ false
    go true q = let w : in_range blank ≡ true = ap in_range (sym (eq_z-yes z blank q)) ∙ e in absurd (false≢true w)
    go false q = refl

three-values : (a b c : ℤ) → in_range a ≡ true → in_range b ≡ true → in_range c ≡ true → some_blank (a ∷ b ∷ c ∷ []) ≡ false
three-values a b c p q r = ap₂ ◌||◌ (has_value a p) (ap₂ ◌||◌ (has_value b q) (ap (◌|| false) (has_value c r)))

-- ── what lies beyond, by the order both ways ──
not-below : (z x : ℤ) → le_z z x ≡ not (lt_z x z)
not-below z x = go (lt_z x z) refl
  where
    go : (b : Bool) → lt_z x z ≡ b → le_z z x ≡ not b
    go true q = no_le z x (omega (arith, lt_yes x z q))
    go false q = yes_le z x (omega (arith, lt_no x z q))

farthest : (test beyond : ℤ → ℤ → Bool) → ((z x : ℤ) → test z x ≡ not (beyond x z)) → (z : ℤ) (xs : List ℤ) → Extreme test z xs → FarthestValue beyond z xs
farthest test beyond same z xs e = record {
  one = e.one;
  has_value = e.has_value;
  none-beyond = ap (λ (f : ℤ → Bool). all (λ x. eq_z x blank || f x) xs) (fun_ext (λ x. sym (same z x))) ∙ e.none-beyond;
}

-- ── windows ──
module _ (param : ℤ) (coefs : List ℤ) (start end headway : ℤ) where
  abbrev inputs : List ℤ
  inputs = start ∷ end ∷ headway ∷ []

  window-right : in_range start ≡ true → in_range end ≡ true → in_range headway ≡ true → lt_z (pos 0) headway ≡ true → WindowRight start end headway (formula 8 param coefs inputs) (formula 9 param coefs inputs)
  window-right from to has above = record {
    number = trips start end headway;
    counted = λ k. (
      λ l. window.counted start end headway above k ∙ lt-ltb k (trips start end headway) l,
      λ b. ltb-true k (trips start end headway) (sym (window.counted start end headway above k) ∙ b),
    );
    is_number = departures-law param coefs start end headway full ∙ window.departures-is start end headway above;
    is-greatest = λ l. let z = window.latest start end headway above l in record {
      which = z.which;
      is = is ∙ z.is;
      before = ap (λ x. lt_z x end) is ∙ z.before;
      none-later = λ k b. ap (le_z (window.time start headway k)) is ∙ z.none-later k b;
    };
    none = (λ b. (window.last-blank start end headway above from to).0 (sym is ∙ b), λ n. is ∙ (window.last-blank start end headway above from to).1 n);
    never-leaves = λ l. ap in_range is ∙ window.last-in start end headway above from to l;
  }
    where
      full : some_blank (start ∷ end ∷ headway ∷ []) ≡ false
      full = three-values start end headway from to has

      is : formula 9 param coefs (start ∷ end ∷ headway ∷ []) ≡ last start end headway
      is = last-law param coefs start end headway full

formulas-right : (param : ℤ) (coefs : List ℤ) → FormulasRight param coefs
formulas-right param coefs = record {
  blank-input = λ kind xs k e. blank-law kind param coefs xs k e;
  linear = linear-law param coefs;
  min = λ xs some. farthest le_z lt_z not-below (formula 2 param coefs xs) xs (min-law param coefs xs some);
  min-blank = min-blank param coefs;
  max = λ xs some. farthest (λ z x. le_z x z) (λ x z. lt_z z x) (λ z x. not-below x z) (formula 3 param coefs xs) xs (max-law param coefs xs some);
  max-blank = max-blank param coefs;
  element = element-law param coefs;
  shared = shared-law param coefs;
  count = count_law param coefs;
  over = over-law param coefs;
  window = window-right param coefs;
  no-headway = λ start end headway full q. let none = window.no-headway start end headway q in
      (departures-law param coefs start end headway full ∙ none.0, last-law param coefs start end headway full ∙ none.1);
}

-- ── determined ──
module _ (t : Tables) (s start : Values) where
  -- k uses of the rule are enough where chains of what is needed end within k
  from_start : (k j v : ℕ) → k ≤ t.n → k ≤ j → able (needs t s) k v ≡ true → runs (valuation (net t) s) start j v ≡ worth t s v
  unfolding runs determined
  from_start zero j v h l e = absurd (false≢true e)
  from_start (suc k) zero v h l e = absurd (not-suc-le-zero l)
  from_start (suc k) (suc j) v h l e =
      ap (λ z. cond ((net t).made v) z (s v))
      (sym ((lawful t).looks v (worth t s) (runs (valuation (net t) s) start j)
      (λ i m. sym (from_start k j i (omega arith) (le_of_suc-le-suc l) (able-suc (needs t s) k v e m)))))
      ∙ sym (worth-meets t s v (able-more (needs t s) (suc k) t.n v h e))

determined-right : (t : Tables) → ((v i : ℕ) → Memᴰ i (inputs_of t v) → i < t.n) → (s : Values) (v : ℕ) → v < t.n → DeterminedExactly t s v
unfolding determined
determined-right t below s v low = record {
  ends = λ e u. clash e (comes-undetermined t s v u);
  round = λ e. undetermined-comes t s below v low e;
  from-anywhere = λ e start. from_start t s start t.n t.n v (le_refl t.n) (le_refl t.n) e;
}

pub sentences-right : SentencesRight
sentences-right = record { formulas = formulas-right; partial-sum = partial-sum-leaves; reasons = reason-right; determined = determined-right }
