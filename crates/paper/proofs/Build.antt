-- Build: an accepted one leaves what the paper says, and it refuses with 6 exactly if some closed chain is not permitted, at the least variable on one.
-- Assumes nothing.
use Prim.Native.Nat.{ℕ, ◌<◌}
use native.Mathlib.Omega.{arith}
use mathlib.Core.Bool.{Bool, true, false, true≢false, false≢true}
use mathlib.Core.List.{◌++◌}
use mathlib.Core.Logic.{◌⊎◌, inl, inr}
use mathlib.Core.Path.{◌≡◌, refl, ap, sym, ◌∙◌, subst}
use lib.Dec.{ltb}
use lib.ListN.{set, drop}
use borrow.Author.Tests.{ltb-true, ltb-false}
use Rattle.paper.specs.Lists.{first_fail, over}
use Rattle.paper.specs.Net.{valuation}
use Rattle.paper.specs.Tables.{Tables, net, inputs_of, index}
use Rattle.paper.specs.Chains.{permitted, group_numbering, group_number, group_order, worth, determined, Barred, Circular, LeastOf}
use Rattle.paper.specs.Checks.{Verdict, accepted, refused, check, require, sized, table_lines, start_allowed, Sound, by_lines}
use Rattle.paper.specs.Reason.{reason_of}
use Rattle.paper.specs.Calls.{blanks_among, Accepted, number_of, place_of, BuildLent, BuildLeft, build_fits, start_values, build_verdict, build_leaves, build}
use Rattle.paper.proofs.Lists.{and_left}
use Rattle.paper.proofs.Least.{first_fail-before, first_fail-fails}
use Rattle.paper.proofs.Verdicts.{refused-not, check-stops, check-other, check-own, require-next, require-rest, require-held, require-other}
use Rattle.paper.proofs.Sizes.{sized-facts}
use Rattle.paper.proofs.Accept.{BoundsGood, tables-next, tables-passed, tables-other, inputs-below}
use Rattle.paper.proofs.Depends.{depends-low}
use Rattle.paper.proofs.Needs.{worth-meets}
use Rattle.paper.proofs.Groups.{group-equation}
use Rattle.paper.proofs.Permitted.{chain-depends, permitted-exactly}
use Rattle.paper.proofs.Known.{BuildKnown, build-known}
use Rattle.paper.proofs.Outcomes.{build-judged}

-- ── a variable passes the test exactly if it is on no closed chain that is not permitted ──
module _ (t : Tables) (s : Sound t) (v : ℕ) where
  pub barred-low : Barred t v → v < t.n
  barred-low c = depends-low (inputs_of t) t.n (inputs-below t s) (chain-depends t c.chain)

  pub permitted-clear : permitted t v ≡ true → Barred t v → ⊥
  permitted-clear e c = let h = (permitted-exactly t (inputs-below t s) v).each e c.candidate c.index c.chain in go h.0 h.1 c.barred
    where
      go : c.candidate ≡ true → c.index ≡ false → (c.candidate ≡ false) ⊎ (c.index ≡ true) → ⊥
      go p q (inl z) = true≢false (sym p ∙ z)
      go p q (inr z) = false≢true (sym q ∙ z)

  pub barred-of : permitted t v ≡ false → Barred t v
  barred-of e = let (c, x, d, h) = (permitted-exactly t (inputs-below t s) v).some e in record { candidate = c; index = x; chain = d; barred = h }

module _ (b : BuildLent) where
  abbrev t : Tables
  t = b.tables

  -- checks 1 to 5 are passed
  abbrev pub FivePassed : Type 0
  FivePassed = require 1 0 (build_fits b) (by_lines (table_lines t b.bounds) accepted) ≡ accepted

  pub record BuildRight : Type 0 where
    pub not-circular : Circular t → ⊥
    -- the numbers are the paper's: 0 at search variables, 1 plus the greatest among the inputs of a group from outside it at made ones
    pub numbers : (build b).numbers ≡ over t.n (group_number t) b.numbers
    pub numbers-meet : (v : ℕ) → group_number t v ≡ group_numbering t (group_number t) v
    pub ordered : (build b).order ≡ group_order t ++ drop t.m b.order
    -- the index has the rows that read each variable
    pub indexed : (build b).index ≡ index t b.index
    -- the stored values are the start values at search variables, and the formula over the inputs' at made ones
    pub stored : (build b).stored ≡ over t.n (worth t (start_values b)) b.stored
    pub stored-meet : (v : ℕ) → worth t (start_values b) v ≡ valuation (net t) (start_values b) (worth t (start_values b)) v
    -- working any variable out ends
    pub determined : (v : ℕ) → determined t (start_values b) v ≡ true
    pub session : (build b).session ≡ record { kept = 0; evaluations = t.m; blanks = blanks_among t.n (worth t (start_values b)) }
    pub reasons : (build b).reasons ≡ over t.n (λ v. reason_of t v (worth t (start_values b))) b.reasons
    -- the log is empty
    pub empty : (build b).log_sizes ≡ set b.log_sizes 0 0
    pub answer : (build b).answer ≡ Accepted t.m

  -- the least variable on a closed chain that is not permitted
  abbrev least : ℕ
  least = first_fail (permitted t) t.n

  -- ── an accepted build ──
  pub build-right : number_of (build b).answer ≡ 0 → BuildRight
  build-right ok = record {
    not-circular = λ c. permitted-clear t known.sound c.0 (known.permitted c.0 (barred-low t known.sound c.0 c.1)) c.1;
    numbers = ap (λ (x : BuildLeft). x.numbers) left;
    numbers-meet = group-equation t (inputs-below t known.sound) (sized-facts t known.sound.sized).n-some;
    ordered = ap (λ (x : BuildLeft). x.order) left;
    indexed = ap (λ (x : BuildLeft). x.index) left;
    stored = ap (λ (x : BuildLeft). x.stored) left;
    stored-meet = λ v. worth-meets t (start_values b) v (known.determined v);
    determined = known.determined;
    session = ap (λ (x : BuildLeft). x.session) left;
    reasons = ap (λ (x : BuildLeft). x.reasons) left;
    empty = ap (λ (x : BuildLeft). x.log_sizes) left;
    answer = ap (λ (x : BuildLeft). x.answer) left;
  }
    where
      known : BuildKnown b
      known = build-known b ((build-judged b).good ok)

      left : build b ≡ build_leaves b accepted
      left = (build-judged b).is accepted ((build-judged b).good ok)

  -- ── checks 1 to 5 ──
  pub record Five : Type 0 where
    pub fits : build_fits b ≡ true
    pub sound : Sound t
    pub bounds : BoundsGood t b.bounds

  five : FivePassed → Five
  five e =
      let fits = require-held 1 0 (build_fits b) _ e in let p = tables-passed t b.bounds (and_left (sized t) _ fits) accepted (require-rest 1 0 (build_fits b) _ e) in
      record { fits = fits; sound = p.0; bounds = p.1 }

  five-passed : Five → FivePassed
  five-passed f = require-next 1 0 (build_fits b) _ f.fits ∙ tables-next t b.bounds f.sound f.bounds accepted

  -- once they are passed, 6, 7 and 20 decide
  abbrev last : Verdict
  last = check 7 t.n (start_allowed t b.bounds (start_values b)) (check 20 t.n (determined t (start_values b)) accepted)

  late : Five → build_verdict b ≡ check 6 t.n (permitted t) last
  unfolding build_verdict
  late f = require-next 1 0 (build_fits b) _ f.fits ∙ tables-next t b.bounds f.sound f.bounds _

  -- ── refusal 6 ──
  circular-six : Five → Circular t → build_verdict b ≡ refused 6 least
  circular-six f (v, c) = late f ∙ check-stops 6 t.n (permitted t) _ least refl (go (ltb least t.n) refl)
    where
      go : (x : Bool) → ltb least t.n ≡ x → least < t.n
      go true q = ltb-true least t.n q
      go false q =
          let far = ltb-false least t.n q in let low = barred-low t f.sound v c in
          absurd (permitted-clear t f.sound v (first_fail-before (permitted t) t.n v (omega arith)) c)

  pub record Six (p : ℕ) : Type 0 where
    pub five : Five
    pub low : least < t.n
    pub place : least ≡ p

  six : (p : ℕ) → build_verdict b ≡ refused 6 p → Six p
  unfolding build_verdict
  six p e =
      let r₁ = require-other 1 0 (build_fits b) _ 6 p (λ q. omega arith) e in
      let r₅ = tables-other t b.bounds (and_left (sized t) _ r₁.0) _ 6 p (omega arith) r₁.1 in
      let r₆ = check-own 6 t.n (permitted t) _ p later r₅.2 in
      record { five = record { fits = r₁.0; sound = r₅.0; bounds = r₅.1 }; low = r₆.0; place = r₆.1 }
    where
      later : last ≡ refused 6 p → ⊥
      later h =
          let seven = check-other 7 t.n (start_allowed t b.bounds (start_values b)) _ 6 p (λ q. omega arith) h in
          refused-not (sym (check-other 20 t.n (determined t (start_values b)) accepted 6 p (λ q. omega arith) seven.1).1)

  -- the answer's number and place are the verdict's
  answer-six : number_of (build b).answer ≡ 6 → Six (place_of (build b).answer)
  answer-six h = go (build_verdict b) refl
    where
      go : (v : Verdict) → build_verdict b ≡ v → Six (place_of (build b).answer)
      go accepted e = let q = ap (λ (x : BuildLeft). number_of x.answer) ((build-judged b).is accepted e) in absurd (omega arith)
      go (refused c p) e =
          let q = (build-judged b).is (refused c p) e in
          let is-six : c ≡ 6 = sym (ap (λ (x : BuildLeft). number_of x.answer) q) ∙ h in
          subst Six (sym (ap (λ (x : BuildLeft). place_of x.answer) q)) (six p (e ∙ ap (λ z. refused z p) is-six))

  least-barred : Five → least < t.n → LeastOf t.n (Barred t) least
  least-barred f low = record {
    low = low;
    here = barred-of t f.sound least (first_fail-fails (permitted t) t.n low);
    before = λ v l. permitted-clear t f.sound v (first_fail-before (permitted t) t.n v l);
  }

  pub circular-given : FivePassed → Circular t → number_of (build b).answer ≡ 6
  circular-given e c = ap (λ (x : BuildLeft). number_of x.answer) ((build-judged b).is (refused 6 least) (circular-six (five e) c))

  pub circular-only : number_of (build b).answer ≡ 6 → FivePassed × Circular t
  circular-only h = let k = answer-six h in (five-passed k.five, (least, (least-barred k.five k.low).here))

  pub circular-place : number_of (build b).answer ≡ 6 → LeastOf t.n (Barred t) (place_of (build b).answer)
  circular-place h = let k = answer-six h in subst (LeastOf t.n (Barred t)) k.place (least-barred k.five k.low)
