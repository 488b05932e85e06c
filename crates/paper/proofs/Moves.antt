-- Two moves with no variable in common give the same values in either order, and so does one move of all their pairs: each variable has one
-- pair, or none. An accepted keep leaves a model that passes the checks that it passed before. Assumes nothing.
use Prim.Native.Nat.{ℕ, zero, suc, ◌+◌, ◌-◌, ◌≤◌, ◌<◌}
use native.Mathlib.Nat.{not-suc-le-zero}
use native.Mathlib.Omega.{arith}
use mathlib.Core.Bool.{Bool, true, false, cond, not, ◌&&◌, ◌||◌, true≢false, false≢true}
use mathlib.Core.List.{List, [], ◌∷◌, ◌++◌}
use mathlib.Core.Logic.{◌⊎◌, inl, inr}
use mathlib.Core.Path.{◌≡◌, refl, ap, ap₂, sym, ◌∙◌, fun_ext, subst}
use lib.IntN.{ℤ, pos}
use lib.Dec.{eqb, ltb}
use lib.ListN.{length, get_or, take, length-append, get_or-append}
use lib.Seq.{length-take-le, get_or-take, get_or-append-add}
use borrow.Author.Tests.{ltb-true, ltb-false, lt-ltb, le-leb, eqb-true, eq-eqb, ne_eqb, not-true}
use Rattle.integers.specs.Integers.{eq_z}
use Rattle.paper.specs.Lists.{any, nat, below}
use Rattle.paper.specs.Formula.{blank}
use Rattle.paper.specs.Net.{Net, Values, Route, input-to-output, runs, new, moved, names}
use Rattle.paper.specs.Tables.{Tables, net, is_made, values_in}
use Rattle.paper.specs.Chains.{determined, groups_numbered, stored_fresh}
use Rattle.paper.specs.Checks.{Verdict, accepted, Bounds, within, indexed, stored_good, in_bounds, stored_allowed, Move, pairs_of_move, move_fits, movable, named_once, has_value, pair_within, fresh_lines, by_lines}
use Rattle.paper.specs.Log.{Log, logged, log_fits, log_good}
use Rattle.paper.specs.Reason.{reason_kept}
use Rattle.paper.specs.Calls.{Session, blanks_among, new_values, evaluates, Model, model_fits, model_lines, stored_values, KeepLent, kept_blanks, kept_stored, kept_reasons, keep_fits, keep_verdict, latest, TakeLent, take_fits, take_verdict}
use Rattle.paper.proofs.Lists.{clash, eqb-self, all_yes, any_at}
use Rattle.paper.proofs.Buffers.{length-below, get_d-below, over-length, over-front}
use Rattle.paper.proofs.Scan.{any_append}
use Rattle.paper.proofs.Verdicts.{check-next, require-next}
use Rattle.paper.proofs.Accept.{tables-next}
use Rattle.paper.proofs.Sizes.{sized-facts}
use Rattle.paper.proofs.Fresh.{unnamed}
use Rattle.paper.proofs.Closes.{groups_of}
use Rattle.paper.proofs.Count.{size_same}
use Rattle.paper.proofs.Known.{ModelKnown, BlanksKnown, MoveKnown}
use Rattle.paper.specs.Moves.{pair_at, Has, Apart, AllPairs, both_moves}

-- ── tests and pairs ──
not_so : (x : Bool) → (x ≡ true → ⊥) → x ≡ false
not_so true h = absurd (h refl)
not_so false h = refl

any_none : {A : Type 0} (p : A → Bool) (xs : List A) (d : A) → ((i : ℕ) → i < length xs → p (get_or xs i d) ≡ false) → any p xs ≡ false
any_none p [] d h = refl
any_none p (x ∷ xs) d h = ap₂ ◌||◌ (h 0 (omega arith)) (any_none p xs d (λ i l. h (suc i) (omega arith)))

pub pair_same : {x y : ℕ} {p q : ℤ} → x ≡ y → p ≡ q → ◌≡◌ {A = ℕ × ℤ} (x, p) (y, q)
pair_same e h = λ i. (e i, h i)

-- ── pairs put into values ──
-- a variable that is named has its new value whatever stood there
named : (mv : List (ℕ × ℤ)) (s t : Values) (v : ℕ) → names mv v ≡ true → moved mv s v ≡ moved mv t v
named [] s t v e = absurd (false≢true e)
named (p ∷ ps) s t v e = go (eqb p.0 v) e (named ps s t v)
  where
    go : (b : Bool) → (b || names ps v) ≡ true → (names ps v ≡ true → moved ps s v ≡ moved ps t v) → cond b p.1 (moved ps s v) ≡ cond b p.1 (moved ps t v)
    go true h ih = refl
    go false h ih = ih h

-- pairs that name no variable of the others, in either order
swapped : (a b : List (ℕ × ℤ)) (s : Values) → ((v : ℕ) → names a v ≡ true → names b v ≡ false) → (v : ℕ) → moved a (moved b s) v ≡ moved b (moved a s) v
swapped a b s apart v = go (names a v) refl (names b v) refl
  where
    go : (x : Bool) → names a v ≡ x → (y : Bool) → names b v ≡ y → moved a (moved b s) v ≡ moved b (moved a s) v
    go true p y q = named a (moved b s) s v p ∙ sym (unnamed b (moved a s) v (apart v p))
    go false p true q = unnamed a (moved b s) v p ∙ named b s (moved a s) v q
    go false p false q = unnamed a (moved b s) v p ∙ unnamed b s v q ∙ sym (unnamed b (moved a s) v q ∙ unnamed a s v p)

moved-append : (xs ys : List (ℕ × ℤ)) (s : Values) (v : ℕ) → moved (xs ++ ys) s v ≡ moved xs (moved ys s) v
moved-append [] ys s v = refl
moved-append (p ∷ ps) ys s v = ap (cond (eqb p.0 v) p.1) (moved-append ps ys s v)

-- ── pairs by their places ──
module _ (f : ℕ → ℕ × ℤ) where
  -- a variable that is named has the value of a pair that names it
  moved-place : (n : ℕ) (s : Values) (v : ℕ) → names (below f n) v ≡ true → (i : ℕ) × (i < n) × (f i ≡ (v, moved (below f n) s v))
  moved-place zero s v e = absurd (false≢true e)
  moved-place (suc n) s v e =
      go (names (below f n) v) refl (eqb (f n).0 v) refl (sym (any_append (λ (p : ℕ × ℤ). eqb p.0 v) (below f n) (f n ∷ [])) ∙ e) (moved-place n (moved (f n ∷ []) s) v)
    where
      go : (b : Bool) → names (below f n) v ≡ b → (c : Bool) → eqb (f n).0 v ≡ c → (b || (c || false)) ≡ true
          → (names (below f n) v ≡ true → (i : ℕ) × (i < n) × (f i ≡ (v, moved (below f n) (moved (f n ∷ []) s) v)))
          → (i : ℕ) × (i < suc n) × (f i ≡ (v, moved (below f n ++ (f n ∷ [])) s v))
      go true q c r h more = let (i, l, e') = more q in (i, omega arith, e' ∙ pair_same refl (sym (moved-append (below f n) (f n ∷ []) s v)))
      go false q true r h more = (
        n,
        omega arith,
        pair_same (eqb-true (f n).0 v r)
            (sym (moved-append (below f n) (f n ∷ []) s v ∙ unnamed (below f n) (moved (f n ∷ []) s) v q ∙ ap (λ c. cond c (f n).1 (s v)) r)),
      )
      go false q false r h more = absurd (false≢true h)

  -- each place names its variable
  names-place : (n i : ℕ) → i < n → names (below f n) (f i).0 ≡ true
  names-place n i l = go (names (below f n) (f i).0) refl
    where
      go : (b : Bool) → names (below f n) (f i).0 ≡ b → b ≡ true
      go true e = refl
      go false e = let k = length-below f n in
          clash (eqb-self (f i).0) (sym (ap (λ (p : ℕ × ℤ). eqb p.0 (f i).0) (get_d-below f n i (f i) l))
          ∙ any_at (λ (p : ℕ × ℤ). eqb p.0 (f i).0) (below f n) e i (f i) (omega arith))

  -- where no two places name the same variable, each gives its value
  moved_at : (n : ℕ) → ((i k : ℕ) → i < n → k < n → (f i).0 ≡ (f k).0 → i ≡ k) → (s : Values) (i : ℕ) → i < n → moved (below f n) s (f i).0 ≡ (f i).1
  moved_at n single s i l = let (k, h, e) = moved-place n s (f i).0 (names-place n i l) in
      sym (ap (λ (p : ℕ × ℤ). p.1) e) ∙ ap (λ j. (f j).1) (single k i h l (ap (λ (p : ℕ × ℤ). p.0) e))

-- ── a move ──
named-has : (mv : Move) (s : Values) (v : ℕ) → names (pairs_of_move mv) v ≡ true → Has mv (v, moved (pairs_of_move mv) s v)
named-has mv s v e = let (i, l, q) = moved-place (pair_at mv) mv.pairs s v e in record { place = i; low = l; is = q }

has-names : (mv : Move) (p : ℕ × ℤ) → Has mv p → names (pairs_of_move mv) p.0 ≡ true
has-names mv p h = subst (λ (q : ℕ × ℤ). names (pairs_of_move mv) q.0 ≡ true) h.is (names-place (pair_at mv) mv.pairs h.place h.low)

-- the move that takes one back: its variables, with the values before it
abbrev pub undo : Values → Move → Move
undo old mv = record { pairs = mv.pairs; vars = mv.vars; values = below (λ i. old (nat mv.vars i)) mv.pairs }

-- it does take it back, where the values before it are those that it was put into
pub taken_back : (mv : Move) (old s : Values) → ((i : ℕ) → i < mv.pairs → old (nat mv.vars i) ≡ s (nat mv.vars i))
    → moved (pairs_of_move (undo old mv)) (moved (pairs_of_move mv) s) ≡ s
taken_back mv old s same = fun_ext (λ v. go v (names (pairs_of_move (undo old mv)) v) refl)
  where
    go : (v : ℕ) (x : Bool) → names (pairs_of_move (undo old mv)) v ≡ x → moved (pairs_of_move (undo old mv)) (moved (pairs_of_move mv) s) v ≡ s v
    go v true q =
        let h = named-has (undo old mv) (moved (pairs_of_move mv) s) v q in
        sym (ap (λ (p : ℕ × ℤ). p.1) h.is) ∙ get_d-below (λ i. old (nat mv.vars i)) mv.pairs h.place (pos 0) h.low
        ∙ same h.place h.low ∙ ap (λ (p : ℕ × ℤ). s p.0) h.is
    go v false q = unnamed (pairs_of_move (undo old mv)) (moved (pairs_of_move mv) s) v q ∙ unnamed (pairs_of_move mv) s v (not_so (names (pairs_of_move mv) v) (λ e.
        let h = named-has mv s v e in
        clash (subst (λ (p : ℕ × ℤ). names (pairs_of_move (undo old mv)) p.0 ≡ true) h.is (names-place (pair_at (undo old mv)) mv.pairs h.place h.low)) q))

module _ (t : Tables) (bs : Bounds) (mv : Move) (known : MoveKnown t bs mv) where
  pub movable-at : (i : ℕ) → i < mv.pairs → movable mv t i ≡ true
  movable-at i l = ap₂ ◌&&◌ (lt-ltb (nat mv.vars i) t.n (known.low i l)) (ap not (known.search i l))

  -- an accepted move names each variable at one place
  earlier : (i k : ℕ) → i < k → k < mv.pairs → nat mv.vars i ≡ nat mv.vars k → ⊥
  earlier i k l h e =
      let long = known.vars-long in
      let len : length (take k mv.vars) ≡ k = length-take-le k mv.vars (omega arith) in
      let out = any_at (eqb (nat mv.vars k)) (take k mv.vars) (known.once k h) i 0 (omega arith) in
      clash (eq-eqb (nat mv.vars k) (nat mv.vars i) (sym e)) (rw (get_or-take k mv.vars i 0 l) at out)

  single : (i k : ℕ) → i < mv.pairs → k < mv.pairs → nat mv.vars i ≡ nat mv.vars k → i ≡ k
  single i k l h e = go (ltb i k) refl (ltb k i) refl
    where
      go : (x : Bool) → ltb i k ≡ x → (y : Bool) → ltb k i ≡ y → i ≡ k
      go true q y r = absurd (earlier i k (ltb-true i k q) h e)
      go false q true r = absurd (earlier k i (ltb-true k i r) l (sym e))
      go false q false r = let a = ltb-false i k q in let b = ltb-false k i r in omega arith

  at_place : (s : Values) (i : ℕ) → i < mv.pairs → moved (pairs_of_move mv) s (pair_at mv i).0 ≡ (pair_at mv i).1
  at_place s i l = moved_at (pair_at mv) mv.pairs single s i l

-- ── two moves ──
module _ (t : Tables) (bs : Bounds) (a b : Move) (known-a : MoveKnown t bs a) (known-b : MoveKnown t bs b) (apart : Apart a b) where
  apart-names : (v : ℕ) → names (pairs_of_move a) v ≡ true → names (pairs_of_move b) v ≡ true → ⊥
  apart-names v e q =
      let p = named-has a (λ u. pos 0) v e in let r = named-has b (λ u. pos 0) v q in
      apart.differ p.place r.place p.low r.low (ap (λ (z : ℕ × ℤ). z.0) p.is ∙ sym (ap (λ (z : ℕ × ℤ). z.0) r.is))

  -- in either order
  pub either_order : (s : Values) → moved (pairs_of_move a) (moved (pairs_of_move b) s) ≡ moved (pairs_of_move b) (moved (pairs_of_move a) s)
  either_order s = fun_ext (swapped (pairs_of_move a) (pairs_of_move b) s (λ v e. not_so (names (pairs_of_move b) v) (apart-names v e)))

  -- as one
  module _ (one : Move) (all : AllPairs a b one) where
    -- what holds of each pair of the two holds of each pair of the one
    each-pair : (P : ℕ × ℤ → Type 0) → ((i : ℕ) → i < a.pairs → P (pair_at a i)) → ((i : ℕ) → i < b.pairs → P (pair_at b i)) → (i : ℕ) → i < one.pairs → P (pair_at one i)
    each-pair P p q i l = go (all.no_other i l)
      where
        go : Has a (pair_at one i) ⊎ Has b (pair_at one i) → P (pair_at one i)
        go (inl h) = subst P h.is (p h.place h.low)
        go (inr h) = subst P h.is (q h.place h.low)

    both_at : (s : Values) (i : ℕ) → i < one.pairs → moved (pairs_of_move a) (moved (pairs_of_move b) s) (pair_at one i).0 ≡ (pair_at one i).1
    both_at s = each-pair (λ p. moved (pairs_of_move a) (moved (pairs_of_move b) s) p.0 ≡ p.1) (at_place t bs a known-a (moved (pairs_of_move b) s)) (λ i l.
        unnamed (pairs_of_move a) (moved (pairs_of_move b) s) (nat b.vars i)
        (not_so (names (pairs_of_move a) (nat b.vars i)) (λ e. apart-names (nat b.vars i) e (names-place (pair_at b) b.pairs i l)))
        ∙ at_place t bs b known-b s i l)

    -- a move all of whose pairs are among the one's names no other variable
    among : (mv : Move) → ((i : ℕ) → i < mv.pairs → Has one (pair_at mv i)) → (v : ℕ) → names (pairs_of_move one) v ≡ false → names (pairs_of_move mv) v ≡ false
    among mv has v e = not_so (names (pairs_of_move mv) v) (λ q.
        let h = named-has mv (λ u. pos 0) v q in
        clash (subst (λ (p : ℕ × ℤ). names (pairs_of_move one) p.0 ≡ true) h.is (has-names one (pair_at mv h.place) (has h.place h.low))) e)

    pub as_one : (s : Values) → moved (pairs_of_move one) s ≡ moved (pairs_of_move a) (moved (pairs_of_move b) s)
    as_one s = fun_ext (λ v. go v (names (pairs_of_move one) v) refl)
      where
        go : (v : ℕ) (x : Bool) → names (pairs_of_move one) v ≡ x → moved (pairs_of_move one) s v ≡ moved (pairs_of_move a) (moved (pairs_of_move b) s) v
        go v true e = let h = named-has one s v e in
            sym (subst (λ (p : ℕ × ℤ). moved (pairs_of_move a) (moved (pairs_of_move b) s) p.0 ≡ p.1) h.is (both_at s h.place h.low))
        go v false e =
            unnamed (pairs_of_move one) s v e
            ∙ sym (unnamed (pairs_of_move a) (moved (pairs_of_move b) s) v (among a all.of-first v e) ∙ unnamed (pairs_of_move b) s v (among b all.of-second v e))

    -- and it passes the checks that the two pass
    same-pair : (i k : ℕ) → i < one.pairs → k < one.pairs → nat one.vars i ≡ nat one.vars k → pair_at one i ≡ pair_at one k
    same-pair i k l h e = let s : Values = λ u. pos 0 in
        pair_same e (sym (both_at s i l) ∙ ap (moved (pairs_of_move a) (moved (pairs_of_move b) s)) e ∙ both_at s k h)

    pub one_known : MoveKnown t bs one
    one_known = record {
      few = all.few;
      vars-long = all.vars-long;
      values-long = all.values-long;
      low = each-pair (λ p. p.0 < t.n) known-a.low known-b.low;
      search = each-pair (λ p. is_made t p.0 ≡ false) known-a.search known-b.search;
      once = λ i l. any_none (eqb (nat one.vars i)) (take i one.vars) 0 (λ k h.
          let long = all.vars-long in
          let len : length (take i one.vars) ≡ i = length-take-le i one.vars (omega arith) in
          let low : k < i = omega arith in
          ap (eqb (nat one.vars i)) (get_or-take i one.vars k 0 low)
          ∙ ne_eqb (nat one.vars i) (nat one.vars k) (λ e. all.once k i low l (same-pair k i (omega arith) l (sym e))));
      full = each-pair (λ p. eq_z p.1 blank ≡ false) known-a.full known-b.full;
      inside = each-pair (λ p. within bs p.0 p.1 ≡ true) known-a.inside known-b.inside;
    }

  -- ── the pairs of the first and then those of the second ──
  first-at : (i : ℕ) → i < a.pairs → pair_at (both_moves a b) i ≡ pair_at a i
  first-at i l =
      let h = known-a.vars-long in let k = known-a.values-long in
      let p = length-take-le a.pairs a.vars h in let q = length-take-le a.pairs a.values k in
      pair_same
      (get_or-append (take a.pairs a.vars) (take b.pairs b.vars) 0 i (omega arith) ∙ get_or-take a.pairs a.vars i 0 l)
      (get_or-append (take a.pairs a.values) (take b.pairs b.values) (pos 0) i (omega arith) ∙ get_or-take a.pairs a.values i (pos 0) l)

  second_at : (i : ℕ) → i < b.pairs → pair_at (both_moves a b) (a.pairs + i) ≡ pair_at b i
  second_at i l =
      pair_same
      (ap (λ k. nat (both_moves a b).vars (k + i)) (sym (length-take-le a.pairs a.vars known-a.vars-long))
      ∙ get_or-append-add (take a.pairs a.vars) (take b.pairs b.vars) i 0 ∙ get_or-take b.pairs b.vars i 0 l)
      (ap (λ k. get_or (both_moves a b).values (k + i) (pos 0)) (sym (length-take-le a.pairs a.values known-a.values-long))
      ∙ get_or-append-add (take a.pairs a.values) (take b.pairs b.values) i (pos 0) ∙ get_or-take b.pairs b.values i (pos 0) l)

  later-at : (i : ℕ) → a.pairs ≤ i → i < a.pairs + b.pairs → pair_at (both_moves a b) i ≡ pair_at b (i - a.pairs)
  later-at i h l = let e : i ≡ a.pairs + (i - a.pairs) = omega arith in ap (pair_at (both_moves a b)) e ∙ second_at (i - a.pairs) (omega arith)

  pub joined-all : a.pairs + b.pairs ≤ 64 → AllPairs a b (both_moves a b)
  joined-all few = record {
    of-first = λ i l. record { place = i; low = omega arith; is = first-at i l };
    of-second = λ i l. record { place = a.pairs + i; low = omega arith; is = second_at i l };
    no_other = λ i l. other i l (ltb i a.pairs) refl;
    once = λ i k l h e. twice i k l h (ap (λ (p : ℕ × ℤ). p.0) e) (ltb i a.pairs) refl (ltb k a.pairs) refl;
    few = few;
    vars-long = long a.vars b.vars known-a.vars-long known-b.vars-long;
    values-long = long a.values b.values known-a.values-long known-b.values-long;
  }
    where
      long : {A : Type 0} (xs ys : List A) → a.pairs ≤ length xs → b.pairs ≤ length ys → a.pairs + b.pairs ≤ length (take a.pairs xs ++ take b.pairs ys)
      long xs ys h k =
          let p = length-append (take a.pairs xs) (take b.pairs ys) in
          let q = length-take-le a.pairs xs h in let r = length-take-le b.pairs ys k in omega arith

      other : (i : ℕ) → i < a.pairs + b.pairs → (x : Bool) → ltb i a.pairs ≡ x → Has a (pair_at (both_moves a b) i) ⊎ Has b (pair_at (both_moves a b) i)
      other i l true q = let h = ltb-true i a.pairs q in inl (record { place = i; low = h; is = sym (first-at i h) })
      other i l false q = let h = ltb-false i a.pairs q in inr (record { place = i - a.pairs; low = omega arith; is = sym (later-at i h l) })

      twice : (i k : ℕ) → i < k → k < a.pairs + b.pairs → (pair_at (both_moves a b) i).0 ≡ (pair_at (both_moves a b) k).0
          → (x : Bool) → ltb i a.pairs ≡ x → (y : Bool) → ltb k a.pairs ≡ y → ⊥
      twice i k l h e x q true r =
          let y = ltb-true k a.pairs r in let z : i < a.pairs = omega arith in
          earlier t bs a known-a i k l y (sym (ap (λ (p : ℕ × ℤ). p.0) (first-at i z)) ∙ e ∙ ap (λ (p : ℕ × ℤ). p.0) (first-at k y))
      twice i k l h e true q false r =
          let z = ltb-true i a.pairs q in let y = ltb-false k a.pairs r in
          apart.differ i (k - a.pairs) z (omega arith) (sym (ap (λ (p : ℕ × ℤ). p.0) (first-at i z)) ∙ e ∙ ap (λ (p : ℕ × ℤ). p.0) (later-at k y h))
      twice i k l h e false q false r =
          let z = ltb-false i a.pairs q in let y = ltb-false k a.pairs r in
          earlier t bs b known-b (i - a.pairs) (k - a.pairs) (omega arith) (omega arith)
          (sym (ap (λ (p : ℕ × ℤ). p.0) (later-at i z (omega arith))) ∙ e ∙ ap (λ (p : ℕ × ℤ). p.0) (later-at k y h))

-- ── what is accepted ──
-- a model whose checks are passed has room, and leaves the rest to say
module _ (w : Model) (model : ModelKnown w) where
  model-fits : model_fits w ≡ true
  model-fits = ap₂ ◌&&◌ model.sound.sized (all_yes _ (le-leb _ _ model.numbers-long, (le-leb _ _ model.order-long, (le-leb _ _ model.stored-long, (model.index-fits, (model.bounds-fit, (le-leb _ _ model.reasons-long, tt)))))))

  model-next : (blanks : ℕ) → BlanksKnown blanks w → (next : Verdict) → by_lines (model_lines w blanks) next ≡ next
  model-next blanks same next = let t = w.tables in
      tables-next t w.bounds model.sound model.bounds _
      ∙ require-next 8 0 (groups_numbered t w.numbers w.order) _ (groups_of t w.numbers w.order model.permitted model.numbers-are model.order_is)
      ∙ require-next 8 0 (indexed t w.index) _ model.index_is
      ∙ require-next 19 0 (eqb blanks (blanks_among t.n (stored_values w))) _ (eq-eqb blanks (blanks_among t.n (stored_values w)) same)
      ∙ check-next 7 t.n (stored_allowed t w.bounds (stored_values w)) next (λ v l. ap₂ ◌&&◌ (model.stored v l) (model.inside v l))

  -- values that are fresh and stay determined
  fresh-next : (mv : Move) → ((v : ℕ) → v < w.tables.n → stored_fresh w.tables (stored_values w) v ≡ true)
      → ((v : ℕ) → determined w.tables (moved (pairs_of_move mv) (stored_values w)) v ≡ true) → by_lines (fresh_lines mv w.tables (stored_values w)) accepted ≡ accepted
  fresh-next mv fresh det = let t = w.tables in
      check-next 21 t.n (stored_fresh t (stored_values w)) _ fresh ∙ check-next 20 t.n (determined t (moved (pairs_of_move mv) (stored_values w))) accepted (λ v l. det v)

-- a keep whose model, move and log pass their checks, and whose values are fresh and stay determined
pub keep-accepts : (s : Session) (g : Log) (w : Model) (c : KeepLent) → ModelKnown w → BlanksKnown s.blanks w → MoveKnown w.tables w.bounds c.move → w.tables.n ≤ length c.flags
    → log_fits g ≡ true → log_good g w.tables w.bounds s.kept ≡ true
    → ((v : ℕ) → v < w.tables.n → stored_fresh w.tables (stored_values w) v ≡ true) → ((v : ℕ) → determined w.tables (moved (pairs_of_move c.move) (stored_values w)) v ≡ true)
    → keep_verdict s g w c ≡ accepted
unfolding keep_verdict
keep-accepts s g w c model blanks move room log-fits log-good fresh det = let t = w.tables in let mv = c.move in
    require-next 1 0 (keep_fits g w c) _ fits ∙ model-next w model s.blanks blanks _
    ∙ check-next 10 mv.pairs (movable mv t) _ (movable-at t w.bounds mv move)
    ∙ check-next 11 mv.pairs (named_once mv) _ (λ i l. ap not (move.once i l))
    ∙ check-next 12 mv.pairs (has_value mv) _ (λ i l. ap not (move.full i l))
    ∙ check-next 17 mv.pairs (pair_within mv w.bounds) _ move.inside
    ∙ require-next 16 0 (log_good g t w.bounds s.kept) _ log-good
    ∙ fresh-next w model mv fresh det
  where
    move-fits : move_fits c.move ≡ true
    move-fits = all_yes _ (le-leb _ _ move.few, (le-leb _ _ move.vars-long, (le-leb _ _ move.values-long, tt)))

    fits : keep_fits g w c ≡ true
    fits = all_yes _ (model-fits w model, (move-fits, (le-leb _ _ room, (log-fits, tt))))

-- a taking back whose model passes its checks and whose log is good and not empty, over values that are fresh and stay determined
pub take-accepts : (s : Session) (g : Log) (w : Model) (c : TakeLent) → ModelKnown w → BlanksKnown s.blanks w → w.tables.n ≤ length c.flags
    → log_fits g ≡ true → log_good g w.tables w.bounds s.kept ≡ true → 0 < logged g
    → ((v : ℕ) → v < w.tables.n → stored_fresh w.tables (stored_values w) v ≡ true)
    → ((v : ℕ) → determined w.tables (moved (pairs_of_move (latest g c).move) (stored_values w)) v ≡ true) → take_verdict s g w c ≡ accepted
unfolding take_verdict
take-accepts s g w c model blanks room log-fits log-good some fresh det =
    require-next 1 0 (take_fits g w c) _ (all_yes _ (model-fits w model, (le-leb _ _ room, (log-fits, tt)))) ∙ model-next w model s.blanks blanks _
    ∙ require-next 16 0 (log_good g w.tables w.bounds s.kept) _ log-good
    ∙ require-next 15 0 (ltb 0 (logged g)) _ (lt-ltb 0 (logged g) some)
    ∙ fresh-next w model (latest g c).move fresh det

-- a route leaves a search variable with the move's value
pub new-search : (N : Net) (k : ℕ) → 0 < k → (r : Route) (old s : Values) (v : ℕ) → N.made v ≡ false → new N r old s k v ≡ s v
unfolding runs
new-search N zero some r old s v e = absurd (not-suc-le-zero some)
new-search N (suc k) some r old s v e = rw e

-- the stored values that an accepted keep leaves
pub kept-value : (w : Model) (c : KeepLent) (v : ℕ) → v < w.tables.n
    → values_in w.tables (kept_stored w.tables w.stored c) v ≡ new_values w.tables (stored_values w) input-to-output (pairs_of_move c.move) [] v
kept-value w c v l = let f = new_values w.tables (stored_values w) input-to-output (pairs_of_move c.move) [] in
    ap (λ (row : List ℤ). get_or row v (pos 0)) (over-front f w.tables.n w.stored) ∙ get_d-below f w.tables.n v (pos 0) l

-- the record then has the number of blanks among them
pub kept-blanks : (w : Model) (c : KeepLent) → kept_blanks w.tables w.stored c ≡ blanks_among w.tables.n (values_in w.tables (kept_stored w.tables w.stored c))
kept-blanks w c = size_same _ _ w.tables.n (λ v l. ap (λ z. eq_z z blank) (sym (kept-value w c v l)))

-- the model as an accepted keep leaves it passes the same checks
pub keep-leaves-known : (w : Model) (c : KeepLent) → ModelKnown w → MoveKnown w.tables w.bounds c.move → ModelKnown (record { tables = w.tables; bounds = w.bounds; numbers = w.numbers; order = w.order; stored = kept_stored w.tables w.stored c; index = w.index; reasons = kept_reasons w.tables w.stored c w.reasons })
keep-leaves-known w c m move = record {
  sound = m.sound;
  numbers-long = m.numbers-long;
  order-long = m.order-long;
  stored-long = let l = m.stored-long in let e = over-length f w.tables.n w.stored l in omega arith;
  permitted = m.permitted;
  numbers-are = m.numbers-are;
  order_is = m.order_is;
  index-fits = m.index-fits;
  index_is = m.index_is;
  bounds-fit = m.bounds-fit;
  reasons-long = let l = m.reasons-long in let e = over-length (reason_kept w.tables (evaluates w.tables (stored_values w) input-to-output (pairs_of_move c.move) []) f (nat w.reasons)) w.tables.n w.reasons l in omega arith;
  bounds = m.bounds;
  stored = λ v l. good v l (is_made t v) refl;
  inside = λ v l. allowed v l (is_made t v) refl;
}
  where
    t : Tables
    t = w.tables

    mv : List (ℕ × ℤ)
    mv = pairs_of_move c.move

    old : Values
    old = stored_values w

    f : Values
    f = new_values w.tables (stored_values w) input-to-output (pairs_of_move c.move) []

    some : 0 < w.tables.n
    some = (sized-facts t m.sound.sized).n-some

    rest : (x z : Bool) → x ≡ false → (x || not z) ≡ true → z ≡ false
    rest true z e h = absurd (true≢false e)
    rest false z e h = not-true z h

    full : (v : ℕ) → v < w.tables.n → is_made w.tables v ≡ false → (x : Bool) → names (pairs_of_move c.move) v ≡ x → eq_z (moved (pairs_of_move c.move) (stored_values w) v) blank ≡ false
    full v l e true q = let h = named-has c.move old v q in
        subst (λ (p : ℕ × ℤ). eq_z p.1 blank ≡ false) h.is (move.full h.place h.low)
    full v l e false q = ap (λ z. eq_z z blank) (unnamed mv old v q) ∙ rest (is_made t v) (eq_z (old v) blank) e (m.stored v l)

    good : (v : ℕ) → v < w.tables.n → (x : Bool) → is_made w.tables v ≡ x → stored_good w.tables (values_in w.tables (kept_stored w.tables w.stored c)) v ≡ true
    good v l true e = ap (λ b. b || not (eq_z (values_in t (kept_stored w.tables w.stored c) v) blank)) e
    good v l false e =
        ap₂ (λ b z. b || not (eq_z z blank)) e (kept-value w c v l ∙ new-search (net t) t.n some input-to-output old (moved mv old) v e)
        ∙ ap not (full v l e (names mv v) refl)

    inside : (v : ℕ) → v < w.tables.n → is_made w.tables v ≡ false → (x : Bool) → names (pairs_of_move c.move) v ≡ x → within w.bounds v (moved (pairs_of_move c.move) (stored_values w) v) ≡ true
    inside v l e true q = let h = named-has c.move old v q in
        subst (λ (p : ℕ × ℤ). within w.bounds p.0 p.1 ≡ true) h.is (move.inside h.place h.low)
    inside v l e false q = ap (within w.bounds v) (unnamed mv old v q) ∙ sym (ap (◌|| within w.bounds v (old v)) e) ∙ m.inside v l

    allowed : (v : ℕ) → v < w.tables.n → (x : Bool) → is_made w.tables v ≡ x → in_bounds w.tables w.bounds (values_in w.tables (kept_stored w.tables w.stored c)) v ≡ true
    allowed v l true e = ap (λ b. b || within w.bounds v (values_in t (kept_stored w.tables w.stored c) v)) e
    allowed v l false e =
        ap₂ (λ b z. b || within w.bounds v z) e (kept-value w c v l ∙ new-search (net t) t.n some input-to-output old (moved mv old) v e)
        ∙ inside v l e (names mv v) refl
