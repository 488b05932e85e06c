-- One visit, step by step: a variable that has begun keeps its state until all that its formula looks at stands, and then its value is what the
-- formula gives; one that meets a variable that waits is left waiting on it, whatever the values that do not stand yet. Assumes nothing.
use Prim.Native.Nat.{ℕ, suc, ◌≤◌, ◌<◌}
use native.Mathlib.Nat.{le_refl, lt_irrefl}
use native.Mathlib.Omega.{arith}
use mathlib.Core.Bool.{true, false}
use mathlib.Core.List.Memᴰ
use mathlib.Core.List.{List, [], ◌∷◌, Memᴰ}
use mathlib.Core.Logic.{◌⊎◌, inl, inr, ⊎_elim, ◌≢◌}
use mathlib.Core.Path.{◌≡◌, refl, ap, sym, ◌∙◌, subst}
use lib.Dec.{eqb}
use lib.IntN.{ℤ, pos}
use lib.ListN.{length, set, length-set}
use lib.Seq.{get_or-set_same, get_or-set_other}
use borrow.Author.Tests.{eqb-true, eq-eqb, ne_eqb}
use Rattle.paper.specs.Lists.{nat, size}
use Rattle.paper.specs.Net.{Values, Net, able}
use Rattle.paper.proofs.Lists.{clash, same_or}
use Rattle.paper.proofs.Count.{size-add, size_mono}
use Rattle.paper.proofs.Lawful.{Lawful}
use Rattle.paper.proofs.Ends.{able-more}
use Rattle.routes.specs.Rows.{values_of}
use Rattle.choices.specs.Visiting.{unbegun, value_stands, Agrees, ValuesRight, Held, Onward, Visited}
use Rattle.choices.proofs.Chained.{asks-bare, able-step, able-like}

module _ (N : Net) (L : Lawful N) (n : ℕ) where
  -- ── on the way ──
  -- a value that stands is as it was
  value-kept : {values values' : List ℤ} {states states' : List ℕ} → Onward N n values states values' states' → (u : ℕ) → nat states u ≡ 2 → values_of values' u ≡ values_of values u
  value-kept O u h = ⊎_elim (λ e. e) (λ q. absurd (lt_irrefl 1 (let z = q.0 in omega arith))) (O.still u)

  stands-kept : {values values' : List ℤ} {states states' : List ℕ} → Onward N n values states values' states' → (u : ℕ) → nat states u ≡ 2 → nat states' u ≡ 2
  stands-kept O u h = O.kept u (omega arith) ∙ h

  agrees_back : {values values' : List ℤ} {states states' : List ℕ} → Onward N n values states values' states' → (g : Values) → Agrees values' states' g → Agrees values states g
  agrees_back O g a w h = a w (stands-kept O w h) ∙ value-kept O w h

  pub held_on : {values values' : List ℤ} {states states' : List ℕ} → Onward N n values states values' states' → (u : ℕ) → Held N n values states u → Held N n values' states' u
  held_on O u H = record {
    on = H.on;
    waits = let w = H.waits in O.kept H.on (omega arith) ∙ w;
    looks = λ g a. H.looks g (agrees_back O g a);
  }

  onward-same : (values : List ℤ) (states : List ℕ) → Onward N n values states values states
  onward-same values states = record { kept = λ u h. refl; still = λ u. inl refl; long = refl }

  onward-on : {values values' values'' : List ℤ} {states states' states'' : List ℕ} → Onward N n values states values' states' → Onward N n values' states' values'' states''
      → Onward N n values states values'' states''
  onward-on {values} {values'} {values''} {states} {states'} {states''} A B = record {
    kept = λ u h. let k = A.kept u h in B.kept u (omega arith) ∙ k;
    still = λ u. join u (A.still u) (B.still u);
    long = B.long ∙ A.long;
  }
    where
      unseen : (u : ℕ) → nat states' u ≡ 0 → (nat states u ≡ 0) ⊎ (nat states u ≢ 0) → nat states u ≡ 0
      unseen u z (inl e) = e
      unseen u z (inr ne) = let k = A.kept u (omega arith) in sym k ∙ z

      join : (u : ℕ) → (values_of values' u ≡ values_of values u) ⊎ ((nat states u ≡ 0) × (nat states' u ≡ 2) × (N.made u ≡ true))
          → (values_of values'' u ≡ values_of values' u) ⊎ ((nat states' u ≡ 0) × (nat states'' u ≡ 2) × (N.made u ≡ true))
          → (values_of values'' u ≡ values_of values u) ⊎ ((nat states u ≡ 0) × (nat states'' u ≡ 2) × (N.made u ≡ true))
      join u (inr (z, s, m)) q = inr (z, stands-kept B u s, m)
      join u (inl e) (inl d) = inl (d ∙ e)
      join u (inl e) (inr (z, s, m)) = inr (unseen u z (same_or (nat states u) 0), s, m)

  -- v, which was fresh, gets another state; or it gets its value and stands
  module _ (v : ℕ) (before : List ℕ) (unseen : nat before v ≡ 0) where
    other : (u : ℕ) → 0 < nat before u → u ≢ v
    other u h e = let s : nat before u ≡ nat before v = ap (nat before) e in lt_irrefl 0 (omega arith)

    onward-mark : (x : ℕ) (values : List ℤ) → Onward N n values before values (set before v x)
    onward-mark x values = record { kept = λ u h. get_or-set_other before v u x 0 (other u h); still = λ u. inl refl; long = refl }

    onward-last : {values₀ values : List ℤ} {states : List ℕ} → Onward N n values₀ before values states → v < length states → N.made v ≡ true → (y : ℤ)
        → Onward N n values₀ before (set values v y) (set states v 2)
    onward-last {values₀} {values} {states} O l made y = record {
      kept = λ u h. get_or-set_other states v u 2 0 (other u h) ∙ O.kept u h;
      still = λ u. go u (same_or u v);
      long = length-set values v y ∙ O.long;
    }
      where
        go : (u : ℕ) → (u ≡ v) ⊎ (u ≢ v) → (values_of (set values v y) u ≡ values_of values₀ u) ⊎ ((nat before u ≡ 0) × (nat (set states v 2) u ≡ 2) × (N.made u ≡ true))
        go u (inl e) = inr (rw e unseen, rw e (get_or-set_same states v 2 0 l), rw e made)
        go u (inr ne) = ⊎_elim (λ d. inl (get_or-set_other values v u y (pos 0) ne ∙ d)) (λ (z, s, m). inr (z, get_or-set_other states v u 2 0 ne ∙ s, m)) (O.still u)

  -- ── one place changes: v's, which does not stand ──
  module _ (v x : ℕ) (values values' : List ℤ) (states : List ℕ) (R : ValuesRight N n values states) (l : v < n) (low : nat states v ≤ 1)
      (apart : (u : ℕ) → u ≢ v → values_of values' u ≡ values_of values u) where
    here : nat (set states v x) v ≡ x
    here = get_or-set_same states v x 0 (let h = R.in-states in omega arith)

    there : (u : ℕ) → u ≢ v → nat (set states v x) u ≡ nat states u
    there u ne = get_or-set_other states v u x 0 ne

    not-here : (u : ℕ) → nat states u ≡ 2 → u ≢ v
    not-here u h e = let s : nat states u ≡ nat states v = ap (nat states) e in lt_irrefl 1 (omega arith)

    still-stands : (u : ℕ) → nat states u ≡ 2 → nat (set states v x) u ≡ 2
    still-stands u h = there u (not-here u h) ∙ h

    -- all that u looks at stands
    abbrev Settled : ℕ → Type 0
    Settled u = (i : ℕ) → Memᴰ i (N.asks u (values_of values)) → nat states i ≡ 2

    alike : (u : ℕ) → Settled u → (i : ℕ) → Memᴰ i (N.asks u (values_of values)) → values_of values i ≡ values_of values' i
    alike u h i m = sym (apart i (not-here i (h i m)))

    asks-still : (u : ℕ) → Settled u → N.asks u (values_of values) ≡ N.asks u (values_of values')
    asks-still u h = L.asks-same u (values_of values) (values_of values') (alike u h)

    -- chains that ended end
    ends-still : (u : ℕ) → nat states u ≡ 2 → able (λ w. N.asks w (values_of values')) (size (value_stands states) n) u ≡ true
    ends-still u h =
        sym (able-like (λ w. N.asks w (values_of values)) (λ w. N.asks w (values_of values')) (λ w. nat states w ≡ 2) (λ w s. asks-still w (R.asked w s)) R.asked (size (value_stands states) n) u h)
        ∙ R.ends u h

    -- what v must show to stand
    abbrev Stands : Type 0
    Stands = Settled v × (N.made v ≡ true → values_of values' v ≡ N.form v (values_of values))

    right-set : length values' ≡ length values → x ≤ 2 → (x ≡ 2 → Stands) → ValuesRight N n values' (set states v x)
    right-set long small E = record {
      in-values = let h = R.in-values in omega arith;
      in-states = rw length-set R.in-states;
      most = λ u. ⊎_elim (λ e. let q : nat (set states v x) u ≡ x = rw e here in omega arith) (λ ne. rw (there u ne) (R.most u)) (same_or u v);
      below = λ u h. ⊎_elim (λ e. subst (◌< n) (sym e) l) (λ ne. R.below u (sym (there u ne) ∙ h)) (same_or u v);
      value = λ u h m. ⊎_elim (λ e. at u e h m) (λ ne. apart u ne ∙ R.value u (sym (there u ne) ∙ h) m ∙ looks u h) (same_or u v);
      asked = λ u h i m. still-stands i (inside u h i (subst (Memᴰ i) (sym (asks-still u (inside u h))) m));
      ends = λ u h. ⊎_elim (λ e. last u e h) (λ ne. able-more (λ w. N.asks w (values_of values')) (size (value_stands states) n) (size (value_stands (set states v x)) n) u more (ends-still u (sym (there u ne) ∙ h))) (same_or u v);
    }
      where
        new : (u : ℕ) → u ≡ v → nat (set states v x) u ≡ 2 → x ≡ 2
        new u e h = sym here ∙ ap (nat (set states v x)) (sym e) ∙ h

        inside : (u : ℕ) → nat (set states v x) u ≡ 2 → Settled u
        inside u h = ⊎_elim (λ e. subst Settled (sym e) (E (new u e h)).0) (λ ne. R.asked u (sym (there u ne) ∙ h)) (same_or u v)

        looks : (u : ℕ) → nat (set states v x) u ≡ 2 → N.form u (values_of values) ≡ N.form u (values_of values')
        looks u h = L.looks u (values_of values) (values_of values') (alike u (inside u h))

        at : (u : ℕ) → u ≡ v → nat (set states v x) u ≡ 2 → N.made u ≡ true → values_of values' u ≡ N.form u (values_of values')
        at u e h m = subst (λ w. N.made w ≡ true → values_of values' w ≡ N.form w (values_of values)) (sym e) (E (new u e h)).1 m ∙ looks u h

        more : size (value_stands states) n ≤ size (value_stands (set states v x)) n
        more = size_mono (value_stands states) (value_stands (set states v x)) n (λ u e. eq-eqb (nat (set states v x) u) 2 (still-stands u (eqb-true (nat states u) 2 e)))

        grown : x ≡ 2 → size (value_stands (set states v x)) n ≡ suc (size (value_stands states) n)
        grown e = size-add (value_stands states) (value_stands (set states v x)) v n l (ne_eqb (nat states v) 2 (λ s. lt_irrefl 1 (omega arith))) (eq-eqb (nat (set states v x) v) 2 (here ∙ e))
            (λ u ne. ap (λ z. eqb z 2) (there u ne))

        last : (u : ℕ) → u ≡ v → nat (set states v x) u ≡ 2 → able (λ w. N.asks w (values_of values')) (size (value_stands (set states v x)) n) u ≡ true
        last u e h =
            rw (grown (new u e h)) (able-step (λ w. N.asks w (values_of values')) (size (value_stands states) n) u (λ i m.
            ends-still i (inside u h i (subst (Memᴰ i) (sym (asks-still u (inside u h))) m))))

  -- ── nothing to follow ──
  pub visited-known : (v x : ℕ) (values : List ℤ) (states : List ℕ) → ValuesRight N n values states → x ≡ nat states v → 0 < x → Visited N n v values states values states x
  visited-known v x values states R e h = record { right = R; onward = onward-same values states; is = e; begun = h; stuck = λ u q. inl q }

  -- before its visit v was fresh
  pub record Begun (v : ℕ) (values : List ℤ) (before : List ℕ) : Type 0 where
    pub right : ValuesRight N n values before
    pub below : v < n
    pub unseen : nat before v ≡ 0

  module _ (v : ℕ) (values : List ℤ) (before : List ℕ) (B : Begun v values before) where
    low : nat before v ≤ 1
    low = omega (arith, B.unseen)

    mark-here : (x : ℕ) → nat (set before v x) v ≡ x
    mark-here x = here v x values values before B.right B.below low (λ u ne. refl)

    mark-there : (x u : ℕ) → u ≢ v → nat (set before v x) u ≡ nat before u
    mark-there x = there v x values values before B.right B.below low (λ u ne. refl)

    mark-right : (x : ℕ) → x ≤ 2 → (x ≡ 2 → Stands v x values values before B.right B.below low (λ u ne. refl)) → ValuesRight N n values (set before v x)
    mark-right x = right-set v x values values before B.right B.below low (λ u ne. refl) refl

    -- a search variable's value stands
    pub visited-search : N.made v ≡ false → Visited N n v values before values (set before v 2) 2
    visited-search e = record {
      right = mark-right 2 (le_refl 2) (λ q. (λ i m. absurd (Memᴰ.not-nil (subst (Memᴰ i) (asks-bare N L v (values_of values) e) m)), λ m. clash m e));
      onward = onward-mark v before B.unseen 2 values;
      is = sym (mark-here 2);
      begun = omega arith;
      stuck = λ u p. inl (⊎_elim (λ s. absurd (lt_irrefl 1 (let h : nat (set before v 2) u ≡ 2 = rw s (mark-here 2) in omega arith))) (λ ne. sym (mark-there 2 u ne) ∙ p) (same_or u v));
    }

  -- ── a visit on its way ──
  -- what v looks at is followed but for those in `left`, whatever the values that do not stand yet; `mid` are the states where the loop began
  pub record Going (v : ℕ) (left : Values → List ℕ) (start : List ℤ) (mid : List ℕ) (values : List ℤ) (states : List ℕ) : Type 0 where
    pub right : ValuesRight N n values states
    pub onward : Onward N n start mid values states
    pub stuck : (u : ℕ) → nat states u ≡ 1 → nat mid u ≡ 1
    pub rest : (g : Values) → Agrees values states g → (w : ℕ) → Memᴰ w (left g) → Memᴰ w (N.asks v g)
    pub passed : (g : Values) → Agrees values states g → (w : ℕ) → Memᴰ w (N.asks v g) → (nat states w ≡ 2) ⊎ Memᴰ w (left g)

  -- the next one is visited, and stands
  pub going_step : (v w r : ℕ) (left more : Values → List ℕ) (start : List ℤ) (mid : List ℕ) (values : List ℤ) (states : List ℕ) (values' : List ℤ) (states' : List ℕ)
      → Going v left start mid values states → Visited N n w values states values' states' r → r ≢ 1
      → ((g : Values) → g w ≡ values_of values' w → left g ≡ w ∷ more g) → Going v more start mid values' states'
  going_step v w r left more start mid values states values' states' G W ne next = record {
    right = W.right;
    onward = onward-on G.onward W.onward;
    stuck = λ u p. G.stuck u (⊎_elim (λ q. q) (λ q. absurd (ne q.0)) (W.stuck u p));
    rest = λ g a u m. G.rest g (agrees_back W.onward g a) u (subst (Memᴰ u) (sym (next g (a w two))) (Memᴰ.tail m));
    passed = λ g a u m. ⊎_elim (λ q. inl (stands-kept W.onward u q)) (λ q. new g u (Memᴰ.cases_cons (subst (Memᴰ u) (next g (a w two)) q))) (G.passed g (agrees_back W.onward g a) u m);
  }
    where
      two : nat states' w ≡ 2
      two = let a = W.is in let b = W.begun in let c = W.right.most w in omega arith

      new : (g : Values) (u : ℕ) → (u ≡ w) ⊎ Memᴰ u (more g) → (nat states' u ≡ 2) ⊎ Memᴰ u (more g)
      new g u (inl z) = inl (ap (nat states') z ∙ two)
      new g u (inr m) = inr m

  module _ (v : ℕ) (start : List ℤ) (before : List ℕ) (B : Begun v start before) where
    abbrev mid : List ℕ
    mid = set before v 1

    pub going_start : (left : Values → List ℕ) → ((g : Values) → left g ≡ N.asks v g) → Going v left start mid start mid
    going_start left e = record {
      right = mark-right v start before B 1 (omega arith) (λ q. absurd (lt_irrefl 1 (omega arith)));
      onward = onward-same start mid;
      stuck = λ u p. p;
      rest = λ g a w m. subst (Memᴰ w) (e g) m;
      passed = λ g a w m. inr (subst (Memᴰ w) (sym (e g)) m);
    }

    module _ (left : Values → List ℕ) (values : List ℤ) (states : List ℕ) (G : Going v left start mid values states) where
      -- since v began
      since : Onward N n start before values states
      since = onward-on (onward-mark v before B.unseen 1 start) G.onward

      waits : nat states v ≡ 1
      waits = let s = mark-here v start before B 1 in G.onward.kept v (omega arith) ∙ s

      stuck-all : (u : ℕ) → nat states u ≡ 1 → (u ≡ v) ⊎ (nat before u ≡ 1)
      stuck-all u p = ⊎_elim (λ e. inl e) (λ ne. inr (sym (mark-there v start before B 1 u ne) ∙ G.stuck u p)) (same_or u v)

      -- fewer are fresh
      pub going_less : size (unbegun states) n < size (unbegun before) n
      going_less =
          let seen = ne_eqb (nat mid v) 0 (λ z. lt_irrefl 0 (let s = mark-here v start before B 1 in omega arith)) in
          let a = size-add (unbegun mid) (unbegun before) v n B.below seen (eq-eqb (nat before v) 0 B.unseen) (λ u ne. ap (λ z. eqb z 0) (sym (mark-there v start before B 1 u ne))) in
          let b = size_mono (unbegun states) (unbegun mid) n (λ u e. go u (eqb-true (nat states u) 0 e) (same_or (nat mid u) 0)) in
          omega arith
        where
          go : (u : ℕ) → nat states u ≡ 0 → (nat mid u ≡ 0) ⊎ (nat mid u ≢ 0) → unbegun mid u ≡ true
          go u z (inl e) = eq-eqb (nat mid u) 0 e
          go u z (inr ne) = let s = G.onward.kept u (omega arith) in absurd (ne (sym s ∙ z))

      -- the next one waits, and so does v
      pub going-fail : (w r : ℕ) (values' : List ℤ) (states' : List ℕ) → Visited N n w values states values' states' r → r ≡ 1 → ((g : Values) → Memᴰ w (left g))
          → Visited N n v start before values' states' 1
      going-fail w r values' states' W one next = record {
        right = W.right;
        onward = onward-on since W.onward;
        is = let s = waits in sym (W.onward.kept v (omega arith) ∙ s);
        begun = omega arith;
        stuck = λ u p. ⊎_elim (λ q. ⊎_elim (λ s. inr (refl, subst (Held N n values' states') (sym s) held)) inl (stuck-all u q)) (λ q. inr (refl, q.1)) (W.stuck u p);
      }
        where
          held : Held N n values' states' v
          held = record { on = w; waits = sym W.is ∙ one; looks = λ g a. G.rest g (agrees_back W.onward g a) w (next g) }

      -- all that v looks at stands, and so does its value
      pub going_end : (y : ℤ) → left (values_of values) ≡ [] → N.made v ≡ true → y ≡ N.form v (values_of values) → Visited N n v start before (set values v y) (set states v 2) 2
      going_end y e made gives = record {
        right = right-set v 2 values (set values v y) states G.right B.below one apart (length-set values v y) (le_refl 2) (λ q. (all-stand, λ m. get_or-set_same values v y (pos 0) room ∙ gives));
        onward = onward-last v before B.unseen since (let h = G.right.in-states in let l = B.below in omega arith) made y;
        is = sym end-here;
        begun = omega arith;
        stuck = λ u p. inl (was u p (same_or u v));
      }
        where
          one : nat states v ≤ 1
          one = let s = waits in omega arith

          room : v < length values
          room = let h = G.right.in-values in let l = B.below in omega arith

          apart : (u : ℕ) → u ≢ v → values_of (set values v y) u ≡ values_of values u
          apart u ne = get_or-set_other values v u y (pos 0) ne

          all-stand : (i : ℕ) → Memᴰ i (N.asks v (values_of values)) → nat states i ≡ 2
          all-stand i m = ⊎_elim (λ q. q) (λ q. absurd (Memᴰ.not-nil (subst (Memᴰ i) e q))) (G.passed (values_of values) (λ w h. refl) i m)

          end-here : nat (set states v 2) v ≡ 2
          end-here = here v 2 values (set values v y) states G.right B.below one apart

          was : (u : ℕ) → nat (set states v 2) u ≡ 1 → (u ≡ v) ⊎ (u ≢ v) → nat before u ≡ 1
          was u p (inl z) = absurd (lt_irrefl 1 (let h : nat (set states v 2) u ≡ 2 = rw z end-here in omega arith))
          was u p (inr ne) = ⊎_elim (λ z. absurd (ne z)) (λ q. q) (stuck-all u (sym (there v 2 values (set values v y) states G.right B.below one apart u ne) ∙ p))
