-- A group closes where no link of what stands from v's place on leads below it: these lead to v and v to them, their links lead to each other and into closed
-- groups, and those lead nowhere else; so they are all of v's group, and their number is the least that their links to closed groups allow. Assumes nothing.
use Prim.Native.Nat.{ℕ, zero, suc, ◌+◌, ◌-◌, ◌≤◌, ◌<◌}
use native.Mathlib.Nat.{lt_irrefl}
use native.Mathlib.Omega.{arith}
use mathlib.Core.Bool.{Bool, true, false, cond}
use mathlib.Core.List.Memᴰ
use mathlib.Core.List.{List, [], Memᴰ}
use mathlib.Core.Logic.{◌⊎◌, inl, inr, ⊎_elim, ◌≢◌}
use mathlib.Core.Path.{◌≡◌, refl, ap, sym, ◌∙◌, subst}
use lib.Dec.{leb, ltb}
use lib.ListN.{length, set, length-set}
use lib.Seq.{get_or-set_same, get_or-set_other, length-slice}
use borrow.Author.Tests.{leb-false, lt-leb, ltb-true, ltb-false, lt-ltb, le-ltb}
use Rattle.paper.specs.Lists.{nat, size}
use Rattle.paper.proofs.Count.{size-le, size_mono, size-more}
use Rattle.order.specs.Numbering.{part_at}
use Rattle.order.proofs.Visits.{left-none}
use Rattle.groups.specs.Asked.{asked, asked_by}
use Rattle.groups.specs.Stack.{entered, Waits, Stacked, asked_at, first_number, Best, Marked}
use Rattle.groups.specs.Walk.{closed, Reaches, here, on, Settled, GroupVisit}
use Rattle.paper.proofs.Lists.{same_or}
use Rattle.groups.proofs.Asking.{low_or, greatest-in, greatest-hit}
use Rattle.groups.proofs.Reach.{joins, carries, alone}
use Rattle.groups.proofs.Marking.{stacked-few, stacked-is}
use Rattle.groups.proofs.Entering.{Begun}
use Rattle.groups.proofs.Going.{Going, going-at, going-old, going-kept, going-new, going-leads}

-- the number that the links of v alone ask
pub record First (dep : ℕ → List ℕ) (v first : ℕ) : Type 0 where
  pub none : dep v ≡ [] → first ≡ 0
  pub some : (i : ℕ) → Memᴰ i (dep v) → 0 < first
  pub low : first ≤ 1

-- what a link to i asks
asked-closed : (marks numbers : List ℕ) (i : ℕ) → 4096 < nat marks i → asked marks numbers i ≡ suc (nat numbers i)
asked-closed marks numbers i h = ap (λ b. cond b zero (suc (nat numbers i))) (lt-leb (nat marks i) 4096 h)

asked-some : (marks numbers : List ℕ) (i : ℕ) → 0 < asked marks numbers i → (4096 < nat marks i) × (asked marks numbers i ≡ suc (nat numbers i))
asked-some marks numbers i h = go (leb (nat marks i) 4096) refl h
  where
    go : (b : Bool) → leb (nat marks i) 4096 ≡ b → 0 < cond b zero (suc (nat numbers i)) → (4096 < nat marks i) × (cond b zero (suc (nat numbers i)) ≡ suc (nat numbers i))
    go true e q = absurd (lt_irrefl 0 q)
    go false e q = (leb-false (nat marks i) 4096 e, refl)

-- v has a link if it leads to one that has
some-link : {dep : ℕ → List ℕ} {v u i : ℕ} → Reaches dep v u → Memᴰ i (dep u) → (j : ℕ) × Memᴰ j (dep v)
some-link {i = i} here m = (i, m)
some-link (on {i = j} q r) m = (j, q)

module _ (n : ℕ) (dep : ℕ → List ℕ) (v p : ℕ) (before mid tops : List ℕ) (B : Begun n dep v p before mid tops) (low : ℕ) (marks stack numbers : List ℕ)
    (G : Going n dep v p [] low mid marks stack numbers) (h : p ≤ low) where
  abbrev S : Stacked n marks stack
  S = G.state.stacked

  abbrev D : Settled n dep marks numbers
  D = G.state.settled

  few-high : nat stack 0 ≤ 4096
  few-high = let a = stacked-few n marks stack S in let b = B.few in omega arith

  small : p ≤ 4096
  small = let a = B.small in let b = B.few in omega arith

  -- u stands from v's place on
  record In (u : ℕ) : Type 0 where
    from : p ≤ nat marks u
    few : nat marks u ≤ 4096

  waits : (u : ℕ) → In u → Waits marks u
  waits u I = let a = I.from in let b = B.some in record { some = omega arith; few = I.few }

  part : (u : ℕ) → (nat marks u < p) ⊎ (In u ⊎ (4096 < nat marks u))
  part u = ⊎_elim inl (λ a. inr (⊎_elim inr (λ b. inl (record { from = a; few = b })) (low_or 4096 (nat marks u)))) (low_or (nat marks u) p)

  v-in : In v
  v-in = let a = going-at n dep v p before mid tops B [] low marks stack numbers G in let b = small in record { from = omega arith; few = omega arith }

  -- it leads to v, and v to it
  up : (u : ℕ) → In u → Reaches dep u v
  up u I = going-leads n dep v p before mid tops B [] low marks stack numbers G u (waits u I)

  -- it is v, or was entered since
  since : (u : ℕ) → In u → (u ≡ v) ⊎ (nat mid u ≡ 0)
  since u I = ⊎_elim inr (λ ne. inl (old ne)) (same_or (nat mid u) 0)
    where
      old : nat mid u ≢ 0 → u ≡ v
      old ne =
          let k = G.kept u (omega arith) in let a = I.from in let b = I.few in let z = B.height in
          let l = (B.stacked.back u (record { some = omega arith; few = omega arith })).0 in
          let s = B.some in let at = B.at in
          stacked-is n mid tops B.stacked B.few u p s (omega arith) (omega arith) ∙ sym (stacked-is n mid tops B.stacked B.few v p s (omega arith) at)

  down : (u : ℕ) → In u → Reaches dep v u
  down u I = ⊎_elim (λ s. subst (Reaches dep v) (sym s) here) (λ z. let a = waits u I in G.new u z a.some) (since u I)

  -- its links lead to its like, or into closed groups
  far : (u i : ℕ) → In u → Memᴰ i (dep u) → In i ⊎ (4096 < nat marks i)
  far u i I m = ⊎_elim inr (λ b. inl (record { from = (let a = least (since u I) in omega arith); few = b })) (low_or 4096 (nat marks i))
    where
      least : (u ≡ v) ⊎ (nat mid u ≡ 0) → low ≤ nat marks i
      least (inl s) = ⊎_elim (λ q. q) (λ q. absurd (Memᴰ.not-nil q)) (G.passed i (subst (λ x. Memᴰ i (dep x)) s m))
      least (inr z) = (G.left u z (waits u I)).1 i m

  closed-down : {u w : ℕ} → Reaches dep u w → 4096 < nat marks u → 4096 < nat marks w
  closed-down = carries (λ x. 4096 < nat marks x) (λ x i a m. D.links x i a m)

  group-down : {u w : ℕ} → Reaches dep u w → In u → In w ⊎ (4096 < nat marks w)
  group-down r I = carries (λ x. In x ⊎ (4096 < nat marks x)) (λ x i a m. ⊎_elim (λ J. far x i J m) (λ b. inr (D.links x i b m)) a) r (inl I)

  not-both : {u : ℕ} → In u → 4096 < nat marks u → ⊥
  not-both I l = let a = I.few in lt_irrefl 4096 (omega arith)

  -- ── the number ──
  abbrev ask : ℕ → ℕ
  ask = asked_at dep marks stack numbers

  module _ (first number : ℕ) (F : First dep v first) (N : Best ask p (nat stack 0 + 1) first number) where
    -- what its links to closed groups ask
    number-above : (u i : ℕ) → In u → Memᴰ i (dep u) → 4096 < nat marks i → nat numbers i < number
    number-above u i I m l =
        let (a, b) = S.back u (waits u I) in
        let c = N.each (nat marks u) I.from (omega arith) in
        let d : ask (nat marks u) ≡ asked_by dep marks numbers u = ap (asked_by dep marks numbers) b in
        let e = greatest-in (asked marks numbers) (dep u) m in
        let f = asked-closed marks numbers i l in
        omega arith

    -- some link asks it, if it is more than the first
    abbrev Hit : Type 0
    Hit = (w i : ℕ) × In w × Memᴰ i (dep w) × (4096 < nat marks i) × (number ≡ suc (nat numbers i))

    number-hit : (number ≡ first) ⊎ Hit
    number-hit = ⊎_elim inl (λ (j, a, b, e). go j a b e (same_or number 0)) N.hit
      where
        go : (j : ℕ) → p ≤ j → j < nat stack 0 + 1 → number ≡ ask j → (number ≡ 0) ⊎ (number ≢ 0) → (number ≡ first) ⊎ Hit
        go j a b e (inl z) = let c = N.first-in in inl (omega arith)
        go j a b e (inr ne) =
            let (i, m, q) = greatest-hit (asked marks numbers) (dep (nat stack j)) (omega arith) in
            let (l, r) = asked-some marks numbers i (omega arith) in
            let s = B.some in let t = few-high in
            let at = S.at j (omega arith) (omega arith) in
            inr (nat stack j, i, record { from = omega arith; few = omega arith }, m, l, omega arith)

    number_small : number ≤ suc (size (closed marks) n)
    number_small = ⊎_elim (λ e. let a = F.low in omega arith) (λ (w, i, I, m, l, e). let a = D.small i l in omega arith) number-hit

    -- so it is short
    pub number_short : number ≤ 4097
    number_short = let a = number_small in let b = size-le (closed marks) n in let c = B.few in omega arith

    number-none : (u : ℕ) → In u → dep u ≡ [] → number ≡ 0
    number-none u I e =
        let s : u ≡ v = alone e (up u I) in
        let dv : dep v ≡ [] = subst (λ x. dep x ≡ []) s e in
        ⊎_elim (λ q. let a = F.none dv in omega arith)
        (λ (w, i, J, m, l, q). absurd (Memᴰ.not-nil (subst (Memᴰ i) (subst (λ x. dep x ≡ []) (alone dv (down w J)) dv) m))) number-hit

    number-some : (u i : ℕ) → In u → Memᴰ i (dep u) → 0 < number
    number-some u i I m = let (j, q) = some-link (down u I) m in let a = F.some j q in let b = N.first-in in omega arith

    -- ── the rows afterwards ──
    module _ (mark : ℕ) (marks' stack' numbers' : List ℕ) (M : Marked p (nat stack 0 + 1) mark number marks numbers marks' numbers') (em : mark ≡ 4097 + v)
        (es : stack' ≡ set stack 0 (p - 1)) where
      inside : (u : ℕ) → In u → (nat marks' u ≡ mark) × (nat numbers' u ≡ number)
      inside u I = let a = (S.back u (waits u I)).0 in M.inside u I.from (omega arith)

      lower : (u : ℕ) → nat marks u < p → (nat marks' u ≡ nat marks u) × (nat numbers' u ≡ nat numbers u)
      lower u l = M.before u l

      beyond : (u : ℕ) → 4096 < nat marks u → (nat marks' u ≡ nat marks u) × (nat numbers' u ≡ nat numbers u)
      beyond u l = let a = few-high in M.beyond u (omega arith)

      -- what is closed now is of the group, or was closed
      now : (u : ℕ) → 4096 < nat marks' u → In u ⊎ (4096 < nat marks u)
      now u l = ⊎_elim (λ a. let e = (lower u a).0 in let b = small in absurd (lt_irrefl 4096 (omega arith))) (λ q. q) (part u)

      still : (u : ℕ) → In u ⊎ (4096 < nat marks u) → 4096 < nat marks' u
      still u (inl I) = let a = (inside u I).0 in omega arith
      still u (inr l) = let a = (beyond u l).0 in omega arith

      -- its mark is new
      apart : (u w : ℕ) → In u → 4096 < nat marks w → nat marks' u ≡ nat marks' w → ⊥
      apart u w I l e =
          let a = (inside u I).0 in let b = (beyond w l).0 in
          let c = D.root w v (omega arith) in
          let d = v-in in let x = d.few in lt_irrefl 4096 (omega arith)

      -- two that are closed now, with one mark
      pair : (P : Type 0) (u w : ℕ) → 4096 < nat marks' u → nat marks' u ≡ nat marks' w → (In u → In w → P) → (4096 < nat marks u → 4096 < nat marks w → nat marks u ≡ nat marks w → P) → P
      pair P u w l e f g = go (now u l) (now w (omega arith))
        where
          go : In u ⊎ (4096 < nat marks u) → In w ⊎ (4096 < nat marks w) → P
          go (inl I) (inl J) = f I J
          go (inl I) (inr b) = absurd (apart u w I b e)
          go (inr a) (inl J) = absurd (apart w u J a (sym e))
          go (inr a) (inr b) = let x = (beyond u a).0 in let y = (beyond w b).0 in g a b (omega arith)

      settled-small : size (closed marks) n < size (closed marks') n
      settled-small = size-more (closed marks) (closed marks') v n B.below
          (le-ltb 4096 (nat marks v) (let I = v-in in I.few)) (lt-ltb 4096 (nat marks' v) (still v (inl v-in)))
          (λ u e. lt-ltb 4096 (nat marks' u) (still u (inr (ltb-true 4096 (nat marks u) e))))

      hits : (u : ℕ) → 1 < nat numbers' u → In u ⊎ (4096 < nat marks u)
          → (w i : ℕ) × (nat marks' w ≡ nat marks' u) × Memᴰ i (dep w) × (nat marks' i ≢ nat marks' u) × (nat numbers' u ≡ suc (nat numbers' i))
      hits u l (inl I) = ⊎_elim (λ e. let a = F.low in let b = (inside u I).1 in absurd (lt_irrefl 1 (omega arith)))
          (λ (w, i, J, m, c, e). (w, i, ((inside w J).0 ∙ sym (inside u I).0), m, (λ z. apart u i I c (sym z)), let b = (inside u I).1 in let d = (beyond i c).1 in omega arith)) number-hit
      hits u l (inr c) =
          let (xm, xn) = beyond u c in
          let (w, i, e, m, ne, q) = D.hit u c (omega arith) in
          let cw : 4096 < nat marks w = omega arith in
          let (wm, wn) = beyond w cw in
          let (im, iq) = beyond i (D.links w i cw m) in
          (w, i, omega arith, m, (λ z. ne (omega arith)), omega arith)

      closes-settled : Settled n dep marks' numbers'
      closes-settled = record {
        long = let a = D.long in let b = M.numbers-long in omega arith;
        links = λ u i l m. still i (⊎_elim (λ I. far u i I m) (λ c. inr (D.links u i c m)) (now u l));
        root = λ u r e. ⊎_elim
            (λ I. let a = (inside u I).0 in let s : r ≡ v = omega arith in subst (λ x. nat marks' x ≡ 4097 + x) (sym s) ((inside v v-in).0 ∙ em))
            (λ c. let a = (beyond u c).0 in let b = D.root u r (omega arith) in let d = (beyond r (omega arith)).0 in omega arith) (now u (omega arith));
        same = λ u w l a b. ⊎_elim
            (λ I. ⊎_elim (λ J. (inside u I).0 ∙ sym (inside w J).0) (λ c. absurd (not-both I (closed-down b c))) (group-down a I))
            (λ c. let x = (beyond u c).0 in let y = (beyond w (closed-down a c)).0 in let z = D.same u w c a b in omega arith) (now u l);
        one = λ u w l e. pair (Reaches dep u w) u w l e (λ I J. joins (up u I) (down w J)) (λ a b q. D.one u w a q);
        shared = λ u w l e. pair (nat numbers' u ≡ nat numbers' w) u w l e (λ I J. (inside u I).1 ∙ sym (inside w J).1)
            (λ a b q. (beyond u a).1 ∙ D.shared u w a q ∙ sym (beyond w b).1);
        leaf = λ u l e. ⊎_elim (λ I. (inside u I).1 ∙ number-none u I e) (λ c. (beyond u c).1 ∙ D.leaf u c e) (now u l);
        linked = λ u i l m. ⊎_elim (λ I. let a = (inside u I).1 in let b = number-some u i I m in omega arith) (λ c. let a = (beyond u c).1 in let b = D.linked u i c m in omega arith) (now u l);
        lower = λ u i l m ne. ⊎_elim
            (λ I. ⊎_elim (λ J. absurd (ne ((inside i J).0 ∙ sym (inside u I).0))) (λ c. let a = (inside u I).1 in let b = (beyond i c).1 in let d = number-above u i I m c in omega arith) (far u i I m))
            (λ c. let (um, un) = beyond u c in let (im, iq) = beyond i (D.links u i c m) in let d = D.lower u i c m (λ z. ne (omega arith)) in omega arith) (now u l);
        hit = λ u l q. hits u q (now u l);
        small = λ u l. let g = settled-small in ⊎_elim (λ I. let a = (inside u I).1 in let b = number_small in omega arith) (λ c. let a = (beyond u c).1 in let b = D.small u c in omega arith) (now u l);
      }

      tops-zero : nat stack' 0 ≡ p - 1
      tops-zero = ap (λ row. nat row 0) es ∙ get_or-set_same stack 0 (p - 1) 0 (let a = S.room in omega arith)

      tops-other : (i : ℕ) → 0 < i → nat stack' i ≡ nat stack i
      tops-other i a = ap (λ row. nat row i) es ∙ get_or-set_other stack 0 i (p - 1) 0 (λ z. lt_irrefl 0 (omega arith))

      closes-stacked : Stacked n marks' stack'
      closes-stacked = record {
        marks-long = let a = S.marks-long in let b = M.marks-long in omega arith;
        below = λ u l. ⊎_elim (λ a. let e = (lower u a).0 in S.below u (omega arith))
            (λ q. ⊎_elim (λ I. S.below u (waits u I).some) (λ c. S.below u (omega arith)) q) (part u);
        room = let a = S.room in let b : length stack' ≡ length stack = ap length es ∙ simp length-set in omega arith;
        few =
            let a = S.few in let z = tops-zero in let b = (S.back v (waits v v-in)).0 in let I = v-in in
            let d = size_mono (entered marks) (entered marks') n (λ u e. lt-ltb 0 (nat marks' u) (entered-still u (ltb-true 0 (nat marks u) e) (part u))) in
            omega (arith, I.from);
        at = λ i a b.
            let z = tops-zero in let I = v-in in let c = (S.back v (waits v v-in)).0 in
            let e = S.at i a (omega (arith, I.from)) in
            let q = (lower (nat stack i) (omega arith)).0 in
            ap (nat marks') (tops-other i a) ∙ q ∙ e;
        back = λ u W. ⊎_elim
            (λ a. let e = (lower u a).0 in let s = W.some in
            let (x, y) = S.back u (record { some = omega arith; few = (let b = W.few in omega arith) }) in
            let z = tops-zero in (omega arith, ap (nat stack') e ∙ tops-other (nat marks u) (omega arith) ∙ y))
            (λ q. let a = still u q in let b = W.few in absurd (lt_irrefl 4096 (omega arith))) (part u);
      }
        where
          entered-still : (u : ℕ) → 0 < nat marks u → (nat marks u < p) ⊎ (In u ⊎ (4096 < nat marks u)) → 0 < nat marks' u
          entered-still u l (inl a) = let e = (lower u a).0 in omega arith
          entered-still u l (inr q) = let e = still u q in omega arith

      -- v's visit ends with its group
      pub closes : GroupVisit n dep v before marks' stack' numbers' mark
      closes = record {
        state = record { stacked = closes-stacked; settled = closes-settled };
        kept = λ u l. kept u l (low_or 4096 (nat before u));
        some = omega arith;
        least = let a = (inside v v-in).0 in omega arith;
        new = λ u z l. ⊎_elim (λ a. let e = (lower u a).0 in newer u z (omega arith)) (λ q. ⊎_elim (λ I. down u I) (λ c. newer u z (omega arith)) q) (part u);
        left = λ u z W. absurd (⊎_elim (λ a. none u z W a) (λ q. let a = still u q in let b = W.few in lt_irrefl 4096 (omega arith)) (part u));
        hit = λ q. absurd (lt_irrefl 4096 (omega arith));
      }
        where
          newer : (u : ℕ) → nat before u ≡ 0 → 0 < nat marks u → Reaches dep v u
          newer = going-new n dep v p before mid tops B [] low marks stack numbers G

          kept : (u : ℕ) → 0 < nat before u → (4096 < nat before u) ⊎ (nat before u ≤ 4096) → nat marks' u ≡ nat before u
          kept u l (inl a) = let k = going-kept n dep v p before mid tops B [] low marks stack numbers G u l in (beyond u (omega arith)).0 ∙ k
          kept u l (inr a) =
              let k = going-kept n dep v p before mid tops B [] low marks stack numbers G u l in
              let o = B.older u (record { some = l; few = a }) in
              (lower u (omega arith)).0 ∙ k

          none : (u : ℕ) → nat before u ≡ 0 → Waits marks' u → nat marks u < p → ⊥
          none u z W a =
              let e = (lower u a).0 in let s = W.some in
              let o = going-old n dep v p before mid tops B [] low marks stack numbers G u (omega arith) (omega arith) in
              let t = B.there u (λ q. let x : nat marks u ≡ nat marks v = ap (nat marks) q in let I = v-in in lt_irrefl p (omega (arith, I.from))) in
              lt_irrefl 0 (omega arith)

-- 1 with links, 0 without
pub first_of : (begins stops vars : List ℕ) (v : ℕ) → nat stops v ≤ length vars → First (part_at begins stops vars) v (first_number begins stops v)
first_of begins stops vars v inside = go (ltb (nat begins v) (nat stops v)) refl
  where
    go : (b : Bool) → ltb (nat begins v) (nat stops v) ≡ b → First (part_at begins stops vars) v (cond b 1 0)
    go true e = record {
      none = λ z.
          let l = ltb-true (nat begins v) (nat stops v) e in
          let a = length-slice (nat begins v) (nat stops v) vars inside in
          let b : length (part_at begins stops vars v) ≡ 0 = ap length z in
          absurd (lt_irrefl 0 (omega arith));
      some = λ i m. omega arith;
      low = omega arith;
    }
    go false e = record {
      none = λ z. refl;
      some = λ i m. absurd (Memᴰ.not-nil (subst (Memᴰ i) (left-none vars (nat begins v) (nat stops v) (ltb-false (nat begins v) (nat stops v) e)) m));
      low = omega arith;
    }
