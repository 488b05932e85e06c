-- One visit, step by step: a variable that has begun keeps its state until all its inputs have ended, and then its number is the least above theirs;
-- one that meets an input that waits is left waiting on it. Assumes nothing.
use Prim.Native.Nat.{ℕ, suc, max, ◌+◌, ◌-◌, ◌≤◌, ◌<◌}
use native.Mathlib.Nat.{lt_irrefl}
use native.Mathlib.Numerals.{add-one}
use native.Mathlib.Omega.{arith}
use mathlib.Core.Bool.{true}
use mathlib.Core.List.Memᴰ
use mathlib.Core.List.{List, [], ◌∷◌, Memᴰ}
use mathlib.Core.Logic.{◌⊎◌, inl, inr, ⊎_elim, ◌≢◌}
use mathlib.Core.Path.{◌≡◌, refl, ap, ap₂, sym, ◌∙◌, subst}
use lib.ListN.{length, take, drop, set, length-set, length-take, drop_of_length-le}
use lib.Seq.{slice, slice-cons, get_or-set_same, get_or-set_other}
use borrow.Author.Tests.{leb-true, le-leb, lt-leb, eqb-true, eq-eqb, ne_eqb}
use Rattle.paper.specs.Lists.{nat, size}
use Rattle.paper.proofs.Lists.{same_or}
use Rattle.paper.proofs.Count.{size-le, size-add, size_mono}
use Rattle.paper.proofs.Scan.{next}
use Rattle.order.specs.Numbering.{above, unvisited, ended, number_in, NumbersRight, InputBegun, NumberVisit}

-- ── the least number above all entries ──
above_same : (f g : ℕ → ℕ) (xs : List ℕ) → ((i : ℕ) → Memᴰ i xs → f i ≡ g i) → above f xs ≡ above g xs
above_same f g [] h = refl
above_same f g (x ∷ xs) h = ap₂ (λ a b. max (suc a) b) (h x (Memᴰ.head refl)) (above_same f g xs (λ i m. h i (Memᴰ.tail m)))

above-le : (f : ℕ → ℕ) (xs : List ℕ) (b : ℕ) → ((i : ℕ) → Memᴰ i xs → f i < b) → above f xs ≤ b
above-le f [] b h = omega arith
above-le f (x ∷ xs) b h = let a = h x (Memᴰ.head refl) in let r = above-le f xs b (λ i m. h i (Memᴰ.tail m)) in omega arith

above_in : {i : ℕ} (f : ℕ → ℕ) (xs : List ℕ) → Memᴰ i xs → f i < above f xs
above_in f (x ∷ xs) (Memᴰ.head q) = rw q (omega arith)
above_in f (x ∷ xs) (Memᴰ.tail m) = let h = above_in f xs m in omega arith
above_in {i = i} f [] x' = elim x' [ ]

above-is : (f : ℕ → ℕ) (xs : List ℕ) (b : ℕ) → ((i : ℕ) → Memᴰ i xs → f i < b) → (b ≡ 0) ⊎ ((i : ℕ) × Memᴰ i xs × (suc (f i) ≡ b)) → above f xs ≡ b
above-is f xs b h (inl e) = let r = above-le f xs b h in omega arith
above-is f xs b h (inr (i, m, e)) = let r = above-le f xs b h in let s = above_in f xs m in omega arith

-- ── the inputs that are left ──
pub left-next : (vars : List ℕ) (i stop w : ℕ) → i < stop → stop ≤ length vars → w ≡ nat vars i → slice i stop vars ≡ w ∷ slice (i + 1) stop vars
left-next vars i stop w l h e = slice-cons i stop vars 0 l h ∙ rw (e, add-one i)

pub left-none : (vars : List ℕ) (i stop : ℕ) → stop ≤ i → slice i stop vars ≡ []
left-none vars i stop h = drop_of_length-le (take stop vars) {i = i} (simp length-take (omega arith))

-- the same of a part, entry by entry
pub rest-next : (part : List ℕ) (i w : ℕ) → i < length part → w ≡ nat part i → drop i part ≡ w ∷ drop (i + 1) part
rest-next part i w h e = rw e (next part i 0 h)

pub rest-none : (part : List ℕ) (i : ℕ) → length part ≤ i → drop i part ≡ []
rest-none part i h = drop_of_length-le part {i = i} h

module _ (n : ℕ) (dep : ℕ → List ℕ) where
  -- ── one state changes: v's, which has not ended ──
  module _ (v x : ℕ) (state : List ℕ) (R : NumbersRight n dep state) (l : v < n) (low : nat state v ≤ 1) where
    here : nat (set state v x) v ≡ x
    here = get_or-set_same state v x 0 (let h = R.long in omega arith)

    there : (u : ℕ) → u ≢ v → nat (set state v x) u ≡ nat state u
    there u ne = get_or-set_other state v u x 0 ne

    still : (u : ℕ) → 2 ≤ nat state u → nat (set state v x) u ≡ nat state u
    still u h = there u (λ e. let s : nat state u ≡ nat state v = ap (nat state) e in omega arith)

    -- what v must show to have ended
    abbrev Ends : Type 0
    Ends = ((i : ℕ) → Memᴰ i (dep v) → 2 ≤ nat state i) × (x ≡ 2 + above (number_in state) (dep v)) × (x ≤ 2 + size (ended state) n)

    right-set : (2 ≤ x → Ends) → NumbersRight n dep (set state v x)
    right-set E = record {
      long = rw length-set R.long;
      number = λ u h. ⊎_elim
          (λ e. let q = E (new u e h) in rw e (here ∙ q.1 ∙ ap (2 +◌) (same v q.0)))
          (λ ne. let s = there u ne in s ∙ R.number u (omega arith) ∙ ap (2 +◌) (same u (R.inputs u (omega arith)))) (same_or u v);
      inputs = λ u h i m. ⊎_elim
          (λ e. kept i ((E (new u e h)).0 i (subst (λ z. Memᴰ i (dep z)) e m)))
          (λ ne. let s = there u ne in kept i (R.inputs u (omega arith) i m)) (same_or u v);
      small = λ u h. ⊎_elim
          (λ e. let q = (E (new u e h)).2 in let s : nat (set state v x) u ≡ x = rw e here in let g = more (new u e h) in omega arith)
          (λ ne. let s = there u ne in let q = R.small u (omega arith) in
          let g = size_mono (ended state) (ended (set state v x)) n (λ w p. le-leb 2 (nat (set state v x) w) (kept w (leb-true 2 (nat state w) p))) in omega arith) (same_or u v);
    }
      where
        new : (u : ℕ) → u ≡ v → 2 ≤ nat (set state v x) u → 2 ≤ x
        new u e h = let s : nat (set state v x) u ≡ x = rw e here in omega arith

        kept : (i : ℕ) → 2 ≤ nat state i → 2 ≤ nat (set state v x) i
        kept i h = let s = still i h in omega arith

        same : (u : ℕ) → ((i : ℕ) → Memᴰ i (dep u) → 2 ≤ nat state i) → above (number_in state) (dep u) ≡ above (number_in (set state v x)) (dep u)
        same u h = above_same (number_in state) (number_in (set state v x)) (dep u) (λ i m. ap (λ z. z - 2) (sym (still i (h i m))))

        more : 2 ≤ x → size (ended (set state v x)) n ≡ suc (size (ended state) n)
        more h = size-add (ended state) (ended (set state v x)) v n l (lt-leb 2 (nat state v) (omega arith)) (le-leb 2 (nat (set state v x) v) (let s = here in omega arith))
            (λ u ne. rw (there u ne))

  pub visited-known : (v x : ℕ) (state : List ℕ) → NumbersRight n dep state → x ≡ nat state v → 0 < x → NumberVisit n dep v state state x
  visited-known v x state R e h = record { right = R; kept = λ u q. refl; is = e; begun = h; stuck = λ u q. inl q }

  -- ── a visit on its way ──
  -- before it v was fresh
  pub record Begun (v : ℕ) (before : List ℕ) : Type 0 where
    pub right : NumbersRight n dep before
    pub below : v < n
    pub unseen : nat before v ≡ 0

  pub begun_of : (v known : ℕ) (before : List ℕ) → NumbersRight n dep before → v < n → known ≡ nat before v → known ≤ 0 → Begun v before
  begun_of v known before R l e h = record { right = R; below = l; unseen = omega arith }

  -- the inputs in `left` are still to be visited, best is the greatest state of the others, from 1 up, and `mid` are the states where the loop began
  pub record Going (v : ℕ) (left : List ℕ) (best : ℕ) (mid state : List ℕ) : Type 0 where
    pub right : NumbersRight n dep state
    pub kept : (u : ℕ) → 0 < nat mid u → nat state u ≡ nat mid u
    pub stuck : (u : ℕ) → nat state u ≡ 1 → nat mid u ≡ 1
    pub rest : (w : ℕ) → Memᴰ w left → Memᴰ w (dep v)
    pub passed : (w : ℕ) → Memᴰ w (dep v) → ((2 ≤ nat state w) × (nat state w ≤ best)) ⊎ Memᴰ w left
    pub reached : (best ≡ 1) ⊎ ((w : ℕ) × Memᴰ w (dep v) × (2 ≤ nat state w) × (nat state w ≡ best))

  -- the next input is visited, and ends
  pub going_step : (v best w r b : ℕ) (left more mid state after : List ℕ) → Going v left best mid state → left ≡ w ∷ more → NumberVisit n dep w state after r
      → r ≢ 1 → b ≡ max best r → Going v more b mid after
  going_step v best w r b left more mid state after G e W ne eb = record {
    right = W.right;
    kept = λ u h. let s = G.kept u h in W.kept u (omega arith) ∙ s;
    stuck = λ u p. G.stuck u (⊎_elim (λ q. q) (λ q. absurd (ne q.0)) (W.stuck u p));
    rest = λ u m. G.rest u (subst (Memᴰ u) (sym e) (Memᴰ.tail m));
    passed = λ u m. ⊎_elim (λ q. let s = W.kept u (omega arith) in inl (omega arith, omega arith)) (λ q. new u (Memᴰ.cases_cons (subst (Memᴰ u) e q))) (G.passed u m);
    reached = top (same_or b r);
  }
    where
      two : 2 ≤ r
      two = let c = W.begun in omega arith

      new : (u : ℕ) → (u ≡ w) ⊎ Memᴰ u more → ((2 ≤ nat after u) × (nat after u ≤ b)) ⊎ Memᴰ u more
      new u (inl z) = let s : nat after u ≡ nat after w = ap (nat after) z in let a = W.is in let c = two in inl (omega arith, omega arith)
      new u (inr m) = inr m

      top : (b ≡ r) ⊎ (b ≢ r) → (b ≡ 1) ⊎ ((u : ℕ) × Memᴰ u (dep v) × (2 ≤ nat after u) × (nat after u ≡ b))
      top (inl s) = let a = W.is in let c = two in inr (w, G.rest w (subst (Memᴰ w) (sym e) (Memᴰ.head refl)), omega arith, omega arith)
      top (inr s) = ⊎_elim (λ z. inl (omega arith)) (λ (u, m, h, z). let k = W.kept u (omega arith) in inr (u, m, omega arith, omega arith)) G.reached

  module _ (v : ℕ) (before : List ℕ) (B : Begun v before) where
    abbrev mid : List ℕ
    mid = set before v 1

    -- mid at v and elsewhere
    low : nat before v ≤ 1
    low = omega (arith, B.unseen)

    mid-here : nat mid v ≡ 1
    mid-here = here v 1 before B.right B.below low

    mid-there : (u : ℕ) → u ≢ v → nat mid u ≡ nat before u
    mid-there = there v 1 before B.right B.below low

    -- what had begun is not v
    other : (u : ℕ) → 0 < nat before u → u ≢ v
    other u h e = let s : nat before u ≡ nat before v = ap (nat before) e in omega (arith, B.unseen)

    pub going_start : (left : List ℕ) → left ≡ dep v → Going v left 1 mid mid
    going_start left e = record {
      right = right-set v 1 before B.right B.below low (λ q. absurd (lt_irrefl 1 q));
      kept = λ u h. refl;
      stuck = λ u p. p;
      rest = λ w m. subst (Memᴰ w) e m;
      passed = λ w m. inr (subst (Memᴰ w) (sym e) m);
      reached = inl refl;
    }

    module _ (left : List ℕ) (best : ℕ) (state : List ℕ) (G : Going v left best mid state) where
      kept-all : (u : ℕ) → 0 < nat before u → nat state u ≡ nat before u
      kept-all u h = let s = mid-there u (other u h) in G.kept u (omega arith) ∙ s

      waits : nat state v ≡ 1
      waits = let s = mid-here in G.kept v (omega arith) ∙ s

      stuck-all : (u : ℕ) → nat state u ≡ 1 → (u ≡ v) ⊎ (nat before u ≡ 1)
      stuck-all u p = ⊎_elim (λ e. inl e) (λ ne. inr (sym (mid-there u ne) ∙ G.stuck u p)) (same_or u v)

      -- fewer are fresh
      pub going_less : size (unvisited state) n < size (unvisited before) n
      going_less =
          let seen = ne_eqb (nat mid v) 0 (λ z. let s = mid-here in omega arith) in
          let a = size-add (unvisited mid) (unvisited before) v n B.below seen (eq-eqb (nat before v) 0 B.unseen) (λ u ne. rw (mid-there u ne)) in
          let b = size_mono (unvisited state) (unvisited mid) n (λ u e. go u (eqb-true (nat state u) 0 e) (same_or (nat mid u) 0)) in
          omega arith
        where
          go : (u : ℕ) → nat state u ≡ 0 → (nat mid u ≡ 0) ⊎ (nat mid u ≢ 0) → unvisited mid u ≡ true
          go u z (inl e) = eq-eqb (nat mid u) 0 e
          go u z (inr ne) = let s = G.kept u (omega arith) in absurd (ne (omega arith))

      -- the next input waits, and so does v
      pub going-fail : (w r : ℕ) (more after : List ℕ) → left ≡ w ∷ more → NumberVisit n dep w state after r → r ≡ 1 → NumberVisit n dep v before after 1
      going-fail w r more after e W one = record {
        right = W.right;
        kept = λ u h. let s = kept-all u h in W.kept u (omega arith) ∙ s;
        is = let s = waits in sym (W.kept v (omega arith) ∙ s);
        begun = omega arith;
        stuck = λ u p. ⊎_elim (λ q. ⊎_elim (λ s. inr (refl, subst (InputBegun n dep after) (sym s) held)) inl (stuck-all u q)) (λ q. inr (refl, q.1)) (W.stuck u p);
      }
        where
          held : InputBegun n dep after v
          held = (w, G.rest w (subst (Memᴰ w) (sym e) (Memᴰ.head refl)), sym W.is ∙ one)

      -- the greatest state is that of one that has ended
      bounded : best ≤ 1 + size (ended state) n
      bounded = ⊎_elim (λ e. omega arith) (λ (w, m, h, e). let s = G.right.small w h in omega arith) G.reached

      pub going-small : n ≤ 4096 → best ≤ 4097
      going-small few = let b = bounded in let s = size-le (ended state) n in omega arith

      -- all inputs have ended, and so does v
      pub going_end : left ≡ [] → NumberVisit n dep v before (set state v (best + 1)) (best + 1)
      going_end e = record {
        right = right-set v (best + 1) state G.right B.below one (λ q. (λ i m. (entry i m).0, equation, (let b = bounded in omega arith)));
        kept = λ u h. let s = kept-all u h in end-there u (other u h) ∙ s;
        is = sym end-here;
        begun = omega arith;
        stuck = λ u p. inl (was u p (same_or u v));
      }
        where
          one : nat state v ≤ 1
          one = let s = waits in omega arith

          least : 1 ≤ best
          least = ⊎_elim (λ z. omega arith) (λ (w, m, h, z). omega arith) G.reached

          end-here : nat (set state v (best + 1)) v ≡ best + 1
          end-here = here v (best + 1) state G.right B.below one

          end-there : (u : ℕ) → u ≢ v → nat (set state v (best + 1)) u ≡ nat state u
          end-there = there v (best + 1) state G.right B.below one

          was : (u : ℕ) → nat (set state v (best + 1)) u ≡ 1 → (u ≡ v) ⊎ (u ≢ v) → nat before u ≡ 1
          was u p (inl z) = let s : nat (set state v (best + 1)) u ≡ best + 1 = rw z end-here in let b = least in absurd (lt_irrefl 1 (omega arith))
          was u p (inr ne) = ⊎_elim (λ z. absurd (ne z)) (λ q. q) (stuck-all u (sym (end-there u ne) ∙ p))

          entry : (w : ℕ) → Memᴰ w (dep v) → (2 ≤ nat state w) × (nat state w ≤ best)
          entry w m = ⊎_elim (λ q. q) (λ q. absurd (Memᴰ.not-nil (subst (Memᴰ w) e q))) (G.passed w m)

          top : (best - 1 ≡ 0) ⊎ ((w : ℕ) × Memᴰ w (dep v) × (suc (number_in state w) ≡ best - 1))
          top = ⊎_elim (λ z. inl (omega arith)) (λ (w, m, h, z). inr (w, m, omega arith)) G.reached

          equation : best + 1 ≡ 2 + above (number_in state) (dep v)
          equation = let b = least in let a = above-is (number_in state) (dep v) (best - 1) (λ w m. let h = entry w m in omega arith) top in omega arith
