-- What the walks from all that moved have marked is what route 3 marks: it holds every search variable that differs and goes on to what is made
-- from it, and nothing more. Assumes nothing.
use Prim.Native.Nat.{ℕ, zero, suc, ◌+◌, ◌≤◌, ◌<◌}
use native.Mathlib.Nat.{lt_irrefl}
use native.Mathlib.Omega.{arith}
use mathlib.Core.Bool.{Bool, true, false, cond, not, false≢true}
use mathlib.Core.List.Memᴰ
use mathlib.Core.List.{List, [], map, Memᴰ}
use mathlib.Core.Logic.{◌⊎◌, inl, inr}
use mathlib.Core.Path.{◌≡◌, refl, ap, ap₂, sym, ◌∙◌, subst}
use lib.Dec.{eqb, ltb}
use lib.IntN.{ℤ, pos}
use lib.ListN.{length, take, length-take, get_or-eq_default}
use lib.Seq.{get_or-take, length-take-le}
use borrow.Author.Tests.{ltb-true, ltb-false, eqb-true}
use Rattle.integers.specs.Integers.{eq_z}
use Rattle.integers.proofs.Order.{eq_z-self}
use Rattle.paper.specs.Lists.{any, nat}
use Rattle.paper.specs.Net.{Values, runs, able, differs, marked}
use Rattle.paper.specs.Tables.{Tables, net, is_made, inputs_of, values_in}
use Rattle.paper.specs.Checks.{Sound}
use Rattle.paper.proofs.Lists.{clash, any-in, any-has}
use Rattle.paper.proofs.Sizes.{sized-facts}
use Rattle.paper.proofs.Accept.{sound-row, made-below, inputs-below}
use Rattle.paper.proofs.Lawful.{lawful}
use Rattle.paper.proofs.Marks.{marked-equation}
use Rattle.paper.proofs.Those.{those-in}
use Rattle.order.specs.Numbering.{Clean}
use Rattle.order.proofs.Visits.{left-none}
use Rattle.index.specs.Index.{Indexed}
use Rattle.routes.specs.Sections.{section, made_from}
use Rattle.routes.specs.Reach.{Follows, Either, Reaching}
use Rattle.routes.specs.Readers.{variables, read_from, Upward, Markable, Movable, Moved, none}
use Rattle.routes.proofs.Members.{mapped}
use Rattle.routes.proofs.Readers.{able-fewer}
use Rattle.routes.specs.Rows.{values_of}
use Rattle.routes.specs.Routed.{Begun, Named}
use Rattle.routes.proofs.Read.{input-made, section-reads, section-input, input-section}

-- ── the index of the tables ──
module _ (t : Tables) (d : Sound t) (starts places : List ℕ) (x : Indexed t starts places) where
  some : 0 < t.n
  some = let z = (sized-facts t d.sized).n-some in omega arith

  -- the starts of the variables, and that of the end
  abbrev pub front : List ℕ
  front = take (t.n + 1) starts

  abbrev pub from : ℕ → List ℕ
  from = made_from t.makes front places

  front_long : length front ≡ suc t.n
  front_long = let h = x.long in let z : suc t.n ≡ t.n + 1 = omega arith in rw z (length-take-le (t.n + 1) starts (omega arith))

  same-section : (v : ℕ) → v < t.n → section front places v ≡ section starts places v
  same-section v l = rw (get_or-take (t.n + 1) starts v 0 (omega arith), get_or-take (t.n + 1) starts (suc v) 0 (omega arith)) refl

  -- nothing is made from what is no variable
  no-section : (v : ℕ) → t.n ≤ v → section front places v ≡ []
  no-section v h =
      let long = front_long in let z : nat front (suc v) ≡ 0 = get_or-eq_default front 0 (omega arith) in
      rw z (left-none places (nat front v) 0 (omega arith))

  from_low : (v u : ℕ) → Memᴰ u (from v) → v < t.n
  from_low v u m = go (ltb v t.n) refl
    where
      go : (b : Bool) → ltb v t.n ≡ b → v < t.n
      go true q = ltb-true v t.n q
      go false q = absurd (Memᴰ.not-nil (subst (λ (rs : List ℕ). Memᴰ u (map (nat t.makes) rs)) (no-section v (ltb-false v t.n q)) m))

  section-low : (v r : ℕ) → Memᴰ r (section front places v) → r < t.m
  section-low v r m =
      let l = from_low v (nat t.makes r) (mapped (nat t.makes) (section front places v) m) in
      (section-reads t d starts places x v l r (subst (Memᴰ r) (same-section v l) m)).0

  -- u is made from v exactly if v is among its inputs
  from-input : (v u : ℕ) → Memᴰ u (from v) → Memᴰ v (inputs_of t u)
  from-input v u m =
      let l = from_low v u m in
      section-input t d starts places x v l u (subst (λ (rs : List ℕ). Memᴰ u (map (nat t.makes) rs)) (same-section v l) m)

  input-from : (v u : ℕ) → Memᴰ v (inputs_of t u) → Memᴰ u (from v)
  input-from v u m =
      let l = inputs-below t d u v m in
      subst (λ (rs : List ℕ). Memᴰ u (map (nat t.makes) rs)) (sym (same-section v l)) (input-section t d starts places x v l u m)

  -- the index leads to rows and these to variables
  pub inside : (v : ℕ) → suc v < length front → nat front (suc v) ≤ length places
  inside v l = let long = front_long in rw (get_or-take (t.n + 1) starts (suc v) 0 (omega arith)) (x.inside v (omega arith))

  pub row : (v r : ℕ) → Memᴰ r (section front places v) → r < length t.makes
  row v r m = let h = section-low v r m in let k = (sized-facts t d.sized).makes in omega arith

  pub below : (v r : ℕ) → Memᴰ r (section front places v) → suc (nat t.makes r) < length front
  below v r m = let h = (sound-row t d r (section-low v r m)).makes in let long = front_long in omega arith

  -- and upward, where every chain ends
  pub upward : ((v : ℕ) → able (inputs_of t) t.n v ≡ true) → Upward t.makes front places
  unfolding read_from
  upward chains = record {
    inside = inside;
    row = row;
    below = below;
    ends = λ v.
        let n : t.n ≡ variables front = let long = front_long in omega arith in
        subst (λ k. able (read_from t.makes front places) k v ≡ true) n (able-fewer (inputs_of t) (read_from t.makes front places) fewer t.n v (chains v));
  }
    where
      mem : (u : ℕ) (xs : List ℕ) → any (eqb u) xs ≡ true → Memᴰ u xs
      mem u xs h = let (y, m, q) = any-has (eqb u) xs h in subst (λ z. Memᴰ z xs) (sym (eqb-true u y q)) m

      fewer : (u v : ℕ) → Memᴰ v (read_from t.makes front places u) → Memᴰ v (inputs_of t u)
      fewer u v m = from-input v u (mem u (from v) (those-in (λ w. any (eqb u) (from w)) (variables front) v m).1)

  -- no mark is set yet, so none lacks what is made from it
  pub clean-markable : (marks : List ℕ) → Clean t.n marks → Markable t.makes front places marks
  clean-markable marks c = record {
    room = let long = front_long in let k = c.long in omega arith;
    closed = record { on = λ a i h m w. absurd (let z = c.at a in lt_irrefl 0 (omega arith)) };
  }

  module _ (stored trial : List ℤ) (flags moves : List ℕ) (B : Begun t stored trial flags) (N : Named t stored trial moves) where
    pub named-movable : Movable front moves stored trial
    named-movable = record {
      low = λ v m. let h = N.low v m in let long = front_long in omega arith;
      in-stored = let h = B.in-stored in let long = front_long in omega arith;
      in-trial = let h = B.in-trial in let long = front_long in omega arith;
    }

    -- ── the marks of route 3 ──
    abbrev pub old : Values
    old = values_in t stored

    abbrev pub new : Values
    new = values_in t trial

    abbrev pub is : ℕ → Bool
    is = marked (net t) old new t.n

    same : (v : ℕ) → v < t.n → differs (values_of trial) (values_of stored) v ≡ differs new old v
    same v l = ap₂ (λ (a b : ℤ). not (eq_z a b)) (sym (get_or-take t.n trial v (pos 0) l)) (sym (get_or-take t.n stored v (pos 0) l))

    equal : (v : ℕ) → new v ≡ old v → differs new old v ≡ false
    equal v e = ap not (sym (ap (eq_z (new v)) e) ∙ eq_z-self (new v))

    -- marks go on to what is made, and begin at what moved
    go_on : Follows (λ u. true) from is
    go_on = record {
      on = λ a i h w m. let q = from-input a i m in
          marked-equation (net t) (lawful t) t.n (inputs-below t d) (made-below t d) some old new i
          ∙ ap (λ b. cond b (any is (inputs_of t i)) (differs new old i)) (input-made t d a i q) ∙ any-in is (inputs_of t i) q h;
    }

    begin : (i : ℕ) → Moved moves stored trial i → is i ≡ true
    begin i (m, h) = marked-equation (net t) (lawful t) t.n (inputs-below t d) (made-below t d) some old new i ∙ go (is_made t i) refl
      where
        differ : differs new old i ≡ true
        differ = sym (same i (N.low i m)) ∙ h

        go : (b : Bool) → is_made t i ≡ b → cond b (any is (inputs_of t i)) (differs new old i) ≡ true
        go true e = clash differ (equal i (B.made i e))
        go false e = differ

    -- a value beyond the variables is 0
    beyond-zero : (l : List ℤ) (v : ℕ) → t.n ≤ v → values_in t l v ≡ pos 0
    beyond-zero l v h = get_or-eq_default (take t.n l) (pos 0) (simp length-take (omega arith))

    module _ (before after : List ℕ) (c : Clean t.n before) (r : Reaching (λ u. true) from (Moved moves stored trial) none before after) where
      comes : (k v : ℕ) → marked (net t) old new k v ≡ true → nat after v ≡ 1
      unfolding runs
      comes zero v e = absurd (false≢true e)
      comes (suc k) v e = go (is_made t v) refl e (comes k)
        where
          out : (nat after v ≡ 1) ⊎ ⊥ → nat after v ≡ 1
          out (inl h) = h
          out (inr h) = absurd h

          search-variable : (b : Bool) → ltb v t.n ≡ b → differs new old v ≡ true → nat after v ≡ 1
          search-variable true q h = let l = ltb-true v t.n q in out (r.passed v (N.moved v l h, same v l ∙ h) refl)
          search-variable false q h = let l = ltb-false v t.n q in clash h (equal v (beyond-zero trial v l ∙ sym (beyond-zero stored v l)))

          go : (b : Bool) → is_made t v ≡ b → cond b (any (marked (net t) old new k) (inputs_of t v)) (differs new old v) ≡ true
              → ((i : ℕ) → marked (net t) old new k i ≡ true → nat after i ≡ 1) → nat after v ≡ 1
          go true q h more = let (i, m, w) = any-has (marked (net t) old new k) (inputs_of t v) h in r.closed.on i v (more i w) (input-from i v m) refl
          go false q h more = search-variable (ltb v t.n) refl h

      pub marks-are : (v : ℕ) → nat after v ≡ cond (is v) 1 0
      marks-are v = go (is v) refl
        where
          unmarked : is v ≡ false → Either (λ u. true) from is before after v → nat after v ≡ 0
          unmarked e (inl h) = h ∙ c.at v
          unmarked e (inr h) = clash h.1 e

          go : (b : Bool) → is v ≡ b → nat after v ≡ cond b 1 0
          go true e = comes t.n v e
          go false e = unmarked e (r.only is go_on begin v)

      pub marks-long : t.n ≤ length after
      marks-long = let k = c.long in let l = r.long in omega arith
