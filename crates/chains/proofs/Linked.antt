-- The rows of links: what stands at a variable is what its maker's row says, so its part is its links. Assumes nothing.
use Prim.Native.Nat.{ℕ, suc, ◌+◌, ◌-◌, ◌≤◌, ◌<◌}
use native.Mathlib.Nat.{le_refl, lt_irrefl}
use native.Mathlib.Omega.{arith}
use mathlib.Core.Bool.{Bool, true, false, cond, not, ◌&&◌}
use mathlib.Core.List.Memᴰ
use mathlib.Core.List.{List, [], Memᴰ}
use mathlib.Core.Path.{◌≡◌, refl, ap, ap₂, sym, ◌∙◌, subst}
use lib.Dec.{ltb}
use lib.ListN.{length, replicate}
use lib.Seq.{slice, slice_empty, drop-nil}
use borrow.Author.Tests.{ltb-true, ltb-false, ne_eqb}
use Rattle.paper.specs.Lists.{nat, over}
use Rattle.paper.specs.Tables.{Tables, part, row_of, is_made, inputs_of}
use Rattle.paper.proofs.Buffers.{over-at, over-length}
use Rattle.tables.specs.Makers.{Makers}
use Rattle.paper.specs.Chains.{is_element, plain_inputs}
use Rattle.order.specs.Formed.{Formed}
use Rattle.order.specs.Numbering.{Clean, of_maker, stop_of, part_at, Parted}
use Rattle.order.proofs.Parted.{over-out, Parts, columns_of, parts-of}
use Rattle.order.proofs.Sweeps.{clean-new}
use Rattle.chains.specs.Links.{links_of, by_element, link_count, link_stop, Linked}

-- no more links than inputs
count-le : (all : Bool) (kinds counts : List ℕ) (maker : ℕ) → link_count all kinds counts maker ≤ of_maker maker counts
count-le all kinds counts maker = go (not all && by_element kinds maker)
  where
    go : (b : Bool) → cond b 0 (of_maker maker counts) ≤ of_maker maker counts
    go true = omega arith
    go false = le_refl (of_maker maker counts)

module _ (t : Tables) (F : Formed t) where
  -- what lies beyond the variables has no inputs
  pub no-inputs : (v : ℕ) → t.n ≤ v → inputs_of t v ≡ []
  no-inputs v h = go (is_made t v) refl
    where
      go : (b : Bool) → is_made t v ≡ b → cond b (part t (row_of t v) t.vars) [] ≡ []
      go true e = let l = F.made-below v e in absurd (lt_irrefl v (omega arith))
      go false e = refl

  -- links are inputs
  pub link-input : (all : Bool) (v : ℕ) {i : ℕ} → Memᴰ i (links_of all t v) → Memᴰ i (inputs_of t v)
  link-input true v m = m
  link-input false v {i} m = go (is_element t v) m
    where
      go : (b : Bool) → Memᴰ i (cond b [] (inputs_of t v)) → Memᴰ i (inputs_of t v)
      go true k = absurd (Memᴰ.not-nil k)
      go false k = k

  pub links-below : (all : Bool) (v i : ℕ) → Memᴰ i (links_of all t v) → i < t.n
  links-below all v i m = F.inputs-below v i (link-input all v m)

  module _ (by : List ℕ) (M : Makers t by) where
    -- ── the maker of a variable ──
    pub maker-is : (v : ℕ) → v < t.n → nat by v ≡ cond (is_made t v) (suc (row_of t v)) 0
    unfolding row_of
    maker-is v l = M.at v l

    pub maker-le : (v : ℕ) → v < t.n → nat by v ≤ t.m
    maker-le v l = rw (maker-is v l) (go (is_made t v) refl)
      where
        go : (b : Bool) → is_made t v ≡ b → cond b (suc (row_of t v)) 0 ≤ t.m
        go true e = ltb-true (row_of t v) t.m e
        go false e = omega arith

    pub stop-small : (all : Bool) (v : ℕ) → v < t.n → link_stop all t.kinds t.firsts t.counts (nat by v) ≤ 16384
    stop-small all v l =
        let c = count-le all t.kinds t.counts (nat by v) in let s = (columns_of t F by M).small v l in omega arith

    -- ── the part of its row ──
    begins-in : List ℕ
    begins-in = over t.n (λ u. of_maker (nat by u) t.firsts) (replicate t.n 0)

    stops-in : List ℕ
    stops-in = over t.n (λ u. stop_of t.firsts t.counts (nat by u)) (replicate t.n 0)

    parts : Parts t begins-in stops-in
    unfolding begins-in stops-in
    parts = let z = clean-new t.n t.n (le_refl t.n) in parts-of t F by M z z refl refl

    stop_is : (v : ℕ) → v < t.n → nat stops-in v ≡ stop_of t.firsts t.counts (nat by v)
    unfolding stops-in
    stop_is v l = over-at (λ u. stop_of t.firsts t.counts (nat by u)) t.n (replicate t.n 0) v 0 l

    begin-is : (v : ℕ) → v < t.n → nat begins-in v ≡ of_maker (nat by v) t.firsts
    unfolding begins-in
    begin-is v l = over-at (λ u. of_maker (nat by u) t.firsts) t.n (replicate t.n 0) v 0 l

    stop-inside : (v : ℕ) → v < t.n → stop_of t.firsts t.counts (nat by v) ≤ length t.vars
    stop-inside v l = let e = stop_is v l in let h = parts.inside v in omega arith

    inputs_are : (v : ℕ) → v < t.n → slice (of_maker (nat by v) t.firsts) (stop_of t.firsts t.counts (nat by v)) t.vars ≡ inputs_of t v
    inputs_are v l = ap₂ (λ x y. slice x y t.vars) (sym (begin-is v l)) (sym (stop_is v l)) ∙ parts.inputs v

    -- ── and the part of it that is its links ──
    -- the test by the maker is the test by the row, of a made variable
    pub element-is : (v : ℕ) → v < t.n → (b : Bool) → is_made t v ≡ b → by_element t.kinds (nat by v) ≡ cond b (is_element t v) false
    element-is v l true e =
        let z : suc (row_of t v) - 1 ≡ row_of t v = omega arith in
        rw (maker-is v l, e, ne_eqb (suc (row_of t v)) 0 (λ q. omega arith), z) refl
    element-is v l false e = rw (maker-is v l, e) refl

    -- a variable that no row makes has no inputs, whatever the test by the row says
    plain-is : (v : ℕ) → v < t.n → cond (by_element t.kinds (nat by v)) [] (inputs_of t v) ≡ plain_inputs t v
    plain-is v l = go (is_made t v) refl
      where
        bare : (c : Bool) → ◌≡◌ {A = List ℕ} [] (cond c [] [])
        bare true = refl
        bare false = refl

        go : (b : Bool) → is_made t v ≡ b → cond (by_element t.kinds (nat by v)) [] (inputs_of t v) ≡ plain_inputs t v
        go true e = ap (λ c. cond c [] (inputs_of t v)) (element-is v l true e)
        go false e = rw (element-is v l false e, e) (bare (is_element t v))

    links-are : (all : Bool) (v : ℕ) → v < t.n
        → slice (of_maker (nat by v) t.firsts) (link_stop all t.kinds t.firsts t.counts (nat by v)) t.vars ≡ links_of all t v
    links-are true v l = inputs_are v l
    links-are false v l = go (by_element t.kinds (nat by v)) ∙ plain-is v l
      where
        go : (b : Bool) → slice (of_maker (nat by v) t.firsts) (of_maker (nat by v) t.firsts + cond b 0 (of_maker (nat by v) t.counts)) t.vars
            ≡ cond b [] (inputs_of t v)
        go true =
            let z : of_maker (nat by v) t.firsts + 0 ≡ of_maker (nat by v) t.firsts = omega arith in
            ap (λ s. slice (of_maker (nat by v) t.firsts) s t.vars) z ∙ slice_empty (of_maker (nat by v) t.firsts) t.vars
        go false = inputs_are v l

    pub links-of : (all : Bool) {b₀ s₀ b s : List ℕ} → Clean t.n b₀ → Clean t.n s₀ → b ≡ over t.n (λ u. of_maker (nat by u) t.firsts) b₀
        → s ≡ over t.n (λ u. link_stop all t.kinds t.firsts t.counts (nat by u)) s₀ → Linked all t b s × Parted t.n b s t.vars
    links-of all {b₀} {s₀} {b} {s} B S eb es = (
      record {
        begins-long = rw eb (let k = over-length begin t.n b₀ B.long in let h = B.long in omega arith);
        stops-long = rw es (let k = over-length stop t.n s₀ S.long in let h = S.long in omega arith);
        at = λ v. at v (ltb v t.n) refl;
      },
      record { few = F.few; inside = λ v. inside v (ltb v t.n) refl; below = λ v i m. links-below all v i (subst (Memᴰ i) (at v (ltb v t.n) refl) m) },
    )
      where
        begin : ℕ → ℕ
        begin u = of_maker (nat by u) t.firsts

        stop : ℕ → ℕ
        stop u = link_stop all t.kinds t.firsts t.counts (nat by u)

        begin-in : (v : ℕ) → v < t.n → nat b v ≡ begin v
        begin-in v l = rw eb (over-at begin t.n b₀ v 0 l)

        stop-in : (v : ℕ) → v < t.n → nat s v ≡ stop v
        stop-in v l = rw es (over-at stop t.n s₀ v 0 l)

        stop-out : (v : ℕ) → t.n ≤ v → nat s v ≡ 0
        stop-out v h = rw es (over-out stop t.n s₀ v 0 h ∙ S.at v)

        inside : (v : ℕ) (c : Bool) → ltb v t.n ≡ c → nat s v ≤ length t.vars
        inside v true e =
            let l = ltb-true v t.n e in let k = stop-in v l in let i = stop-inside v l in
            let c = count-le all t.kinds t.counts (nat by v) in omega arith
        inside v false e = let z = stop-out v (ltb-false v t.n e) in omega arith

        none : (v : ℕ) → inputs_of t v ≡ [] → (a : Bool) → [] ≡ links_of a t v
        none v e true = sym e
        none v e false = go (is_element t v)
          where
            go : (c : Bool) → [] ≡ cond c [] (inputs_of t v)
            go true = refl
            go false = sym e

        at : (v : ℕ) (c : Bool) → ltb v t.n ≡ c → part_at b s t.vars v ≡ links_of all t v
        at v true e = let l = ltb-true v t.n e in ap₂ (λ x y. slice x y t.vars) (begin-in v l) (stop-in v l) ∙ links-are all v l
        at v false e =
            let h = ltb-false v t.n e in
            ap (λ y. slice (nat b v) y t.vars) (stop-out v h) ∙ drop-nil (nat b v) ∙ none v (no-inputs v h) all
