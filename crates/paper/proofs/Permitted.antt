-- The test of a variable's closed chains: a closed chain without candidate and index is one of plain links, and one through an index goes on from some ELEMENT to
-- its index and comes round; these are the two that the test looks for. Assumes nothing.
use Prim.Native.Nat.{ℕ, ◌<◌}
use native.Mathlib.Omega.{arith}
use mathlib.Core.Logic.{◌⊎◌, inl, inr}
use mathlib.Core.Bool.{Bool, true, false, cond, not, ◌&&◌, ◌||◌, true≢false, false≢true}
use mathlib.Core.List.{List, [], ◌∷◌, Memᴰ}
use mathlib.Core.Path.{◌≡◌, refl, ap₂, subst, subst⁻¹}
use lib.ListN.{take, drop}
use borrow.Author.Tests.{not-true, not-false, eqb-false}
use Rattle.paper.specs.Lists.{all_below, first_fail}
use Rattle.paper.specs.Net.{Depends, direct, through}
use Rattle.paper.specs.Tables.{Tables, inputs_of}
use Rattle.paper.proofs.Lists.{any-in, any-has, and_left, and_right, clash}
use Rattle.paper.proofs.Least.{first_fail-le, first_fail-fails, all_below-at}
use Rattle.paper.proofs.Circle.{then}
use Rattle.paper.specs.Chains.{depends, together, is_element, plain_inputs, indices, round_index, permitted, Through, input, index, candidate, is_index, is_candidate, linked, Chain, link, on}
use Rattle.paper.proofs.Depends.{Mutual, depends-yes, depends-is, depends-low, together-yes, together-is}

-- the test is passed exactly if every closed chain through v passes through a candidate and never through an index
pub record PermittedExactly (t : Tables) (v : ℕ) : Type 0 where
  pub each : permitted t v ≡ true → (c x : Bool) → Chain t v v c x → (c ≡ true) × (x ≡ false)
  pub some : permitted t v ≡ false → (c : Bool) × (x : Bool) × Chain t v v c x × ((c ≡ false) ⊎ (x ≡ true))

-- ── the first entry of a list, and the others ──
first-in : {i : ℕ} (xs : List ℕ) → Memᴰ i (take 1 xs) → Memᴰ i xs
first-in [] m = m
first-in (x ∷ xs) (Memᴰ.head q) = Memᴰ.head q
first-in {i = i} (x ∷ xs) (Memᴰ.tail x5) = elim x5 [ ]

other-in : {i : ℕ} (xs : List ℕ) → Memᴰ i (drop 1 xs) → Memᴰ i xs
other-in [] m = m
other-in (x ∷ xs) m = Memᴰ.tail m

first-or-other : {i : ℕ} (xs : List ℕ) → Memᴰ i xs → Memᴰ i (take 1 xs) ⊎ Memᴰ i (drop 1 xs)
first-or-other (x ∷ xs) (Memᴰ.head q) = inl (Memᴰ.head q)
first-or-other (x ∷ xs) (Memᴰ.tail m) = inr m
first-or-other {i = i} [] x' = elim x' [ ]

-- a number below n that fails
below_fails : (p : ℕ → Bool) (n : ℕ) → all_below p n ≡ false → (x : ℕ) × (x < n) × (p x ≡ false)
below_fails p n e =
    let ne = eqb-false (first_fail p n) n e in let le = first_fail-le p n in
    let l : first_fail p n < n = omega arith in
    (first_fail p n, l, first_fail-fails p n l)

module _ (t : Tables) where
  -- ── a link is an input, and an input a link of one kind ──
  pub linked-input : (k : Through) (v : ℕ) {i : ℕ} → Memᴰ i (linked t k v) → Memᴰ i (inputs_of t v)
  linked-input input v {i} m = go (is_element t v) m
    where
      go : (b : Bool) → Memᴰ i (cond b [] (inputs_of t v)) → Memᴰ i (inputs_of t v)
      go false h = h
      go true h = elim h [ ]
  linked-input index v {i} m = go (is_element t v) m
    where
      go : (b : Bool) → Memᴰ i (cond b (take 1 (inputs_of t v)) []) → Memᴰ i (inputs_of t v)
      go true h = first-in (inputs_of t v) h
      go false h = elim h [ ]
  linked-input candidate v {i} m = go (is_element t v) m
    where
      go : (b : Bool) → Memᴰ i (cond b (drop 1 (inputs_of t v)) []) → Memᴰ i (inputs_of t v)
      go true h = other-in (inputs_of t v) h
      go false h = elim h [ ]

  input-linked : (v : ℕ) {i : ℕ} → Memᴰ i (inputs_of t v) → (k : Through) × Memᴰ i (linked t k v)
  input-linked v {i} m = go (is_element t v) refl (first-or-other (inputs_of t v) m)
    where
      go : (b : Bool) → is_element t v ≡ b → Memᴰ i (take 1 (inputs_of t v)) ⊎ Memᴰ i (drop 1 (inputs_of t v)) → (k : Through) × Memᴰ i (linked t k v)
      go true e (inl h) = (index, rw e h)
      go true e (inr h) = (candidate, rw e h)
      go false e h = (input, rw e m)

  -- ── chains are chains of inputs, and those of inputs are chains ──
  pub chain-depends : {v w : ℕ} {c x : Bool} → Chain t v w c x → Depends (inputs_of t) v w
  chain-depends (link k {v} m) = direct (linked-input k v m)
  chain-depends (on k {v} m d) = through (linked-input k v m) (chain-depends d)

  depends-chain : {v w : ℕ} → Depends (inputs_of t) v w → (c : Bool) × (x : Bool) × Chain t v w c x
  depends-chain (direct {v} m) = let (k, h) = input-linked v m in (is_candidate k, is_index k, link k h)
  depends-chain (through {v} m d) =
      let (k, h) = input-linked v m in let (c, x, e) = depends-chain d in
      (is_candidate k || c, is_index k || x, on k h e)

  -- without candidate and index they are chains of plain links
  pub plain-chain : {v w : ℕ} → Depends (plain_inputs t) v w → Chain t v w false false
  plain-chain (direct m) = link input m
  plain-chain (through m d) = on input m (plain-chain d)

  pub chain-plain : {v w : ℕ} {c x : Bool} → Chain t v w c x → c ≡ false → x ≡ false → Depends (plain_inputs t) v w
  chain-plain (link input m) p q = direct m
  chain-plain (link index m) p q = absurd (true≢false q)
  chain-plain (link candidate m) p q = absurd (true≢false p)
  chain-plain (on input m d) p q = through m (chain-plain d p q)
  chain-plain (on index m d) p q = absurd (true≢false q)
  chain-plain (on candidate m d) p q = absurd (true≢false p)

  -- ── a chain through an index ──
  -- v is w or comes to it
  abbrev Reaches : ℕ → ℕ → Type 0
  Reaches v w = (v ≡ w) ⊎ Depends (inputs_of t) v w

  link-reach : {v i w : ℕ} → Memᴰ i (inputs_of t v) → Reaches i w → Depends (inputs_of t) v w
  link-reach {v} m (inl e) = direct (subst (λ j. Memᴰ j (inputs_of t v)) e m)
  link-reach m (inr d) = through m d

  reach-link : {v a i : ℕ} → Reaches v a → Memᴰ i (inputs_of t a) → Depends (inputs_of t) v i
  reach-link {v} {a} {i} (inl e) m = subst⁻¹ (λ j. Depends (inputs_of t) j i) e (direct m)
  reach-link (inr d) m = then (inputs_of t) d m

  reach-round : {v a : ℕ} → Reaches v a → Depends (inputs_of t) a v → Mutual (inputs_of t) v a
  reach-round {v} {a} (inl e) d = let r = subst (Depends (inputs_of t) a) e d in subst⁻¹ (λ j. Mutual (inputs_of t) j a) e (r, r)
  reach-round (inr c) d = (c, d)

  -- v comes to an ELEMENT, from there to its index, and from there to w
  record Passes (v w : ℕ) : Type 0 where
    made : ℕ
    chosen : ℕ
    to : Reaches v made
    taken : Memᴰ chosen (indices t made)
    from : Reaches chosen w

  further : {v i w : ℕ} → Memᴰ i (inputs_of t v) → Passes i w → Passes v w
  further m p = record { made = p.made; chosen = p.chosen; to = inr (link-reach m p.to); taken = p.taken; from = p.from }

  chain-passes : {v w : ℕ} {c x : Bool} → Chain t v w c x → x ≡ true → Passes v w
  chain-passes (link input m) e = absurd (false≢true e)
  chain-passes (link index {v} {w} m) e = record { made = v; chosen = w; to = inl refl; taken = m; from = inl refl }
  chain-passes (link candidate m) e = absurd (false≢true e)
  chain-passes (on input {v} m d) e = further (linked-input input v m) (chain-passes d e)
  chain-passes (on index {v} {i} m d) e = record { made = v; chosen = i; to = inl refl; taken = m; from = inr (chain-depends d) }
  chain-passes (on candidate {v} m d) e = further (linked-input candidate v m) (chain-passes d e)

  -- what leads to one is one
  on-link : (k : Through) {v i w : ℕ} → Memᴰ i (linked t k v) → (c : Bool) × Chain t i w c true → (c : Bool) × Chain t v w c true
  on-link input m (c, d) = (c, on input m d)
  on-link index m (c, d) = (c, on index m d)
  on-link candidate m (c, d) = (true, on candidate m d)

  lead : {v i w : ℕ} → Depends (inputs_of t) v i → (c : Bool) × Chain t i w c true → (c : Bool) × Chain t v w c true
  lead (direct {v} m) d = let (k, h) = input-linked v m in on-link k h d
  lead (through {v} m e) d = let (k, h) = input-linked v m in on-link k h (lead e d)

  -- ── the test ──
  module _ (below : (v i : ℕ) → Memᴰ i (inputs_of t v) → i < t.n) where
    plain-below : (v i : ℕ) → Memᴰ i (plain_inputs t v) → i < t.n
    plain-below v i m = below v i (linked-input input v m)

    -- an index that is found is on a closed chain
    round-chain : (v x : ℕ) → round_index t v x ≡ true → (c : Bool) × Chain t v v c true
    round-chain v x e =
        let (i, m, h) = any-has (λ j. together (inputs_of t) t.n v x && together (inputs_of t) t.n v j) (indices t x) e in
        let to = together-is (inputs_of t) t.n below v x (and_left (together (inputs_of t) t.n v x) (together (inputs_of t) t.n v i) h) in
        let back = together-is (inputs_of t) t.n below v i (and_right (together (inputs_of t) t.n v x) (together (inputs_of t) t.n v i) h) in
        let (c, y, d) = depends-chain back.1 in
        lead to.0 (c, on index m d)

    -- and one on a closed chain is found
    passes-round : (v : ℕ) → Passes v v → (x : ℕ) × (x < t.n) × (round_index t v x ≡ true)
    passes-round v p =
        let m = linked-input index p.made p.taken in
        let at = reach-round p.to (link-reach m p.from) in
        let past = reach-round p.from (reach-link p.to m) in (
          p.made,
          depends-low (inputs_of t) t.n below at.0,
          any-in (λ i. together (inputs_of t) t.n v p.made && together (inputs_of t) t.n v i) (indices t p.made) p.taken
              (ap₂ ◌&&◌ (together-yes (inputs_of t) t.n below v p.made at) (together-yes (inputs_of t) t.n below v p.chosen (past.1, past.0))),
        )

    pub permitted-exactly : (v : ℕ) → PermittedExactly t v
    permitted-exactly v = record { each = each; some = some }
      where
        plainly : Bool
        plainly = depends (plain_inputs t) t.n v v

        off : Bool
        off = all_below (λ x. not (round_index t v x)) t.n

        each : permitted t v ≡ true → (c x : Bool) → Chain t v v c x → (c ≡ true) × (x ≡ false)
        each e c x d = (bare c refl, clear)
          where
            clear : x ≡ false
            clear = go x refl
              where
                go : (b : Bool) → x ≡ b → x ≡ false
                go true q =
                    let (y, k, h) = passes-round v (chain-passes d q) in
                    clash h (not-true (round_index t v y) (all_below-at (λ z. not (round_index t v z)) t.n (and_right (not plainly) off e) y k))
                go false q = q

            bare : (b : Bool) → c ≡ b → c ≡ true
            bare true q = q
            bare false q =
                let l = depends-low (inputs_of t) t.n below (chain-depends d) in
                clash (depends-yes (plain_inputs t) t.n plain-below v v l (chain-plain d q clear)) (not-true plainly (and_left (not plainly) off e))

        some : permitted t v ≡ false → (c : Bool) × (x : Bool) × Chain t v v c x × ((c ≡ false) ⊎ (x ≡ true))
        some e = go plainly refl e
          where
            go : (b : Bool) → plainly ≡ b → (not b && off) ≡ false → (c : Bool) × (x : Bool) × Chain t v v c x × ((c ≡ false) ⊎ (x ≡ true))
            go true q r = (false, false, plain-chain (depends-is (plain_inputs t) t.n plain-below v v q), inl refl)
            go false q r =
                let (x, k, h) = below_fails (λ y. not (round_index t v y)) t.n r in
                let (c, d) = round-chain v x (not-false (round_index t v x) h) in
                (c, true, d, inr refl)
