-- Check 8 of the index, row by row: the readers of each variable so far stand from its start on. Were the index build's, the next row would
-- stand behind them; and where each variable's end is the next one's start, the index is build's. Assumes nothing.
use Prim.Native.Nat.{ℕ, zero, suc, ◌+◌, ◌≤◌, ◌<◌}
use native.Mathlib.Nat.{lt_irrefl, not-suc-le-zero}
use native.Mathlib.Numerals.{add-one}
use native.Mathlib.Omega.{arith}
use mathlib.Core.Bool.{Bool, true, false, cond, ◌&&◌}
use mathlib.Core.List.{List, [], ◌∷◌, ◌++◌, Memᴰ}
use mathlib.Core.Path.{◌≡◌, refl, ap, ap₂, sym, ◌∙◌, subst}
use lib.Dec.{eqb, ltb}
use lib.ListN.{length, take, set, length-append, get_or-append}
use lib.Seq.{get_or-take, length-take-le, get_or-append_seam}
use borrow.Author.Tests.{ltb-true, ltb-false, eqb-true, eqb-false, eq-eqb, lt-ltb}
use Rattle.std.specs.Prelude.{Option, Some, None}
use Rattle.std.specs.Bool.{then_some}
use Rattle.paper.specs.Lists.{all, nat, those, all_below}
use Rattle.paper.specs.Tables.{Tables, Index, index_in, part, reads, readers, readers_start}
use Rattle.paper.specs.Checks.{indexed}
use Rattle.paper.proofs.Lists.{clash, and_left, and_right, all_in, all_of, all-places, any-has, any-in, eqb-self}
use Rattle.paper.proofs.Those.{joined-grown}
use Rattle.paper.proofs.Least.{all_below-at, below_all}
use Rattle.paper.proofs.Sections.{those-place}
use Rattle.paper.proofs.Indexed.{readers-within, indexed-start, indexed-place, indexed-from}
use Rattle.order.specs.Numbering.{above, made_right}
use Rattle.index.specs.Walk.{row_at, place_in, found_from, behind, stands, Begun, Untried, GoneOn, RowTried, ends_meet, RowsWalked}
use Rattle.index.specs.Index.{EntriesLaid}
use Rattle.index.proofs.Parts.{part-long, entry-low}
use Rattle.index.proofs.Few.{readers-few}
use Rattle.index.proofs.Tried.{put}

-- ── the cells as they begin ──
module _ (starts cells : List ℕ) where
  pub begun-start : Begun 0 starts cells
  begun-start = record { at = λ v l. absurd (not-suc-le-zero l); none = λ v l. absurd (not-suc-le-zero l) }

  pub begun-next : (k : ℕ) → Begun k starts cells → k < length cells → (x : ℕ) → x ≡ nat starts k → x < 65536 → Begun (k + 1) starts (set cells k x)
  begun-next k B h x e s = record { at = λ v l. at v l (eqb v k) refl; none = λ v l. none v l (eqb v k) refl }
    where
      at : (v : ℕ) → v < k + 1 → (b : Bool) → eqb v k ≡ b → place_in (nat (set cells k x) v) ≡ nat starts v
      at v l true q = let p = put cells k x v h ∙ ap (λ b. cond b x (nat cells v)) q in let z = e ∙ ap (nat starts) (sym (eqb-true v k q)) in omega arith
      at v l false q = let n = eqb-false v k q in ap place_in (put cells k x v h ∙ ap (λ b. cond b x (nat cells v)) q) ∙ B.at v (omega arith)

      none : (v : ℕ) → v < k + 1 → (b : Bool) → eqb v k ≡ b → nat (set cells k x) v < 65536
      none v l true q = let p = put cells k x v h ∙ ap (λ b. cond b x (nat cells v)) q in omega arith
      none v l false q = let n = eqb-false v k q in let p = put cells k x v h ∙ ap (λ b. cond b x (nat cells v)) q in let i = B.none v (omega arith) in omega arith

  pub begun-end : (k n : ℕ) → Begun k starts cells → k ≡ n → Begun n starts cells
  begun-end k n B e = rw (← e) B

-- the first k rows stand where they are to among the places that build may fill
pub record Walked (t : Tables) (starts filled : List ℕ) (k : ℕ) (cells : List ℕ) : Type 0 where
  pub long : t.n ≤ length cells
  pub on : (v : ℕ) → v < t.n → place_in (nat cells v) ≡ nat starts v + length (those (reads t v) k)
  pub at : (v j : ℕ) → v < t.n → j < length (those (reads t v) k) → row_at (nat (those (reads t v) k) j) filled (nat starts v + j) ≡ true
  pub low : (v : ℕ) → v < t.n → nat cells v < found_from k

module _ (t : Tables) (L : EntriesLaid t) (starts places : List ℕ) (room : t.e ≤ length places) where
  abbrev lent_index : Index
  lent_index = index_in starts places

  abbrev filled : List ℕ
  filled = take t.e places

  -- the readers of v among the first k rows
  abbrev before : ℕ → ℕ → List ℕ
  before k v = those (reads t v) k

  pub walked_start : (cells : List ℕ) → t.n ≤ length cells → Begun t.n starts cells → Walked t starts filled 0 cells
  walked_start cells long B = record {
    long = long;
    on = λ v l. let a = B.at v l in omega arith;
    at = λ v j l h. absurd (not-suc-le-zero h);
    low = λ v l. let a = B.none v l in omega arith;
  }

  module _ (k : ℕ) (cells : List ℕ) (W : Walked t starts filled k cells) (l : k < t.m) where
    abbrev inputs : List ℕ
    inputs = part t k t.vars

    abbrev good : ℕ → Bool
    good = stands k filled cells

    pub walked-untried : (nums part' : List ℕ) → t.n ≤ length nums → part' ≡ inputs → Untried k part' nums filled cells
    walked-untried nums part' numbers e =
        let n = L.few in let m = L.rows in
        record {
          row = omega arith;
          room = let a = length-take-le t.e places room in let e = L.small in omega arith;
          in-nums = λ i h. let b = low i h in omega arith;
          in_cells = λ i h. let b = low i h in let k = W.long in omega arith;
          not_found = λ i h. W.low (nat part' i) (low i h);
        }
      where
        low : (i : ℕ) → i < length part' → nat part' i < t.n
        low i h =
            let a = part-long t L k l in let long = ap length e in let b = entry-low t L k i l (omega arith) in let x = ap (λ (p : List ℕ). nat p i) e in
            omega arith

    -- ── the row stands behind them ──
    row_next : all good inputs ≡ true → (cells' : List ℕ) → GoneOn k inputs cells cells' → Walked t starts filled (k + 1) cells'
    row_next ok cells' P = rw (add-one k) (record {
      long = let a = P.long in let b = W.long in omega arith;
      on = λ v h. on v h (reads t v k) refl (P.on v);
      at = λ v j h. at v j h (ltb j (length (before k v))) refl (reads t v k) refl;
      low = λ v h. low v h (reads t v k) refl (P.on v);
    })
      where
        -- an input's readers have reached a place that build may fill
        good-at : (v : ℕ) → reads t v k ≡ true → good v ≡ true
        good-at v e =
            let (u, m, w) = any-has (eqb v) inputs e in
            all_in good inputs ok (subst (λ x. Memᴰ x inputs) (sym (eqb-true v u w)) m)

        small : (v : ℕ) → reads t v k ≡ true → place_in (nat cells v) < 16384
        small v e =
            let at = place_in (nat cells v) in let s = L.small in let f = length-take-le t.e places room in
            let g = ltb-true at (length filled) (and_left (ltb at (length filled)) (eqb (nat filled at) k) (good-at v e)) in
            omega arith

        on : (v : ℕ) → v < t.n → (b : Bool) → reads t v k ≡ b → nat cells' v ≡ cond b (behind k cells v) (nat cells v)
            → place_in (nat cells' v) ≡ nat starts v + length (before k v ++ cond b (k ∷ []) [])
        on v h true q p =
            let a = length-append (before k v) (k ∷ []) in let w = W.on v h in let s = small v q in
            omega arith
        on v h false q p = let a = length-append (before k v) [] in let w = W.on v h in omega arith

        at : (v j : ℕ) → v < t.n → (c : Bool) → ltb j (length (before k v)) ≡ c → (b : Bool) → reads t v k ≡ b → j < length (before k v ++ cond b (k ∷ []) [])
            → row_at (nat (before k v ++ cond b (k ∷ []) []) j) filled (nat starts v + j) ≡ true
        at v j h true q b e s =
            let i = ltb-true j (length (before k v)) q in
            ap (λ r. row_at r filled (nat starts v + j)) (get_or-append (before k v) (cond b (k ∷ []) []) 0 j i) ∙ W.at v j h i
        at v j h false q true e s =
            let i = ltb-false j (length (before k v)) q in let a = length-append (before k v) (k ∷ []) in
            let z : j ≡ length (before k v) = omega arith in
            rw z (ap₂ (λ r p. row_at r filled p) (get_or-append_seam (before k v) k [] 0) (sym (W.on v h)) ∙ good-at v e)
        at v j h false q false e s =
            let i = ltb-false j (length (before k v)) q in let a = length-append (before k v) [] in
            absurd (lt_irrefl j (omega arith))

        low : (v : ℕ) → v < t.n → (b : Bool) → reads t v k ≡ b → nat cells' v ≡ cond b (behind k cells v) (nat cells v) → nat cells' v < found_from (suc k)
        low v h true q e = let s = small v q in omega arith
        low v h false q e = let a = W.low v h in omega arith

    -- ── or the index is not build's ──
    next-good : indexed t lent_index ≡ true → (v : ℕ) → Memᴰ v inputs → v < t.n → good v ≡ true
    next-good ok v m low =
        let (less, is) = those-place (reads t v) k t.m l (any-in (eqb v) inputs m (eqb-self v)) in
        let start = indexed-start t lent_index ok v (omega arith) in let r = W.on v low in
        let within = readers-within t v (length (before k v)) low less in let few = readers-few t L in
        let at = place_in (nat cells v) in
        let here : at ≡ readers_start t v + length (before k v) = omega arith in
        ap₂ ◌&&◌
        (lt-ltb at (length filled) (let a = length-take-le t.e places room in omega arith))
        (eq-eqb (nat filled at) k
        (get_or-take t.e places at 0 (omega arith) ∙ ap (nat places) here ∙ indexed-place t lent_index ok v (length (before k v)) low less ∙ is))

    inputs-low : (v : ℕ) → Memᴰ v inputs → v < t.n
    inputs-low v m =
        ltb-true v t.n (all_in (λ w. ltb w t.n) inputs (all-places (λ w. ltb w t.n) inputs 0 (λ i h.
        let a = part-long t L k l in lt-ltb (nat inputs i) t.n (entry-low t L k i l (omega arith)))) m)

    row-stop : false ≡ all good inputs → false ≡ indexed t lent_index
    row-stop no_more = go (indexed t lent_index) refl
      where
        go : (b : Bool) → indexed t lent_index ≡ b → false ≡ b
        go true ok = clash (all_of good inputs (λ v m. next-good ok v m (inputs-low v m))) (sym no_more)
        go false ok = refl

    -- ── the row has been tried ──
    module _ (nums part' cells' : List ℕ) (e : part' ≡ inputs) {d : Option ℕ} (T : RowTried k part' nums filled cells cells' d) where
      is : d ≡ cond (all good inputs) (Some (above (nat nums) inputs)) None
      is = (subst (λ (p : List ℕ). RowTried k p nums filled cells cells' d) e T).is

      is-at : (b : Bool) → all good inputs ≡ b → d ≡ cond b (Some (above (nat nums) inputs)) None
      is-at b q = is ∙ ap (λ b. cond b (Some (above (nat nums) inputs)) None) q

      pub walked_next : (x : ℕ) → d ≡ Some x → Walked t starts filled (k + 1) cells'
      walked_next x h = go (all good inputs) refl
        where
          go : (b : Bool) → all good inputs ≡ b → Walked t starts filled (k + 1) cells'
          go true q = row_next q cells' (subst (λ (p : List ℕ). GoneOn k p cells cells') e (T.passed x h))
          go false q = let z = is-at false q in absurd (cc)

      pub walked_stop : d ≡ None → false ≡ indexed t lent_index
      walked_stop h = go (all good inputs) refl
        where
          go : (b : Bool) → all good inputs ≡ b → false ≡ indexed t lent_index
          go true q = let z = is-at true q in absurd (cc)
          go false q = row-stop (sym q)

      -- what was found due is what the paper asks of what the row makes
      pub due-is : (x : ℕ) → d ≡ Some x → x ≡ above (nat nums) inputs
      due-is x h = go (all good inputs) refl
        where
          go : (b : Bool) → all good inputs ≡ b → x ≡ above (nat nums) inputs
          go true q = let z = is-at true q in cc
          go false q = let z = is-at false q in absurd (cc)

  -- ── all rows ──
  module _ (cells : List ℕ) (W : Walked t starts filled t.m cells) where
    abbrev meets : ℕ → Bool
    meets v = eqb (place_in (nat cells v)) (nat starts (v + 1))

    -- the starts follow from the ends
    closed-start : ends_meet t.n starts cells ≡ true → (v : ℕ) → v ≤ t.n → nat starts v ≡ readers_start t v
    closed-start ok zero l = eqb-true (nat starts 0) 0 (and_right (all_below meets t.n) (eqb (nat starts 0) 0) ok)
    closed-start ok (suc v) l =
        let i = closed-start ok v (omega arith) in let s = joined-grown (readers t) v in let w = W.on v l in
        let e = eqb-true (place_in (nat cells v)) (nat starts (v + 1)) (all_below-at meets t.n (and_left (all_below meets t.n) (eqb (nat starts 0) 0) ok) v l) ∙ ap (nat starts) (add-one v) in
        omega arith

    closed-indexed : ends_meet t.n starts cells ≡ true → indexed t lent_index ≡ true
    closed-indexed ok = indexed-from t lent_index (closed-start ok) (λ v j l h.
        let at = nat starts v + j in let r = nat (readers t v) j in let w = W.at v j l h in
        let low = ltb-true at (length filled) (and_left (ltb at (length filled)) (eqb (nat filled at) r) w) in
        let a = length-take-le t.e places room in
        ap (λ p. nat places (p + j)) (sym (closed-start ok v (omega arith)))
        ∙ sym (get_or-take t.e places at 0 (omega arith)) ∙ eqb-true (nat filled at) r (and_right (ltb at (length filled)) (eqb (nat filled at) r) w))

    indexed-closed : indexed t lent_index ≡ true → ends_meet t.n starts cells ≡ true
    indexed-closed ok = ap₂ ◌&&◌ (below_all meets t.n ends) (eq-eqb (nat starts 0) 0 (start 0 (omega arith)))
      where
        start : (v : ℕ) → v ≤ t.n → nat starts v ≡ readers_start t v
        start = indexed-start t lent_index ok

        ends : (v : ℕ) → v < t.n → meets v ≡ true
        ends v l =
            let a = start v (omega arith) in let b = ap (nat starts) (add-one v) ∙ start (suc v) l in let s = joined-grown (readers t) v in let w = W.on v l in
            eq-eqb (place_in (nat cells v)) (nat starts (v + 1)) (omega arith)

    closed_is : ends_meet t.n starts cells ≡ indexed t lent_index
    closed_is = go (ends_meet t.n starts cells) refl (indexed t lent_index) refl
      where
        go : (a : Bool) → ends_meet t.n starts cells ≡ a → (b : Bool) → indexed t lent_index ≡ b → a ≡ b
        go true p b q = sym (closed-indexed p) ∙ q
        go false p true q = clash (indexed-closed q) p
        go false p false q = refl

  pub walked_end : (k : ℕ) (cells : List ℕ) → Walked t starts filled k cells → k ≡ t.m → ends_meet t.n starts cells ≡ indexed t lent_index
  walked_end k cells W e = closed_is cells (subst (λ j. Walked t starts filled j cells) e W)

-- ── a row that does not stand decides, and otherwise the ends do ──
pub rows-stopped : (t u : Tables) (nums : List ℕ) (x : Index) → false ≡ indexed t x → RowsWalked t u nums x None
rows-stopped t u nums x e = record { index = e; numbers = λ d h. absurd (cc) }

pub rows-walked : (t u : Tables) (nums : List ℕ) (x : Index) (ends due : Bool) → ends ≡ indexed t x → due ≡ all_below (made_right u nums) u.m
    → RowsWalked t u nums x (then_some ends due)
rows-walked t u nums x true due e f = record { index = e; numbers = λ d h. let z : due ≡ d = cc in sym z ∙ f }
rows-walked t u nums x false due e f = rows-stopped t u nums x e
