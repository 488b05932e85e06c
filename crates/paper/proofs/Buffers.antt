-- Lent rows that a call fills: `below` and `over`, place by place, and as a loop fills them from the front. Assumes nothing.
use Prim.Native.Nat.{ℕ, zero, suc, ◌+◌, ◌≤◌, ◌<◌}
use native.Mathlib.Nat.{le_refl, not-suc-le-zero}
use native.Mathlib.Numerals.{add-one}
use native.Mathlib.Omega.{arith}
use mathlib.Core.Bool.{Bool, true, false, cond}
use mathlib.Core.List.{List, [], ◌∷◌, ◌++◌}
use mathlib.Core.Path.{◌≡◌, refl, ap, ap₂, sym, ◌∙◌}
use lib.Dec.{eqb, ltb}
use lib.ListN.{length, get_or, take, drop, set, length-append, length-drop, length-set, take-append-drop, get_or-append}
use lib.Seq.{take_at, drop_at, take-suc, take-suc-set, drop-set-lt, take-append-le, drop-append-le, get_or-append_seam, set-append_left, get_or-set_same, get_or-set_other, ext_get_or, get_or-take, get_or-drop, length-take-le}
use borrow.Author.Tests.{ltb-true, ltb-false, eqb-true, eqb-false}
use Rattle.paper.specs.Lists.{tally, size, below, over}
use Rattle.paper.proofs.Lists.{tally-append}

-- ── f of the numbers below n ──
module _ {A : Type 0} (f : ℕ → A) where
  pub length-below : (n : ℕ) → length (below f n) ≡ n
  length-below zero = refl
  length-below (suc n) = length-append (below f n) (f n ∷ []) ∙ (let h = length-below n in omega arith)

  pub get_d-below : (n v : ℕ) (d : A) → v < n → get_or (below f n) v d ≡ f v
  get_d-below zero v d l = absurd (not-suc-le-zero l)
  get_d-below (suc n) v d l = go (ltb v n) refl (get_d-below n v d)
    where
      go : (b : Bool) → ltb v n ≡ b → (v < n → get_or (below f n) v d ≡ f v) → get_or (below f n ++ (f n ∷ [])) v d ≡ f v
      go true e ih =
          let h = ltb-true v n e in let k = length-below n in
          get_or-append (below f n) (f n ∷ []) d v (omega arith) ∙ ih h
      go false e ih =
          let h = ltb-false v n e in let same : v ≡ n = omega arith in
          rw same (ap (λ i. get_or (below f n ++ (f n ∷ [])) i d) (sym (length-below n)) ∙ get_or-append_seam (below f n) (f n) [] d)

  pub below-same : (g : ℕ → A) (n : ℕ) → ((v : ℕ) → v < n → f v ≡ g v) → below f n ≡ below g n
  below-same g zero h = refl
  below-same g (suc n) h = ap₂ (λ l x. l ++ (x ∷ [])) (below-same g n (λ v l. h v (omega arith))) (h n (le_refl (suc n)))

-- a list is what its places hold
pub below-list : {A : Type 0} (l : List A) (d : A) (n : ℕ) → n ≤ length l → below (λ i. get_or l i d) n ≡ take n l
below-list l d zero h = refl
below-list l d (suc n) h = ap (◌++ (get_or l n d ∷ [])) (below-list l d n (omega arith)) ∙ sym (take-suc l n d h)

-- what stands from k on does not show in a part that ends before it
pub part-front : {A : Type 0} (l : List A) (a n k : ℕ) (rest : List A) → a + n ≤ k → k ≤ length l → take n (drop a (take k l ++ rest)) ≡ take n (drop a l)
part-front l a n k rest h low = before rest ∙ sym (before (drop k l)) ∙ ap (λ z. take n (drop a z)) (take-append-drop k l)
  where
    before : (r : List _) → take n (drop a (take k l ++ r)) ≡ take n (drop a (take k l))
    before r =
        let q = length-take-le k l low in let p = length-drop a (take k l) in
        ap (take n) (drop-append-le a (take k l) r (omega arith)) ∙ take-append-le n (drop a (take k l)) r (omega arith)

-- ── a row with f over its first n places ──
module _ {A : Type 0} (f : ℕ → A) (n : ℕ) (before : List A) where
  pub over-length : n ≤ length before → length (over n f before) ≡ length before
  over-length h = length-append (below f n) (drop n before) ∙ (let a = length-below f n in let b = length-drop n before in omega arith)

  pub over-at : (v : ℕ) (d : A) → v < n → get_or (over n f before) v d ≡ f v
  over-at v d l = let k = length-below f n in get_or-append (below f n) (drop n before) d v (omega arith) ∙ get_d-below f n v d l

  pub over-front : take n (over n f before) ≡ below f n
  over-front = take_at (below f n) (drop n before) n (length-below f n)

  pub over-over : (g : ℕ → A) → over n f (over n g before) ≡ over n f before
  over-over g = ap (below f n ++◌) (drop_at (below g n) (drop n before) n (length-below g n))

  pub over-same : (g : ℕ → A) → ((v : ℕ) → v < n → f v ≡ g v) → over n f before ≡ over n g before
  over-same g h = ap (◌++ drop n before) (below-same f g n h)

  -- one place changed
  pub over-set : (v : ℕ) (x : A) → v < n → set (over n f before) v x ≡ over n (λ w. cond (eqb v w) x (f w)) before
  over-set v x h =
      set-append_left (below f n) (drop n before) v x (let a = length-below f n in omega arith)
      ∙ ap (◌++ drop n before) (ext_get_or x (set (below f n) v x) (below (λ w. cond (eqb v w) x (f w)) n) long each)
    where
      long : length (set (below f n) v x) ≡ length (below (λ w. cond (eqb v w) x (f w)) n)
      long = length-set (below f n) v x ∙ length-below f n ∙ sym (length-below (λ w. cond (eqb v w) x (f w)) n)

      each : (i : ℕ) → i < length (set (below f n) v x) → get_or (set (below f n) v x) i x ≡ get_or (below (λ w. cond (eqb v w) x (f w)) n) i x
      each i l =
          let a = length-set (below f n) v x in let b = length-below f n in let low : i < n = omega arith in
          go (eqb v i) refl low ∙ sym (get_d-below (λ w. cond (eqb v w) x (f w)) n i x low)
        where
          go : (t : Bool) → eqb v i ≡ t → i < n → get_or (set (below f n) v x) i x ≡ cond t x (f i)
          go true q low =
              let same = eqb-true v i q in let b = length-below f n in
              ap (λ k. get_or (set (below f n) v x) k x) (sym same) ∙ get_or-set_same (below f n) v x x (omega arith)
          go false q low = get_or-set_other (below f n) v i x x (λ z. eqb-false v i q (sym z)) ∙ get_d-below f n i x low

-- a row that is f at its first n places, and what stood before beyond them
pub over-of : {A : Type 0} (f : ℕ → A) (n : ℕ) (before l : List A) (d : A) → length l ≡ length before → n ≤ length before
    → ((v : ℕ) → v < n → get_or l v d ≡ f v) → drop n l ≡ drop n before → l ≡ over n f before
over-of f n before l d long room front back = sym (take-append-drop n l) ∙ ap₂ ◌++◌ (ext_get_or d (take n l) (below f n) (len ∙ sym (length-below f n)) each) back
  where
    len : length (take n l) ≡ n
    len = length-take-le n l (omega arith)

    each : (v : ℕ) → v < length (take n l) → get_or (take n l) v d ≡ get_or (below f n) v d
    each v k = let h : v < n = let e = len in omega arith in get_or-take n l v d h ∙ front v h ∙ sym (get_d-below f n v d h)

-- ── a loop that fills a row from the front ──
-- f stands at the places below i of l, and elsewhere what stood before
pub record Filled {A : Type 0} (f : ℕ → A) (before l : List A) (i : ℕ) : Type 0 where
  pub long : length l ≡ length before
  pub front : take i l ≡ below f i
  pub back : drop i l ≡ drop i before

module _ {A : Type 0} (f : ℕ → A) (before : List A) where
  pub filled-start : Filled f before before 0
  filled-start = record { long = refl; front = refl; back = refl }

  pub filled_next : (l : List A) (i : ℕ) {x : A} → Filled f before l i → i < length before → x ≡ f i → Filled f before (set l i x) (i + 1)
  filled_next l i {x} s h e = let long = s.long in rw (e, add-one i) (record {
    long = length-set l i (f i) ∙ s.long;
    front = take-suc-set l i (f i) (omega arith) ∙ ap (◌++ (f i ∷ [])) s.front;
    back = drop-set-lt (suc i) l i (f i) (le_refl (suc i)) ∙ tail i l before s.back;
  })
    where
      one : (j : ℕ) (a : List A) → drop (suc j) a ≡ drop 1 (drop j a)
      one zero a = refl
      one (suc j) [] = refl
      one (suc j) (y ∷ ys) = one j ys

      tail : (j : ℕ) (a b : List A) → drop j a ≡ drop j b → drop (suc j) a ≡ drop (suc j) b
      tail j a b q = one j a ∙ ap (drop 1) q ∙ sym (one j b)

  pub filled-end : (l : List A) (i n : ℕ) → Filled f before l i → i ≡ n → l ≡ over n f before
  filled-end l i n s e = rw (← e) (sym (take-append-drop i l) ∙ ap₂ ◌++◌ s.front s.back)

  -- what is still to come stands as it did
  pub filled-still : (l : List A) (i : ℕ) (d : A) → Filled f before l i → get_or l i d ≡ get_or before i d
  filled-still l i d s =
      let z : i + 0 ≡ i = omega arith in
      ap (λ k. get_or l k d) (sym z) ∙ sym (get_or-drop i l 0 d) ∙ ap (λ r. get_or r 0 d) s.back ∙ get_or-drop i before 0 d ∙ ap (λ k. get_or before k d) z

-- ── the number of ones in a row of flags ──
pub ones_below : (p : ℕ → Bool) (n : ℕ) → tally (eqb 1) (below (λ v. cond (p v) 1 0) n) ≡ size p n
ones_below p zero = refl
ones_below p (suc n) = tally-append (eqb 1) (below (λ v. cond (p v) 1 0) n) (cond (p n) 1 0 ∷ []) ∙ go (p n) (ones_below p n)
  where
    go : (b : Bool) → tally (eqb 1) (below (λ v. cond (p v) 1 0) n) ≡ size p n
        → tally (eqb 1) (below (λ v. cond (p v) 1 0) n) + tally (eqb 1) (cond b 1 0 ∷ []) ≡ cond b (suc (size p n)) (size p n)
    go true ih = omega arith
    go false ih = omega arith
