-- Text put one behind the other is one text, whether it fits or not; and what a buffer holds once text was put from its front on. Assumes nothing.
use Prim.Native.Nat.{ℕ, suc, ◌+◌, ◌-◌, ◌≤◌, ◌<◌, min}
use native.Mathlib.Numerals.{add-one}
use native.Mathlib.Omega.{arith}
use mathlib.Core.Bool.{Bool, true, false}
use mathlib.Core.List.{List, [], ◌∷◌, ◌++◌}
use mathlib.Core.Path.{◌≡◌, refl, ap, sym, ◌∙◌}
use borrow.Author.Tests.{leb-true, leb-false}
use lib.Dec.{leb}
use lib.ListN.{length, take, drop, set, length-append, take-append-drop}
use lib.Seq.{sets, length-sets, set_out, take-suc, take_all, take_at, drop_at, length-take-le}
use Rattle.io.specs.Counts.{IsPrefixLen}
use Rattle.io.proofs.Counting.{prefix_len_of_le}
use Rattle.paper.specs.Lists.{nat}
use Rattle.paper.proofs.Bytes.{go_on, sets-front}
use Rattle.text.specs.Buffer.{Put, Shows}

-- a full buffer takes no more
sets-full : (xs l : List ℕ) (at : ℕ) → length l ≤ at → sets l at xs ≡ l
sets-full [] l at h = refl
sets-full (x ∷ xs) l at h = rw (set_out l at x h) (sets-full xs l (suc at) (omega arith))

-- ── steps ──
pub put-nothing : (l : List ℕ) (at : ℕ) → Put [] l at l at
put-nothing l at = record { row = refl; place = omega arith }

-- one byte, with room for it and without
pub put_byte : (l : List ℕ) (at x : ℕ) → at < length l → Put (x ∷ []) l at (set l at x) (at + 1)
put_byte l at x h = record { row = refl; place = omega arith }

pub put-no-byte : (l : List ℕ) (at x : ℕ) → length l ≤ at → Put (x ∷ []) l at l at
put-no-byte l at x h = record { row = sym (set_out l at x h); place = omega arith }

-- a text behind a text
pub put_then : {xs ys l l₁ l₂ : List ℕ} {at k next : ℕ} → Put xs l at l₁ k → Put ys l₁ k l₂ next → Put (xs ++ ys) l at l₂ next
put_then {xs} {ys} {l} {l₁} {l₂} {at} {k} {next} p q = record { row = go (leb (at + length xs) (length l)) refl; place = ends }
  where
    long : length l₁ ≡ length l
    long = ap length p.row ∙ length-sets l at xs

    here : k ≡ at + min (length xs) (length l - at)
    here = p.place

    ends : next ≡ at + min (length (xs ++ ys)) (length l - at)
    ends =
        let n : next ≡ k + min (length ys) (length l₁ - k) = q.place in
        let s : length (xs ++ ys) ≡ length xs + length ys = length-append xs ys in
        rw s (omega (arith, n, here, long))

    go : (t : Bool) → leb (at + length xs) (length l) ≡ t → l₂ ≡ sets l at (xs ++ ys)
    go true e = let h : at + length xs ≤ length l = leb-true _ _ e in go_on l at xs ys k p.row (omega (arith, h, here)) q.row
    go false e =
        let h : length l < at + length xs = leb-false _ _ e in
        let full : length (sets l at xs) ≤ at + length xs = omega (arith, h, length-sets l at xs) in
        q.row ∙ sets-full ys l₁ k (omega (arith, h, here, long)) ∙ p.row
        ∙ sym (sets-full ys (sets l at xs) (at + length xs) full) ∙ go_on l at xs ys (at + length xs) refl refl refl

-- one byte more of a text
pub put_next : {l l₁ l₂ : List ℕ} {at k next : ℕ} (xs : List ℕ) (i : ℕ) → i < length xs → Put (take i xs) l at l₁ k → Put (nat xs i ∷ []) l₁ k l₂ next → Put (take (i + 1) xs) l at l₂ next
put_next xs i h p q = rw (add-one i, take-suc xs i 0 h) (put_then p q)

-- ── text put from the front on ──
pub put-counts : {xs l after : List ℕ} {k : ℕ} → Put xs l 0 after k → IsPrefixLen k after
put-counts {xs} {l} {after} {k} p =
    let e : length after ≡ length l = ap length p.row ∙ length-sets l 0 xs in
    let h : k ≡ 0 + min (length xs) (length l - 0) = p.place in
    prefix_len_of_le k after (omega (arith, e, h))

pub put-shows : {xs l after : List ℕ} {k : ℕ} → Put xs l 0 after k → Shows xs l after k
put-shows {xs} {l} {after} {k} p = go (leb (length xs) (length l)) refl
  where
    here : k ≡ 0 + min (length xs) (length l - 0)
    here = p.place

    go : (t : Bool) → leb (length xs) (length l) ≡ t → Shows xs l after k
    go true e =
        let h : length xs ≤ length l = leb-true _ _ e in
        let z : length xs ≡ k = omega (arith, here, h) in
        let a : after ≡ xs ++ drop k l = p.row ∙ sets-front xs l k z (omega arith) in
        record { shown = rw a (take_at xs (drop k l) k z ∙ sym (take_all (length l) xs h)); rest = rw a (drop_at xs (drop k l) k z) }
    go false e =
        let h : length l < length xs = leb-false _ _ e in
        let z : k ≡ length l = omega (arith, here, h) in
        let front = take (length l) xs in
        let n : length front ≡ length l = length-take-le (length l) xs (omega arith) in
        let all : sets l 0 front ≡ front ++ drop (length l) l = sets-front front l (length l) n (omega arith) in
        let a : after ≡ front ++ drop (length l) l =
        p.row ∙ ap (sets l 0) (sym (take-append-drop (length l) xs)) ∙ sym (go_on l 0 front (drop (length l) xs) (length l) refl (omega (arith, n)) refl)
        ∙ sets-full (drop (length l) xs) (sets l 0 front) (length l) (omega (arith, length-sets l 0 front)) ∙ all in
        record { shown = rw (a, z) (take_at front (drop (length l) l) (length l) n); rest = rw (a, z) (drop_at front (drop (length l) l) (length l) n) }
