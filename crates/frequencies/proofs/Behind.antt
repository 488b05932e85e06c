-- What is left of a file without the line ends at its end, found from the back: a byte that ends no line keeps all before it. Assumes nothing.
use Prim.Native.Nat.{ℕ, zero, suc, ◌+◌, ◌-◌, ◌≤◌, ◌<◌}
use native.Mathlib.Omega.{arith}
use mathlib.Core.Bool.{Bool, true, false, cond, ◌&&◌, ◌||◌}
use mathlib.Core.List.{List, [], ◌∷◌}
use mathlib.Core.Path.{◌≡◌, refl, ap, sym, ◌∙◌}
use lib.Dec.{eqb}
use lib.ListN.{length, take, drop, drop_of_length-le}
use lib.Seq.{drop-drop}
use Rattle.std.specs.List.{starts_with}
use borrow.Author.Tests.{eqb-true, eqb-false, eq-eqb, ne_eqb}
use Rattle.paper.specs.Lists.{every, nat}
use Rattle.paper.proofs.Lists.{clash, and_right}
use Rattle.paper.proofs.Scan.{next}
use Rattle.frequencies.specs.Csv.{is_line_feed, is_return, line_feed_next, only_ends, mark_length, trimmed}
use Rattle.frequencies.specs.Ends.{Trimmed}

-- a byte is one of a line end, before these
abbrev pub ends_line : ℕ → List ℕ → Bool
ends_line b bs = is_line_feed b || (is_return b && line_feed_next bs)

only-cons : (b : ℕ) (bs : List ℕ) → only_ends (b ∷ bs) ≡ (ends_line b bs && only_ends bs)
only-cons b bs = go (is_line_feed b) (is_return b) (line_feed_next bs)
  where
    go : (f r n : Bool) → cond f (only_ends bs) (r && (n && only_ends bs)) ≡ ((f || (r && n)) && only_ends bs)
    go true r n = refl
    go false true n = refl
    go false false n = refl

only-tail : (k : ℕ) (bs : List ℕ) → only_ends bs ≡ true → only_ends (drop k bs) ≡ true
only-tail zero bs h = h
only-tail (suc k) [] h = refl
only-tail (suc k) (b ∷ bs) h = only-tail k bs (and_right (ends_line b bs) (only_ends bs) (sym (only-cons b bs) ∙ h))

-- where only line ends are left
cut-here : (bs : List ℕ) → only_ends bs ≡ true → [] ≡ trimmed bs
cut-here [] h = refl
cut-here (b ∷ bs) h = sym (ap (λ g. cond g [] (b ∷ trimmed bs)) h)

-- and where a byte before them ends no line
cut-behind : (k : ℕ) (bs : List ℕ) → only_ends (drop k bs) ≡ false → only_ends (drop (suc k) bs) ≡ true → take (suc k) bs ≡ trimmed bs
cut-behind k [] h e = refl
cut-behind zero (b ∷ bs) h e = ap (b ∷◌) (cut-here bs e) ∙ sym (ap (λ g. cond g [] (b ∷ trimmed bs)) h)
cut-behind (suc k) (b ∷ bs) h e = go (only_ends (b ∷ bs)) refl (cut-behind k bs h e)
  where
    go : (g : Bool) → only_ends (b ∷ bs) ≡ g → take (suc k) bs ≡ trimmed bs → take (suc (suc k)) (b ∷ bs) ≡ cond g [] (b ∷ trimmed bs)
    go true q r = clash (only-tail (suc k) (b ∷ bs) q) h
    go false q r = ap (b ∷◌) r

-- a loop from the back that has come to `end`
pub record Behind (bytes : List ℕ) (mark end : ℕ) : Type 0 where
  pub low : mark ≤ end
  pub high : end ≤ length bytes
  pub ends : only_ends (drop end bytes) ≡ true

module _ (bytes : List ℕ) (mark : ℕ) where
  pub behind-start : mark ≤ length bytes → Behind bytes mark (length bytes)
  behind-start h = record { low = h; high = omega arith; ends = ap only_ends (drop_of_length-le bytes {i = length bytes} (omega arith)) }

  abbrev pub ends_at : ℕ → Bool
  ends_at at = ends_line (nat bytes at) (drop (at + 1) bytes)

  only_at : (at : ℕ) → at < length bytes → only_ends (drop at bytes) ≡ (ends_at at && only_ends (drop (at + 1) bytes))
  only_at at h = ap only_ends (next bytes at 0 h) ∙ only-cons (nat bytes at) (drop (at + 1) bytes)

  pub behind-next : (end : ℕ) → Behind bytes mark end → mark < end → ends_at (end - 1) ≡ true → Behind bytes mark (end - 1)
  behind-next end s l e =
      let high = s.high in let same : (end - 1) + 1 ≡ end = omega arith in
      record {
        low = omega arith;
        high = omega arith;
        ends = only_at (end - 1) (omega arith) ∙ ap (◌&& only_ends (drop ((end - 1) + 1) bytes)) e ∙ ap (λ n. only_ends (drop n bytes)) same ∙ s.ends;
      }

  pub behind-found : (end : ℕ) → Behind bytes mark end → mark < end → ends_at (end - 1) ≡ false → Trimmed bytes mark end
  behind-found end s l e =
      let k = (end - 1) - mark in
      let high = s.high in
      let here : mark + k ≡ end - 1 = omega arith in
      let there : mark + suc k ≡ end = omega arith in
      let size : end - mark ≡ suc k = omega arith in
      record {
        low = s.low;
        high = s.high;
        body = ap (λ n. take n (drop mark bytes)) size ∙ cut-behind k (drop mark bytes)
            (ap only_ends (drop-drop k mark bytes) ∙ ap (λ n. only_ends (drop n bytes)) here ∙ only_at (end - 1) (omega arith) ∙ ap (◌&& only_ends (drop ((end - 1) + 1) bytes)) e)
            (ap only_ends (drop-drop (suc k) mark bytes) ∙ ap (λ n. only_ends (drop n bytes)) there ∙ s.ends);
      }

  pub behind-all : (end : ℕ) → Behind bytes mark end → end ≤ mark → Trimmed bytes mark end
  behind-all end s l =
      let low = s.low in let same : end ≡ mark = omega arith in let size : end - mark ≡ 0 = omega arith in
      record {
        low = s.low;
        high = s.high;
        body = ap (λ n. take n (drop mark bytes)) size ∙ cut-here (drop mark bytes) (ap (λ n. only_ends (drop n bytes)) (sym same) ∙ s.ends);
      }

-- ── the byte order mark ──
swapped : (x y : ℕ) → eqb x y ≡ eqb y x
swapped x y = go (eqb y x) refl
  where
    go : (b : Bool) → eqb y x ≡ b → eqb x y ≡ b
    go true e = eq-eqb x y (sym (eqb-true y x e))
    go false e = ne_eqb x y (λ p. eqb-false y x e (sym p))

pub mark-is : (bytes : List ℕ) → cond (starts_with eqb bytes (239 ∷ 187 ∷ 191 ∷ [])) 3 0 ≡ mark_length bytes
unfolding every
mark-is [] = refl
mark-is (a ∷ []) = one (eqb 239 a) (eqb a 239)
  where
    one : (x y : Bool) → ◌≡◌ {A = ℕ} (cond (x && false) 3 0) (cond (y && false) 3 0)
    one true true = refl
    one true false = refl
    one false true = refl
    one false false = refl
mark-is (a ∷ b ∷ []) = two (eqb 239 a) (eqb 187 b) (eqb a 239) (eqb b 187)
  where
    off : (x y : Bool) → (x && (y && false)) ≡ false
    off true true = refl
    off true false = refl
    off false y = refl

    two : (x y z w : Bool) → ◌≡◌ {A = ℕ} (cond (x && (y && false)) 3 0) (cond (z && (w && false)) 3 0)
    two x y z w = rw (off x y, off z w)
mark-is (a ∷ b ∷ c ∷ l) = rw (swapped 239 a, swapped 187 b, swapped 191 c)
