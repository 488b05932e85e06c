-- What was touched is put back variable by variable: those before this one rest, and so do those that are not listed. Assumes nothing.
use Prim.Native.Nat.{ℕ, ◌+◌, ◌≤◌, ◌<◌}
use native.Mathlib.Omega.{arith}
use mathlib.Core.Bool.{Bool, true, false, cond}
use mathlib.Core.List.{List}
use mathlib.Core.Logic.{◌⊎◌, inl, inr, ◌≢◌}
use mathlib.Core.Path.{◌≡◌, refl, ap, sym, ◌∙◌, subst}
use lib.Dec.{eqb}
use lib.IntN.{ℤ, pos}
use lib.ListN.{length, set, length-set}
use lib.Seq.{get_or-set_same, get_or-set_other}
use borrow.Author.Tests.{eqb-true, eqb-false}
use Rattle.paper.specs.Lists.{nat, size}
use Rattle.paper.proofs.Count.{size-add, size_same}
use Rattle.rows.specs.Changes.{values_of}
use Rattle.probes.specs.Touched.{Listed}
use Rattle.probes.specs.Rest.{Rests, AtRest, Astray}
use Rattle.probes.proofs.Notes.{none_passes}

abbrev flagged : List ℕ → ℕ → Bool
flagged flags u = eqb (nat flags u) 1

-- a flag taken is one fewer
pub taken : (flags : List ℕ) (v n : ℕ) → v < n → v < length flags → cond (flagged flags v) 1 0 + size (flagged (set flags v 0)) n ≡ size (flagged flags) n
taken flags v n l k = go (flagged flags v) refl
  where
    gone : flagged (set flags v 0) v ≡ false
    gone = ap (λ z. eqb z 1) (get_or-set_same flags v 0 0 k)

    other : (u : ℕ) → u ≢ v → flagged flags u ≡ flagged (set flags v 0) u
    other u ne = ap (λ z. eqb z 1) (sym (get_or-set_other flags v u 0 0 ne))

    go : (b : Bool) → flagged flags v ≡ b → cond b 1 0 + size (flagged (set flags v 0)) n ≡ size (flagged flags) n
    go true e = let a = size-add (flagged (set flags v 0)) (flagged flags) v n l gone e other in omega arith
    go false e = let a = size_same (flagged (set flags v 0)) (flagged flags) n (λ u h. same u (eqb u v) refl) in omega arith
      where
        same : (u : ℕ) (b : Bool) → eqb u v ≡ b → flagged (set flags v 0) u ≡ flagged flags u
        same u true q = subst (λ z. flagged (set flags v 0) z ≡ flagged flags z) (sym (eqb-true u v q)) (gone ∙ sym e)
        same u false q = sym (other u (eqb-false u v q))

module _ (n : ℕ) (stored trial : List ℤ) (flags marks work touched : List ℕ) (i count : ℕ) (A : Astray n stored trial flags marks work touched i count) where
  -- none is left
  pub back_end : count ≤ i → AtRest n stored trial flags marks work
  back_end h = record { roomy = A.roomy; each = λ u. go u (A.each u) }
    where
      go : (u : ℕ) → Rests n stored trial flags marks work u ⊎ Listed touched i count u → Rests n stored trial flags marks work u
      go u (inl r) = r
      go u (inr l) = absurd (let a = l.from in let b = l.before in omega arith)

  module _ (h : i < count) (v : ℕ) (q : v ≡ nat touched i) where
    pub back_low : v < n
    back_low = subst (λ z. z < n) (sym q) (A.low i h)

    -- one more
    pub back-next : (x : ℤ) → x ≡ values_of stored v → Astray n stored (set trial v x) (set flags v 0) (set marks v 0) (set work v 0) touched (i + 1) count
    back-next x e = record {
      roomy = record {
        in-stored = A.roomy.in-stored;
        in-trial = let a = length-set trial v x in let b = A.roomy.in-trial in omega arith;
        in-flags = let a = length-set flags v 0 in let b = A.roomy.in-flags in omega arith;
        in-marks = let a = length-set marks v 0 in let b = A.roomy.in-marks in omega arith;
        in-work = let a = length-set work v 0 in let b = A.roomy.in-work in omega arith;
      };
      in_list = A.in_list;
      low = A.low;
      each = λ u. go u (eqb u v) refl (A.each u);
    }
      where
        l : v < n
        l = back_low

        own : Rests n stored (set trial v x) (set flags v 0) (set marks v 0) (set work v 0) v
        own = record {
          value = λ k. get_or-set_same trial v x (pos 0) (let a = l in let b = A.roomy.in-trial in omega arith) ∙ e;
          no_flag = λ k. get_or-set_same flags v 0 0 (let a = l in let b = A.roomy.in-flags in omega arith);
          no-mark = get_or-set_same marks v 0 0 (let a = l in let b = A.roomy.in-marks in omega arith);
          no-work = λ k. get_or-set_same work v 0 0 (let a = l in let b = A.roomy.in-work in omega arith);
        }

        go : (u : ℕ) (b : Bool) → eqb u v ≡ b → Rests n stored trial flags marks work u ⊎ Listed touched i count u
            → Rests n stored (set trial v x) (set flags v 0) (set marks v 0) (set work v 0) u ⊎ Listed touched (i + 1) count u
        go u true p w = inl (subst (Rests n stored (set trial v x) (set flags v 0) (set marks v 0) (set work v 0)) (sym (eqb-true u v p)) own)
        go u false p (inl r) = let d = eqb-false u v p in inl (record {
          value = λ k. get_or-set_other trial v u x (pos 0) d ∙ r.value k;
          no_flag = λ k. get_or-set_other flags v u 0 0 d ∙ r.no_flag k;
          no-mark = get_or-set_other marks v u 0 0 d ∙ r.no-mark;
          no-work = λ k. get_or-set_other work v u 0 0 d ∙ r.no-work k;
        })
        go u false p (inr w) =
            let later : w.place ≢ i = λ z. eqb-false u v p (sym w.is ∙ ap (nat touched) z ∙ sym q) in
            let from = w.from in
            inr (record { place = w.place; from = omega arith; before = w.before; is = w.is })

-- every flag is taken
pub none-flagged : (n : ℕ) (stored trial : List ℤ) (flags marks work : List ℕ) → AtRest n stored trial flags marks work → size (flagged flags) n ≡ 0
none-flagged n stored trial flags marks work R = none_passes (flagged flags) n (λ v l. ap (λ z. eqb z 1) ((R.each v).no_flag l))
