-- Stored values copied into a scratch row are the same values, with a move put in they are the moved ones, and following the choices from them tells which
-- variables are determined and what each is worth. Assumes nothing.
use Prim.Native.Nat.{ℕ, ◌≤◌, ◌<◌}
use native.Mathlib.Omega.{arith}
use mathlib.Core.Bool.{Bool, true, false, cond, ◌&&◌}
use mathlib.Core.List.{List}
use mathlib.Core.Path.{◌≡◌, refl, ap, ap₂, sym, ◌∙◌, fun_ext}
use lib.Dec.{eqb, ltb}
use lib.IntN.{ℤ, pos}
use lib.ListN.{length, get_or, take, get_or-eq_default}
use lib.Seq.{get_or-take, length-take-le}
use borrow.Author.Tests.{ltb-true, ltb-false}
use Rattle.integers.specs.Integers.{eq_z}
use Rattle.paper.specs.Lists.{nat, first_fail, over}
use Rattle.paper.specs.Net.{Values, moved}
use Rattle.paper.specs.Tables.{Tables, values_in}
use Rattle.paper.specs.Checks.{Move, pairs_of_move}
use Rattle.paper.specs.Chains.{worth, determined}
use Rattle.paper.proofs.Scan.{first_fail-same}
use Rattle.paper.proofs.Buffers.{below-list, over-length, over-at, over-front}
use Rattle.paper.proofs.Fresh.{unnamed}
use Rattle.rows.specs.Put.{PairsFit, put_in}
use Rattle.rows.proofs.Put.{low-named, moved_at, put-over}
use Rattle.choices.specs.Choices.{Followed}
use Rattle.choices.specs.Renewed.{is_fresh}

module _ (t : Tables) (stored before : List ℤ) (long : t.n ≤ length stored) (room : t.n ≤ length before) where
  abbrev old : Values
  old = values_in t stored

  -- what stands at a place of the stored row
  abbrev at : Values
  at v = get_or stored v (pos 0)

  -- values are 0 beyond the variables
  beyond : (l : List ℤ) → t.n ≤ length l → (v : ℕ) → t.n ≤ v → values_in t l v ≡ pos 0
  beyond l h v g = get_or-eq_default (take t.n l) (pos 0) (let e = length-take-le t.n l h in omega arith)

  old-at : (v : ℕ) → v < t.n → old v ≡ at v
  old-at v l = get_or-take t.n stored v (pos 0) l

  -- ── the row with a move put in; without one it is the copy ──
  module _ (mv : Move) (fits : PairsFit t.n mv) {row : List ℤ} (is : row ≡ over t.n (moved (pairs_of_move mv) at) before) where
    pub put-long : t.n ≤ length row
    put-long = let e = ap length is ∙ over-length (moved (pairs_of_move mv) at) t.n before room in omega arith

    put-values : values_in t row ≡ moved (pairs_of_move mv) old
    put-values = fun_ext (λ v. go v (ltb v t.n) refl)
      where
        go : (v : ℕ) (b : Bool) → ltb v t.n ≡ b → values_in t row v ≡ moved (pairs_of_move mv) old v
        go v true e =
            let l = ltb-true v t.n e in
            get_or-take t.n row v (pos 0) l ∙ ap (λ r. get_or r v (pos 0)) is ∙ over-at (moved (pairs_of_move mv) at) t.n before v (pos 0) l
            ∙ moved_at (pairs_of_move mv) at old v (sym (old-at v l))
        go v false e =
            let l = ltb-false v t.n e in
            beyond row put-long v l ∙ sym (unnamed (pairs_of_move mv) old v (low-named t.n mv fits v l) ∙ beyond stored long v l)

    -- 20
    pub undetermined-least : {values : List ℤ} {states : List ℕ} {r : ℕ} → Followed t row values states → r ≡ first_fail (λ v. eqb (nat states v) 2) t.n
        → r ≡ first_fail (determined t (moved (pairs_of_move mv) old)) t.n
    undetermined-least {values} {states} D e =
        e ∙ first_fail-same (λ v. eqb (nat states v) 2) (determined t (values_in t row)) t.n (λ v l. sym (D.which v l))
        ∙ ap (λ s. first_fail (determined t s) t.n) put-values

  module _ {row : List ℤ} (is : row ≡ over t.n at before) where
    pub copy-long : t.n ≤ length row
    copy-long = let e = ap length is ∙ over-length at t.n before room in omega arith

    pub copy-values : values_in t row ≡ old
    copy-values = ap (λ (l : List ℤ). λ (v : ℕ). get_or l v (pos 0)) (ap (take t.n) is ∙ over-front at t.n before ∙ below-list stored (pos 0) t.n long)

    pub put_copy : (mv : Move) → PairsFit t.n mv → {after : List ℤ} → after ≡ put_in (pairs_of_move mv) row → after ≡ over t.n (moved (pairs_of_move mv) at) before
    put_copy mv fits e = e ∙ ap (put_in (pairs_of_move mv)) is ∙ put-over t.n mv fits at before

    -- 21
    pub stale-least : {values : List ℤ} {states : List ℕ} {r : ℕ} → Followed t row values states
        → r ≡ first_fail (λ v. eqb (nat states v) 2 && eq_z (at v) (get_or values v (pos 0))) t.n → r ≡ first_fail (is_fresh t stored) t.n
    stale-least {values} {states} D e =
        e ∙ first_fail-same (λ v. eqb (nat states v) 2 && eq_z (at v) (get_or values v (pos 0))) (is_fresh t stored) t.n
        (λ v l. same v l (determined t old v) refl)
      where
        which : (v : ℕ) → v < t.n → eqb (nat states v) 2 ≡ determined t old v
        which v l = sym (D.which v l) ∙ ap (λ s. determined t s v) copy-values

        value : (v : ℕ) → v < t.n → get_or values v (pos 0) ≡ cond (determined t old v) (worth t old v) (old v)
        value v l =
            ap (λ r. get_or r v (pos 0)) D.values-are
            ∙ over-at (λ u. cond (determined t (values_in t row) u) (worth t (values_in t row) u) (values_in t row u)) t.n row v (pos 0) l
            ∙ ap (λ (s : Values). cond (determined t s v) (worth t s v) (s v)) copy-values

        same : (v : ℕ) → v < t.n → (b : Bool) → determined t old v ≡ b → (eqb (nat states v) 2 && eq_z (at v) (get_or values v (pos 0))) ≡ is_fresh t stored v
        same v l true q =
            ap₂ ◌&&◌ (which v l) (ap₂ eq_z (sym (old-at v l)) (value v l ∙ ap (λ b. cond b (worth t old v) (old v)) q))
        same v l false q = ap (◌&& eq_z (at v) (get_or values v (pos 0))) (which v l ∙ q) ∙ sym (ap (◌&& eq_z (old v) (worth t old v)) q)
