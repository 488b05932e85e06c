-- What the rows of sound tables give the code that reads them, that what it works out by the row of makers is what the tables say, and that this is the
-- reason of the paper where the row holds the values that the formula looks at. Assumes nothing.
use Prim.Native.Nat.{ℕ, suc, ◌≤◌, ◌<◌}
use native.Mathlib.Omega.{arith}
use mathlib.Core.Bool.{Bool, true, false, cond, not, ◌&&◌, ◌||◌, false≢true}
use mathlib.Core.List.{List, map}
use mathlib.Core.Path.{◌≡◌, refl, ap, ap₂, sym, ◌∙◌}
use borrow.Author.Tests.{ltb-true, lt-ltb, eq-eqb}
use lib.Dec.{eqb, ltb}
use lib.IntN.{ℤ}
use lib.ListN.{length, replicate, get_or-replicate}
use Rattle.integers.specs.Integers.{eq_z}
use Rattle.paper.specs.Lists.{all, nat, all_below, over}
use Rattle.paper.specs.Formula.{blank}
use Rattle.paper.specs.Net.{Values}
use Rattle.paper.specs.Tables.{Tables, part, row_of, is_made, inputs_of, form_of}
use Rattle.paper.specs.Reason.{why, reason_of, reason_after, reason_kept}
use Rattle.paper.specs.Checks.{Sound}
use Rattle.paper.proofs.Lists.{all-at, all_in, all_of}
use Rattle.paper.proofs.Least.{all_below-at}
use Rattle.paper.proofs.Buffers.{over-at, over-over, over-same}
use Rattle.paper.proofs.Sizes.{sized-facts}
use Rattle.paper.proofs.Accept.{sound-row, made_row}
use Rattle.paper.proofs.Reason.{why-same}
use Rattle.paper.proofs.RouteReasons.{Shows}
use Rattle.tables.specs.Makers.{maker_of, Makers}
use Rattle.tables.proofs.Made.{makers-filled, maker-is, maker-zero}
use Rattle.rows.specs.Changes.{values_of}
use Rattle.whys.specs.Rows.{RowReads, AllRead, by_maker, current_by, blank_by}
use Rattle.whys.specs.Plain.{not_blank, plain_now, plain_noted}
use Rattle.whys.specs.Noted.{shown, current, noted_reason}

-- ── by the row of makers ──
module _ (t : Tables) (s : Sound t) (values : List ℤ) (room : t.n ≤ length values) where
  row_reads : (r : ℕ) → r < t.m → RowReads r t.kinds t.firsts t.counts t.vars values
  row_reads r h =
      let z = sized-facts t s.sized in let w = sound-row t s r h in let i = w.inside in
      record {
        in-kinds = let y = z.kinds in omega arith;
        in-firsts = let y = z.firsts in omega arith;
        in-counts = let y = z.counts in omega arith;
        in-vars = let y = z.vars in omega arith;
        suits = w.suits;
        below = all_of (λ v. ltb v (length values)) (part t r t.vars) (λ v m.
            let l = ltb-true v t.n (all_in (λ u. ltb u t.n) (part t r t.vars) w.inputs m) in lt-ltb v (length values) (omega arith));
      }

  module _ (by : List ℕ) (k : Makers t by) where
    pub all_read : AllRead t.kinds t.firsts t.counts t.vars values by t.n
    all_read = record { at = λ v l. let long = k.long in record { in-by = omega arith; in-values = omega arith; row = λ r e. row_reads r (below r v (is_made t v) refl (sym e ∙ maker-is t by k v l)) } }
      where
        below : (r v : ℕ) (b : Bool) → is_made t v ≡ b → suc r ≡ cond b (suc (row_of t v)) 0 → r < t.m
        below r v true m e = let l = made_row t s v m in omega arith
        below r v false m e = absurd (omega arith)

    abbrev held : Values
    held = values_of values

    -- what the code works out for v, for a variable asked and for a blank one
    abbrev current_of : List ℕ → (ℕ → ℕ) → ℕ → ℕ
    current_of flags stored v = current_by t.kinds t.firsts t.counts t.vars values by flags (stored v) v

    abbrev blank_of : List ℕ → (ℕ → ℕ) → ℕ → ℕ
    blank_of flags stored v = blank_by t.kinds t.firsts t.counts t.vars values by flags (stored v) v

    shown-is : (v : ℕ) → v < t.n → by_maker t.kinds t.firsts t.counts t.vars values (held v) (nat by v) ≡ shown t held v
    shown-is v l = ap (by_maker t.kinds t.firsts t.counts t.vars values (held v)) (maker-is t by k v l) ∙ go (is_made t v) refl
      where
        go : (b : Bool) → is_made t v ≡ b → by_maker t.kinds t.firsts t.counts t.vars values (held v) (cond b (suc (row_of t v)) 0) ≡ shown t held v
        go true e = rw e
        go false e = rw e

    current-is : (flags : List ℕ) (stored : ℕ → ℕ) (v : ℕ) → v < t.n → current_of flags stored v ≡ current t flags held stored v
    current-is flags stored v l = ap (λ x. cond (eqb (nat flags v) 1) x (stored v)) (shown-is v l)

    -- as if no value were blank, and then of the blank ones
    noted-is : (flags : List ℕ) (stored : ℕ → ℕ) (v : ℕ) → v < t.n → blank_of flags (plain_noted by flags stored) v ≡ noted_reason t flags held stored v
    noted-is flags stored v l =
        ap₂ (λ x b. cond (flagged && eq_z (held v) blank) (cond flagged x (cond (b || flagged) 0 (stored v))) (cond (b || flagged) 0 (stored v))) (shown-is v l) (maker-zero t by k v l)
        ∙ go (is_made t v) flagged (eq_z (held v) blank) (why (nat t.kinds (row_of t v)) (map held (inputs_of t v))) (stored v)
      where
        flagged : Bool
        flagged = eqb (nat flags v) 1

        go : (m a z : Bool) (w x : ℕ) → cond (a && z) (cond a (cond m (cond z w 0) 0) (cond (not m || a) 0 x)) (cond (not m || a) 0 x) ≡ cond m (cond a (cond m (cond z w 0) 0) x) 0
        go true true true w x = refl
        go true true false w x = refl
        go true false z w x = refl
        go false true true w x = refl
        go false true false w x = refl
        go false false z w x = refl

    -- ── row by row ──
    pub noted-row : (flags before plain row : List ℕ) → plain ≡ over t.n (plain_noted by flags (nat before)) before → row ≡ over t.n (blank_of flags (nat plain)) plain
        → row ≡ over t.n (noted_reason t flags held (nat before)) before
    noted-row flags before plain row p e =
        e ∙ ap (λ z. over t.n (blank_of flags (nat z)) z) p ∙ over-over (blank_of flags (nat cleared)) t.n before (plain_noted by flags (nat before))
        ∙ over-same (blank_of flags (nat cleared)) t.n before (noted_reason t flags held (nat before)) (λ v l.
        ap (λ x. blank_by t.kinds t.firsts t.counts t.vars values by flags x v) (over-at (plain_noted by flags (nat before)) t.n before v 0 l) ∙ noted-is flags (nat before) v l)
      where
        cleared : List ℕ
        cleared = over t.n (plain_noted by flags (nat before)) before

    pub asked-row : (flags stored asked before row : List ℕ) → all (λ v. ltb v t.n) asked ≡ true
        → row ≡ over (length asked) (λ i. current_of flags (nat stored) (nat asked i)) before → row ≡ over (length asked) (λ i. current t flags held (nat stored) (nat asked i)) before
    asked-row flags stored asked before row known e =
        e ∙ over-same (λ i. current_of flags (nat stored) (nat asked i)) (length asked) before (λ i. current t flags held (nat stored) (nat asked i))
        (λ i l. current-is flags (nat stored) (nat asked i) (ltb-true (nat asked i) t.n (all-at (λ v. ltb v t.n) asked known i 0 l)))

-- ── where no asked variable whose flag is 1 is blank ──
plain-is : (t : Tables) (flags : List ℕ) (values : List ℤ) (stored : ℕ → ℕ) (v : ℕ) → not_blank flags values v ≡ true → plain_now flags stored v ≡ current t flags (values_of values) stored v
plain-is t flags values stored v e =
    go (eqb (nat flags v) 1) (eq_z (values_of values v) blank) (is_made t v) (why (nat t.kinds (row_of t v)) (map (values_of values) (inputs_of t v))) (stored v) e
  where
    go : (a z m : Bool) (w x : ℕ) → not (a && z) ≡ true → cond a 0 x ≡ cond a (cond m (cond z w 0) 0) x
    go true true m w x e = absurd (false≢true e)
    go true false true w x e = refl
    go true false false w x e = refl
    go false z m w x e = refl

pub plain_row : (t : Tables) (flags : List ℕ) (values : List ℤ) (stored asked before row : List ℕ) → all_below (λ i. not_blank flags values (nat asked i)) (length asked) ≡ true
    → row ≡ over (length asked) (λ i. plain_now flags (nat stored) (nat asked i)) before → row ≡ over (length asked) (λ i. current t flags (values_of values) (nat stored) (nat asked i)) before
plain_row t flags values stored asked before row none e =
    e ∙ over-same (λ i. plain_now flags (nat stored) (nat asked i)) (length asked) before (λ i. current t flags (values_of values) (nat stored) (nat asked i))
    (λ i l. plain-is t flags values (nat stored) (nat asked i) (all_below-at (λ k. not_blank flags values (nat asked k)) (length asked) none i l))

-- the row of makers, as it is filled over zeros
pub makers-new : (t : Tables) → Sound t → (by : List ℕ) → by ≡ over t.n (maker_of t.m t.makes) (replicate 4096 0) → Makers t by
makers-new t s by e = makers-filled t (replicate 4096 0) by (sized-facts t s.sized).n-most e

-- where every flag is 1
pub all_shown : (t : Tables) → Sound t → (f : Values) (before row : List ℕ) → row ≡ over t.n (noted_reason t (replicate 4096 1) f (nat before)) before → row ≡ over t.n (shown t f) before
all_shown t s f before row e = e ∙ over-same (noted_reason t (replicate 4096 1) f (nat before)) t.n before (shown t f) (λ v l. let most = (sized-facts t s.sized).n-most in
    ap (λ b. cond (is_made t v) (cond b (shown t f v) (nat before v)) 0) (eq-eqb (nat (replicate 4096 1) v) 1 (get_or-replicate {A = ℕ} 4096 v 1 0 (omega arith))) ∙ go v (is_made t v) refl)
  where
    go : (v : ℕ) (b : Bool) → is_made t v ≡ b → cond b (shown t f v) 0 ≡ shown t f v
    go v true q = refl
    go v false q = rw q

-- ── the reasons of the paper ──
module _ (t : Tables) (f g : Values) where
  pub shown-reason : (v : ℕ) → (is_made t v ≡ true → Shows t f g v) → shown t f v ≡ reason_of t v g
  shown-reason v h = go (is_made t v) refl
    where
      go : (b : Bool) → is_made t v ≡ b → cond b (cond (eq_z (f v) blank) (why (nat t.kinds (row_of t v)) (map f (inputs_of t v))) 0) 0
          ≡ cond b (cond (eq_z (form_of t v g) blank) (why (nat t.kinds (row_of t v)) (map g (inputs_of t v))) 0) 0
      go true m =
          let s = h m in
          ap₂ (λ z y. cond (eq_z z blank) y 0) s.result (sym (why-same g f (nat t.kinds (row_of t v)) (inputs_of t v) (λ i q. sym (s.looked i q))))
      go false m = refl

  module _ (flags : List ℕ) (evaluated : ℕ → Bool) (stored : ℕ → ℕ) (v : ℕ) (flagged : eqb (nat flags v) 1 ≡ evaluated v)
      (shows : evaluated v ≡ true → is_made t v ≡ true → Shows t f g v) where
    pub current-after : current t flags f stored v ≡ reason_after t evaluated g stored v
    current-after = ap (λ b. cond b (shown t f v) (stored v)) flagged ∙ go (evaluated v) refl
      where
        go : (b : Bool) → evaluated v ≡ b → cond b (shown t f v) (stored v) ≡ cond b (reason_of t v g) (stored v)
        go true e = shown-reason v (shows e)
        go false e = refl

    pub noted-kept : noted_reason t flags f stored v ≡ reason_kept t evaluated g stored v
    noted-kept = ap (λ x. cond (is_made t v) x 0) current-after
