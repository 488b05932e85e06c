-- The places compared with several values at once: the mark of each value says whether one was found so far, and in the turn of a place the values before k. Assumes nothing.
use Prim.Native.Nat.{ℕ, ◌+◌, ◌≤◌, ◌<◌}
use native.Mathlib.Nat.{lt_irrefl}
use native.Mathlib.Omega.{arith}
use mathlib.Core.Bool.{Bool, true, false, cond, ◌||◌}
use mathlib.Core.List.{List, map}
use mathlib.Core.Path.{◌≡◌, refl, ap, sym, ◌∙◌, subst}
use borrow.Author.Tests.{eqb-true, eqb-false}
use lib.Dec.{eqb}
use lib.IntN.{ℤ, pos}
use lib.ListN.{length, get_or, take, drop, set, replicate, length-set, length-map, length-replicate, get_or-replicate}
use lib.Seq.{get_or-set_same, get_or-set_other, ext_get_or, take_all}
use Rattle.std.proofs.lemmas.List.{get_or-map}
use Rattle.integers.specs.Integers.{eq_z}
use Rattle.paper.specs.Lists.{any, nat}
use Rattle.paper.proofs.Scan.{any_next}
use Rattle.formulas.specs.Marks.{all_bits}
use Rattle.formulas.proofs.Pairs.{Sought, sought-none, sought-next, sought-all, again}

module _ (zs xs : List ℤ) (first : ℕ) where
  abbrev holds : ℕ → ℤ → Bool
  holds m x = eq_z x (get_or zs m (pos 0))

  -- the mark of a value says whether one of the places from first to before j holds it
  pub record Told (m j mark : ℕ) : Type 0 where
    pub some : Bool
    pub is : mark ≡ cond some all_bits 0
    pub sought : Sought (holds m) xs first j some

  told-next : {m j mark x : ℕ} {t : Bool} → Told m j mark → j < length xs → t ≡ holds m (get_or xs j (pos 0)) → x ≡ cond t all_bits mark → Told m (j + 1) x
  told-next {t = t} s h e q = record { some = s.some || t; is = q ∙ ap (cond t all_bits) s.is ∙ again s.some t; sought = sought-next s.sought h e }

  -- so does that of each
  pub record SoughtAll (j : ℕ) (found : List ℕ) : Type 0 where
    pub long : length found ≡ length zs
    pub each : (m : ℕ) → m < length zs → Told m j (nat found m)

  -- the values before k have been compared with place j: whether one of them stands there
  pub record Comparing (j k : ℕ) (found : List ℕ) (same : Bool) : Type 0 where
    pub long : length found ≡ length zs
    pub passed : (m : ℕ) → m < k → m < length zs → Told m (j + 1) (nat found m)
    pub left : (m : ℕ) → k ≤ m → m < length zs → Told m j (nat found m)
    pub joined : same ≡ any (eq_z (get_or xs j (pos 0))) (take k zs)

  pub all-none : (n : ℕ) → n ≡ length zs → SoughtAll first (replicate n 0)
  all-none n e = record {
    long = length-replicate {A = ℕ} n 0 ∙ e;
    each = λ m h. record { some = false; is = get_or-replicate {A = ℕ} n m 0 0 (omega arith); sought = sought-none };
  }

  pub comparing-start : (j : ℕ) (found : List ℕ) → SoughtAll j found → Comparing j 0 found false
  comparing-start j found s = record { long = s.long; passed = λ m l h. absurd (omega arith); left = λ m l h. s.each m h; joined = refl }

  pub comparing-next : (j k x : ℕ) (found : List ℕ) (same t : Bool) → Comparing j k found same → k < length zs → j < length xs → t ≡ holds k (get_or xs j (pos 0))
      → x ≡ cond t all_bits (nat found k) → Comparing j (k + 1) (set found k x) (same || t)
  comparing-next j k x found same t s h low e q = record {
    long = length-set found k x ∙ s.long;
    passed = λ m l r. go m l r (eqb m k) refl;
    left = λ m l r. subst (Told m j) (sym (get_or-set_other found k m x 0 (λ z. lt_irrefl k (omega arith)))) (s.left m (omega arith) r);
    joined = ap (◌|| t) s.joined ∙ ap (any (eq_z (get_or xs j (pos 0))) (take k zs) ||◌) e ∙ sym (any_next (eq_z (get_or xs j (pos 0))) zs k (pos 0) h);
  }
    where
      go : (m : ℕ) → m < k + 1 → m < length zs → (b : Bool) → eqb m k ≡ b → Told m (j + 1) (nat (set found k x) m)
      go m l r true is =
          let here = eqb-true m k is in let long = s.long in
          subst (λ (i : ℕ). Told i (j + 1) (nat (set found k x) i)) (sym here)
          (subst (Told k (j + 1)) (sym (get_or-set_same found k x 0 (omega arith))) (told-next (s.left k (omega arith) h) low e q))
      go m l r false is = let other = eqb-false m k is in subst (Told m (j + 1)) (sym (get_or-set_other found k m x 0 other)) (s.passed m (omega arith) r)

  pub comparing-all : (j k : ℕ) (found : List ℕ) (same : Bool) → Comparing j k found same → length zs ≤ k → SoughtAll (j + 1) found
  comparing-all j k found same s h = record { long = s.long; each = λ m q. s.passed m (omega arith) q }

  pub same-all : (j k : ℕ) (found : List ℕ) (same : Bool) → Comparing j k found same → length zs ≤ k → same ≡ any (eq_z (get_or xs j (pos 0))) zs
  same-all j k found same s h = s.joined ∙ ap (any (eq_z (get_or xs j (pos 0)))) (take_all k zs h)

  pub all-end : (j : ℕ) (found : List ℕ) → SoughtAll j found → length xs ≤ j → found ≡ map (λ z. cond (any (λ x. eq_z x z) (drop first xs)) all_bits 0) zs
  all-end j found s h =
      let f = λ (z : ℤ). cond (any (λ x. eq_z x z) (drop first xs)) all_bits 0 in
      ext_get_or 0 found (map f zs) (s.long ∙ sym (length-map zs f)) (λ i l.
      let long = s.long in let told = s.each i (omega arith) in
      told.is ∙ ap (λ t. cond t all_bits 0) (sought-all told.sought h) ∙ sym (get_or-map f zs i (pos 0) 0 (omega arith)))
