-- DEPARTURES and LAST are what GTFS says of a window, for every start, end and headway, backward and empty windows among them: the times
-- counted are those strictly before the end, and LAST is the latest of them, so it lies from the start to before the end and never leaves
-- the range. The gap from start to end divided by the headway, rounded up, is the first k whose time is no longer before the end. Assumes
-- nothing.
use Prim.Native.Nat.{ℕ, zero, suc, ◌+◌, ◌*◌, ◌-◌, ◌/◌, ◌≤◌, ◌<◌, suc-le-suc}
use native.Mathlib.Nat.{le-div_iff_mul-le, div-lt_iff_lt-mul, le_refl, mul-le-mul}
use native.Mathlib.Omega.{arith}
use mathlib.Core.Bool.{Bool, true, false, cond, true≢false, false≢true}
use mathlib.Core.Logic.{◌↔◌, ◌⊎◌, inl, inr}
use mathlib.Core.Path.{◌≡◌, refl, ap, sym, ◌∙◌}
use lib.Dec.{ltb}
use lib.IntN.{ℤ, pos, negsuc, nat_abs, ◌+ℤ◌, ◌-ℤ◌, ◌*ℤ◌}
use lib.Signed.{lt_z, le_z}
use borrow.Author.Tests.{ltb-true, ltb-false, leb-true, lt-ltb, le-leb}
use Rattle.integers.proofs.Parts.{one-part, sum-bal, dif-parts}
use Rattle.integers.proofs.Order.{lt_yes, lt_no, le_yes, yes_lt, no_lt, yes_le, no_le, le-lt, nat_abs-away}
use Rattle.paper.specs.Formula.{blank, in_range, fit, trips, departures, last_of, last}

-- the times of a window, k = 0, 1, 2 and on
abbrev pub time : ℤ → ℤ → ℕ → ℤ
time start headway k = start +ℤ pos k *ℤ headway

-- ── a headway of 0 or less ──
pub no-headway : (start end headway : ℤ) → le_z headway (pos 0) ≡ true → (departures start end headway ≡ blank) × (last start end headway ≡ blank)
no-headway s e h q = (ap (λ x. cond x blank (fit (pos (trips s e h)))) q, ap (λ x. cond x blank (last_of s h (trips s e h))) q)

-- ── a gap of g, divided by the headway h and rounded up ──
pub before-end : (g h k : ℕ) → 0 < h → k < (g + h - 1) / h → k * h < g
before-end g h k p l = let q : suc k * h ≤ g + h - 1 = (le-div_iff_mul-le p).0 l in omega arith

past_end : (g h k : ℕ) → 0 < h → (g + h - 1) / h ≤ k → g ≤ k * h
past_end g h k p l = let q : g + h - 1 < suc k * h = (div-lt_iff_lt-mul p).0 (suc-le-suc l) in omega arith

-- the k-th time lies k headways after the start
pub reached : (s h : ℤ) (k : ℕ) → lt_z (pos 0) h ≡ true → (time s h k ≡ s +ℤ pos (k * nat_abs h)) × (0 < nat_abs h)
reached s (pos h) k p = (refl, ltb-true 0 h p)
reached s (negsuc h) k p = absurd (false≢true p)

-- so no time is before the start, nor before an earlier one
module _ (start headway : ℤ) (above : lt_z (pos 0) headway ≡ true) where
  pub later : (j k : ℕ) → j ≤ k → le_z (time start headway j) (time start headway k) ≡ true
  later j k l =
      let h = nat_abs headway in let m : j * h ≤ k * h = mul-le-mul l (le_refl h) in
      rw ((reached start headway j above).0, (reached start headway k above).0)
      (yes_le (start +ℤ pos (j * h)) (start +ℤ pos (k * h)) (omega (arith, sum-bal start (pos (j * h)), sum-bal start (pos (k * h)))))

  pub from_start : (k : ℕ) → le_z start (time start headway k) ≡ true
  from_start k =
      let h = nat_abs headway in
      rw (reached start headway k above).0 (yes_le start (start +ℤ pos (k * h)) (omega (arith, sum-bal start (pos (k * h)))))

-- z lies from the start to before the end
abbrev pub Between : ℤ → ℤ → ℤ → Type 0
Between start z end = (le_z start z ≡ true) × (lt_z z end ≡ true)

between_in : (start z end : ℤ) → in_range start ≡ true → in_range end ≡ true → Between start z end → in_range z ≡ true
between_in start z end from to b =
    let a = leb-true (nat_abs start) 2147483647 from in let c = leb-true (nat_abs end) 2147483647 to in
    let d = nat_abs-away start in let e = nat_abs-away end in let f = nat_abs-away z in
    le-leb (nat_abs z) 2147483647 (omega (arith, le_yes start z b.0, lt_yes z end b.1, one-part z, one-part start, one-part end))

-- z is the latest time before the end: one of the times, strictly before the end, and no other such time is later
pub record Latest (start end headway z : ℤ) : Type 0 where
  pub which : ℕ
  pub is : z ≡ time start headway which
  pub before : lt_z z end ≡ true
  pub none-later : (k : ℕ) → lt_z (time start headway k) end ≡ true → le_z (time start headway k) z ≡ true

-- ── a headway above 0 ──
module _ (start end headway : ℤ) (above : lt_z (pos 0) headway ≡ true) where
  -- the headway and the gap, without their signs
  abbrev h : ℕ
  h = nat_abs headway

  abbrev g : ℕ
  g = nat_abs (end -ℤ start)

  -- the k-th time is strictly before the end exactly if k is below the number of times
  pub counted : (k : ℕ) → lt_z (time start headway k) end ≡ ltb k (trips start end headway)
  counted k = ap (λ z. lt_z z end) (reached start headway k above).0 ∙ by (lt_z start end) refl (ltb k (trips start end headway)) refl
    where
      t : ℤ
      t = start +ℤ pos (k * h)

      by : (b : Bool) → lt_z start end ≡ b → (c : Bool) → ltb k (cond b ((g + h - 1) / h) 0) ≡ c → lt_z t end ≡ c
      by true q true r =
          let l = before-end g h k (reached start headway k above).1 (ltb-true k ((g + h - 1) / h) r) in
          yes_lt t end (omega (arith, lt_yes start end q, sum-bal start (pos (k * h)), dif-parts end start, nat_abs-away (end -ℤ start)))
      by true q false r =
          let l = past_end g h k (reached start headway k above).1 (ltb-false k ((g + h - 1) / h) r) in
          no_lt t end (omega (arith, lt_yes start end q, sum-bal start (pos (k * h)), dif-parts end start, nat_abs-away (end -ℤ start)))
      by false q true r = absurd (omega (arith, ltb-true k 0 r))
      by false q false r = no_lt t end (omega (arith, lt_no start end q, sum-bal start (pos (k * h))))

  positive : le_z headway (pos 0) ≡ false
  positive = no_le headway (pos 0) (omega (arith, lt_yes (pos 0) headway above))

  -- DEPARTURES is the number of times, judged against the range
  pub departures-is : departures start end headway ≡ fit (pos (trips start end headway))
  departures-is = ap (λ b. cond b blank (fit (pos (trips start end headway)))) positive

  -- LAST is the latest of that many
  pub last-of : (n : ℕ) → trips start end headway ≡ n → last start end headway ≡ last_of start headway n
  last-of n e = ap (λ b. cond b blank (last_of start headway (trips start end headway))) positive ∙ ap (last_of start headway) e

  some : (k : ℕ) → trips start end headway ≡ suc k → (last start end headway ≡ time start headway k) × (lt_z (time start headway k) end ≡ true)
  some k n = (last-of (suc k) n, counted k ∙ ap (ltb k) n ∙ lt-ltb k (suc k) (le_refl (suc k)))

  -- LAST is the latest time before the end, if there is one
  pub latest : 0 < trips start end headway → Latest start end headway (last start end headway)
  latest l = go (trips start end headway) refl l
    where
      go : (n : ℕ) → trips start end headway ≡ n → 0 < n → Latest start end headway (last start end headway)
      go zero e l = absurd (omega arith)
      go (suc k) e l =
          let (is, before) = some k e in
          record {
            which = k;
            is = is;
            before = ap (λ z. lt_z z end) is ∙ before;
            none-later = λ j b. let c = ltb-true j (suc k) (sym (counted j ∙ ap (ltb j) e) ∙ b) in ap (le_z (time start headway j)) is ∙ later start headway above j k (omega arith);
          }

  -- so it lies from the start to before the end
  pub last-between : 0 < trips start end headway → Between start (last start end headway) end
  last-between l = let z = latest l in (ap (le_z start) z.is ∙ from_start start headway above z.which, z.before)

  -- a start and an end of the range
  module _ (from : in_range start ≡ true) (to : in_range end ≡ true) where
    -- so it is in the range, without a test
    pub last-in : 0 < trips start end headway → in_range (last start end headway) ≡ true
    last-in l = between_in start (last start end headway) end from to (last-between l)

    -- and blank exactly if there is none
    pub last-blank : (last start end headway ≡ blank) ↔ (trips start end headway ≡ 0)
    last-blank = (go (trips start end headway) refl, last-of 0)
      where
        go : (n : ℕ) → trips start end headway ≡ n → last start end headway ≡ blank → n ≡ 0
        go zero e b = refl
        go (suc k) e b = absurd (true≢false (sym (last-in (omega arith)) ∙ ap in_range b))

-- ── every headway ──
module _ (start end headway : ℤ) where
  -- LAST is blank, or lies from the start to before the end
  pub last-lies : (last start end headway ≡ blank) ⊎ Between start (last start end headway) end
  last-lies = go (le_z headway (pos 0)) refl (trips start end headway) refl
    where
      go : (b : Bool) → le_z headway (pos 0) ≡ b → (n : ℕ) → trips start end headway ≡ n → (last start end headway ≡ blank) ⊎ Between start (last start end headway) end
      go true q n e = inl (no-headway start end headway q).1
      go false q zero e = inl (last-of start end headway (le-lt headway (pos 0) q) 0 e)
      go false q (suc k) e = inr (last-between start end headway (le-lt headway (pos 0) q) (omega arith))
