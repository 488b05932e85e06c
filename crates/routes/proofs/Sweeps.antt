-- Route 1 along the order, over any stored values: the flags always agree with the rows of values, and when a row's turn comes its inputs have their
-- new values, so its flag is the paper's test and its value the new one; a row that is passed over keeps its stored value, which is the new one
-- too. Assumes nothing.
use Prim.Native.Nat.{ℕ, ◌+◌, ◌<◌}
use native.Mathlib.Omega.{arith}
use mathlib.Core.Bool.{Bool, true, false, cond, not, ◌&&◌, true≢false, false≢true}
use mathlib.Core.List.{List, [], Memᴰ}
use mathlib.Core.Logic.{◌⊎◌, inl, inr}
use mathlib.Core.Path.{◌≡◌, refl, ap, ap₂, sym, ◌∙◌, subst}
use lib.Dec.{eqb, ltb}
use lib.IntN.{ℤ, pos}
use lib.ListN.{length, drop, set, length-set}
use lib.Seq.{get_or-set_same, get_or-set_other, get_or-take, drop-set-lt}
use borrow.Author.Tests.{eqb-true, eqb-false, ltb-true, ltb-false}
use Rattle.integers.proofs.Order.{eq_z-self}
use Rattle.paper.specs.Lists.{any, nat}
use Rattle.paper.specs.Net.{Values, input-to-output, differs, live}
use Rattle.paper.specs.Tables.{Tables, net, row_of, is_made, inputs_of, form_of, values_in, part}
use Rattle.paper.proofs.Lists.{clash, any_same}
use Rattle.paper.proofs.Buffers.{over-of}
use Rattle.paper.proofs.Accept.{sound-row, row-is-made, inputs-below}
use Rattle.paper.proofs.Lawful.{lawful}
use Rattle.paper.proofs.Fresh.{form-same}
use Rattle.paper.proofs.Routes.{new-equation}
use Rattle.index.specs.Index.{Indexed}
use Rattle.routes.specs.Rows.{Along, values_of, row_gives}
use Rattle.routes.specs.Routed.{Begun, Named, new_of, evaluated_of, Routed, pass_on, pass_each, Passable, Turned}
use Rattle.routes.proofs.Walks.{row_at, made_at, earlier, row-form}
use Rattle.routes.proofs.Flags.{section-of}
use Rattle.routes.proofs.Spreads.{Agrees, agrees-clear, agrees-next, pass-still, each-still, each-agrees}

module _ (t : Tables) (ord starts places : List ℕ) (stored trial : List ℤ) (flags : List ℕ) where
  -- the new values, what is evaluated, whether a variable has a changed input, and the variable made at place j
  abbrev goal : Values
  goal = new_of t input-to-output stored trial []

  abbrev does : ℕ → Bool
  does = evaluated_of t input-to-output stored trial []

  abbrev is_live : ℕ → Bool
  is_live = live (net t) input-to-output (values_in t stored) (values_in t trial) t.n goal

  abbrev made : ℕ → ℕ
  made j = nat t.makes (nat ord j)

  -- what has another value in a row than in the stored one
  abbrev changed : List ℤ → ℕ → Bool
  changed now = differs (values_of now) (values_of stored)

  -- v has a value: the new one, or that which it begins with
  abbrev Done : List ℤ → ℕ → Type 0
  Done now v = values_of now v ≡ goal v

  abbrev Waits : List ℤ → ℕ → Type 0
  Waits now v = values_of now v ≡ values_in t trial v

  -- after the first j places of the order; `flags` are those that the moves left
  pub record Sweeping (j : ℕ) (now : List ℤ) (flagged : List ℕ) : Type 0 where
    pub long : length now ≡ length trial
    pub long-flags : length flagged ≡ length flags
    pub beyond : drop t.n now ≡ drop t.n trial
    pub beyond-flags : drop t.n flagged ≡ drop t.n flags
    pub agrees : Agrees t (changed now) flagged
    pub each : (v : ℕ) → v < t.n → Done now v ⊎ Waits now v
    pub done : (i : ℕ) → i < j → Done now (made i)

  module _ (a : Along t ord) (x : Indexed t starts places) (before : List ℕ) (b : Begun t stored trial before) (moves : List ℕ) (c : Named t stored trial moves) where
    -- ── the moves ──
    pub passable : Passable t.makes starts places stored trial moves (length before)
    passable = record {
      in-stored = λ v m. let l = c.low v m in let h = b.in-stored in omega arith;
      in-trial = λ v m. let l = c.low v m in let h = b.in-trial in omega arith;
      sections = λ v m. section-of t a.sound starts places x v (length before) (c.low v m) b.in-flags;
    }

    module _ (passed_on : flags ≡ pass_each t.makes starts places stored trial moves before) where
      pub long₀ : length flags ≡ length before
      long₀ = ap length passed_on ∙ (each-still t a.sound starts places x stored trial moves c.low before).0

      pub sweeping-start : Sweeping 0 trial flags
      sweeping-start = record {
        long = refl;
        long-flags = refl;
        beyond = refl;
        beyond-flags = refl;
        agrees =
            subst (Agrees t (changed trial)) (sym passed_on)
            (each-agrees t a.sound starts places x stored trial moves c.low (λ i. false) before b.in-flags (agrees-clear t before b.clear) (λ i e. absurd (false≢true e))
            (λ i l e. inr (c.moved i l (ap₂ (λ (y z : ℤ). differs (λ u. y) (λ u. z) i) (get_or-take t.n trial i (pos 0) l) (get_or-take t.n stored i (pos 0) l) ∙ e))));
        each = λ v l. inr (sym (get_or-take t.n trial v (pos 0) l));
        done = λ i l. absurd (omega arith);
      }

      -- ── the paper's equations ──
      equation : (v : ℕ) → goal v ≡ cond (is_made t v) (cond (is_live v) (form_of t v goal) (values_in t stored v)) (values_in t trial v)
      equation = new-equation (net t) (lawful t) t.n a.chains input-to-output (values_in t stored) (values_in t trial)

      -- what is not evaluated keeps the value that it begins with
      keeps : (v : ℕ) → does v ≡ false → goal v ≡ values_in t trial v
      keeps v e = equation v ∙ go (is_made t v) refl (is_live v) e
        where
          go : (m : Bool) → is_made t v ≡ m → (l : Bool) → (m && l) ≡ false → cond m (cond l (form_of t v goal) (values_in t stored v)) (values_in t trial v) ≡ values_in t trial v
          go true q true p = absurd (true≢false p)
          go true q false p = sym (b.made v q)
          go false q l p = refl

      settle : (now : List ℤ) (v : ℕ) → does v ≡ false → Done now v ⊎ Waits now v → Done now v
      settle now v e (inl d) = d
      settle now v e (inr w) = w ∙ sym (keeps v e)

      -- a variable whose inputs have their new values has a changed one exactly if it is evaluated
      test-is : (now : List ℤ) (v : ℕ) → ((i : ℕ) → Memᴰ i (inputs_of t v) → Done now i) → any (changed now) (inputs_of t v) ≡ does v
      test-is now v input =
          any_same (changed now) (differs goal (values_in t stored)) (inputs_of t v)
          (λ i m. ap₂ (λ (y z : ℤ). differs (λ u. y) (λ u. z) i) (input i m) (sym (get_or-take t.n stored i (pos 0) (inputs-below t a.sound v i m))))
          ∙ go (is_made t v)
        where
          go : (m : Bool) → any (differs goal (values_in t stored)) (cond m (part t (row_of t v) t.vars) []) ≡ (m && any (differs goal (values_in t stored)) (cond m (part t (row_of t v) t.vars) []))
          go true = refl
          go false = refl

      -- a search variable has its new value from the start
      searched : (j : ℕ) (now : List ℤ) (flagged : List ℕ) → Sweeping j now flagged → (v : ℕ) → v < t.n → is_made t v ≡ false → Done now v
      searched j now flagged s v l e = settle now v (ap (◌&& is_live v) e) (s.each v l)

      module _ (j : ℕ) (now : List ℤ) (flagged : List ℕ) (s : Sweeping j now flagged) (h : j < t.m) where
        row : nat ord j < t.m
        row = row_at t ord a j h

        low : made j < t.n
        low = (sound-row t a.sound (nat ord j) row).makes

        -- the inputs have their new values
        input : (i : ℕ) → Memᴰ i (inputs_of t (made j)) → Done now i
        input i m = go (is_made t i) refl
          where
            go : (c : Bool) → is_made t i ≡ c → Done now i
            go true e = let (q, k, p) = earlier t ord a j i h m e in subst (Done now) p (s.done q k)
            go false e = searched j now flagged s i (inputs-below t a.sound (made j) i m) e

        -- so the flag is the paper's test, and the row gives the new value
        test : eqb (nat flagged (made j)) 1 ≡ does (made j)
        test = ap (λ k. eqb k 1) (s.agrees.at (made j) low) ∙ one (any (changed now) (inputs_of t (made j))) ∙ test-is now (made j) input
          where
            one : (c : Bool) → eqb (cond c 1 0) 1 ≡ c
            one true = refl
            one false = refl

        abbrev y : ℤ
        y = row_gives (nat ord j) t.kinds t.params t.firsts t.counts t.vars t.coefs now

        gives : does (made j) ≡ true → y ≡ goal (made j)
        gives e =
            row-form t a.sound (nat ord j) row now ∙ form-same (net t) (lawful t) (made j) (values_of now) goal input
            ∙ sym (equation (made j) ∙ go (is_made t (made j)) (is_live (made j)) e)
          where
            go : (m l : Bool) → (m && l) ≡ true → cond m (cond l (form_of t (made j) goal) (values_in t stored (made j))) (values_in t trial (made j)) ≡ form_of t (made j) goal
            go true true p = refl
            go true false p = absurd (false≢true p)
            go false l p = absurd (false≢true p)

        -- ── one row more ──
        abbrev now' : List ℤ
        now' = set now (made j) y

        evaluated : does (made j) ≡ true → Sweeping (j + 1) now' (pass_on t.makes starts places stored now' (made j) flagged)
        evaluated e =
            let still = pass-still t a.sound starts places x stored now' (made j) low flagged in
            record {
              long = length-set now (made j) y ∙ s.long;
              long-flags = still.0 ∙ s.long-flags;
              beyond = drop-set-lt t.n now (made j) y low ∙ s.beyond;
              beyond-flags = still.1 ∙ s.beyond-flags;
              agrees =
                  agrees-next t a.sound starts places x (changed now) (changed now') (made j) low flagged (let p = s.long-flags in let q = long₀ in let r = b.in-flags in omega arith) s.agrees
                  (λ i q. ap (λ (z : ℤ). differs (λ u. z) (values_of stored) i) (other i q)) (λ d. kept d (s.each (made j) low)) (changed now' (made j)) refl;
              each = λ v l. each v (eqb (made j) v) refl (s.each v l);
              done = λ i l. done i l (eqb (made j) (made i)) refl;
            }
          where
            here : Done now' (made j)
            here = let l = low in let p = b.in-trial in let q = s.long in get_or-set_same now (made j) y (pos 0) (omega arith) ∙ gives e

            same : (v : ℕ) → eqb (made j) v ≡ true → Done now' v
            same v q = subst (Done now') (eqb-true (made j) v q) here

            other : (v : ℕ) → eqb (made j) v ≡ false → values_of now' v ≡ values_of now v
            other v q = get_or-set_other now (made j) v y (pos 0) (λ z. eqb-false (made j) v q (sym z))

            -- if the variable had changed before its turn, it had its new value
            kept : changed now (made j) ≡ true → Done now (made j) ⊎ Waits now (made j) → changed now' (made j) ≡ true
            kept d (inl p) = ap (λ (z : ℤ). differs (λ u. z) (values_of stored) (made j)) (here ∙ sym p) ∙ d
            kept d (inr p) = clash d (
                ap (λ (z : ℤ). differs (λ u. z) (values_of stored) (made j)) (p ∙ b.made (made j) (row-is-made t a.sound (nat ord j) row) ∙ get_or-take t.n stored (made j) (pos 0) low)
                ∙ ap not (eq_z-self (values_of stored (made j))))

            each : (v : ℕ) (c : Bool) → eqb (made j) v ≡ c → Done now v ⊎ Waits now v → Done now' v ⊎ Waits now' v
            each v true q p = inl (same v q)
            each v false q (inl p) = inl (other v q ∙ p)
            each v false q (inr p) = inr (other v q ∙ p)

            done : (i : ℕ) → i < j + 1 → (c : Bool) → eqb (made j) (made i) ≡ c → Done now' (made i)
            done i l true q = same (made i) q
            done i l false q = other (made i) q ∙ s.done i (let ne : i ≡ j → ⊥ = λ z. eqb-false (made j) (made i) q (ap made (sym z)) in omega arith)

        passed : does (made j) ≡ false → Sweeping (j + 1) now flagged
        passed e = record {
          long = s.long;
          long-flags = s.long-flags;
          beyond = s.beyond;
          beyond-flags = s.beyond-flags;
          agrees = s.agrees;
          each = s.each;
          done = λ i l. go i (ltb i j) refl l;
        }
          where
            go : (i : ℕ) (c : Bool) → ltb i j ≡ c → i < j + 1 → Done now (made i)
            go i true q l = s.done i (ltb-true i j q)
            go i false q l =
                let k = ltb-false i j q in let z : i ≡ j = omega arith in
                rw z (settle now (made j) e (s.each (made j) low))

        pub sweeping-next : (trial' : List ℤ) (flags' : List ℕ) → Turned t starts places (nat ord j) stored now flagged trial' flags' → Sweeping (j + 1) trial' flags'
        sweeping-next trial' flags' w = go (does (made j)) refl (rw test at w.values) (rw test at w.flagged)
          where
            go : (c : Bool) → does (made j) ≡ c → trial' ≡ cond c now' now → flags' ≡ cond c (pass_on t.makes starts places stored trial' (made j) flagged) flagged → Sweeping (j + 1) trial' flags'
            go true e p q = rw (q, p) (evaluated e)
            go false e p q = rw (q, p) (passed e)

      -- every made variable has had its turn
      pub sweeping-end : (now : List ℤ) (flagged : List ℕ) → Sweeping t.m now flagged → Routed t input-to-output stored trial before [] now flagged
      sweeping-end now flagged s = record {
        values = over-of (λ v. cond (does v) (goal v) (values_in t trial v)) t.n trial now (pos 0) s.long b.in-trial (λ v l. all v l (is_made t v) refl ∙ value v (does v) refl) s.beyond;
        flagged = over-of (λ v. cond (does v) 1 0) t.n before flagged 0 (s.long-flags ∙ long₀) b.in-flags flag
            (s.beyond-flags ∙ ap (drop t.n) passed_on ∙ (each-still t a.sound starts places x stored trial moves c.low before).1);
      }
        where
          all : (v : ℕ) → v < t.n → (c : Bool) → is_made t v ≡ c → Done now v
          all v l true e = let (q, k, p) = made_at t ord a v e in subst (Done now) p (s.done q k)
          all v l false e = searched t.m now flagged s v l e

          value : (v : ℕ) (c : Bool) → does v ≡ c → goal v ≡ cond c (goal v) (values_in t trial v)
          value v true e = refl
          value v false e = keeps v e

          flag : (v : ℕ) → v < t.n → nat flagged v ≡ cond (does v) 1 0
          flag v l = s.agrees.at v l ∙ ap (λ c. cond c 1 0) (test-is now v (λ i m. all i (inputs-below t a.sound v i m) (is_made t i) refl))
