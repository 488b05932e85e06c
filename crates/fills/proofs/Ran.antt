-- What a route leaves of a move, in the calls' words, whatever the route. Assumes nothing.
use Prim.Native.Nat.{ℕ, ◌≤◌, ◌<◌}
use native.Mathlib.Nat.{le_refl}
use native.Mathlib.Omega.{arith}
use mathlib.Core.Bool.{Bool, true, false, cond, not, ◌&&◌, ◌||◌}
use mathlib.Core.List.{List, Memᴰ}
use mathlib.Core.Path.{◌≡◌, refl, ap, sym, ◌∙◌, fun_ext}
use lib.Dec.{eqb, leb, ltb}
use lib.IntN.{ℤ, pos}
use lib.ListN.{length, get_or, take, get_or-eq_default}
use lib.Seq.{get_or-take, length-take-le}
use borrow.Author.Tests.{eqb-true, eq-eqb, le-leb, ltb-true, lt-ltb, ltb-false}
use Rattle.integers.specs.Integers.{eq_z}
use Rattle.integers.proofs.Order.{eq_z-self}
use Rattle.paper.specs.Lists.{any, all, nat, size, over}
use Rattle.paper.specs.Net.{Values, Route, moved, names, differs, live, new, works, evaluated}
use Rattle.paper.specs.Tables.{Tables, Index, net, is_made, values_in}
use Rattle.paper.specs.Checks.{pairs_of_move}
use Rattle.paper.specs.Chains.{determined, closes}
use Rattle.paper.specs.Calls.{new_values, evaluates, trial_row, flag_row, KeepLent}
use Rattle.paper.proofs.Lists.{clash, all_in, any-has, any_at}
use Rattle.paper.proofs.Least.{first_fail-none}
use Rattle.paper.proofs.Buffers.{over-length, over-at, over-over, over-same}
use Rattle.paper.proofs.Count.{size_same}
use Rattle.paper.proofs.Sizes.{sized-facts}
use Rattle.paper.proofs.Accept.{made-below, inputs-below}
use Rattle.paper.proofs.Lawful.{lawful}
use Rattle.paper.proofs.Routes.{new-equation}
use Rattle.paper.proofs.Needs.{Ruled, route-meets}
use Rattle.paper.proofs.Closes.{opened, closed}
use Rattle.paper.proofs.Fresh.{unnamed}
use Rattle.tables.proofs.Shapes.{all_first}
use Rattle.rows.proofs.Put.{not_named, low-named, moved_at}
use Rattle.routes.specs.Routed.{Begun, Named, Routed}
use Rattle.fills.specs.Running.{Running}
use Rattle.fills.specs.Accepted.{KeepAccepted}
use Rattle.fills.proofs.Settled.{idle-new, all_new}

module _ (t : Tables) (ord : List ℕ) (x : Index) (stored : List ℤ) (c : KeepLent) (k : KeepAccepted t ord x stored c) where
  -- the pairs, the stored values, and these with the pairs put in
  abbrev mv : List (ℕ × ℤ)
  mv = pairs_of_move c.move

  abbrev old : Values
  old = values_in t stored

  abbrev put : Values
  put = moved mv old

  -- no pair names a made variable
  made-unnamed : (v : ℕ) → is_made t v ≡ true → names mv v ≡ false
  made-unnamed v e = not_named c.move v (λ i l q. clash (ap (is_made t) q ∙ e) (k.search i l))

  made-same : (v : ℕ) → is_made t v ≡ true → put v ≡ old v
  made-same v e = unnamed mv old v (made-unnamed v e)

  -- the new values of each route meet its rule
  ruled : (r : Route) → Ruled t r old put
  ruled r = go (closes t) refl
    where
      go : (b : Bool) → closes t ≡ b → Ruled t r old put
      go true e =
          route-meets t (inputs-below t k.sound) (made-below t k.sound) (sized-facts t k.sound.sized).n-some put k.determined old (closed t k.sound old e k.fresh).fresh r
      go false e = new-equation (net t) (lawful t) t.n (opened t k.sound e).chains r old put

  -- the variables that the pairs name
  abbrev moves : List ℕ
  moves = take c.move.pairs c.move.vars

  pub moves_long : length moves ≡ c.move.pairs
  moves_long = length-take-le c.move.pairs c.move.vars k.pairs.in-vars

  moves-low : (v : ℕ) → Memᴰ v moves → v < t.n
  moves-low v m = ltb-true v t.n (all_in low moves every m)
    where
      low : ℕ → Bool
      low u = ltb u t.n

      at : (i : ℕ) → i < length moves → low (nat moves i) ≡ true
      at i h = let l : i < c.move.pairs = let e = moves_long in omega arith in ap low (get_or-take c.move.pairs c.move.vars i 0 l) ∙ lt-ltb _ t.n (k.pairs.low i l)

      every : all low moves ≡ true
      every = all_first low moves ∙ ap (leb (length moves)) (sym (first_fail-none (λ i. low (nat moves i)) (length moves) at)) ∙ le-leb (length moves) (length moves) (le_refl (length moves))

  -- and no pair names another
  not-moved : (v : ℕ) → any (eqb v) moves ≡ false → names mv v ≡ false
  not-moved v e = not_named c.move v (λ i l q. clash (eq-eqb v (nat c.move.vars i) (sym q))
      (ap (eqb v) (sym (get_or-take c.move.pairs c.move.vars i 0 l)) ∙ any_at (eqb v) moves e i 0 (let s = moves_long in omega arith)))

  -- ── a route begun over a row and the flags ──
  module _ (before trial : List ℤ) (flags : List ℕ) (room : t.n ≤ length before)
      (is : trial ≡ over t.n (moved mv (λ v. get_or stored v (pos 0))) before) (cleared : flags ≡ over t.n (λ v. 0) c.flags) where
    begun-long : length trial ≡ length before
    begun-long = ap length is ∙ over-length (moved mv (λ v. get_or stored v (pos 0))) t.n before room

    begun-values : values_in t trial ≡ put
    begun-values = fun_ext (λ v. go v (ltb v t.n) refl)
      where
        beyond : (l : List ℤ) → t.n ≤ length l → (v : ℕ) → t.n ≤ v → values_in t l v ≡ pos 0
        beyond l h v g = get_or-eq_default (take t.n l) (pos 0) (let e = length-take-le t.n l h in omega arith)

        go : (v : ℕ) (b : Bool) → ltb v t.n ≡ b → values_in t trial v ≡ put v
        go v true e =
            let l = ltb-true v t.n e in
            get_or-take t.n trial v (pos 0) l ∙ ap (λ row. get_or row v (pos 0)) is ∙ over-at (moved mv (λ u. get_or stored u (pos 0))) t.n before v (pos 0) l
            ∙ moved_at mv (λ u. get_or stored u (pos 0)) old v (sym (get_or-take t.n stored v (pos 0) l))
        go v false e =
            let l = ltb-false v t.n e in let long = begun-long in
            beyond trial (omega arith) v l ∙ sym (unnamed mv old v (low-named t.n c.move k.pairs v l) ∙ beyond stored k.in-stored v l)

    pub begun : Begun t stored trial flags
    begun = record {
      in-stored = k.in-stored;
      in-trial = let long = begun-long in omega arith;
      in-flags = let long = ap length cleared ∙ over-length (λ v. 0) t.n c.flags k.in-flags in omega (arith, k.in-flags);
      made = λ v e. ap (λ (f : Values). f v) begun-values ∙ made-same v e;
      clear = λ v l. ap (λ row. nat row v) cleared ∙ over-at (λ u. 0) t.n c.flags v 0 l;
    }

    -- and a route can be run
    pub running : Running t ord stored trial
    running = record {
      sound = k.sound;
      in_order = k.in_order;
      order_is = k.order_is;
      fresh = k.fresh;
      determined = λ v l. ap (λ (s : Values). determined t s v) begun-values ∙ k.determined v;
    }

    -- a variable that no pair names has its stored value
    pub named : Named t stored trial moves
    named = record { low = moves-low; moved = λ v l e. go v e (any (eqb v) moves) refl }
      where
        go : (v : ℕ) → differs (values_in t trial) old v ≡ true → (b : Bool) → any (eqb v) moves ≡ b → Memᴰ v moves
        go v e true h = let (i, m, q) = any-has (eqb v) moves h in rw (eqb-true v i q) m
        go v e false h =
            clash e (ap (λ z. not (eq_z z (old v))) (ap (λ (f : Values). f v) begun-values ∙ unnamed mv old v (not-moved v h)) ∙ ap not (eq_z-self (old v)))

  -- ── and run ──
  module _ (r : Route) (asked : List ℕ) where
    abbrev set : ℕ → Bool
    set = evaluates t old r mv asked

    abbrev worth : Values
    worth = new_values t old r mv asked

    pub record Ran (before trial : List ℤ) (flags : List ℕ) : Type 0 where
      pub trial-is : trial ≡ trial_row t old r mv asked before
      pub flags-are : flags ≡ flag_row t old r mv asked c.flags
      pub count-is : size (λ v. eqb (nat flags v) 1) t.n ≡ size set t.n
      -- a new value stands in the row, but where a variable that is worked out is not evaluated
      pub new-at : (v : ℕ) → v < t.n → (set v ≡ false → works (net t) r old put t.n v ≡ false) → get_or trial v (pos 0) ≡ worth v

    -- the flags alone tell the count
    ones : (flags : List ℕ) → flags ≡ flag_row t old r mv asked c.flags → size (λ v. eqb (nat flags v) 1) t.n ≡ size set t.n
    ones flags e =
        size_same (λ v. eqb (nat flags v) 1) set t.n
        (λ v l. ap (λ row. eqb (nat row v) 1) e ∙ ap (λ x. eqb x 1) (over-at (λ u. cond (set u) 1 0) t.n c.flags v 0 l) ∙ one (set v))
      where
        one : (b : Bool) → eqb (cond b 1 0) 1 ≡ b
        one true = refl
        one false = refl

    -- what the route leaves in the row, and what the paper says
    abbrev run : Values
    run v = cond (set v) (worth v) (put v)

    run-same : (v : ℕ) → run v ≡ cond (names mv v || set v) (worth v) (old v)
    run-same v = go (names mv v) refl (set v)
      where
        idle : (b : Bool) → is_made t v ≡ b → names mv v ≡ true → works (net t) r old put t.n v ≡ false
        idle true e q = clash q (made-unnamed v e)
        idle false e q = ap (◌&& live (net t) r old put t.n worth v) e

        go : (a : Bool) → names mv v ≡ a → (b : Bool) → cond b (worth v) (put v) ≡ cond (a || b) (worth v) (old v)
        go true q true = refl
        go true q false = sym (idle-new (net t) t.n old put made-same r (ruled r) v (idle (is_made t v) refl q))
        go false q true = refl
        go false q false = unnamed mv old v q

    pub ran : (before trial trial' : List ℤ) (flags flags' : List ℕ) → t.n ≤ length before → trial ≡ over t.n (moved mv (λ v. get_or stored v (pos 0))) before
        → flags ≡ over t.n (λ v. 0) c.flags → Routed t r stored trial flags asked trial' flags' → Ran before trial' flags'
    ran before trial trial' flags flags' room is cleared d = record {
      trial-is = row ∙ over-same run t.n before (λ v. cond (names mv v || set v) (worth v) (old v)) (λ v l. run-same v);
      flags-are = told;
      count-is = ones flags' told;
      new-at = λ v l h. ap (λ x. get_or x v (pos 0)) row ∙ over-at run t.n before v (pos 0) l ∙ all_new (net t) t.n old put made-same r (ruled r) asked v h;
    }
      where
        same : values_in t trial ≡ put
        same = begun-values before trial flags room is cleared

        told : flags' ≡ flag_row t old r mv asked c.flags
        told =
            d.flagged ∙ ap (λ (s : Values). over t.n (λ v. cond (evaluated (net t) r old s asked t.n v) 1 0) flags) same
            ∙ ap (over t.n (λ v. cond (set v) 1 0)) cleared ∙ over-over (λ v. cond (set v) 1 0) t.n c.flags (λ v. 0)

        row : trial' ≡ over t.n run before
        row =
            d.values ∙ ap (λ (s : Values). over t.n (λ v. cond (evaluated (net t) r old s asked t.n v) (new (net t) r old s t.n v) (s v)) trial) same
            ∙ ap (over t.n run) is ∙ over-over run t.n before (moved mv (λ v. get_or stored v (pos 0)))
