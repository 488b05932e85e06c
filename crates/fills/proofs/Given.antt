-- The reasons that a call notes over the rows that its core left are the paper's: those rows hold each evaluated variable's result, all that its formula
-- looks at, and its flag. Assumes nothing.
use Prim.Native.Nat.{ℕ, ◌≤◌, ◌<◌}
use mathlib.Core.Bool.{Bool, true, false, cond, ◌&&◌, ◌||◌, true≢false}
use mathlib.Core.List.{List, []}
use mathlib.Core.Path.{◌≡◌, refl, ap, sym, ◌∙◌}
use lib.Dec.{eqb, ltb}
use lib.IntN.{ℤ, pos}
use lib.ListN.{length, get_or, take}
use lib.Seq.{get_or-take, length-take-le}
use borrow.Author.Tests.{ltb-true}
use Rattle.paper.specs.Lists.{all, nat, over}
use Rattle.paper.specs.Net.{Values, Route, input-to-output, live, moved, names}
use Rattle.paper.specs.Tables.{Tables, net, is_made, form_of, values_in}
use Rattle.paper.specs.Chains.{worth, determined}
use Rattle.paper.specs.Checks.{Sound, pairs_of_move}
use Rattle.paper.specs.Reason.{reason_of, reason_after, reason_kept}
use Rattle.paper.specs.Calls.{new_values, evaluates, trial_row, flag_row, BuildLent, start_values, KeepLent, kept_stored, kept_flags, kept_reasons}
use Rattle.paper.proofs.Lists.{all_in}
use Rattle.paper.proofs.Buffers.{over-at, over-same}
use Rattle.paper.proofs.Fresh.{unnamed}
use Rattle.paper.proofs.Needs.{Ruled}
use Rattle.paper.proofs.RouteReasons.{Shows, fresh-shows, Settled, route-shows}
use Rattle.rows.specs.Changes.{values_of}
use Rattle.whys.specs.Noted.{shown, current, noted_reason}
use Rattle.whys.proofs.Noted.{shown-reason, current-after, noted-kept}

-- a flag is 1 where the variable was evaluated
flag_is : (b : Bool) → eqb (cond b 1 0) 1 ≡ b
flag_is true = refl
flag_is false = refl

module _ (t : Tables) (sound : Sound t) where
  -- ── build ──
  pub built-given : (l : BuildLent) → l.tables ≡ t → ((v : ℕ) → determined t (start_values l) v ≡ true) → (stored : List ℤ) → stored ≡ over t.n (worth t (start_values l)) l.stored
      → (before row : List ℕ) → row ≡ over t.n (shown t (values_of stored)) before → row ≡ over t.n (λ v. reason_of t v (worth t (start_values l))) before
  built-given l is det stored e before row q = let f = worth t (start_values l) in
      q ∙ over-same (shown t (values_of stored)) t.n before (λ v. reason_of t v f) (λ v h.
      shown-reason t (values_of stored) f v (fresh-shows t sound (start_values l) (values_of stored) det (λ u k. ap (λ row. get_or row u (pos 0)) e ∙ over-at f t.n l.stored u (pos 0) k) v))

  -- ── a move by a route, over stored values `old`, from which the new values meet the route's rule ──
  module _ (r : Route) (old : Values) (mv : List (ℕ × ℤ)) (asked : List ℕ) (ruled : Ruled t r old (moved mv old)) (asked_low : all (λ v. ltb v t.n) asked ≡ true) where
    abbrev found : Values
    found = new_values t old r mv asked

    abbrev does : ℕ → Bool
    does = evaluates t old r mv asked

    -- in the row of a trial
    row_settled : (v : ℕ) → Settled t r old (moved mv old) asked v → cond (names mv v || does v) (found v) (old v) ≡ found v
    row_settled v settled = go (names mv v) refl (does v) refl
      where
        still : (made alive : Bool) → (made && alive) ≡ false → names mv v ≡ false → cond made (cond alive (form_of t v found) (old v)) (moved mv old v) ≡ old v
        still true true e q = absurd (true≢false e)
        still true false e q = refl
        still false alive e q = unnamed mv old v q

        go : (a : Bool) → names mv v ≡ a → (b : Bool) → does v ≡ b → cond (a || b) (found v) (old v) ≡ found v
        go true p b q = refl
        go false p true q = refl
        go false p false q =
            sym (ruled v ∙ still (is_made t v) (live (net t) r old (moved mv old) t.n found v) (settled q) p)

    module _ (f : Values) (same : (v : ℕ) → v < t.n → Settled t r old (moved mv old) asked v → f v ≡ found v) (flags : List ℕ) (flagged : (v : ℕ) → v < t.n → eqb (nat flags v) 1 ≡ does v)
        (reasons : ℕ → ℕ) (v : ℕ) (l : v < t.n) where
      shows : does v ≡ true → is_made t v ≡ true → Shows t f found v
      shows e m = route-shows t sound r old (moved mv old) asked (λ a m. ltb-true a t.n (all_in (λ u. ltb u t.n) asked asked_low m)) ruled f same v l e

      pub current-given : current t flags f reasons v ≡ reason_after t does found reasons v
      current-given = current-after t f found flags does reasons v (flagged v l) shows

      pub noted-given : noted_reason t flags f reasons v ≡ reason_kept t does found reasons v
      noted-given = noted-kept t f found flags does reasons v (flagged v l) shows

    flags-hold : (flags before : List ℕ) → flags ≡ flag_row t old r mv asked before → (v : ℕ) → v < t.n → eqb (nat flags v) 1 ≡ does v
    flags-hold flags before e v l = ap (λ row. eqb (nat row v) 1) e ∙ ap (λ x. eqb x 1) (over-at (λ u. cond (does u) 1 0) t.n before v 0 l) ∙ flag_is (does v)

    -- ── trial ──
    pub asked-given : (row before : List ℤ) → row ≡ trial_row t old r mv asked before → (flags flags₀ : List ℕ) → flags ≡ flag_row t old r mv asked flags₀
        → (reasons : List ℕ) (vars given why after : List ℕ) (count : ℕ) → given ≡ take count vars → count ≤ length vars → ((i : ℕ) → i < count → nat vars i < t.n)
        → after ≡ over (length given) (λ i. current t flags (values_of row) (nat reasons) (nat given i)) why
        → after ≡ over count (λ i. reason_after t does found (nat reasons) (nat vars i)) why
    asked-given row before e flags flags₀ q reasons vars given why after count is long low h =
        h ∙ ap (λ g. over (length g) (λ i. current t flags (values_of row) (nat reasons) (nat g i)) why) is
        ∙ ap (λ k. over k (λ i. current t flags (values_of row) (nat reasons) (nat (take count vars) i)) why) (length-take-le count vars long)
        ∙ over-same (λ i. current t flags (values_of row) (nat reasons) (nat (take count vars) i)) count why (λ i. reason_after t does found (nat reasons) (nat vars i))
        (λ i l. ap (current t flags (values_of row) (nat reasons)) (get_or-take count vars i 0 l)
        ∙ current-given (values_of row) (λ v k settled. ap (λ z. get_or z v (pos 0)) e ∙ over-at (λ u. cond (names mv u || does u) (found u) (old u)) t.n before v (pos 0) k ∙ row_settled v settled)
        flags (flags-hold flags flags₀ q) (nat reasons) (nat vars i) (low i l))

  -- ── keep and taking back ──
  pub moved-given : (stored : List ℤ) (c : KeepLent) → Ruled t input-to-output (values_in t stored) (moved (pairs_of_move c.move) (values_in t stored))
      → (stored' : List ℤ) → stored' ≡ kept_stored t stored c → (flags : List ℕ) → flags ≡ kept_flags t stored c
      → (before row : List ℕ) → row ≡ over t.n (noted_reason t flags (values_of stored') (nat before)) before → row ≡ kept_reasons t stored c before
  moved-given stored c ruled stored' e flags q before row h =
      let old = values_in t stored in let mv = pairs_of_move c.move in
      h ∙ over-same (noted_reason t flags (values_of stored') (nat before)) t.n before (reason_kept t (evaluates t old input-to-output mv []) (new_values t old input-to-output mv []) (nat before))
      (λ v l. noted-given input-to-output old mv [] ruled refl (values_of stored')
      (λ u k settled. ap (λ z. get_or z u (pos 0)) e ∙ over-at (new_values t old input-to-output mv []) t.n stored u (pos 0) k)
      flags (flags-hold input-to-output old mv [] ruled refl flags c.flags q) (nat before) v l)
