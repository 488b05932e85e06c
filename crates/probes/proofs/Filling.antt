-- Over rows at rest a move is begun once it is put in: the trial row has the stored values with it, and no flag is set. Assumes nothing.
use Prim.Native.Nat.{ℕ}
use mathlib.Core.Bool.{false}
use mathlib.Core.List.{List}
use mathlib.Core.Path.{◌≡◌, refl, ap, sym, ◌∙◌, subst}
use lib.IntN.{ℤ, pos}
use lib.ListN.{get_or}
use Rattle.paper.specs.Lists.{over}
use Rattle.paper.specs.Net.{Route, moved}
use Rattle.paper.specs.Tables.{Tables, Index}
use Rattle.paper.specs.Checks.{Sound, pairs_of_move}
use Rattle.paper.specs.Chains.{closes}
use Rattle.paper.specs.Calls.{TrialLent}
use Rattle.paper.proofs.Buffers.{over-of}
use Rattle.paper.proofs.Closes.{opened}
use Rattle.rows.specs.Put.{put_in}
use Rattle.rows.proofs.Put.{put-over}
use Rattle.routes.specs.Rows.{Ended}
use Rattle.routes.specs.Routed.{Routed}
use Rattle.fills.specs.Accepted.{Trying}
use Rattle.probes.specs.Rest.{AtRest, Unmarked}

pub ended : (t : Tables) → Sound t → closes t ≡ false → Ended t
ended t s e = record { sound = s; chains = (opened t s e).chains }

pub unmarked : (n : ℕ) (stored trial : List ℤ) (flags marks work : List ℕ) → AtRest n stored trial flags marks work → Unmarked n marks work
unmarked n stored trial flags marks work R = record { in-marks = R.roomy.in-marks; in-work = R.roomy.in-work; no-mark = λ u. (R.each u).no-mark; no-work = λ u. (R.each u).no-work }

module _ (t : Tables) (ord : List ℕ) (x : Index) (stored : List ℤ) (c : TrialLent) (k : Trying t ord x stored c) (marks work : List ℕ) (R : AtRest t.n stored c.trial c.flags marks work) where
  pub put_is : (trial : List ℤ) → trial ≡ put_in (pairs_of_move c.move) c.trial → trial ≡ over t.n (moved (pairs_of_move c.move) (λ v. get_or stored v (pos 0))) c.trial
  put_is trial e =
      e ∙ ap (put_in (pairs_of_move c.move)) (over-of (λ v. get_or stored v (pos 0)) t.n c.trial c.trial (pos 0) refl k.in-trial (λ v l. (R.each v).value l) refl)
      ∙ put-over t.n c.move k.keeping.pairs (λ v. get_or stored v (pos 0)) c.trial

  pub flags-clear : c.flags ≡ over t.n (λ v. 0) c.flags
  flags-clear = over-of (λ v. 0) t.n c.flags c.flags 0 refl k.keeping.in-flags (λ v l. (R.each v).no_flag l) refl

-- a route by another name
pub by-route : {t : Tables} {r q : Route} {stored trial trial' : List ℤ} {flags asked flags' : List ℕ} → r ≡ q → Routed t q stored trial flags asked trial' flags' → Routed t r stored trial flags asked trial' flags'
by-route {t} {r} {q} {stored} {trial} {trial'} {flags} {asked} {flags'} e w = subst (λ (z : Route). Routed t z stored trial flags asked trial' flags') (sym e) w
