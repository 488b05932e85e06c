-- A log in which room is made, row by row. Assumes nothing.
use Prim.Native.Nat.{ℕ, ◌≤◌}
use mathlib.Core.Bool.{true, cond}
use mathlib.Core.List.{List}
use mathlib.Core.Path.{◌≡◌, ap, sym}
use lib.IntN.{ℤ}
use lib.ListN.{length}
use borrow.Author.Tests.{leb-true, le-ltb}
use Rattle.paper.specs.Log.{Log, log_in, slid, logged, log_fits, room_made}
use Rattle.paper.proofs.Lists.{each}

module _ (l : Log) where
  -- 1: how long its rows are
  pub log-long : log_fits l ≡ true → (65 ≤ length l.sizes) × (4096 ≤ length l.vars) × (4096 ≤ length l.values)
  log-long h = let e = each _ h in (leb-true _ _ e.0, leb-true _ _ e.1.0, leb-true _ _ e.1.1.0)

  -- there is room, or the oldest goes
  abbrev without : Log
  without = log_in (slid 1 64 l.sizes) (slid 64 4032 l.vars) (slid 64 4032 l.values)

  pub room-made : 64 ≤ logged l → {sizes vars : List ℕ} {values : List ℤ} → sizes ≡ without.sizes → vars ≡ without.vars → values ≡ without.values
      → log_in sizes vars values ≡ room_made l
  room-made h p q r = rw (p, q, r) (sym (ap (λ b. cond b l without) (le-ltb (logged l) 64 h)))
