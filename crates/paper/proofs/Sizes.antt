-- What check 1 says of the tables, and of what a file is written from or read into: each test is an order between two numbers. Assumes nothing.
use Prim.Native.Nat.{◌≤◌}
use mathlib.Core.Bool.{true, ◌&&◌}
use mathlib.Core.Path.{◌≡◌, ap₂}
use lib.ListN.{length}
use borrow.Author.Tests.{leb-true, le-leb}
use Rattle.paper.specs.Tables.{Tables}
use Rattle.paper.specs.Checks.{sized}
use Rattle.paper.specs.File.{Version, bounded, Contents, held}
use Rattle.paper.proofs.Lists.{and_left, and_right, each, all_yes}
use Rattle.paper.proofs.Least.{between_in}

pub record Sized (t : Tables) : Type 0 where
  pub n-some : 1 ≤ t.n
  pub n-most : t.n ≤ 4096
  pub m-most : t.m ≤ t.n
  pub e-most : t.e ≤ 16384
  pub kinds : t.m ≤ length t.kinds
  pub makes : t.m ≤ length t.makes
  pub params : t.m ≤ length t.params
  pub firsts : t.m ≤ length t.firsts
  pub counts : t.m ≤ length t.counts
  pub vars : t.e ≤ length t.vars
  pub coefs : t.e ≤ length t.coefs

module _ (t : Tables) where
  pub sized-facts : sized t ≡ true → Sized t
  sized-facts h = let s = each _ h in search (leb-true, and_left, and_right)

  pub sized_of : Sized t → sized t ≡ true
  sized_of s = all_yes _ (search (le-leb, between_in) depth 11)

-- ── what a file of either version asks of the rows ──
pub record Held (v : Version) (c : Contents) : Type 0 where
  pub sized : Sized c.tables
  pub starts : c.tables.n ≤ length c.starts
  pub lows : bounded v c.tables.n ≤ length c.lows
  pub highs : bounded v c.tables.n ≤ length c.highs

module _ (v : Version) (c : Contents) where
  pub held-facts : held v c ≡ true → Held v c
  held-facts h = search (sized-facts, leb-true, and_left, and_right)

  pub held_of : Held v c → held v c ≡ true
  held_of s = ap₂ ◌&&◌ (ap₂ ◌&&◌ (le-leb _ _ s.lows) (le-leb _ _ s.highs)) (ap₂ ◌&&◌ (sized_of c.tables s.sized) (le-leb _ _ s.starts))
