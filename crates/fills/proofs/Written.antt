-- What a keep and a trial write is what the paper leaves: a keep stores all new values of route 1, and a trial reads the asked ones from its
-- row. Assumes nothing.
use Prim.Native.Nat.{ℕ, ◌≤◌, ◌<◌}
use native.Mathlib.Omega.{arith}
use mathlib.Core.Bool.{Bool, true}
use mathlib.Core.List.{List, []}
use mathlib.Core.Path.{◌≡◌, ap, ◌∙◌}
use lib.Dec.{eqb, ltb}
use lib.IntN.{ℤ, pos}
use lib.ListN.{length, get_or}
use lib.Seq.{get_or-take, length-take-le}
use borrow.Author.Tests.{ltb-true, lt-ltb}
use Rattle.paper.specs.Lists.{all, nat, size, over}
use Rattle.paper.specs.Net.{Values, input-to-output, moved}
use Rattle.paper.specs.Tables.{Tables, Index, net, values_in}
use Rattle.paper.specs.Checks.{pairs_of_move}
use Rattle.paper.specs.Calls.{new_values, TrialLent, asked_list, route_of, KeepLent}
use Rattle.paper.proofs.Lists.{all_in, all_of, all-at}
use Rattle.paper.proofs.Buffers.{over-same}
use Rattle.paper.proofs.Count.{size-le}
use Rattle.paper.proofs.Sizes.{Sized, sized-facts}
use Rattle.routes.specs.Routed.{Routed}
use Rattle.fills.specs.Accepted.{KeepAccepted, Trying, KeepFilled, TrialFilled}
use Rattle.fills.proofs.Settled.{asked-idle}
use Rattle.fills.proofs.Ran.{Ran, ran}

-- a count of variables is a number of 32 bits
pub count_fits : (p : ℕ → Bool) (n count : ℕ) → n ≤ 4096 → count ≡ size p n → count < 4294967296
count_fits p n count h e = omega (arith, size-le p n)

module _ (t : Tables) (ord : List ℕ) (x : Index) (stored : List ℤ) where
  abbrev old : Values
  old = values_in t stored

  pub held : (c : KeepLent) → KeepAccepted t ord x stored c → Sized t
  held c k = sized-facts t k.sound.sized

  pub keep-filled : (c : KeepLent) (k : KeepAccepted t ord x stored c) (before row row' stored' : List ℤ) (flags flags' : List ℕ) (count : ℕ) → t.n ≤ length before
      → row ≡ over t.n (moved (pairs_of_move c.move) (λ v. get_or stored v (pos 0))) before → flags ≡ over t.n (λ v. 0) c.flags
      → Routed t input-to-output stored row flags [] row' flags' → stored' ≡ over t.n (λ v. get_or row' v (pos 0)) stored
      → count ≡ size (λ v. eqb (nat flags' v) 1) t.n → KeepFilled t stored c count stored' flags'
  keep-filled c k before row row' stored' flags flags' count room is cleared d copied counted =
      let a = ran t ord x stored c k input-to-output [] before row row' flags flags' room is cleared d in
      record {
        count-is = counted ∙ a.count-is;
        stored_is = copied ∙ over-same (λ v. get_or row' v (pos 0)) t.n stored (new_values t old input-to-output (pairs_of_move c.move) []) (λ v l. a.new-at v l (λ e. e));
        flags-are = a.flags-are;
      }

  module _ (c : TrialLent) (k : Trying t ord x stored c) where
    abbrev asked : List ℕ
    asked = asked_list c

    pub asked-long : length (asked_list c) ≡ c.asked
    asked-long = length-take-le c.asked c.asked_vars k.in-asked

    -- a row as long as the variables has them all
    pub asked-within : (long : ℕ) → t.n ≤ long → all (λ v. ltb v long) (asked_list c) ≡ true
    asked-within long h = all_of (λ v. ltb v long) asked (λ v m. let l = ltb-true v t.n (all_in (λ u. ltb u t.n) asked k.asked m) in lt-ltb v long (omega arith))

    pub trial-filled : (trial trial' results' : List ℤ) (flags flags' : List ℕ) (count : ℕ)
        → trial ≡ over t.n (moved (pairs_of_move c.move) (λ v. get_or stored v (pos 0))) c.trial → flags ≡ over t.n (λ v. 0) c.flags
        → Routed t (route_of c.route) stored trial flags (asked_list c) trial' flags'
        → results' ≡ over (length (asked_list c)) (λ i. get_or trial' (nat (asked_list c) i) (pos 0)) c.results → count ≡ size (λ v. eqb (nat flags' v) 1) t.n
        → TrialFilled t stored c count results' trial' flags'
    trial-filled trial trial' results' flags flags' count is cleared d copied counted = record {
      count-is = counted ∙ a.count-is;
      results-are = copied ∙ ap (λ n. over n (λ i. get_or trial' (nat asked i) (pos 0)) c.results) asked-long
          ∙ over-same (λ i. get_or trial' (nat asked i) (pos 0)) c.asked c.results (λ i. worth (nat c.asked_vars i)) each;
      trial-is = a.trial-is;
      flags-are = a.flags-are;
    }
      where
        kept : KeepLent
        kept = record { move = c.move; flags = c.flags }

        worth : Values
        worth = new_values t old (route_of c.route) (pairs_of_move c.move) asked

        a : Ran t ord x stored kept k.keeping (route_of c.route) asked c.trial trial' flags'
        a = ran t ord x stored kept k.keeping (route_of c.route) asked c.trial trial trial' flags flags' k.in-trial is cleared d

        each : (i : ℕ) → i < c.asked → get_or trial' (nat asked i) (pos 0) ≡ worth (nat c.asked_vars i)
        each i l =
            let long = asked-long in let some = (held kept k.keeping).n-some in
            let low = ltb-true (nat asked i) t.n (all-at (λ v. ltb v t.n) asked k.asked i 0 (omega arith)) in
            a.new-at (nat asked i) low (asked-idle (net t) t.n old (moved (pairs_of_move c.move) old) (omega arith) asked i (omega arith) (route_of c.route))
            ∙ ap worth (get_or-take c.asked c.asked_vars i 0 l)
