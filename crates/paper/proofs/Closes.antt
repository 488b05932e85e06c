-- Whether a chain of inputs closes, over tables that passed checks 1 to 5: if none does, numbers and order are those of `Straight`; if one does, stored
-- values that passed check 21 are the fresh ones of their own search variables. Assumes nothing.
use Prim.Native.Nat.{ℕ, suc, ◌≤◌, ◌<◌}
use native.Mathlib.Nat.{lt_irrefl}
use native.Mathlib.Omega.{arith}
use mathlib.Core.Bool.{Bool, true, false, cond, not, ◌&&◌, ◌||◌}
use mathlib.Core.List.{List}
use mathlib.Core.Path.{◌≡◌, refl, ap, sym, ◌∙◌}
use lib.Dec.{eqb, ltb}
use lib.ListN.{length, take}
use lib.Seq.{ext_get_or, length-take-le, get_or-take}
use borrow.Author.Tests.{eqb-true, eq-eqb, ltb-true, ltb-false, not-false}
use Rattle.integers.specs.Integers.{eq_z}
use Rattle.integers.proofs.Order.{eq_z-yes}
use Rattle.paper.specs.Lists.{nat, all_below}
use Rattle.paper.specs.Net.{Values, able}
use Rattle.paper.specs.Tables.{Tables, net, is_made, inputs_of, ends}
use Rattle.paper.specs.Checks.{Sound}
use Rattle.paper.proofs.Straight.{number, order}
use Rattle.paper.specs.Chains.{permitted, group_number, group_order, worth, determined, closes, groups_numbered, stored_fresh}
use Rattle.paper.proofs.Lists.{each, all_yes, and_left, and_right}
use Rattle.paper.proofs.Least.{all_below-at, below_all}
use Rattle.paper.proofs.Sizes.{sized-facts}
use Rattle.paper.proofs.Accept.{made-below, inputs-below}
use Rattle.paper.proofs.Lawful.{lawful}
use Rattle.paper.proofs.Circle.{ends-everywhere}
use Rattle.paper.proofs.Order.{levels-length}
use Rattle.paper.proofs.Fresh.{Fresh, form-same}
use Rattle.paper.proofs.Needs.{worth-meets, search-determined}
use Rattle.paper.proofs.Groups.{group-le}
use Rattle.paper.proofs.Open.{open-permitted, open-determined, open-number, open_order}

-- ── no chain closes exactly if every chain ends ──
pub closes-not : (t : Tables) → closes t ≡ false → (v : ℕ) → v < t.n → ends t v ≡ true
closes-not t e = all_below-at (ends t) t.n (not-false (all_below (ends t) t.n) e)

pub not-closes : (t : Tables) → ((v : ℕ) → v < t.n → ends t v ≡ true) → closes t ≡ false
not-closes t h = ap not (below_all (ends t) t.n h)

-- ── check 8 is passed ──
pub group-order-length : (t : Tables) → length (group_order t) ≡ t.m
group-order-length t = levels-length t (group_number t) (suc t.n) (λ r l. let h = group-le t (nat t.makes r) in omega arith)

module _ (t : Tables) (nums ord : List ℕ) where
  module _ (ok : groups_numbered t nums ord ≡ true) where
    pub groups-permitted : (v : ℕ) → v < t.n → permitted t v ≡ true
    groups-permitted = all_below-at (permitted t) t.n (each _ ok).0

    pub groups-numbers : (v : ℕ) → v < t.n → nat nums v ≡ group_number t v
    groups-numbers v l = eqb-true (nat nums v) (group_number t v) (all_below-at (λ u. eqb (nat nums u) (group_number t u)) t.n (each _ ok).1.0 v l)

    pub groups-order : t.m ≤ length ord → take t.m ord ≡ group_order t
    groups-order h = ext_get_or 0 (take t.m ord) (group_order t) (length-take-le t.m ord h ∙ sym (group-order-length t)) (λ i l.
        let low : i < t.m = let k = length-take-le t.m ord h in omega arith in
        get_or-take t.m ord i 0 low
        ∙ eqb-true (nat ord i) (nat (group_order t) i) (all_below-at (λ j. eqb (nat ord j) (nat (group_order t) j)) t.m (each _ ok).1.1.0 i low))

  pub groups_of : ((v : ℕ) → v < t.n → permitted t v ≡ true) → ((v : ℕ) → v < t.n → nat nums v ≡ group_number t v) → take t.m ord ≡ group_order t
      → groups_numbered t nums ord ≡ true
  groups_of chains p q =
      all_yes _ (
        below_all (permitted t) t.n chains,
        (
          below_all (λ v. eqb (nat nums v) (group_number t v)) t.n (λ v l. eq-eqb (nat nums v) (group_number t v) (p v l)),
          (
            below_all (λ i. eqb (nat ord i) (nat (group_order t) i)) t.m
                (λ i l. eq-eqb (nat ord i) (nat (group_order t) i) (sym (get_or-take t.m ord i 0 l) ∙ ap (λ (o : List ℕ). nat o i) q)),
            tt,
          ),
        ),
      )

-- ── tables that passed checks 1 to 5 ──
-- what holds where no chain closes
pub record Opened (t : Tables) : Type 0 where
  pub chains : (v : ℕ) → able (inputs_of t) t.n v ≡ true
  pub number_is : (v : ℕ) → group_number t v ≡ number (net t) t.n v
  pub order_is : group_order t ≡ order t
  pub permitted : (v : ℕ) → permitted t v ≡ true
  pub determined : (s : Values) (v : ℕ) → determined t s v ≡ true
  pub fresh : (old : Values) (v : ℕ) → stored_fresh t old v ≡ true

-- what passed check 21 says of stored values where one does
pub record Closed (t : Tables) (old : Values) : Type 0 where
  pub determined : (v : ℕ) → determined t old v ≡ true
  pub same : (v : ℕ) → old v ≡ worth t old v
  pub fresh : Fresh (net t) old

module _ (t : Tables) (s : Sound t) where
  -- chains that end at every variable of the model end everywhere
  pub sound-ends : ((v : ℕ) → v < t.n → ends t v ≡ true) → (v : ℕ) → able (inputs_of t) t.n v ≡ true
  sound-ends = ends-everywhere (net t) (lawful t) t.n (inputs-below t s) (made-below t s) (sized-facts t s.sized).n-some

  pub opened : closes t ≡ false → Opened t
  opened e = let h = sound-ends (closes-not t e) in record {
    chains = h;
    number_is = open-number t (inputs-below t s) h (made-below t s);
    order_is = open_order t (inputs-below t s) h (made-below t s);
    permitted = open-permitted t (inputs-below t s) h;
    determined = open-determined t (inputs-below t s) h;
    fresh = λ old v. ap (λ b. not b || (determined t old v && eq_z (old v) (worth t old v))) e;
  }

  -- ── stored values where a chain closes ──
  module _ (old : Values) (e : closes t ≡ true) (passed : (v : ℕ) → v < t.n → stored_fresh t old v ≡ true) where
    both : (v : ℕ) → v < t.n → (determined t old v && eq_z (old v) (worth t old v)) ≡ true
    both v l = sym (ap (λ b. not b || (determined t old v && eq_z (old v) (worth t old v))) e) ∙ passed v l

    beyond : (v : ℕ) → t.n ≤ v → is_made t v ≡ false
    beyond v l = go (is_made t v) refl
      where
        go : (b : Bool) → is_made t v ≡ b → is_made t v ≡ false
        go true q = let k = made-below t s v q in absurd (lt_irrefl v (omega arith))
        go false q = q

    known : (v : ℕ) → (determined t old v ≡ true) × (old v ≡ worth t old v)
    known v = go (ltb v t.n) refl
      where
        go : (b : Bool) → ltb v t.n ≡ b → (determined t old v ≡ true) × (old v ≡ worth t old v)
        go true q = let h = both v (ltb-true v t.n q) in
            (and_left (determined t old v) (eq_z (old v) (worth t old v)) h, eq_z-yes (old v) (worth t old v) (and_right (determined t old v) (eq_z (old v) (worth t old v)) h))
        go false q = let h = search-determined t old v (sized-facts t s.sized).n-some (beyond v (ltb-false v t.n q)) in (h.0, sym h.1)

    pub closed : Closed t old
    closed = record {
      determined = λ v. (known v).0;
      same = λ v. (known v).1;
      fresh = λ v. (known v).1 ∙ worth-meets t old v (known v).0 ∙ ap (λ z. cond (is_made t v) z (old v)) (form-same (net t) (lawful t) v (worth t old) old (λ i m. sym (known i).1));
    }
