-- What the marks tell of tables: a link that leads back into its group closes a chain, an index that lies in its ELEMENT's group bars the group, and the numbers
-- found are those that the groups share, since no others meet the sentence. Assumes nothing.
use Prim.Native.Nat.{ℕ, zero, suc, min, ◌≤◌, ◌<◌}
use native.Mathlib.Omega.{arith}
use mathlib.Core.Bool.{Bool, true, false, cond, not, ◌&&◌, ◌||◌}
use mathlib.Core.Logic.{◌⊎◌, inl, inr}
use mathlib.Core.List.{List, [], ◌∷◌, map}
use mathlib.Core.Path.{◌≡◌, refl, ap, ap₂, sym, ◌∙◌, subst, fun_ext}
use lib.Dec.{eqb, ltb}
use Rattle.std.specs.Prelude.{Option, Some, None}
use Rattle.std.specs.Option.{option_or}
use Rattle.std.proofs.lemmas.Bool.Decides.{nat_tests}
use Rattle.integers.specs.Below.{if_below}
use Rattle.integers.proofs.Below.{if_below-some, some-below, none-below}
use lib.ListN.{length, get_or}
use borrow.Author.Tests.{ltb-true, ltb-false}
use Rattle.paper.specs.Lists.{any, greatest, nat, over, first_fail, all_below}
use Rattle.paper.specs.Tables.{Tables, is_made, inputs_of}
use Rattle.paper.proofs.Least.{first_fail-le, first_fail-fails, first_fail-before, first_fail-is, first_fail-none}
use Rattle.paper.proofs.Buffers.{over-length, over-at}
use Rattle.paper.proofs.Scan.{first_fail-same}
use Rattle.tables.specs.Makers.{Makers}
use Rattle.paper.specs.Chains.{depends, together, outside, plain_inputs, round_index, permitted, group_numbering}
use Rattle.paper.proofs.Groups.{group-unique}
use Rattle.order.specs.Formed.{Formed}
use Rattle.order.specs.Numbering.{part_at, Parted}
use Rattle.groups.specs.Groups.{Found}
use Rattle.chains.specs.Links.{by_element, links_of, Linked, Shared}
use Rattle.chains.specs.Back.{leads_back, index_back, BarredFlags}
use Rattle.chains.proofs.Linked.{links-below}
use Rattle.chains.proofs.Rounds.{back-depends, round-marks}
use Rattle.chains.proofs.Index.{linkless, index_in, indices-are}

-- ── the least that fails one of two tests is the smaller of the least that fail each ──
first-of-both : (p q : ℕ → Bool) (n : ℕ) → min (first_fail p n) (first_fail q n) ≡ first_fail (λ v. p v && q v) n
first-of-both p q n = go (ltb (first_fail p n) (first_fail q n)) refl
  where
    left-fails : (v : ℕ) → p v ≡ false → (p v && q v) ≡ false
    left-fails v e = ap (◌&& q v) e

    right-fails : (v : ℕ) → q v ≡ false → (p v && q v) ≡ false
    right-fails v e = ap (p v &&◌) e ∙ off (p v)
      where
        off : (b : Bool) → (b && false) ≡ false
        off true = refl
        off false = refl

    both : (v : ℕ) → v < first_fail p n → v < first_fail q n → (p v && q v) ≡ true
    both v a b = ap₂ ◌&&◌ (first_fail-before p n v a) (first_fail-before q n v b)

    at : (r : ℕ) → min (first_fail p n) (first_fail q n) ≡ r → r ≤ first_fail p n → r ≤ first_fail q n → (r < n → (p r && q r) ≡ false) → r ≤ n
        → min (first_fail p n) (first_fail q n) ≡ first_fail (λ v. p v && q v) n
    at r e a b f l = e ∙ pick (ltb r n) refl
      where
        pick : (c : Bool) → ltb r n ≡ c → r ≡ first_fail (λ v. p v && q v) n
        pick true h = let k = ltb-true r n h in first_fail-is (λ v. p v && q v) n r k (f k) (λ j lj. both j (omega arith) (omega arith))
        pick false h =
            let k = ltb-false r n h in let same : r ≡ n = omega arith in
            same ∙ first_fail-none (λ v. p v && q v) n (λ j lj. both j (omega arith) (omega arith))

    go : (c : Bool) → ltb (first_fail p n) (first_fail q n) ≡ c → min (first_fail p n) (first_fail q n) ≡ first_fail (λ v. p v && q v) n
    go true h =
        let k = ltb-true (first_fail p n) (first_fail q n) h in let l = first_fail-le p n in
        at (first_fail p n) (omega arith) (omega arith) (omega arith) (λ low. left-fails (first_fail p n) (first_fail-fails p n low)) l
    go false h =
        let k = ltb-false (first_fail p n) (first_fail q n) h in let l = first_fail-le q n in
        at (first_fail q n) (omega arith) (omega arith) (omega arith) (λ low. right-fails (first_fail q n) (first_fail-fails q n low)) l

module _ (t : Tables) (F : Formed t) where
  -- the parts are the links, so what is found over the parts is found over the links
  pub found-over : (all : Bool) {begins stops marks numbers : List ℕ} → Linked all t begins stops
      → Found t.n (part_at begins stops t.vars) marks numbers → Found t.n (links_of all t) marks numbers
  found-over all {begins} {stops} {marks} {numbers} L D = subst (λ dep. Found t.n dep marks numbers) (fun_ext L.at) D

  -- ── no link leads back: no closed chain of such links ──
  pub plain-least : {begins stops marks numbers : List ℕ} {r : ℕ} → Linked false t begins stops → Found t.n (part_at begins stops t.vars) marks numbers
      → r ≡ first_fail (λ v. not (leads_back (part_at begins stops t.vars) marks v)) t.n → r ≡ first_fail (λ v. not (depends (plain_inputs t) t.n v v)) t.n
  plain-least {begins} {stops} {marks} {numbers} {r} L D e =
      e ∙ ap (λ (dep : ℕ → List ℕ). first_fail (λ v. not (leads_back dep marks v)) t.n) (fun_ext L.at)
      ∙ first_fail-same (λ v. not (leads_back (plain_inputs t) marks v)) (λ v. not (depends (plain_inputs t) t.n v v)) t.n
      (λ v l. ap not (back-depends (plain_inputs t) t.n (links-below t F false) marks numbers (found-over false L D) v l))

  -- ── the numbers are those of the groups ──
  pub shared_of : {marks numbers : List ℕ} → Found t.n (inputs_of t) marks numbers → Shared t numbers
  shared_of {marks} {numbers} D = record { long = D.numbers-long; at = group-unique t F.inputs-below F.some (nat numbers) meets }
    where
      meets : (v : ℕ) → v < t.n → nat numbers v ≡ group_numbering t (nat numbers) v
      meets v l = D.number v l ∙ ap (λ b. cond b zero (suc (greatest (map (nat numbers) (outside (inputs_of t) t.n v))))) (linkless t F v) ∙ turn (is_made t v)
        where
          turn : (b : Bool) → cond (not b) zero (suc (greatest (map (nat numbers) (outside (inputs_of t) t.n v))))
              ≡ cond b (suc (greatest (map (nat numbers) (outside (inputs_of t) t.n v)))) zero
          turn true = refl
          turn false = refl

  -- and stay so where they are copied to
  pub shared-copied : {found now : List ℕ} (before : List ℕ) → Shared t found → t.n ≤ length before → now ≡ over t.n (nat found) before → Shared t now
  shared-copied {found} before S h e = rw e (record {
    long = let same = over-length (nat found) t.n before h in omega arith;
    at = λ v l. over-at (nat found) t.n before v 0 l ∙ S.at v l;
  })

  -- ── an index in its ELEMENT's group bars the group ──
  module _ (by : List ℕ) (M : Makers t by) (begins stops : List ℕ) (L : Linked true t begins stops) (P : Parted t.n begins stops t.vars)
      (marks numbers : List ℕ) (D : Found t.n (inputs_of t) marks numbers) where
    abbrev indexed : ℕ → Bool
    indexed = index_back t.kinds by begins t.vars marks

    round_is : (v x : ℕ) → v < t.n → x < t.n → round_index t v x ≡ (indexed x && eqb (nat marks x) (nat marks v))
    round_is v x lv lx =
        ap (any (λ i. together (inputs_of t) t.n v x && together (inputs_of t) t.n v i)) (indices-are t F by M begins stops L P x lx)
        ∙ go (by_element t.kinds (nat by x)) refl
      where
        i : ℕ
        i = nat t.vars (nat begins x)

        end : (b : Bool) → (b || false) ≡ b
        end true = refl
        end false = refl

        go : (b : Bool) → by_element t.kinds (nat by x) ≡ b
            → any (λ j. together (inputs_of t) t.n v x && together (inputs_of t) t.n v j) (cond b (nat t.vars (nat begins x) ∷ []) [])
            ≡ ((b && eqb (nat marks x) (nat marks (nat t.vars (nat begins x)))) && eqb (nat marks x) (nat marks v))
        go true e =
            end (together (inputs_of t) t.n v x && together (inputs_of t) t.n v (nat t.vars (nat begins x)))
            ∙ round-marks (inputs_of t) t.n F.inputs-below marks numbers D v x (nat t.vars (nat begins x)) lv lx (index_in t F by M begins stops L P x lx e)
        go false e = refl

    pub round-least : {barred : List Bool} {r : ℕ} → BarredFlags indexed marks t.n barred
        → r ≡ first_fail (λ v. not (get_or barred (nat marks v) false)) t.n → r ≡ first_fail (λ v. all_below (λ x. not (round_index t v x)) t.n) t.n
    round-least {barred} {r} B e = e ∙ first_fail-same (λ v. not (get_or barred (nat marks v) false)) (λ v. all_below (λ x. not (round_index t v x)) t.n) t.n same
      where
        twice : (b : Bool) → not (not b) ≡ b
        twice true = refl
        twice false = refl

        same : (v : ℕ) → v < t.n → not (get_or barred (nat marks v) false) ≡ all_below (λ x. not (round_index t v x)) t.n
        same v l =
            ap not (B.at v) ∙ twice (all_below (λ x. not (indexed x && eqb (nat marks x) (nat marks v))) t.n)
            ∙ ap (λ k. eqb k t.n)
            (first_fail-same (λ x. not (indexed x && eqb (nat marks x) (nat marks v))) (λ x. not (round_index t v x)) t.n (λ x lx. ap not (sym (round_is v x l lx))))

-- ── a variable is permitted if it passes both tests ──
pub permitted-least : (t : Tables) {p q r : ℕ} → p ≡ first_fail (λ v. not (depends (plain_inputs t) t.n v v)) t.n
    → q ≡ first_fail (λ v. all_below (λ x. not (round_index t v x)) t.n) t.n → r ≡ min p q → r ≡ first_fail (permitted t) t.n
permitted-least t ep eq er =
    er ∙ ap₂ min ep eq ∙ first-of-both (λ v. not (depends (plain_inputs t) t.n v v)) (λ v. all_below (λ x. not (round_index t v x)) t.n) t.n

-- ── the smaller of two places, each of which may be none ──
pub least_of-both : (n p q : ℕ) {v w : ℕ} → Some v ≡ if_below n p → Some w ≡ if_below n q → Some (min v w) ≡ if_below n (min p q)
least_of-both n p q {v} {w} a b =
    let f = some-below n p v a in let g = some-below n q w b in
    ap₂ (λ x y. Some (min x y)) f.0 g.0 ∙ if_below-some n (min p q) (let l = f.1 in omega arith)

pub least_of-either : (n p q : ℕ) (a b : Option ℕ) → a ≡ if_below n p → b ≡ if_below n q → (a ≡ None) ⊎ (b ≡ None) → option_or a b ≡ if_below n (min p q)
least_of-either n p q a b f g (inl e) =
    let h = none-below n p (sym e ∙ f) in ap (λ x. option_or x b) e ∙ g ∙ lower_right n p q h
  where
    lower_right : (n p q : ℕ) → n ≤ p → if_below n q ≡ if_below n (min p q)
    lower_right n p q h = grind (arith, nat_tests)
least_of-either n p q a b f g (inr e) =
    let h = none-below n q (sym e ∙ g) in ap (option_or a) e ∙ or_none a ∙ f ∙ lower_left n p q h
  where
    or_none : (o : Option ℕ) → option_or o None ≡ o
    or_none None = refl
    or_none (Some x) = refl

    lower_left : (n p q : ℕ) → n ≤ q → if_below n p ≡ if_below n (min p q)
    lower_left n p q h = grind (arith, nat_tests)
