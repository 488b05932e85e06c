-- Rows packed one after another keep their fields and parts: a row is as good among them as it is alone, and rows that are good alone and make
-- different variables are sound tables. Assumes nothing.
use Prim.Native.Nat.{ℕ, zero, suc, ◌+◌, ◌≤◌, ◌<◌}
use native.Mathlib.Nat.{le_refl, not-suc-le-zero}
use native.Mathlib.Numerals.{add-one}
use native.Mathlib.Omega.{arith}
use mathlib.Core.Bool.{Bool, true, false, not, ◌||◌}
use mathlib.Core.List.{List, [], ◌∷◌, ◌++◌, map, append_assoc, append-nil, Memᴰ}
use mathlib.Core.Path.{◌≡◌, refl, ap, ap₂, sym, ◌∙◌}
use lib.Dec.{eqb, leb, ltb}
use lib.IntN.{pos}
use lib.ListN.{length, get_or, take, drop, length-append, length-map}
use lib.Seq.{take_at, drop_at, take_all}
use borrow.Author.Tests.{ltb-true, leb-true, leb-false, le-leb, eq-eqb, ne_eqb, eqb-true, eqb-false}
use Rattle.paper.specs.Lists.{any, all, between, total, nat, joined}
use Rattle.paper.specs.Tables.{Tables, part, inputs_of}
use Rattle.paper.specs.Checks.{arity, kind_good, shape_good, number_good, Sound}
use Rattle.paper.proofs.Lists.{or-false-left, or-false-right, each, all_yes, all_in, all-places}
use Rattle.paper.proofs.Scan.{total-next, part_length}
use Rattle.paper.proofs.Count.{Distinct, distinct-length}
use Rattle.paper.proofs.Sizes.{Sized, sized_of}
use Rattle.paper.proofs.Accept.{row-inputs}
use Rattle.paper.proofs.Buffers.{length-below, get_d-below}
use Rattle.damage.specs.Saved.{packed, alone_good}

-- ── lists ──
pub map_at : {A : Type 0} (f : ℕ → A) (rows : List ℕ) (k : ℕ) (d : A) → k < length rows → get_or (map f rows) k d ≡ f (nat rows k)
map_at f [] k d l = absurd (not-suc-le-zero l)
map_at f (r ∷ rows) zero d l = refl
map_at f (r ∷ rows) (suc k) d l = map_at f rows k d (omega arith)

pub take-map : {A : Type 0} (f : ℕ → A) (k : ℕ) (rows : List ℕ) → take k (map f rows) ≡ map f (take k rows)
take-map f zero rows = refl
take-map f (suc k) [] = refl
take-map f (suc k) (r ∷ rows) = ap (f r ∷◌) (take-map f k rows)

pub any_none : {A : Type 0} (p : A → Bool) (xs : List A) (d : A) → ((i : ℕ) → i < length xs → p (get_or xs i d) ≡ false) → any p xs ≡ false
any_none p [] d h = refl
any_none p (x ∷ xs) d h = ap₂ ◌||◌ (h 0 (omega arith)) (any_none p xs d (λ i l. h (suc i) (omega arith)))

module _ {A : Type 0} (f : ℕ → List A) where
  -- lists one after another begin with the first of them
  joined-front : (k n : ℕ) → k ≤ n → (rest : List A) × (joined f n ≡ joined f k ++ rest)
  joined-front k zero h = let z : k ≡ 0 = omega arith in rw z ([], refl)
  joined-front k (suc n) h = go (leb k n) refl (joined-front k n)
    where
      go : (b : Bool) → leb k n ≡ b → (k ≤ n → (rest : List A) × (joined f n ≡ joined f k ++ rest)) → (rest : List A) × (joined f (suc n) ≡ joined f k ++ rest)
      go true e ih = let (rest, q) = ih (leb-true k n e) in (rest ++ f n, ap (◌++ f n) q ∙ append_assoc (joined f k) rest (f n))
      go false e ih = let l = leb-false k n e in let z : k ≡ suc n = omega arith in rw z ([], sym (append-nil (joined f (suc n))))

  -- each as long as its count: the counts before a list say where it begins
  module _ (counts : List ℕ) (n : ℕ) (room : n ≤ length counts) (long : (k : ℕ) → k < n → length (f k) ≡ nat counts k) where
    pub joined_length : (k : ℕ) → k ≤ n → length (joined f k) ≡ total (take k counts)
    joined_length zero h = refl
    joined_length (suc k) h =
        let own = long k h in let before = joined_length k (omega arith) in
        let grown = ap (λ (i : ℕ). total (take i counts)) (sym (add-one k)) ∙ total-next counts k (omega arith) in
        omega (arith, length-append (joined f k) (f k))

    pub joined-part : (k : ℕ) → k < n → take (nat counts k) (drop (total (take k counts)) (joined f n)) ≡ f k
    joined-part k h =
        let (rest, q) = joined-front (suc k) n h in
        ap (λ l. take (nat counts k) (drop (total (take k counts)) l)) (q ∙ append_assoc (joined f k) (f k) rest)
        ∙ ap (take (nat counts k)) (drop_at (joined f k) (f k ++ rest) (total (take k counts)) (joined_length k (omega arith)))
        ∙ take_at (f k) rest (nat counts k) (long k h)

-- the sum up to a place, and one more, is at most the whole
pub total-within : (l : List ℕ) (k : ℕ) → k < length l → total (take k l) + nat l k ≤ total l
total-within [] k h = absurd (not-suc-le-zero h)
total-within (x ∷ l) zero h = omega arith
total-within (x ∷ l) (suc k) h = let rest = total-within l k (omega arith) in omega arith

-- numbers none of which is among those before it
pub distinct_of : (xs : List ℕ) → ((k : ℕ) → k < length xs → any (eqb (nat xs k)) (take k xs) ≡ false) → Distinct xs
distinct_of [] h = tt
distinct_of (x ∷ xs) h = (
  any_none (eqb x) xs 0 (λ i l. let first = or-false-left (eqb (nat xs i) x) (any (eqb (nat xs i)) (take i xs)) (h (suc i) (omega arith)) in
      ne_eqb x (nat xs i) (λ z. eqb-false (nat xs i) x first (sym z))),
  distinct_of xs (λ i l. or-false-right (eqb (nat xs i) x) (any (eqb (nat xs i)) (take i xs)) (h (suc i) (omega arith))),
)

-- ── a row that is good alone, in the words of its own tables ──
pub record RowGood (t : Tables) (r : ℕ) : Type 0 where
  pub kind : kind_good t r ≡ true
  pub makes : ltb (nat t.makes r) t.n ≡ true
  pub inputs : all (λ v. ltb v t.n) (part t r t.vars) ≡ true
  pub suits : arity (nat t.kinds r) (nat t.counts r) ≡ true
  pub number : number_good t r ≡ true

-- its part lies within the entries
pub record Whole (t : Tables) (r : ℕ) : Type 0 where
  pub vars : nat t.firsts r + nat t.counts r ≤ length t.vars
  pub coefs : nat t.firsts r + nat t.counts r ≤ length t.coefs

module _ (t : Tables) (rows : List ℕ) (whole : (k : ℕ) → k < length rows → Whole t (nat rows k)) where
  abbrev P : Tables
  P = packed t rows

  -- a part stays the row's
  module _ {A : Type 0} (entries : List A) (room : (k : ℕ) → k < length rows → nat t.firsts (nat rows k) + nat t.counts (nat rows k) ≤ length entries) where
    abbrev own : ℕ → List A
    own k = part t (nat rows k) entries

    own-long : (k : ℕ) → k < length rows → length (own k) ≡ nat P.counts k
    own-long k l = part_length entries (nat t.firsts (nat rows k)) (nat t.counts (nat rows k)) (room k l) ∙ sym (map_at (nat t.counts) rows k 0 l)

    pub packed-entries : length (joined own (length rows)) ≡ P.e
    packed-entries =
        joined_length own P.counts (length rows) (let h = length-map rows (nat t.counts) in omega arith) own-long (length rows) (le_refl (length rows))
        ∙ ap total (take_all (length rows) P.counts (let h = length-map rows (nat t.counts) in omega arith))

    pub packed-part : (k : ℕ) → k < length rows → part P k (joined own (length rows)) ≡ own k
    packed-part k l =
        ap (λ first. take (nat P.counts k) (drop first (joined own (length rows)))) (get_d-below (λ j. total (take j P.counts)) (length rows) k 0 l)
        ∙ joined-part own P.counts (length rows) (let h = length-map rows (nat t.counts) in omega arith) own-long k l

  module _ (k : ℕ) (l : k < length rows) where
    abbrev r : ℕ
    r = nat rows k

    kind_at : nat P.kinds k ≡ nat t.kinds r
    kind_at = map_at (nat t.kinds) rows k 0 l

    pub makes-at : nat P.makes k ≡ nat t.makes r
    makes-at = map_at (nat t.makes) rows k 0 l

    count_at : nat P.counts k ≡ nat t.counts r
    count_at = map_at (nat t.counts) rows k 0 l

    pub vars-at : part P k P.vars ≡ part t r t.vars
    vars-at = packed-part t.vars (λ j h. (whole j h).vars) k l

    kind-same : kind_good P k ≡ kind_good t r
    kind-same = ap (λ x. between 1 x 9) kind_at

    number_same : number_good P k ≡ number_good t r
    number_same = rw (kind_at, map_at (λ q. get_or t.params q (pos 0)) rows k (pos 0) l, packed-part t.coefs (λ j h. (whole j h).coefs) k l)

    -- as good among the packed rows as in its own tables
    pub good-there : RowGood t r → (kind_good P k ≡ true) × (shape_good P k ≡ true) × (number_good P k ≡ true)
    good-there g =
        let first = get_d-below (λ j. total (take j P.counts)) (length rows) k 0 l in
        let inside = total-within P.counts k (let h = length-map rows (nat t.counts) in omega arith) in (
          kind-same ∙ g.kind,
          all_yes _ (rw makes-at g.makes, (rw vars-at g.inputs, (rw (kind_at, count_at) g.suits, (eq-eqb _ _ first, (le-leb (nat P.firsts k + nat P.counts k) P.e (omega arith), tt))))),
          number_same ∙ g.number,
        )

    pub good-here : kind_good P k ≡ true → shape_good P k ≡ true → number_good P k ≡ true → RowGood t r
    good-here p q s = let f = each _ q in record {
      kind = sym kind-same ∙ p;
      makes = rw makes-at at f.0;
      inputs = rw vars-at at f.1.0;
      suits = rw (kind_at, count_at) at f.1.1.0;
      number = sym number_same ∙ s;
    }

-- ── alone ──
module _ (t : Tables) (r : ℕ) (whole : Whole t r) where
  one : (k : ℕ) → k < 1 → Whole t (nat (r ∷ []) k)
  one zero l = whole
  one (suc k) l = absurd (omega arith)

  pub alone-good : RowGood t r → alone_good t r ≡ true
  alone-good g = let h = good-there t (r ∷ []) one 0 (omega arith) g in all_yes _ (h.0, (h.1, (h.2, tt)))

  pub good-alone : alone_good t r ≡ true → RowGood t r
  good-alone a = let h = each _ a in good-here t (r ∷ []) one 0 (omega arith) h.0 h.1.0 h.1.1.0

-- ── rows that are whole, good alone, make different variables and have few entries ──
pub record Rows (t : Tables) (rows : List ℕ) : Type 0 where
  pub n-some : 1 ≤ t.n
  pub n-most : t.n ≤ 4096
  pub whole : (k : ℕ) → k < length rows → Whole t (nat rows k)
  pub good : (k : ℕ) → k < length rows → RowGood t (nat rows k)
  pub once : (k : ℕ) → k < length rows → any (λ q. eqb (nat t.makes q) (nat t.makes (nat rows k))) (take k rows) ≡ false
  pub few : total (map (nat t.counts) rows) ≤ 16384

eqb_swap : (a b : ℕ) → eqb a b ≡ eqb b a
eqb_swap a b = go (eqb b a) refl
  where
    go : (c : Bool) → eqb b a ≡ c → eqb a b ≡ c
    go true q = eq-eqb a b (sym (eqb-true b a q))
    go false q = ne_eqb a b (λ z. eqb-false b a q (sym z))

module _ (t : Tables) (rows : List ℕ) (s : Rows t rows) where
  abbrev P₁ : Tables
  P₁ = packed t rows

  any-map : (x : ℕ) (qs : List ℕ) → any (λ q. eqb (nat t.makes q) x) qs ≡ any (eqb x) (map (nat t.makes) qs)
  any-map x [] = refl
  any-map x (q ∷ qs) = ap₂ ◌||◌ (eqb_swap (nat t.makes q) x) (any-map x qs)

  made-first : (k : ℕ) → k < length rows → any (eqb (nat P₁.makes k)) (take k P₁.makes) ≡ false
  made-first k l =
      rw (makes-at t rows s.whole k l, take-map (nat t.makes) k rows)
      (sym (any-map (nat t.makes (nat rows k)) (take k rows)) ∙ s.once k l)

  makes-long : length P₁.makes ≡ length rows
  makes-long = length-map rows (nat t.makes)

  makes-low : (i : ℕ) → Memᴰ i P₁.makes → i < t.n
  makes-low i m = ltb-true i t.n (all_in (λ v. ltb v t.n) P₁.makes (all-places (λ v. ltb v t.n) P₁.makes 0 each-low) m)
    where
      each-low : (k : ℕ) → k < length P₁.makes → ltb (nat P₁.makes k) t.n ≡ true
      each-low k l = let h = rw makes-long at l in ap (λ x. ltb x t.n) (makes-at t rows s.whole k h) ∙ (s.good k h).makes

  rows_few : length rows ≤ t.n
  rows_few = rw (← makes-long) (distinct-length t.n P₁.makes makes-low (distinct_of P₁.makes (λ k l. made-first k (rw makes-long at l))))

  pub packed-sized : Sized P₁
  packed-sized =
      let e-is = packed-entries t rows s.whole t.vars (λ k l. (s.whole k l).vars) in let c-is = packed-entries t rows s.whole t.coefs (λ k l. (s.whole k l).coefs) in
      record {
        n-some = s.n-some;
        n-most = s.n-most;
        m-most = rows_few;
        e-most = s.few;
        kinds = let h = length-map rows (nat t.kinds) in omega arith;
        makes = let h = makes-long in omega arith;
        params = let h = length-map rows (λ r. get_or t.params r (pos 0)) in omega arith;
        firsts = let h = length-below (λ k. total (take k P₁.counts)) (length rows) in omega arith;
        counts = let h = length-map rows (nat t.counts) in omega arith;
        vars = omega arith;
        coefs = omega arith;
      }

  pub packed-sound : Sound P₁
  packed-sound = record {
    sized = sized_of P₁ packed-sized;
    kinds = λ k l. (good-there t rows s.whole k l (s.good k l)).0;
    shapes = λ k l. (good-there t rows s.whole k l (s.good k l)).1;
    whole = eq-eqb _ _ (ap total (take_all (length rows) P₁.counts (let h = length-map rows (nat t.counts) in omega arith)));
    numbers = λ k l. (good-there t rows s.whole k l (s.good k l)).2;
    once = λ k l. ap not (made-first k l);
  }

  -- the inputs of what a packed row makes are the row's own
  pub packed-inputs : (k : ℕ) → k < length rows → inputs_of P₁ (nat t.makes (nat rows k)) ≡ part t (nat rows k) t.vars
  packed-inputs k l = ap (inputs_of P₁) (sym (makes-at t rows s.whole k l)) ∙ row-inputs P₁ packed-sound k l ∙ vars-at t rows s.whole k l
