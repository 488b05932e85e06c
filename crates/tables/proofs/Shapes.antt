-- Check 3: how many inputs each kind takes, kind by kind; lists whose variables are all below n; a row by its five tests, and by what is known of all
-- rows and all entries. Assumes nothing.
use Prim.Native.Nat.{ℕ, suc, ◌+◌, ◌-◌, ◌≤◌, ◌<◌}
use native.Mathlib.Omega.{arith}
use mathlib.Core.Logic.{◌≢◌}
use mathlib.Core.Bool.{Bool, true, false, ◌&&◌, and-true, and-false}
use mathlib.Core.List.{List, [], ◌∷◌}
use mathlib.Core.Path.{◌≡◌, refl, sym, ap, ap₂, ◌∙◌}
use lib.Dec.{eqb, leb, ltb}
use lib.ListN.{length, take}
use lib.Seq.{length-take-le, get_or-take}
use borrow.Author.Tests.{ltb-true, leb-true, leb-false, eqb-true, eqb-false, ne_eqb, lt-ltb}
use Rattle.paper.specs.Lists.{all, between, greatest, total, nat, first_fail, all_below}
use Rattle.paper.specs.Tables.{Tables}
use Rattle.paper.specs.Checks.{arity, shape_good}
use Rattle.paper.proofs.Lists.{clash, and_left, and_right, all-at}
use Rattle.paper.proofs.Least.{first_fail-fails, first_fail-before, all_below-at}
use Rattle.paper.proofs.Scan.{part_same}
use Rattle.tables.proofs.Tests.{second-last}
use Rattle.tables.proofs.Cut.{cut}
use Rattle.tables.proofs.Whole.{all-part, part-front}

-- ── how many inputs ──
twice : (b : Bool) → b ≡ (b && true && true)
twice true = refl
twice false = refl

pub arity-four : (k c : ℕ) → k ≡ 4 → between 2 c 256 ≡ arity k c
arity-four k c e = rw e (twice (between 2 c 256))

-- a count that is fixed is within the bounds
exactly : (c k : ℕ) → between 1 k 256 ≡ true → (between 1 c 256 && eqb c k) ≡ eqb c k
exactly c k h = go (eqb c k) refl
  where
    go : (b : Bool) → eqb c k ≡ b → (between 1 c 256 && b) ≡ b
    go true e = and-true (between 1 c 256) ∙ ap (λ x. between 1 x 256) (eqb-true c k e) ∙ h
    go false e = and-false (between 1 c 256)

pub arity-seven : (k c : ℕ) → k ≡ 7 → eqb c 2 ≡ arity k c
arity-seven k c e = rw e (sym (and-true (between 1 c 256 && eqb c 2) ∙ exactly c 2 refl))

three : (c : ℕ) → eqb c 3 ≡ (between 1 c 256 && true && eqb c 3)
three c = sym (ap (◌&& eqb c 3) (and-true (between 1 c 256)) ∙ exactly c 3 refl)

pub arity-window : (k c : ℕ) → 8 ≤ k → k ≤ 9 → eqb c 3 ≡ arity k c
arity-window k c low high = go (eqb k 8) refl
  where
    go : (b : Bool) → eqb k 8 ≡ b → eqb c 3 ≡ arity k c
    go true e = rw (eqb-true k 8 e) (three c)
    go false e = let ne : k ≢ 8 = eqb-false k 8 e in let nine : k ≡ 9 = omega arith in rw nine (three c)

pub arity-other : (k c : ℕ) → k ≢ 4 → k ≢ 7 → k ≢ 8 → k ≢ 9 → between 1 c 256 ≡ arity k c
arity-other k c p q r s = rw (ne_eqb k 4 p, ne_eqb k 7 q, ne_eqb k 8 r, ne_eqb k 9 s) (twice (between 1 c 256))

-- ── all variables below n ──
all-each : (p : ℕ → Bool) (l : List ℕ) → ((i : ℕ) → i < length l → p (nat l i) ≡ true) → all p l ≡ true
all-each p [] h = refl
all-each p (x ∷ xs) h = ap₂ ◌&&◌ (h 0 (omega arith)) (all-each p xs (λ i k. h (suc i) (omega arith)))

-- the first entry that fails decides
pub all_first : (p : ℕ → Bool) (l : List ℕ) → all p l ≡ leb (length l) (first_fail (λ i. p (nat l i)) (length l))
all_first p l = go (leb (length l) (first_fail good (length l))) refl (all p l) refl
  where
    good : ℕ → Bool
    good i = p (nat l i)

    go : (b : Bool) → leb (length l) (first_fail good (length l)) ≡ b → (a : Bool) → all p l ≡ a → a ≡ b
    go false q true h = let low = leb-false (length l) (first_fail good (length l)) q in clash (all-at p l h (first_fail good (length l)) 0 low) (first_fail-fails good (length l) low)
    go false q false h = refl
    go true q a h = let high = leb-true (length l) (first_fail good (length l)) q in sym h ∙ all-each p l (λ i low. first_fail-before good (length l) i (omega arith))

-- the greatest decides
all-greatest : (n : ℕ) (l : List ℕ) → greatest l < n → all (λ v. ltb v n) l ≡ true
all-greatest n [] h = refl
all-greatest n (x ∷ xs) h = ap₂ ◌&&◌ (lt-ltb x n (omega arith)) (all-greatest n xs (omega arith))

-- ── a row, as the code reads it ──
-- if the greatest of the first e is below n, so are the variables of a part within e
pub inputs-known : (n e first count : ℕ) (vars : List ℕ) → first + count ≤ e → ltb (greatest (take e vars)) n ≡ true → all (λ v. ltb v n) (cut first count vars) ≡ true
inputs-known n e first count vars h q =
    let known = all-greatest n (take e vars) (ltb-true (greatest (take e vars)) n q) in
    sym (ap (all (λ v. ltb v n)) (part-front first ((first + count) - first) e vars (omega arith))) ∙ all-part (λ v. ltb v n) first ((first + count) - first) (take e vars) known

-- if the greatest of the first m made variables is below n and the counts of m rows suit their kinds, each of these rows is good
pub rows-known : (n m r : ℕ) (kinds makes counts : List ℕ) → m ≤ length makes → r < m
    → ltb (greatest (take m makes)) n ≡ true → all_below (λ i. arity (nat kinds i) (nat counts i)) m ≡ true → (ltb (nat makes r) n && arity (nat kinds r) (nat counts r)) ≡ true
rows-known n m r kinds makes counts long low k f = ap₂ ◌&&◌ made (all_below-at (λ i. arity (nat kinds i) (nat counts i)) m f r low)
  where
    made : ltb (nat makes r) n ≡ true
    made =
        let few = length-take-le m makes long in
        ap (λ v. ltb v n) (sym (get_or-take m makes r 0 low))
        ∙ all-at (λ v. ltb v n) (take m makes) (all-greatest n (take m makes) (ltb-true (greatest (take m makes)) n k)) r 0 (omega arith)

-- the test before the part is looked at: `before` entries have gone to the rows before, and `good` says whether variable and count are
abbrev pub placed : Tables → Bool → ℕ → ℕ → ℕ → Bool
placed t good first count before = good && eqb first before && leb (first + count) t.e

pub placed-facts : (t : Tables) (good : Bool) (first count before : ℕ) → placed t good first count before ≡ true
    → (first ≡ before) × (first + count ≤ t.e)
placed-facts t good first count before h =
    let at = eqb first before in let ends = leb (first + count) t.e in
    (eqb-true first before (and_right good at (and_left (good && at) ends h)), leb-true (first + count) t.e (and_right (good && at) ends h))

-- the test and the part's variables are the paper's five tests
pub placed-shape : (t : Tables) (r : ℕ) (good : Bool) (first count before : ℕ)
    → good ≡ (ltb (nat t.makes r) t.n && arity (nat t.kinds r) (nat t.counts r)) → first ≡ nat t.firsts r → count ≡ nat t.counts r → before ≡ total (take r t.counts)
    → (placed t good first count before && all (λ v. ltb v t.n) (cut first count t.vars)) ≡ shape_good t r
placed-shape t r good first count before g q k b =
    ap (λ l. placed t good first count before && all (λ v. ltb v t.n) l) (part_same t.vars first count _ _ q k)
    ∙ rw (g, q, k, b) (sym (second-last _ _ _))
