-- Lists one after another, and parts copied, as loops store them. Assumes nothing.
use Prim.Native.Nat.{ℕ, ◌+◌, ◌≤◌, ◌<◌}
use native.Mathlib.Omega.{arith}
use mathlib.Core.Bool.{Bool, true, false, cond, ◌&&◌}
use lib.IntN.{ℤ, pos}
use mathlib.Core.List.{List, map}
use mathlib.Core.Path.{◌≡◌, refl, ap, ap₂, sym, ◌∙◌, subst}
use lib.ListN.{length, get_or, take, drop, length-map, set}
use lib.Seq.{sets, take_all, take_at, get_or-drop, ext_get_or, set-get_or}
use Rattle.paper.specs.Lists.{nat, total, those, joined, below, over}
use Rattle.paper.specs.Tables.{Tables, ends}
use Rattle.paper.proofs.Buffers.{length-below, get_d-below, over-front, over-same, Filled, filled_next}
use Rattle.paper.proofs.Bytes.{sets-front}
use Rattle.paper.proofs.Scan.{part_length}
use Rattle.tables.specs.Makers.{AllBelow}
use Rattle.order.specs.Formed.{bare}
use Rattle.order.specs.Numbering.{ended}
use Rattle.salvage.specs.Packing.{part_of_row, shape, Packable, Shaped, Known, Makes}
use Rattle.damage.proofs.KeptRows.{those-at}
use Rattle.damage.proofs.Packed.{map_at, joined_length}

-- ── what a column has at a list of rows ──
pub map_below : {A : Type 0} (f : ℕ → A) (d : A) (rows : List ℕ) → below (λ i. f (nat rows i)) (length rows) ≡ map f rows
map_below f d rows =
    let long = length-below (λ i. f (nat rows i)) (length rows) in
    ext_get_or d (below (λ i. f (nat rows i)) (length rows)) (map f rows) (long ∙ sym (length-map rows f))
    (λ i l. get_d-below (λ i. f (nat rows i)) (length rows) i d (rw long at l) ∙ sym (map_at f rows i d (rw long at l)))

-- a row over whose front it was laid
pub over-map : {A : Type 0} (f : ℕ → A) (d : A) (rows : List ℕ) (before : List A) {l : List A} → l ≡ over (length rows) (λ i. f (nat rows i)) before → take (length rows) l ≡ map f rows
over-map f d rows before e = ap (take (length rows)) e ∙ over-front (λ i. f (nat rows i)) (length rows) before ∙ map_below f d rows

-- what stands at the front of a row
pub front_of : {A : Type 0} (xs before : List A) (k : ℕ) {out : List A} → length xs ≤ length before → out ≡ sets before 0 xs → k ≡ 0 + length xs → take k out ≡ xs
front_of xs before k {out} room e q =
    let z : k ≡ length xs = omega arith in
    ap (λ i. take i out) z ∙ ap (take (length xs)) (e ∙ sets-front xs before (length xs) refl room) ∙ take_at xs (drop (length xs) before) (length xs) refl

-- where parts with these counts begin
pub firsts-front : (cut counts before : List ℕ) (k : ℕ) {l : List ℕ} → cut ≡ counts → length counts ≡ k → l ≡ over (length cut) (λ j. total (take j cut)) before
    → take k l ≡ below (λ j. total (take j counts)) k
firsts-front cut counts before k e h q =
    ap (take k) (q ∙ ap₂ (λ c n. over n (λ j. total (take j c)) before) e (ap length e ∙ h)) ∙ over-front (λ j. total (take j counts)) k before

-- columns that hold packed rows are the rows' tables
pub shaped-is : (n : ℕ) (makes firsts counts vars rows : List ℕ) {a b c d : List ℕ} {e : ℕ} → Shaped (bare 0 0 makes firsts counts vars) rows a b c d e
    → bare n (length rows) (take (length rows) a) (take (length rows) b) (take (length rows) c) (take e d) ≡ shape n makes firsts counts vars rows
shaped-is n makes firsts counts vars rows S = rw (S.made, S.first, S.count, S.read)

pub known_same : {a b : Tables} {state : List ℕ} → a ≡ b → Known a state → Known b state
known_same {state = state} e k = subst (λ t. Known t state) e k

-- ── flagged rows ──
pub those-below : (p : ℕ → Bool) (m k : ℕ) → m ≤ k → AllBelow (length (those p m)) (those p m) k
those-below p m k h = record { at = λ i l. let a = (those-at p m i l).low in omega arith }

-- clearing the flags of rows whose variable has no number
pub dropped : (t : Tables) (state : List ℕ) (m : ℕ) (makes : List ℕ) (row : List Bool) → Known t state → Makes t.n m makes row
    → over m (λ r. get_or row r false && ended state (nat makes r)) row ≡ over m (λ r. get_or row r false && ends t (nat makes r)) row
dropped t state m makes row K M = over-same _ m row _ (λ r l. go (get_or row r false) (M.at r l))
  where
    go : {v : ℕ} (b : Bool) → (b ≡ true → v < t.n) → (b && ended state v) ≡ (b && ends t v)
    go {v} true h = sym (K.at v (h refl))
    go false h = refl

-- ── a loop that fills a row: it has not come to this place ──
pub filled-here : {A : Type 0} (f : ℕ → A) (before l : List A) (i : ℕ) (d : A) → Filled f before l i → get_or l i d ≡ get_or before i d
filled-here f before l i d s =
    let z : i + 0 ≡ i = omega arith in
    ap (λ k. get_or l k d) (sym z) ∙ sym (get_or-drop i l 0 d) ∙ ap (λ k. get_or k 0 d) s.back ∙ get_or-drop i before 0 d ∙ ap (λ k. get_or before k d) z

-- a loop that puts 0 in the place of values that are not kept: one that is not, and one that is
module _ (f : ℕ → Bool) {before l : List ℤ} {v : ℕ} (s : Filled (λ u. cond (f u) (get_or before u (pos 0)) (pos 0)) before l v) (low : v < length before) where
  pub value-cleared : false ≡ f v → Filled (λ u. cond (f u) (get_or before u (pos 0)) (pos 0)) before (set l v (pos 0)) (v + 1)
  value-cleared e = filled_next _ _ _ _ s low (ap (λ b. cond b (get_or before v (pos 0)) (pos 0)) e)

  pub value-kept : true ≡ f v → Filled (λ u. cond (f u) (get_or before u (pos 0)) (pos 0)) before l (v + 1)
  value-kept e =
      subst (λ z. Filled (λ u. cond (f u) (get_or before u (pos 0)) (pos 0)) before z (v + 1)) (set-get_or l v (pos 0))
      (filled_next _ _ _ _ s low (filled-here _ before l v (pos 0) s ∙ ap (λ b. cond b (get_or before v (pos 0)) (pos 0)) e))

-- ── the parts of rows that can be packed ──
module _ (firsts counts rows : List ℕ) {A : Type 0} (entries : List A) (P : Packable firsts counts (length entries) rows) where
  abbrev parts : ℕ → List A
  parts k = part_of_row firsts counts entries (nat rows k)

  -- each is a part of the entries
  pub part-there : (i : ℕ) → i < length rows → (nat rows i < length firsts) × (nat rows i < length counts) × (nat firsts (nat rows i) + nat counts (nat rows i) ≤ length entries)
  part-there i l = (P.first i l, P.count i l, P.inside i l)

  pub parts-length : length (joined parts (length rows)) ≡ total (map (nat counts) rows)
  parts-length =
      let h = length-map rows (nat counts) in
      joined_length parts (map (nat counts) rows) (length rows) (omega arith)
      (λ k l. part_length entries (nat firsts (nat rows k)) (nat counts (nat rows k)) (P.inside k l) ∙ sym (map_at (nat counts) rows k 0 l)) (length rows) (omega arith)
      ∙ ap total (take_all (length rows) (map (nat counts) rows) (omega arith))

  -- they have room
  pub parts-room : (out : List A) → 16384 ≤ length out → 0 + length (joined parts (length rows)) ≤ length out
  parts-room out h = let e = parts-length in let s = P.small in omega arith

  -- where they stand, from the front on
  pub parts-front : (before : List A) {out : List A} → 16384 ≤ length before → out ≡ sets before 0 (joined parts (length rows)) → take (total (map (nat counts) rows)) out ≡ joined parts (length rows)
  parts-front before h e =
      let long = parts-length in let s = P.small in
      ap (take (total (map (nat counts) rows))) (e ∙ sets-front (joined parts (length rows)) before (total (map (nat counts) rows)) long (omega arith))
      ∙ take_at (joined parts (length rows)) (drop (total (map (nat counts) rows)) before) (total (map (nat counts) rows)) long
