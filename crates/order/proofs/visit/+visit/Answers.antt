use Rattle.std.proofs.Common.{arith, ◌≡◌, ◌≤◌, ◌<◌, ◌+◌, length, ℕ, List, refl, set, ap, ap₂, sym, subst, ◌∙◌}
use mathlib.Core.List.{◌∷◌, Memᴰ}
use Rattle.std.proofs.Math.Seq.{slice}
use Rattle.paper.specs.Lists.{nat}
use Rattle.paper.specs.Tables.{Tables, inputs_of}
use Rattle.order.specs.Formed.{bare_lent, Formed}
use Rattle.order.specs.Numbering.{of_maker, NumbersRight, NumberVisit}
use Rattle.order.proofs.Parted.{cut_slice, part-inputs}
use Rattle.order.proofs.Extremes.{max-is}
use Rattle.order.proofs.Visits.{rest-next, rest-none, visited-known, begun_of, Going, going_start, going_less, going-fail, going-small, going_end, going_step}
use Rattle.order.proofs.visit.+visit.Goals as goal
use Rattle.order.proofs.visit.+visit.Goals.{then-found-eq0, else-found-eq0}

-- what of_maker and wide give of a maker's row, read from `by`
read-of : (maker by wide part : ℕ) (column : List ℕ) → maker ≡ by → part ≡ of_maker maker column → wide ≡ part → wide ≡ of_maker by column
read-of maker by wide part column e p q = q ∙ p ∙ ap (λ k. of_maker k column) e

-- the next of what is left is an input
input-of : (t : Tables) → Formed t → (v w : ℕ) {left more mid state : List ℕ} {best : ℕ} → Going t.n (inputs_of t) v left best mid state → left ≡ w ∷ more
    → (w < t.n) × (w < length state)
input-of t F v w G e = let low = F.inputs-below v w (G.rest w (subst (Memᴰ w) (sym e) (Memᴰ.head refl))) in (low, (let long = G.right.long in omega arith))

-- the part of the entries is what v is made from
pub loop-var-init : goal.loop-var-init
loop-var-init t c =
    let first = read-of _ _ _ _ _ c.wide-maker.ensures.0 c.of_maker.ensures c.wide-first.ensures.0 in
    let count = read-of _ _ _ _ _ c.wide-maker.ensures.0 c.of_maker-2.ensures c.wide.ensures.0 in
    going_start _ _ _ _ (begun_of _ _ _ _ _ c.requires.right c.requires.there c.wide-known.ensures.0 c.if-known-gt0.false) _
    (cut_slice c.args.tables.now.vars.now c.wide-first.result c.wide.result ∙ ap₂ (λ a b. slice a b c.args.tables.now.vars.now) first (ap₂ ◌+◌ first count) ∙ part-inputs _ c.requires.formed _ c.requires.makers _ c.requires.there)

pub bounds-state-u : goal.bounds-state-u
bounds-state-u t c = (input-of _ c.requires.formed _ _ c.loop-var.invariant (rest-next _ _ _ c.loop-var-test.true c.wide-u.ensures.0)).1

pub visit-found-requires : goal.visit-found-requires
visit-found-requires t c =
    let less = going_less _ _ _ _ (begun_of _ _ _ _ _ c.requires.right c.requires.there c.wide-known.ensures.0 c.if-known-gt0.false) _ _ _ c.loop-var.invariant in
    let low = (input-of _ c.requires.formed _ _ c.loop-var.invariant (rest-next _ _ _ c.loop-var-test.true c.wide-u.ensures.0)).0 in
    (omega (arith, less, c.decreases), (c.requires.formed, (c.requires.makers, (low, c.loop-var.invariant.right))))

-- the input has been visited, before or now
pub returns-then-found-eq1 : goal.returns-then-found-eq1
returns-then-found-eq1 t c =
    let found : NumberVisit c.args.tables.now.n (inputs_of (bare_lent c.args.tables.now)) c.wide-u.result c.loop-var.state c.if-found-eq0.state c.if-found-eq0.found
    = elim c.if-found-eq0.branch [
      | then-found-eq0 w ↦ rw (w.state-is, w.found-is) w.visit-found.ensures
      | else-found-eq0 w ↦ rw (w.state-is, w.found-is) (visited-known _ _ _ _ _ c.loop-var.invariant.right c.wide-found.ensures.0 (omega (arith, w.if-found-eq0.false)))
    ] in
    going-fail _ _ _ _ (begun_of _ _ _ _ _ c.requires.right c.requires.there c.wide-known.ensures.0 c.if-known-gt0.false) _ _ _ c.loop-var.invariant _ _ _ _
    (rest-next _ _ _ c.loop-var-test.true c.wide-u.ensures.0) found c.if-found-eq1.true

pub loop-var-preserved : goal.loop-var-preserved
loop-var-preserved t c =
    let found : NumberVisit c.args.tables.now.n (inputs_of (bare_lent c.args.tables.now)) c.wide-u.result c.loop-var.state c.if-found-eq0.state c.if-found-eq0.found
    = elim c.if-found-eq0.branch [
      | then-found-eq0 w ↦ rw (w.state-is, w.found-is) w.visit-found.ensures
      | else-found-eq0 w ↦ rw (w.state-is, w.found-is) (visited-known _ _ _ _ _ c.loop-var.invariant.right c.wide-found.ensures.0 (omega (arith, w.if-found-eq0.false)))
    ] in
    going_step _ _ _ _ _ _ _ _ _ _ _ _ c.loop-var.invariant (rest-next _ _ _ c.loop-var-test.true c.wide-u.ensures.0) found c.if-found-eq1.false (c.max-best.ensures ∙ max-is c.loop-var.best c.if-found-eq0.found)

-- the number of v is small
small-of : {n v known best : ℕ} {dep : ℕ → List ℕ} {left before state : List ℕ} → NumbersRight n dep before → v < n → known ≡ nat before v → known ≤ 0
    → Going n dep v left best (set before v 1) state → n ≤ 4096 → best ≤ 4097
small-of R l e h G few = going-small _ _ _ _ (begun_of _ _ _ _ _ R l e h) _ _ _ G few

pub overflow_add-state : goal.overflow_add-state
overflow_add-state t c = omega (arith, small-of c.requires.right c.requires.there c.wide-known.ensures.0 c.if-known-gt0.false c.loop-var.invariant c.requires.formed.few)

pub overflow_cast-state : goal.overflow_cast-state
overflow_cast-state t c = omega (arith, small-of c.requires.right c.requires.there c.wide-known.ensures.0 c.if-known-gt0.false c.loop-var.invariant c.requires.formed.few)

pub overflow_add-result : goal.overflow_add-result
overflow_add-result t c = omega (arith, small-of c.requires.right c.requires.there c.wide-known.ensures.0 c.if-known-gt0.false c.loop-var.invariant c.requires.formed.few)

pub returns : goal.returns
returns t c =
    going_end _ _ _ _ (begun_of _ _ _ _ _ c.requires.right c.requires.there c.wide-known.ensures.0 c.if-known-gt0.false) _ _ _ c.loop-var.invariant
    (rest-none _ _ c.loop-var-test.false)
