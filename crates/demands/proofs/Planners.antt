-- Two planners: after a run the stored values are the fresh ones of the moves kept, and moves with no variable in common give the same search
-- values in either order and as one; what a keep leaves passes the checks of the model and of the log and is fresh, so the other move is accepted
-- exactly if with both moves put in every variable is determined. Assumes nothing.
use Prim.Native.Nat.{ℕ, suc, ◌<◌}
use mathlib.Core.Bool.{Bool, true, false}
use mathlib.Core.List.{List, ◌∷◌}
use mathlib.Core.Path.{◌≡◌, refl, ap, sym, ◌∙◌, subst⁻¹}
use lib.IntN.{ℤ}
use Rattle.paper.specs.Lists.{over}
use Rattle.paper.specs.Net.{Values, afresh, moved}
use Rattle.paper.specs.Tables.{net, values_in}
use Rattle.paper.specs.Chains.{determined, closes, stored_fresh}
use Rattle.paper.specs.Checks.{accepted, Move, pairs_of_move}
use Rattle.paper.specs.Log.{log_fits, log_good, noted}
use Rattle.paper.specs.Calls.{blanks_among, number_of, BuildLent, start_values, Model, stored_values, KeepLent, KeepLeft, keep_verdict, keep_leaves, keep}
use Rattle.paper.proofs.Known.{ModelKnown, BlanksKnown, MoveKnown, model-open, fits-long, long-fits, KeepKnown, keep_known}
use Rattle.paper.proofs.Outcomes.{keep-judged}
use Rattle.paper.proofs.UpTo.{keep-up-to}
use Rattle.paper.specs.Moves.{Moves, applied, Apart, AllPairs}
use Rattle.records.specs.Stated.{BuildOutcome, left_built, KeepOutcome, left_kept}
use Rattle.demands.specs.Runs.{State, own, Lends, mine, after_answer, Run, then-keep}
use Rattle.demands.specs.Demands.{RunRight}
use Rattle.demands.specs.Planners.{Accepts, hands_on, Keeping, Room, EitherOrder, TwoPlanners}
use Rattle.paper.proofs.Moves.{either_order, as_one, one_known, joined-all, keep-accepts, kept-blanks, keep-leaves-known}
use Rattle.paper.proofs.Either.{kept-determined, either-determined, one-determined}
use Rattle.demands.proofs.Three.{demand3}
use Rattle.demands.proofs.Logs.{noted-long}

module _ {b : BuildLent} (start : BuildOutcome b) where
  abbrev lent_to : State → Model
  lent_to now = mine start now

  abbrev call_of : Move → List ℕ → KeepLent
  call_of mv flags = record { move = mv; flags = flags }

  -- ── acceptance, as facts and back ──
  module _ (now : State) (mv : Move) (flags : List ℕ) (o : Keeping start now mv flags) where
    -- what it left, over the model's own
    stated-own : left_kept o.outcome ≡ keep now.session now.log (mine start now) (record { move = mv; flags = flags })
    stated-own = o.outcome.stated ∙ (keep-up-to now.session o.lent (lent_to now) o.like now.log (call_of mv flags)).1

    abbrev own-outcome : KeepOutcome now.session now.log (mine start now) (record { move = mv; flags = flags })
    own-outcome = let x = o.outcome in record { done = x.done; stored = x.stored; reasons = x.reasons; flags = x.flags; log = x.log; stated = stated-own }

    verdict-of : Accepts start o → keep_verdict now.session now.log (lent_to now) (call_of mv flags) ≡ accepted
    verdict-of z = (keep-judged now.session now.log (lent_to now) (call_of mv flags)).good (sym (ap (λ (x : KeepLeft). number_of x.answer) stated-own) ∙ z)

    known : Accepts start o → KeepKnown now.session now.log (lent_to now) (call_of mv flags)
    known z = keep_known now.session now.log (lent_to now) (call_of mv flags) (verdict-of z)

    passes : ModelKnown (lent_to now) → BlanksKnown now.session.blanks (lent_to now) → MoveKnown b.tables b.bounds mv → Room start flags → log_fits now.log ≡ true
        → log_good now.log b.tables b.bounds now.session.kept ≡ true
        → ((v : ℕ) → v < b.tables.n → stored_fresh b.tables (stored_values (lent_to now)) v ≡ true)
        → ((v : ℕ) → determined b.tables (moved (pairs_of_move mv) (stored_values (lent_to now))) v ≡ true) → Accepts start o
    passes model blanks move long fits good fresh det =
        ap (λ (x : KeepLeft). number_of x.answer) stated-own
        ∙ (keep-judged now.session now.log (lent_to now) (call_of mv flags)).zero (keep-accepts now.session now.log (lent_to now) (call_of mv flags) model blanks move long fits good fresh det)

    -- what it leaves passes the checks of the model, and its log has the room that it had
    left_is : Accepts start o → left_kept o.outcome ≡ keep_leaves now.session now.log (lent_to now) (call_of mv flags) accepted
    left_is z = stated-own ∙ (keep-judged now.session now.log (lent_to now) (call_of mv flags)).is accepted (verdict-of z)

    next_known : Accepts start o → ModelKnown (lent_to (hands_on start o))
    next_known z =
        subst⁻¹ (λ (x : KeepLeft). ModelKnown (record { tables = b.tables; bounds = b.bounds; numbers = start.numbers; order = start.order; stored = x.stored; index = start.index; reasons = x.reasons })) (left_is z)
        (keep-leaves-known (lent_to now) (call_of mv flags) (known z).model (known z).move)

    next-blanks : Accepts start o → BlanksKnown (hands_on start o).session.blanks (lent_to (hands_on start o))
    next-blanks z =
        subst⁻¹ (λ (x : KeepLeft). x.session.blanks ≡ blanks_among b.tables.n (values_in b.tables x.stored)) (left_is z) (kept-blanks (lent_to now) (call_of mv flags))

    next_fits : Accepts start o → log_fits (hands_on start o).log ≡ true
    next_fits z =
        ap (λ (x : KeepLeft). log_fits x.log) (left_is z)
        ∙ long-fits (noted now.log (stored_values (lent_to now)) mv)
        (noted-long now.log (fits-long now.log (known z).log.fits) (stored_values (lent_to now)) mv (known z).move.few)

    -- one more move over it is judged by both
    next-determined : Accepts start o → (mv' : Move)
        → determined b.tables (moved (pairs_of_move mv') (stored_values (lent_to (hands_on start o))))
        ≡ determined b.tables (moved (pairs_of_move mv') (moved (pairs_of_move mv) (stored_values (lent_to now))))
    next-determined z mv' =
        ap (λ (x : KeepLeft). determined b.tables (moved (pairs_of_move mv') (values_in b.tables x.stored))) (left_is z)
        ∙ kept-determined now.session now.log (lent_to now) (call_of mv flags) (known z) (pairs_of_move mv')

  -- ── after a run ──
  module _ (room : List ℕ × List ℤ) (ok : number_of (left_built start).answer ≡ 0) (calls : ℕ) (moves : Moves) (now : State) (run : Run start room calls moves now) where
    abbrev searched : Values
    searched = applied (start_values b) moves

    -- the row with the fresh values of these search values
    abbrev row_from : Values → List ℤ
    row_from s = over b.tables.n (afresh (net b.tables) s b.tables.n) b.stored

    right : RunRight start room calls moves now
    right = demand3.run b start room ok calls moves now run

    -- what a keep is lent
    abbrev own_rows : Lends
    own_rows = record { tables = b.tables; bounds = b.bounds; numbers = start.numbers; order = start.order; stored = own; index = start.index; reasons = own }

    -- and after a keep too
    next-right : (mv : Move) (flags : List ℕ) (o : Keeping start now mv flags)
        → RunRight start room (suc calls) (after_answer (left_kept o.outcome).answer (pairs_of_move mv ∷ moves) moves) (hands_on start o)
    next-right mv flags o =
        demand3.run b start room ok (suc calls) (after_answer (left_kept o.outcome).answer (pairs_of_move mv ∷ moves) moves) (hands_on start o)
        (then-keep run own_rows own (call_of mv flags) (own-outcome now mv flags o) (λ e. (record { model = refl; stored = refl; reasons = refl }, refl)))

    moves-after : (mv : Move) (flags : List ℕ) (o : Keeping start now mv flags) → Accepts start o → after_answer (left_kept o.outcome).answer (pairs_of_move mv ∷ moves) moves ≡ pairs_of_move mv ∷ moves
    moves-after mv flags o z = ap (λ (x : KeepLeft). after_answer x.answer (pairs_of_move mv ∷ moves) moves) (left_is now mv flags o z)

    once-kept : (mv : Move) (flags : List ℕ) (o : Keeping start now mv flags) → Accepts start o → (hands_on start o).stored ≡ row_from (moved (pairs_of_move mv) searched)
    once-kept mv flags o z = (right.keep-accepted o.lent o.like (call_of mv flags) o.outcome z).stored

    module _ (mv mv' : Move) (flags flags' : List ℕ) (o : Keeping start now mv flags) (q : Keeping start (hands_on start o) mv' flags') (z : Accepts start o) where
      -- the keep that comes next is accepted exactly if with both moves put in every variable is determined, and its move passes the checks of a move
      next-accepted : MoveKnown b.tables b.bounds mv' → Room start flags'
          → ((v : ℕ) → determined b.tables (moved (pairs_of_move mv') (moved (pairs_of_move mv) (stored_values (lent_to now)))) v ≡ true) → Accepts start q
      next-accepted move long det =
          passes (hands_on start o) mv' flags' q (next_known now mv flags o z) (next-blanks now mv flags o z) move long (next_fits now mv flags o z) (next-right mv flags o).log-good
          (next-right mv flags o).fresh (λ v. ap (λ (d : ℕ → Bool). d v) (next-determined now mv flags o z mv') ∙ det v)

      next_both : Accepts start q → (v : ℕ) → determined b.tables (moved (pairs_of_move mv') (moved (pairs_of_move mv) (stored_values (lent_to now)))) v ≡ true
      next_both y v = ap (λ (d : ℕ → Bool). d v) (sym (next-determined now mv flags o z mv')) ∙ (known (hands_on start o) mv' flags' q y).determined v

      twice-kept : Accepts start q → (hands_on start q).stored ≡ row_from (moved (pairs_of_move mv') (moved (pairs_of_move mv) searched))
      twice-kept y =
          ((next-right mv flags o).keep-accepted q.lent q.like (call_of mv' flags') q.outcome y).stored
          ∙ ap (λ (h : Moves). row_from (moved (pairs_of_move mv') (applied (start_values b) h))) (moves-after mv flags o z)

    -- ── both ──
    module _ (first second : Move) (apart : Apart first second) (f g : List ℕ) (o : Keeping start now first f) (p : Keeping start now second g) (z : Accepts start o) (y : Accepts start p) where
      move₁ : MoveKnown b.tables b.bounds first
      move₁ = (known now first f o z).move

      move₂ : MoveKnown b.tables b.bounds second
      move₂ = (known now second g p y).move

      -- with both moves put in, in the one order, in the other, and as one, every variable is determined
      abbrev Both : Type 0
      Both = (v : ℕ) → determined b.tables (moved (pairs_of_move second) (moved (pairs_of_move first) (stored_values (lent_to now)))) v ≡ true

      turned : determined b.tables (moved (pairs_of_move first) (moved (pairs_of_move second) (stored_values (lent_to now))))
          ≡ determined b.tables (moved (pairs_of_move second) (moved (pairs_of_move first) (stored_values (lent_to now))))
      turned = either-determined b.tables b.bounds first second move₁ move₂ apart (stored_values (lent_to now))

      joint : (one : Move) → AllPairs first second one
          → determined b.tables (moved (pairs_of_move one) (stored_values (lent_to now))) ≡ determined b.tables (moved (pairs_of_move second) (moved (pairs_of_move first) (stored_values (lent_to now))))
      joint one all = one-determined b.tables b.bounds first second move₁ move₂ apart (stored_values (lent_to now)) one all ∙ turned

      -- so each of the three keeps is accepted exactly then
      module _ (flags : List ℕ) (q : Keeping start (hands_on start o) second flags) where
        after_first : Room start flags → Both → Accepts start q
        after_first long both = next-accepted first second f flags o q z move₂ long both

        first_then : Accepts start q → Both
        first_then = next_both first second f flags o q z

      module _ (flags : List ℕ) (r : Keeping start (hands_on start p) first flags) where
        after-second : Room start flags → Both → Accepts start r
        after-second long both = next-accepted second first g flags p r y move₁ long (λ v. ap (λ (d : ℕ → Bool). d v) turned ∙ both v)

        second-then : Accepts start r → Both
        second-then x v = ap (λ (d : ℕ → Bool). d v) (sym turned) ∙ next_both second first g flags p r y x v

      module _ (one : Move) (all : AllPairs first second one) (flags : List ℕ) (j : Keeping start now one flags) where
        as-one-accepted : Room start flags → Both → Accepts start j
        as-one-accepted long both = let has = known now first f o z in
            passes now one flags j has.model has.blanks (one_known b.tables b.bounds first second move₁ move₂ apart one all) long has.log.fits right.log-good has.fresh
            (λ v. ap (λ (d : ℕ → Bool). d v) (joint one all) ∙ both v)

        one_then : Accepts start j → Both
        one_then x v = ap (λ (d : ℕ → Bool). d v) (sym (joint one all)) ∙ (known now one flags j x).determined v

      -- and where no chain closes it is so
      open-both : closes b.tables ≡ false → Both
      open-both e v = (model-open (lent_to now) (known now first f o z).model e).determined _ v

      both-orders : EitherOrder start now first second f g o p
      both-orders = record {
        same = λ flags flags' q r x x'.
            twice-kept first second f flags o q z x ∙ ap row_from (sym (either_order b.tables b.bounds first second move₁ move₂ apart searched))
            ∙ sym (twice-kept second first g flags' p r y x');
        as_one = λ one all flags flags' q j x x'.
            once-kept one flags' j x'
            ∙ ap row_from (as_one b.tables b.bounds first second move₁ move₂ apart one all searched ∙ either_order b.tables b.bounds first second move₁ move₂ apart searched)
            ∙ sym (twice-kept first second f flags o q z x);
        all-pairs = joined-all b.tables b.bounds first second move₁ move₂ apart;
        first-too = λ flags flags' long q r x. after-second flags' r long (first_then flags q x);
        second-too = λ flags flags' long q r x. after_first flags q long (second-then flags' r x);
        one-too = λ one all flags flags' long q j x. as-one-accepted one all flags' j long (first_then flags q x);
        two-too = λ one all flags flags' long q j x. after_first flags q long (one_then one all flags' j x);
        second-accepted = λ e flags long q. after_first flags q long (open-both e);
        first-accepted = λ e flags long r. after-second flags r long (open-both e);
        one-accepted = λ e one all flags long j. as-one-accepted one all flags j long (open-both e);
      }

-- ── it does not matter who keeps first ──
pub two-planners : TwoPlanners
two-planners b start room ok calls moves now run first second apart f g o p z y = both-orders start room ok calls moves now run first second apart f g o p z y
