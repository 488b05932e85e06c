-- What walks by hand share. It says nothing of this crate: those of another may cite it.
--     Con              the contract of a function, from its `ended` and its `clauses`
--     ends-said        how a walk ends: with the tokens and the result, and with just what the contract says of the last values, beside the `ensures`
--     ends_with        the same as a step: from [the result; what is said of last values; what gives the `ensures`; the tokens]
--     meets-said       the contract from a walk that ends so
--     returned         a callee has returned: [what is said of last values; its `ensures`; the tokens; the result]
--     calls-said       a callee with no `requires` is called, from [the tokens; what the parameters own], and has returned
--     Walked, walked   what a walk shows of a function's MIR, and the contract of the function from it
-- `ends-said`, `ends_with`, `returned` and `calls-said` take `Logic`. The rest assumes nothing.
use mathlib.Core.List.{List, [], ◌∷◌}
use seplogic.Ra.Ura.{Ura}
use mir.Syntax.{Callee, Place, Opd, Body, Fn, seq, call}
use mir.Val.{Val}
use base.Logic.{SProp, ent, sep, wand, ex, emp, via, comm∗, fst∗, mono_l, wand_i, apply∗, ex_i, id⊢}
use prog.Model.{Model}
use prog.Routine.{Env}
use prog.Wp.{Calls, Loops, WpFn, Closed, Env as Locals}
use types.Logic.{Logic, sem}
use sound.WpLaws.{FmC, fm_of}
use contract.Lifetimes.{Lfts, Shares, AllOutlive}
use contract.Monad.{Fun}
use contract.Running.{Running, tables, tables_of}
use types.Kit.{Item, Goal, Post, prop, runs, lands, Soaks, Seq, ‵, raw, ◌⊛◌, some, later, ◌$◌, ◌∵◌, !, qed, move, keep, suffices, use0, use1, use2, split, join, pick, await, frame, done}
use types.Run.{Opds}
use denote.RattleType.{flat, owns}
use denote.Laws.{Are, Ises, Spells, Tellss, valss}
use denote.Signature.{Signature, type_at, types_at}
use denote.Steps.{said}
use denote.Triple.Entry.{Args, Vals, Res, alive, on_entry}
use denote.Triple.Spec.{Back, Meets, triple_of}
use denote.Triple.Statement.{Contract, Triple}
use denote.Triple.Call.{calls_at}
use denote.Triple.Table.{entered}
use denote.Triple.Clauses.{Ended, Clauses, Lasts, lasts, at_exit, ensured, closing}

module _ {M : Type 1} {𝓤 : Ura M} (𝓛 : Logic 𝓤) (T : Ended) (c : Clauses 𝓤 T) where
  open 𝓛 use {H}

  abbrev S : Signature
  S = T.signature

  abbrev pub Con : Contract 𝓤
  Con = triple_of 𝓛 S (closing 𝓛 T c)

  module _ (y : Con.Ghost) (v : Val) where
    abbrev pub Ensures : Res S y.0.0 → Lasts T y.0.0 y.0.3 → SProp 𝓤
    Ensures r ws = (c y.0.0 y.0.3).ensures y.1 r (at_exit T y.0.0 y.0.3 ws)

    abbrev Said : Res S y.0.0 → Lasts T y.0.0 y.0.3 → SProp 𝓤
    Said r ws = sep 𝓤 (sem 𝓛 (lasts T y.0.0 y.0.3 ws)) (Ensures r ws)

    abbrev Ended' : Res S y.0.0 → SProp 𝓤
    Ended' r = sep 𝓤 (Back 𝓛 S y.0 v r) (ex 𝓤 (Said r))

    pub ends-said : (r : Res S y.0.0) (ws : Lasts T y.0.0 y.0.3) → ent 𝓤 (sep 𝓤 (Said r ws) (Back 𝓛 S y.0 v r)) (Con.post y v)
    ends-said r ws =
        via 𝓤 (ex 𝓤 Ended')
        (via 𝓤 (Ended' r) (via 𝓤 (sep 𝓤 (ex 𝓤 (Said r)) (Back 𝓛 S y.0 v r)) (mono_l 𝓤 (Back 𝓛 S y.0 v r) (ex_i 𝓤 (Said r) ws))
        (comm∗ 𝓤 (ex 𝓤 (Said r)) (Back 𝓛 S y.0 v r))) (ex_i 𝓤 Ended' r))
        (𝓛.laws.⇛_intro _)

    pub ends_with : {K : Type 0} {P : SProp 𝓤} → K → (r : Res S y.0.0) (ws : Lasts T y.0.0 y.0.3) → ent 𝓤 P (Ensures r ws)
        → Seq K 𝓛 (‵ ((type_at S.result y.0.0).own_val r (v ∷ [])) ∷ ‵ (lasts T y.0.0 y.0.3 ws) ∷ raw P ∷ raw (alive 𝓛 S y.0.0 y.0.1) ∷ []) (prop (Con.post y v))
    ends_with t r ws said =
        suffices t _ (ends-said r ws) $ move t (2 ∷ []) $ use1 𝓛 (raw (Ensures r ws)) said $ keep t (2 ∷ 0 ∷ 1 ∷ 3 ∷ []) $ join t $ move t (2 ∷ 1 ∷ []) $ join t $ move t (1 ∷ 0 ∷ []) $ done t

    pub returned : {K : Type 0} {Γ : List (Item 𝓤)} {G : Goal 𝓤 H} → K → Soaks G
        → ((r : Res S y.0.0) (ws : Lasts T y.0.0 y.0.3) → Seq K 𝓛
        (‵ (lasts T y.0.0 y.0.3 ws) ∷ raw (Ensures r ws) ∷ raw (alive 𝓛 S y.0.0 y.0.1) ∷ ‵ ((type_at S.result y.0.0).own_val r (v ∷ [])) ∷ Γ) G)
        → Seq K 𝓛 (raw (Con.post y v) ∷ Γ) G
    returned t z k =
        use1 𝓛 (later (some (λ (r : Res S y.0.0). (raw (alive 𝓛 S y.0.0 y.0.1) ⊛ ‵ ((type_at S.result y.0.0).own_val r (v ∷ []))) ⊛ raw
        (ensured 𝓛 T c y.0.0 y.0.3 y.1 r)))) (id⊢ 𝓤 _) $ await t z $ pick t (λ r. split t $ split t $ move t (2 ∷ []) $
        use1 𝓛 (some (λ (ws : Lasts T y.0.0 y.0.3). ‵ (lasts T y.0.0 y.0.3 ws) ⊛ raw (Ensures r ws))) (id⊢ 𝓤 _) $ pick t (λ ws. split t $ k r ws))

  module _ {K : Type 0} {Γ : List (Item 𝓤)} {C : Calls 𝓤 H} {Λ : Loops 𝓤 H} {E : Locals 𝓤 H} {g : Callee} {xs : List Opd} {d : Place} {rest : Body} {p : Post 𝓤 H} where
    pub calls-said : K → FmC 𝓤 H 𝓛.laws C → Triple 𝓤 (C g) Con → (y : Con.Ghost) → ent 𝓤 (emp 𝓤) ((c y.0.0 y.0.3).requires y.1) → Opds K 𝓛 (raw (Con.pre y) ∷ Γ) E xs (Con.args y)
        → ((v : Val) (r : Res S y.0.0) (ws : Lasts T y.0.0 y.0.3) → Seq K 𝓛
        (‵ (lasts T y.0.0 y.0.3 ws) ∷ raw (Ensures y v r ws) ∷ raw (alive 𝓛 S y.0.0 y.0.1) ∷ ‵ ((type_at S.result y.0.0).own_val r (v ∷ [])) ∷ Γ) (lands C Λ E d v rest p))
        → Seq K 𝓛 (raw (alive 𝓛 S y.0.0 y.0.1) ∷ ‵ (owns (types_at S.params y.0.0) y.0.3 y.0.4) ∷ Γ) (runs C Λ E (seq (call g xs d) rest) p)
    calls-said t fm known y free os k =
        use2 𝓛 (raw (Con.pre y)) (qed 𝓛 (raw (alive 𝓛 S y.0.0 y.0.1) ∷ ‵ (owns (types_at S.params y.0.0) y.0.3 y.0.4) ∷ []) ∵ join ! $ frame ! $ use0 𝓛 (raw ((c y.0.0 y.0.3).requires y.1)) free $ done !) $
        calls_at t fm Con known y os (λ v. returned y v t tt (λ r ws. k v r ws))

  pub meets-said : (run : Fun 𝓤) (sp : (κs : Lfts S.lifetimes) → Spells (types_at S.params κs))
      → ((κs : Lfts S.lifetimes) → Tellss (types_at S.params κs) (Ises (types_at S.params κs)) (sp κs))
      → ((κs : Lfts S.lifetimes) (qs : Shares S.lifetimes) (bounds : AllOutlive S.lifetimes S.outlives κs) (a : Args S κs) (g : (c κs a).ghost)
      → Are (types_at S.params κs) (Ises (types_at S.params κs)) a (valss (types_at S.params κs) (sp κs) a)
      → ent 𝓤 (sep 𝓤 (on_entry 𝓛 S κs qs a (valss (types_at S.params κs) (sp κs) a)) ((c κs a).requires g))
      (run (flat (types_at S.params κs) (valss (types_at S.params κs) (sp κs) a)) (Con.post ((κs, qs, bounds, a, valss (types_at S.params κs) (sp κs) a), g))))
      → Meets 𝓛 S run (closing 𝓛 T c)
  meets-said run sp tl k y =
      let R : SProp 𝓤 = (c y.0.0 y.0.3).requires y.1 in
      let Q : Vals S y.0.0 → SProp 𝓤 = λ us. run (flat (types_at S.params y.0.0) us) (Con.post ((y.0.0, y.0.1, y.0.2, y.0.3, us), y.1)) in
      via 𝓤 (sep 𝓤 R (wand 𝓤 R (Q y.0.4)))
      (via 𝓤 (sep 𝓤 (wand 𝓤 R (Q y.0.4)) R)
      (mono_l 𝓤 R (said 𝓛 S y.0.0 y.0.1 (sp y.0.0) (tl y.0.0) y.0.3 (λ us. wand 𝓤 R (Q us)) y.0.4
      (λ are. wand_i 𝓤 _ R _ (k y.0.0 y.0.1 y.0.2 y.0.3 y.1 are))))
      (comm∗ 𝓤 (wand 𝓤 R (Q y.0.4)) R))
      (apply∗ 𝓤 R (Q y.0.4))

  -- the walk of the function e whose parameters' machine values are spelled by sp
  module _ (C : Calls 𝓤 H) (Λ : Loops 𝓤 H) (e : Fn) (sp : (κs : Lfts S.lifetimes) → Spells (types_at S.params κs)) where
    abbrev pub Walked : (κs : Lfts S.lifetimes) → Shares S.lifetimes → AllOutlive S.lifetimes S.outlives κs → (a : Args S κs) → (c κs a).ghost → Type 1
    Walked κs qs bounds a g = Are (types_at S.params κs) (Ises (types_at S.params κs)) a (valss (types_at S.params κs) (sp κs) a)
        → ent 𝓤 (on_entry 𝓛 S κs qs a (valss (types_at S.params κs) (sp κs) a))
        (WpFn 𝓤 H C Λ e (flat (types_at S.params κs) (valss (types_at S.params κs) (sp κs) a)) (Con.post ((κs, qs, bounds, a, valss (types_at S.params κs) (sp κs) a), g)))

-- over the environment γ, where the name k means the function e
module _ {M : Type 1} {𝓤 : Ura M} (𝓛 : Logic 𝓤) (𝓜 : Model 𝓤 𝓛.H) (𝓡 : Running 𝓤 𝓛.H 𝓜) (γ : Env) where
  open 𝓛 use {H}

  pub framed : FmC 𝓤 H 𝓛.laws (tables 𝓤 H 𝓜 𝓡 γ).C
  unfolding tables_of
  framed = fm_of 𝓤 H 𝓛.laws (tables_of 𝓤 H 𝓜 (tables 𝓤 H 𝓜 𝓡 γ))

  pub walked : (T : Ended) (c : Clauses 𝓤 T) (sp : (κs : Lfts T.signature.lifetimes) → Spells (types_at T.signature.params κs))
      → ((κs : Lfts T.signature.lifetimes) → Tellss (types_at T.signature.params κs) (Ises (types_at T.signature.params κs)) (sp κs))
      → (k : Callee) (e : Fn) → Closed 𝓤 H (tables 𝓤 H 𝓜 𝓡 γ).C (tables 𝓤 H 𝓜 𝓡 γ).Λ k e
      → ((κs : Lfts T.signature.lifetimes) (qs : Shares T.signature.lifetimes) (bounds : AllOutlive T.signature.lifetimes T.signature.outlives κs) (a : Args T.signature κs) (g : (c κs a).ghost)
      → Walked 𝓛 T c (tables 𝓤 H 𝓜 𝓡 γ).C (tables 𝓤 H 𝓜 𝓡 γ).Λ e sp κs qs bounds a g)
      → Triple 𝓤 ((tables 𝓤 H 𝓜 𝓡 γ).C k) (Con 𝓛 T c)
  walked T c sp tl k e closed walk =
      entered 𝓤 H (Con 𝓛 T c) (tables 𝓤 H 𝓜 𝓡 γ).C (tables 𝓤 H 𝓜 𝓡 γ).Λ k e closed
      (meets-said 𝓛 T c (WpFn 𝓤 H (tables 𝓤 H 𝓜 𝓡 γ).C (tables 𝓤 H 𝓜 𝓡 γ).Λ e) sp tl
      (λ κs qs bounds a g are. via 𝓤 _ (fst∗ 𝓤 _ ((c κs a).requires g)) (walk κs qs bounds a g are)))
