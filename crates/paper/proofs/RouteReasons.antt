-- Routes agree on reasons as on values: over stored values that are fresh, and the stored reasons of these, each route gives each asked variable the
-- reason over the values worked out afresh, if every variable is determined. What is not evaluated has no input that changed. Assumes nothing.
use Prim.Native.Nat.{ℕ, ◌<◌}
use mathlib.Core.Bool.{Bool, true, false, cond, ◌&&◌, true≢false}
use mathlib.Core.List.{List, Memᴰ}
use mathlib.Core.Path.{◌≡◌, refl, ap, sym, ◌∙◌, fun_ext}
use Rattle.paper.specs.Net.{Values, Net, Route, input-to-output, output-to-input, mark-guided, live, new, works, needed, evaluated}
use Rattle.paper.specs.Tables.{Tables, net, is_made, form_of, asks_of}
use Rattle.paper.specs.Chains.{worth, determined}
use Rattle.paper.specs.Checks.{Sound}
use Rattle.paper.specs.Reason.{reason_of, reason_after, reason_kept}
use Rattle.paper.proofs.Lists.{clash, and_left, and_right}
use Rattle.paper.proofs.Accept.{made-below, inputs-below}
use Rattle.paper.proofs.Lawful.{lawful}
use Rattle.paper.proofs.Sizes.{sized-facts}
use Rattle.paper.proofs.Fresh.{Fresh}
use Rattle.paper.proofs.Asked.{needed-asked, needed-closed}
use Rattle.paper.proofs.Needs.{Ruled, worth-meets, worth-quiet, route-worth}
use Rattle.paper.proofs.Reason.{reason-looks}

-- a search variable has none
pub search-none : (t : Tables) (v : ℕ) (f : Values) → is_made t v ≡ false → reason_of t v f ≡ 0
search-none t v f e = rw e

-- ── a row of values that shows a reason ──
-- the values f show v as the values g give it: v has its formula's result, and what the formula looks at has its value
pub record Shows (t : Tables) (f g : Values) (v : ℕ) : Type 0 where
  pub result : f v ≡ form_of t v g
  pub looked : (i : ℕ) → Memᴰ i (asks_of t v g) → f i ≡ g i

-- so do the values worked out afresh
pub fresh-shows : (t : Tables) → Sound t → (s f : Values) → ((v : ℕ) → determined t s v ≡ true) → ((v : ℕ) → v < t.n → f v ≡ worth t s v)
    → (v : ℕ) → is_made t v ≡ true → Shows t f (worth t s) v
fresh-shows t sound s f det same v m = record {
  result = same v (made-below t sound v m) ∙ worth-meets t s v (det v) ∙ ap (λ b. cond b (form_of t v (worth t s)) (s v)) m;
  looked = λ i h. same i (inputs-below t sound v i ((lawful t).asks-in v (worth t s) i h));
}

left_false : (a b : Bool) → b ≡ true → (a && b) ≡ false → a ≡ false
left_false true b p q = absurd (true≢false (sym p ∙ q))
left_false false b p q = refl

-- v is evaluated, or not worked out
abbrev pub Settled : Tables → Route → Values → Values → List ℕ → ℕ → Type 0
Settled t r old s asked v = evaluated (net t) r old s asked t.n v ≡ false → works (net t) r old s t.n v ≡ false

module _ (t : Tables) (sound : Sound t) (r : Route) (old s : Values) (asked : List ℕ) (within : (a : ℕ) → Memᴰ a asked → a < t.n) where
  abbrev N : Net
  N = net t

  abbrev k : ℕ
  k = t.n

  abbrev found : Values
  found = new N r old s k

  abbrev does : ℕ → Bool
  does = evaluated N r old s asked k

  -- ── so is what is asked, and what an evaluated variable looks at ──
  -- what a route that asks works out, and what it needs
  abbrev out : Route → ℕ → Bool
  out r = works N r old s k

  abbrev needs : Route → ℕ → Bool
  needs r = needed N (out r) (new N r old s k) asked k

  pub asked-settled : (v : ℕ) → Memᴰ v asked → Settled t r old s asked v
  asked-settled v m = go r
    where
      need : (r : Route) → needs r v ≡ true
      need r = needed-asked N (lawful t) k (inputs-below t sound) (out r) (new N r old s k) asked within v m

      go : (r : Route) → evaluated N r old s asked k v ≡ false → works N r old s k v ≡ false
      go input-to-output h = h
      go output-to-input h = left_false (out output-to-input v) (needs output-to-input v) (need output-to-input) h
      go mark-guided h = left_false (out mark-guided v) (needs mark-guided v) (need mark-guided) h

  pub looked-settled : (v i : ℕ) → does v ≡ true → Memᴰ i (asks_of t v found) → Settled t r old s asked i
  looked-settled v i e m = go r e m
    where
      need : (r : Route) → (out r v && needs r v) ≡ true → Memᴰ i (asks_of t v (new N r old s k)) → needs r i ≡ true
      need r e m = needed-closed N (lawful t) k (inputs-below t sound) (out r) (new N r old s k) asked within v i (and_right (out r v) (needs r v) e) (and_left (out r v) (needs r v) e) m

      go : (r : Route) → evaluated N r old s asked k v ≡ true → Memᴰ i (asks_of t v (new N r old s k)) → evaluated N r old s asked k i ≡ false → works N r old s k i ≡ false
      go input-to-output e m h = h
      go output-to-input e m h = left_false (out output-to-input i) (needs output-to-input i) (need output-to-input e m) h
      go mark-guided e m h = left_false (out mark-guided i) (needs mark-guided i) (need mark-guided e m) h

  -- so its result, and what it looks at, stand in a row that holds what is settled
  evaluated-form : Ruled t r old s → (v : ℕ) → does v ≡ true → found v ≡ form_of t v found
  evaluated-form ruled v e = ruled v ∙ go (is_made t v) (live N r old s k found v) (worked r e)
    where
      worked : (r : Route) → evaluated N r old s asked k v ≡ true → works N r old s k v ≡ true
      worked input-to-output h = h
      worked output-to-input h = and_left (out output-to-input v) (needs output-to-input v) h
      worked mark-guided h = and_left (out mark-guided v) (needs mark-guided v) h

      go : (m l : Bool) → (m && l) ≡ true → cond m (cond l (form_of t v found) (old v)) (s v) ≡ form_of t v found
      go true true h = refl
      go true false h = absurd (true≢false (sym h))
      go false l h = absurd (true≢false (sym h))

  pub route-shows : Ruled t r old s → (f : Values) → ((v : ℕ) → v < t.n → Settled t r old s asked v → f v ≡ found v) → (v : ℕ) → v < t.n → does v ≡ true → Shows t f found v
  route-shows ruled f same v l e = record {
    result = same v l (λ h. clash e h) ∙ evaluated-form ruled v e;
    looked = λ i m. same i (inputs-below t sound v i ((lawful t).asks-in v found i m)) (looked-settled v i e m);
  }

  -- ── a reason that stays ──
  some : 0 < t.n
  some = (sized-facts t sound.sized).n-some

  idle-reason : (v : ℕ) → works N r old s k v ≡ false → reason_of t v old ≡ reason_of t v found
  idle-reason v e = go (is_made t v) refl
    where
      still : (b : Bool) → b ≡ true → (b && live N r old s k found v) ≡ false → live N r old s k found v ≡ false
      still true p h = h
      still false p h = absurd (true≢false (sym p))

      go : (b : Bool) → is_made t v ≡ b → reason_of t v old ≡ reason_of t v found
      go true m = reason-looks old found t v (λ i h. sym (worth-quiet t (inputs-below t sound) (made-below t sound) some r old s v (still (is_made t v) m e) i ((lawful t).asks-in v old i h)))
      go false m = search-none t v old m ∙ sym (search-none t v found m)

  -- ── over fresh stored values and their reasons ──
  module _ (det : (v : ℕ) → determined t s v ≡ true) (fresh : Fresh N old) (reasons : ℕ → ℕ) (v : ℕ) (stored : reasons v ≡ reason_of t v old) (done : Settled t r old s asked v) where
    pub reason-fresh : reason_after t does found reasons v ≡ reason_of t v (worth t s)
    reason-fresh = go (does v) refl ∙ ap (reason_of t v) (fun_ext (route-worth t (inputs-below t sound) (made-below t sound) some s det old fresh r))
      where
        go : (b : Bool) → does v ≡ b → cond b (reason_of t v found) (reasons v) ≡ reason_of t v found
        go true e = refl
        go false e = stored ∙ idle-reason v (done e)

    -- and so it is as stored
    pub kept_fresh : reason_kept t does found reasons v ≡ reason_of t v (worth t s)
    kept_fresh = go (is_made t v) refl
      where
        go : (b : Bool) → is_made t v ≡ b → cond b (reason_after t does found reasons v) 0 ≡ reason_of t v (worth t s)
        go true m = reason-fresh
        go false m = sym (search-none t v (worth t s) m)
