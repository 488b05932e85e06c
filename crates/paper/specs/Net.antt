-- A model as mathematics: variables are numbers, and each made variable has inputs and a formula. `Tables.antt` says which model the lent rows
-- describe. What goes from variable to variable is `runs rule base k`: the rule used k times over, k at least the longest chain of inputs.
-- Assumes nothing.
use Rattle.std.specs.Prelude.{ℕ, zero, suc, Bool, true, false, cond, not, ◌&&◌, ◌||◌, ℤ, pos, eqb}
use mathlib.Core.List.{List, [], ◌∷◌, Memᴰ}
use Rattle.integers.specs.Integers.{eq_z}
use Rattle.paper.specs.Lists.{any, all}

-- a value for each variable
abbrev pub Values : Type 0
Values = ℕ → ℤ

pub record Net : Type 0 where
  -- some row makes the variable; the others are search variables
  pub made : ℕ → Bool
  -- the input variables of that row, in order; none for a search variable
  pub ins : ℕ → List ℕ
  -- its formula over the values of all variables
  pub form : ℕ → Values → ℤ
  -- the inputs that the formula looks at over these values
  pub asks : ℕ → Values → List ℕ

-- ── a rule used k times over ──
abbrev pub Rule : Type 0 → Type 0
Rule A = (ℕ → A) → ℕ → A

unfoldable pub runs : {A : Type 0} → Rule A → (ℕ → A) → ℕ → ℕ → A
runs rule base zero v = base v
runs rule base (suc k) v = rule (runs rule base k) v

-- v depends on w
pub data Depends (dep : ℕ → List ℕ) : ℕ → ℕ → Type 0 where
  direct : {v w : ℕ} → Memᴰ w (dep v) → Depends dep v w
  through : {v i w : ℕ} → Memᴰ i (dep v) → Depends dep i w → Depends dep v w

-- v is able to have a topological number: every chain of inputs down from it ends within k steps
abbrev pub able : (ℕ → List ℕ) → ℕ → ℕ → Bool
able dep = runs (λ f v. all f (dep v)) (λ v. false)

-- the values with the pairs of a move put in (the first pair that names a variable decides), and whether it names one
abbrev pub moved : List (ℕ × ℤ) → Values → Values
moved [] old v = old v
moved (p ∷ ps) old v = cond (eqb p.0 v) p.1 (moved ps old v)

abbrev pub names : List (ℕ × ℤ) → ℕ → Bool
names mv v = any (λ (p : ℕ × ℤ). eqb p.0 v) mv

abbrev pub differs : Values → Values → ℕ → Bool
differs f g v = not (eq_z (f v) (g v))

pub data Route : Type 0 where
  input-to-output output-to-input mark-guided : Route

module _ (N : Net) where
  -- ── values worked out afresh from the search variables' values s ──
  abbrev pub valuation : Values → Rule ℤ
  valuation s f v = cond (N.made v) (N.form v f) (s v)

  abbrev pub afresh : Values → ℕ → Values
  afresh s = runs (valuation s) (λ v. pos zero)

  -- ── the three routes, over any stored values `old`; s is old with the move put in ──
  -- route 3 marks a search variable that differs, and what is made from a marked variable
  abbrev pub marking : Values → Values → Rule Bool
  marking old s f v = cond (N.made v) (any f (N.ins v)) (differs s old v)

  abbrev pub marked : Values → Values → ℕ → ℕ → Bool
  marked old s = runs (marking old s) (λ v. false)

  -- whether the route has a made variable's formula worked out, if it is needed; f are the new values
  abbrev pub live : Route → Values → Values → ℕ → Values → ℕ → Bool
  live input-to-output old s k f v = any (differs f old) (N.ins v)
  live output-to-input old s k f v = true
  live mark-guided old s k f v = marked old s k v

  abbrev pub routing : Route → Values → Values → ℕ → Rule ℤ
  routing r old s k f v = cond (N.made v) (cond (live r old s k f v) (N.form v f) (old v)) (s v)

  -- the new values
  abbrev pub new : Route → Values → Values → ℕ → Values
  new r old s k = runs (routing r old s k) old k

  -- the made variables whose formula the route works out, if they are needed
  abbrev pub works : Route → Values → Values → ℕ → ℕ → Bool
  works r old s k v = N.made v && live r old s k (new r old s k) v

  -- asking a comes to asking v: by way of variables that are worked out, and of the inputs that their formulas look at
  abbrev pub asking : (ℕ → Bool) → Values → ℕ → Rule Bool
  asking working f v reach a = eqb a v || (working a && any reach (N.asks a f))

  abbrev pub needed : (ℕ → Bool) → Values → List ℕ → ℕ → ℕ → Bool
  needed working f asked k v = any (runs (asking working f v) (λ a. false) k) asked

  -- the variables that the route evaluates: its defined set
  abbrev pub evaluated : Route → Values → Values → List ℕ → ℕ → ℕ → Bool
  evaluated input-to-output old s asked k v = works input-to-output old s k v
  evaluated output-to-input old s asked k v = works output-to-input old s k v && needed (works output-to-input old s k) (new output-to-input old s k) asked k v
  evaluated mark-guided old s asked k v = works mark-guided old s k v && needed (works mark-guided old s k) (new mark-guided old s k) asked k v
