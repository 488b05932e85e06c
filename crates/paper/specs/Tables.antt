-- The lent tables, the model that they describe, the order of its rows, and the index of the rows that read each variable. Assumes nothing.
use Rattle.std.specs.Prelude.{ℕ, suc, Bool, cond, List, [], ◌++◌, map, ℤ, pos, eqb, ltb, length, get_or, take, drop}
use Rattle.paper.specs.Lists.{any, nat, seek, those, joined, over}
use Rattle.paper.specs.Formula.{formula, looked}
use Rattle.paper.specs.Net.{Net, Values, able}

-- n variables, m rows and e entries: one lent row for each field
pub record Tables : Type 0 where
  pub n : ℕ
  pub m : ℕ
  pub e : ℕ
  pub kinds : List ℕ
  pub makes : List ℕ
  pub params : List ℤ
  pub firsts : List ℕ
  pub counts : List ℕ
  pub vars : List ℕ
  pub coefs : List ℤ

abbrev pub lent : ℕ → ℕ → ℕ → List ℕ → List ℕ → List ℤ → List ℕ → List ℕ → List ℕ → List ℤ → Tables
lent n m e kinds makes params firsts counts vars coefs =
    record { n = n; m = m; e = e; kinds = kinds; makes = makes; params = params; firsts = firsts; counts = counts; vars = vars; coefs = coefs }

-- tables without what their rows hold beyond the counts
abbrev pub bare : Tables → Tables
bare t = let m = t.m in let e = t.e in lent t.n m e (take m t.kinds) (take m t.makes) (take m t.params) (take m t.firsts) (take m t.counts) (take e t.vars) (take e t.coefs)

-- an index of readers: where the rows that read each variable start among the places, and the rows
pub record Index : Type 0 where
  pub starts : List ℕ
  pub places : List ℕ

abbrev pub index_in : List ℕ → List ℕ → Index
index_in starts places = record { starts = starts; places = places }

module _ (t : Tables) where
  -- the part of an entry list that row r names
  abbrev pub part : {A : Type 0} → ℕ → List A → List A
  part r l = take (nat t.counts r) (drop (nat t.firsts r) l)

  -- the row that makes v; m if none does
  unfoldable pub row_of : ℕ → ℕ
  row_of v = seek v (take t.m t.makes)

  abbrev pub is_made : ℕ → Bool
  is_made v = ltb (row_of v) t.m

  abbrev pub inputs_of : ℕ → List ℕ
  inputs_of v = cond (is_made v) (part (row_of v) t.vars) []

  abbrev pub form_of : ℕ → Values → ℤ
  form_of v f = let r = row_of v in formula (nat t.kinds r) (get_or t.params r (pos 0)) (part r t.coefs) (map f (inputs_of v))

  abbrev pub asks_of : ℕ → Values → List ℕ
  asks_of v f = looked (nat t.kinds (row_of v)) f (inputs_of v)

  abbrev pub net : Net
  net = record { made = is_made; ins = inputs_of; form = form_of; asks = asks_of }

  -- a lent row of values: 0 beyond the variables
  abbrev pub values_in : List ℤ → Values
  values_in l v = get_or (take t.n l) v (pos 0)

  -- ── chains and levels ──
  -- every chain of inputs down from v ends
  abbrev pub ends : ℕ → Bool
  ends = able inputs_of t.n

  -- the rows below k whose variable has the number d, ascending
  abbrev pub level : (ℕ → ℕ) → ℕ → ℕ → List ℕ
  level num d = those (λ r. eqb (num (nat t.makes r)) d)

  abbrev pub levels : (ℕ → ℕ) → ℕ → List ℕ
  levels num = joined (λ d. level num d t.m)

  -- ── the readers of a variable ──
  abbrev pub reads : ℕ → ℕ → Bool
  reads v r = any (eqb v) (part r t.vars)

  -- the rows that read v, ascending, each once even if it reads v twice
  abbrev pub readers : ℕ → List ℕ
  readers v = those (reads v) t.m

  -- where they start among the readers of all variables, one variable after another
  abbrev pub readers_start : ℕ → ℕ
  readers_start v = length (joined readers v)

  -- the index in lent rows: n + 1 starts and the readers of every variable, and beyond them what stood there before
  abbrev pub index : Index → Index
  index before = record {
    starts = over (suc t.n) readers_start before.starts;
    places = joined readers t.n ++ drop (readers_start t.n) before.places;
  }
