-- The links of tables in rows, all of them or only those that no choice decides; and the numbers of the groups. Assumes nothing.
use Rattle.std.specs.Prelude.{ℕ, ◌+◌, ◌≤◌, ◌<◌, Bool, true, false, cond, not, ◌&&◌, List, [], ◌≡◌, eqb, length}
use Rattle.paper.specs.Lists.{nat}
use Rattle.paper.specs.Tables.{Tables, lent, inputs_of}
use Rattle.paper.specs.Chains.{plain_inputs, permitted, group_number, closes, groups_numbered}
use Rattle.tables.specs.declared.lent.Tables as code-tables
use Rattle.order.specs.Formed.{Formed}
use Rattle.order.specs.Numbering.{of_maker, part_at}
use Rattle.chains.specs.declared.links.Which.{Which}

-- the tables that groups depend on
abbrev pub kinded : ℕ → ℕ → List ℕ → List ℕ → List ℕ → List ℕ → List ℕ → Tables
kinded n m kinds makes firsts counts vars = lent n m 0 kinds makes [] firsts counts vars []

abbrev pub kinded_lent : code-tables.Tables → Tables
kinded_lent t = kinded t.n t.m t.kinds.now t.makes.now t.firsts.now t.counts.now t.vars.now

-- in the form that groups rely on, with a kind for each row
pub record Kinded (t : Tables) : Type 0 where
  pub formed : Formed t
  pub kinds : t.m ≤ length t.kinds

-- whether all links are asked for
abbrev pub every : Which → Bool
every Which.All = true
every Which.Plain = false

-- all links, or those that no choice decides
abbrev pub links_of : Bool → Tables → ℕ → List ℕ
links_of all t = cond all (inputs_of t) (plain_inputs t)

-- the maker's row is ELEMENT; how many links it gives, and where they stop
abbrev pub by_element : List ℕ → ℕ → Bool
by_element kinds maker = eqb (of_maker maker kinds) 4

abbrev pub link_count : Bool → List ℕ → List ℕ → ℕ → ℕ
link_count all kinds counts maker = cond (not all && by_element kinds maker) 0 (of_maker maker counts)

abbrev pub link_stop : Bool → List ℕ → List ℕ → List ℕ → ℕ → ℕ
link_stop all kinds firsts counts maker = of_maker maker firsts + link_count all kinds counts maker

-- the rows hold them
pub record Linked (all : Bool) (t : Tables) (begins stops : List ℕ) : Type 0 where
  pub begins-long : t.n ≤ length begins
  pub stops-long : t.n ≤ length stops
  pub at : (v : ℕ) → part_at begins stops t.vars v ≡ links_of all t v

-- every variable has the number of its group
pub record Shared (t : Tables) (numbers : List ℕ) : Type 0 where
  pub long : t.n ≤ length numbers
  pub at : (v : ℕ) → v < t.n → nat numbers v ≡ group_number t v

-- and closed chains are permitted
pub record Grouped (t : Tables) (numbers : List ℕ) : Type 0 where
  pub permitted : (v : ℕ) → v < t.n → permitted t v ≡ true
  pub shared : Shared t numbers

-- where check 8 is passed, `closed` tells whether some chain closes
pub record Told (t : Tables) (numbers ord : List ℕ) (closed : Bool) : Type 0 where
  pub is : groups_numbered t numbers ord ≡ true → closed ≡ closes t
