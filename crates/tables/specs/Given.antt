-- The part of a row that a caller asks for, and a part of a lent row as it is given back: that very part, and no other that holds the same. Assumes nothing.
use Rattle.std.specs.Prelude.{ℕ, ◌+◌, ◌*◌, cond, List, [], ◌∷◌, ◌≡◌, leb, ltb, length, take, drop}
use Rattle.std.specs.Borrow.{Bor}
use Rattle.paper.specs.Lists.{every, nat}
use Rattle.tables.specs.declared.parts.Part.{Part}

-- the part of a row, for a caller who asks: its first entry and how many it has; 0 and 0 if there is no such row or its part ends after e
abbrev pub part_asked : ℕ → ℕ → List ℕ → List ℕ → List ℕ → ℕ → ℕ × ℕ
part_asked m e firsts counts vars row =
    let end = nat firsts row + nat counts row in
    cond (every (ltb row m ∷ ltb row (length firsts) ∷ ltb row (length counts) ∷ leb end e ∷ leb end (length vars) ∷ [])) (nat firsts row, nat counts row) (0, 0)

-- a part as it is named: its first place and how many it has
abbrev pub part_named : ℕ × ℕ → Part
part_named part = record { first = part.0; count = part.1 }

-- where the entry at a place of a lent row of 16-bit numbers lies: 2 bytes on for each before it
abbrev pub lies_at : Bor (List ℕ) → ℕ → ℕ × ℕ
lies_at row place = (row.ref_ptr.0, place * 2 + row.ref_ptr.1)

-- what is given back holds what stands in the part (its first place and how many it has), and lies where the part lies
abbrev pub VeryPart : Bor (List ℕ) → ℕ × ℕ → Bor (List ℕ) → Type 0
VeryPart row part r = (r.now ≡ take part.1 (drop part.0 row.now)) × (r.ref_ptr ≡ lies_at row part.0)
