-- The entry table, one entry after another. Assumes nothing.
use Rattle.std.specs.Prelude.{ℕ, ◌+◌, cond, ◌&&◌, List, ◌≡◌, ℤ, pos, ltb, length, get_or, Option, Some, None}
use Rattle.tables.specs.declared.walker.Walker.{Walker}
use Rattle.tables.specs.declared.walker.Step.{Step}
use Rattle.tables.specs.declared.walker.Entry.{Entry}

-- what stands at a place, and the place after it; at the end of either row the place stays
abbrev pub step_at : List ℕ → List ℤ → ℕ → Step
step_at vars coefs at =
    cond (ltb at (length vars) && ltb at (length coefs))
    (record { found = Some (record { variable = get_or vars at 0; coefficient = get_or coefs at (pos 0) }); at = at + 1 }) (record { found = None; at = at })

-- a walker w that yields r is w' afterwards: over the same table, at the place after
abbrev pub went_on : Walker → Walker → Option Entry → Type 0
went_on w w' r =
    let s = step_at w.vars.now w.coefs.now w.at in
    (r ≡ s.found) × (w' ≡ record { vars = w.vars; coefs = w.coefs; at = s.at })
