-- Names that decide what the laws may say.
use Rattle.std.proofs.Common.{◌≡◌, List, [], ◌∷◌, refl}
use Rattle.fir_types.specs.declared.name.Name.{Name}
use Rattle.fir_names.specs.Extents.{Seen, Use, refer, declare, all_marks, block_marks, uses_behind, declared_by}
use Rattle.fir_names.specs.Scopes.{Names}
use Rattle.fir_names.proofs.Members.{Contains-first, Contains-later}

abbrev seeing : Name → List Seen → Use
seeing name seen = record { name = name; seen = seen }

-- `wire a`, `wire a`, and a use: it sees both, so a scope may have either. That is why no name may be declared twice.
two_wires : (a : Name) → uses_behind [] (all_marks (declare a ∷ declare a ∷ refer (a ∷ []) ∷ []) 0) ≡ seeing a ((a.id, 0) ∷ (a.id, 1) ∷ []) ∷ []
two_wires a = refl

the_first : (a : Name) → Names (seeing a ((a.id, 0) ∷ (a.id, 1) ∷ [])) 0
the_first a = Contains-first ((a.id, 1) ∷ [])

the_second : (a : Name) → Names (seeing a ((a.id, 0) ∷ (a.id, 1) ∷ [])) 1
the_second a = Contains-later (a.id, 0) ((a.id, 1) ∷ []) (Contains-first [])

-- Branches that don't see each other declare in one module still: a name in both is there twice.
two_branches : (a : Name) → declared_by (all_marks (block_marks (declare a ∷ []) ∷ block_marks (declare a ∷ []) ∷ []) 0) ≡ a ∷ a ∷ []
two_branches a = refl

-- A use before the declaration sees none, nor does one behind the block of the declaration.
before_it : (a : Name) → uses_behind [] (all_marks (refer (a ∷ []) ∷ declare a ∷ []) 0) ≡ seeing a [] ∷ []
before_it a = refl

-- A use in a branch sees what stands before the branch, and what stands before it in the branch.
around_it : (a b : Name) → uses_behind [] (all_marks (declare a ∷ block_marks (declare b ∷ refer (a ∷ b ∷ []) ∷ []) ∷ []) 0)
    ≡ seeing a ((a.id, 0) ∷ (b.id, 1) ∷ []) ∷ seeing b ((a.id, 0) ∷ (b.id, 1) ∷ []) ∷ []
around_it a b = refl
