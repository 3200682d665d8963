-- What is visible where, a loop of two modules, and which fault is the first.
use Rattle.std.proofs.Common.{◌≡◌, ℕ, List, [], ◌∷◌, refl, arith}
use Rattle.fir_types.specs.declared.name.Name.{Name}
use Rattle.fir_tree.specs.declared.circuit.Circuit.{Circuit}
use Rattle.place_text.specs.declared.place.Place.{Place}
use Rattle.fir_names.specs.declared.fault.NameFault.TheVariants as kind
use Rattle.fir_names.specs.Extents.{Seen, Use, refer, declare, followed_by, all_marks, block_marks, uses_behind}
use Rattle.fir_names.specs.Scopes.{Names, Instance, itself, through}
use Rattle.place_text.specs.Order.{Precedes, by_line, by_rank}
use Rattle.fir_names.specs.Faults.{IsFault, instance_loop, place_of, rank_of}
use Rattle.fir_names.proofs.Members.{Contains-first}

abbrev seeing : Name → List Seen → Use
seeing name seen = record { name = name; seen = seen }

-- A name that a branch declares isn't seen behind the branch.
behind_a_branch : (a : Name) → uses_behind [] (all_marks (block_marks (declare a ∷ []) ∷ refer (a ∷ []) ∷ []) 0) ≡ seeing a [] ∷ []
behind_a_branch a = refl

-- It is seen in the branch, behind its declaration.
in_a_branch : (a : Name) → uses_behind [] (all_marks (block_marks (declare a ∷ refer (a ∷ []) ∷ []) ∷ []) 0) ≡ seeing a ((a.id, 0) ∷ []) ∷ []
in_a_branch a = refl

-- A port is seen in the body and in its branches.
a_port : (p : Name) → uses_behind [] (followed_by (declare p) (all_marks (block_marks (refer (p ∷ []) ∷ []) ∷ [])) 0) ≡ seeing p ((p.id, 0) ∷ []) ∷ []
a_port p = refl

-- `node n = n`: a name isn't seen in its own declaration.
in_its_own : (n : Name) → uses_behind [] (followed_by (refer (n ∷ [])) (declare n) 0) ≡ seeing n [] ∷ []
in_its_own n = refl

-- What stands behind a branch has a number behind those of the branch.
numbers_go_on : (a b : Name) → uses_behind [] (all_marks (block_marks (declare a ∷ []) ∷ declare b ∷ refer (b ∷ []) ∷ []) 0) ≡ seeing b ((b.id, 1) ∷ []) ∷ []
numbers_go_on a b = refl

-- A reference names what it sees by its name.
named : (a : Name) (n : ℕ) → Names (seeing a ((a.id, n) ∷ [])) n
named a n = Contains-first []

-- Two modules that have instances of each other are on a loop.
two_modules : (circuit : Circuit) (first second : Name) → Instance circuit 0 second 1 → Instance circuit 1 first 0 → IsFault circuit (kind.InstanceLoop second.place)
two_modules circuit first second one other = instance_loop 0 1 second one (through 1 0 first itself other)

-- A fault of a lower line is told first, whichever its kind; at one place the kind decides.
lines_first : Precedes place_of rank_of (kind.NameUnknown (record { line = 1; column = 9 })) (kind.NoMain (record { line = 2; column = 1 }))
lines_first = by_line (omega arith)

kinds_last : (p : Place) → Precedes place_of rank_of (kind.ModuleTwice p) (kind.ModuleUnknown p)
kinds_last p = by_rank refl refl (omega arith)
