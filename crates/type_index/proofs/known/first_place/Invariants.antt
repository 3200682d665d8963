use Rattle.std.proofs.Common.{◌≡◌, ◌-◌, ◌^◌, min, map, sum, take}
use Rattle.std.specs.Prelude.{None}
use Rattle.fir_types.specs.Indexes.{first_at}
use Rattle.type_index.specs.Knowing.{weight}
use Rattle.type_index.proofs.known.first_place.Given as goal

abbrev pub invariant-loop-position : goal.invariant-loop-position
invariant-loop-position l = (first_at (take l.position l.fields) l.id ≡ None) × (l.before ≡ min (sum (take l.position (map weight l.fields))) (2 ^ 64 - 1))
