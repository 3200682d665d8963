-- The listing of a cut: a line for each partition, and one line for all.
use Rattle.std.specs.Prelude.{ℕ, List, ◌++◌, length, sum_by, flat_map, codes, decimal}
use Rattle.ground_net.specs.declared.net.Cut.{Cut}
use Rattle.ground_net.specs.declared.net.CutPart.{CutPart}
use Rattle.ground_net.specs.Cones.{numbered}

-- the line of a partition
abbrev pub part_line : ℕ → CutPart → List ℕ
part_line number part =
    codes "partition " ++ decimal number ++ codes " sinks " ++ decimal (length part.sinks) ++ codes " assignments " ++ decimal (length part.assignments) ++ codes "\n"

-- how many assignments partitions have, what several have counted for each
abbrev pub all_assignments : List CutPart → ℕ
all_assignments parts = sum_by (λ part. length part.assignments) parts

-- the last line
abbrev pub total_line : ℕ → ℕ → List ℕ
total_line needed placed = codes "needed " ++ decimal needed ++ codes " placed " ++ decimal placed ++ codes "\n"

-- The lines of the partitions, by their numbers from 0, and the last line.
abbrev pub listing_of : Cut → List ℕ
listing_of cut = flat_map (λ both. part_line both.0 both.1) (numbered cut.parts) ++ total_line cut.needed (all_assignments cut.parts)
