use Rattle.std.proofs.Common.{◌≡◌, take}
use Rattle.std.specs.List.{flat_map}
use Rattle.ground_net.specs.Cones.{numbered}
use Rattle.cut_listing.specs.Listing.{part_line}
use Rattle.cut_listing.proofs.cut_print.cut_text.Given as goal

abbrev pub invariant-loop-number : goal.invariant-loop-number
invariant-loop-number l = l.text.items ≡ flat_map (λ both. part_line both.0 both.1) (take l.number (numbered l.cut.parts))
