use Rattle.std.proofs.Common.{◌≡◌, map, take}
use Rattle.fir_meaning.specs.Mentions.{follow_all, suffix_onward}
use Rattle.drive_check.specs.HeldTypes.{types_in}
use Rattle.clock_check.specs.Driving.{bare, region_at}
use Rattle.clock_check.proofs.reach.follow.Given as goal

abbrev pub invariant-loop-suffix : goal.invariant-loop-suffix
invariant-loop-suffix l = bare (follow_all (types_in l.types) l.fn.name.id (map suffix_onward (take l.suffix-index l.suffixes))) ≡ region_at l.reach
