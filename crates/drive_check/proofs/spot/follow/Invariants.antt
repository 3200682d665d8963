use Rattle.std.proofs.Common.{map, take}
use Rattle.fir_meaning.specs.Mentions.{follow_all, suffix_onward}
use Rattle.drive_check.specs.HeldTypes.{types_in}
use Rattle.drive_check.specs.Follows.{Follows}
use Rattle.drive_check.proofs.spot.follow.Given as goal

abbrev pub invariant-loop-suffix : goal.invariant-loop-suffix
invariant-loop-suffix l = Follows (follow_all (types_in l.types) l.name.id (map suffix_onward (take l.suffix-index l.suffixes))) l.name.id l.reached.typ.now l.way.items l.dynamic
