use Rattle.std.proofs.Common.{◌≡◌, take}
use Rattle.cone_cutter.proofs.cutting.numbers_of.Given as goal

abbrev pub invariant-loop-place : goal.invariant-loop-place
invariant-loop-place l = l.numbers ≡ take l.place-index l.places
