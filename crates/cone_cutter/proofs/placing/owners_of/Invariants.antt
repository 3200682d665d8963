use Rattle.std.proofs.Common.{◌≡◌, ℕ, ◌<◌, slice_get, slice_index, Some}
use Rattle.cone_cutter.specs.declared.placing.Placing.{Placing}
use Rattle.cone_cutter.proofs.placing.owners_of.Given as goal

abbrev pub invariant-loop-placing : goal.invariant-loop-placing
invariant-loop-placing l = (i : ℕ) (it : Placing) → i < l.placing-index → slice_get l.placings i ≡ Some it → slice_index l.table it.sink ≡ it.part
