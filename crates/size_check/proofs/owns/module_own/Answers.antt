use Rattle.size_check.specs.Kept.{types_of}
use Rattle.size_check.proofs.Owning.{module_sums}
use Rattle.size_check.proofs.owns.module_own.Goals as goal

pub returns : goal.returns
returns c =
    module_sums c.args.names.now c.args.modules.now.all.now c.args.holder.now (types_of c.in_ok-known.known.types.entries) c.in_ok-ports.ports c.in_ok-body.body c.plus.result
    c.in_ok-known.ensures.types (rw c.as_slice.ensures at c.in_ok-ports.ensures) (rw c.as_slice-2.ensures at c.in_ok-body.ensures) c.plus.ensures
