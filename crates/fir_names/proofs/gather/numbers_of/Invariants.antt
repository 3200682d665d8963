use Rattle.std.proofs.Common.{take, ◌≡◌}
use Rattle.fir_names.specs.Walks.{kept_of}
use Rattle.fir_names.specs.Finds.{numbered}
use Rattle.fir_names.proofs.gather.numbers_of.Given as goal

abbrev pub invariant-loop-index : goal.invariant-loop-index
invariant-loop-index l = l.known.entries ≡ kept_of (numbered 0 (take l.index l.names))
