use Rattle.std.proofs.Common.{◌≡◌, ◌*◌, length, All}
use Rattle.flat_code.specs.Fine.{IsPort}
use Rattle.firsim_bench.proofs.codes.mix.ports_of.Given as goal

abbrev pub invariant-loop-block : goal.invariant-loop-block
invariant-loop-block l = record {
  count : length l.all ≡ l.block;
  fine : All (IsPort (20 * l.blocks) 4096) l.all;
}
