use Rattle.std.proofs.Common.{◌≡◌, ◌*◌, length, All}
use Rattle.flat_code.specs.Fine.{IsWide}
use Rattle.firsim_bench.proofs.codes.mix.wides_of.Given as goal

abbrev pub invariant-loop-block : goal.invariant-loop-block
invariant-loop-block l = record {
  count : length l.all ≡ l.block;
  fine : All (IsWide (20 * l.blocks) 4096) l.all;
}
