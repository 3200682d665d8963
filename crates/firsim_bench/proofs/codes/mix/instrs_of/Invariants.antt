use Rattle.std.proofs.Common.{◌≡◌, ◌*◌, length, All}
use Rattle.flat_code.specs.Fine.{AreFine}
use Rattle.firsim_bench.proofs.codes.mix.instrs_of.Given as goal

abbrev pub invariant-loop-number : goal.invariant-loop-number
invariant-loop-number l = record {
  count : length l.all ≡ l.number;
  fine : AreFine (20 * l.blocks) 4096 l.blocks l.blocks l.all;
}
