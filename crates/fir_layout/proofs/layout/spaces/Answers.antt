use Rattle.std.proofs.Common.{arith, length-drop}
use Rattle.std.proofs.lemmas.List.{take_rest}
use Rattle.fir_layout.proofs.layout.spaces.Goals as goal

pub returns : goal.returns
returns c = record {
  count = rw (take_rest c.args.bytes.now c.args.start) at c.space_count.ensures.count;
  within = (let less = rw (take_rest c.args.bytes.now c.args.start) at c.space_count.ensures.within in omega (arith, less, length-drop c.args.start c.args.bytes.now));
}
