use Rattle.type_index.proofs.Parts.{counted_known, flipless_known, clocked_known, signals_known, placed_known}
use Rattle.type_index.proofs.known.Known.new.Goals as goal

pub invariant_of-result : goal.invariant_of-result
invariant_of-result c = record {
  knows = c.requires;
  counted = counted_known c.args.typ.now c.args.index.now c.requires;
  flipless = flipless_known c.args.typ.now c.args.index.now c.requires;
  clocked = clocked_known c.args.typ.now c.args.index.now c.requires;
  signals = signals_known c.args.typ.now c.args.index.now c.requires;
  placed = placed_known c.args.typ.now c.args.index.now c.requires;
}
