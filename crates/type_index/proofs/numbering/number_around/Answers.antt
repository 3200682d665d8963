use Rattle.std.proofs.Common.{◌≡◌, ◌++◌, ◌∷◌, [], sym, arith}
use Rattle.std.proofs.lemmas.Grind.{common_steps}
use Rattle.type_index.specs.Sights.{table_of}
use Rattle.type_index.proofs.Made.{around_begin, around_more, around_end}
use Rattle.type_index.proofs.numbering.number_around.Goals as goal

pub loop-length-init : goal.loop-length-init
loop-length-init c = around_begin (table_of c.args.classes.now) c.args.lengths.items c.args.innermost

pub loop-length-preserved : goal.loop-length-preserved
loop-length-preserved c =
    let is : c.loop-length.left.items ≡ c.pop.new.self.items ++ (c.in-Some.field-0-0, c.in-Some.length) ∷ [] = grind (arith, common_steps) in
    around_more (table_of c.args.classes.now) c.args.lengths.items c.loop-length.left.items c.pop.new.self.items (c.in-Some.field-0-0, c.in-Some.length) c.args.innermost
    c.loop-length.class c.in_ok-class.class is (sym c.in_ok-class.ensures) c.loop-length.invariant

pub returns : goal.returns
returns c =
    let is : c.loop-length.left.items ≡ [] = grind (arith, common_steps) in
    around_end (table_of c.args.classes.now) c.args.lengths.items c.loop-length.left.items c.args.innermost c.loop-length.class is c.loop-length.invariant
