use Rattle.std.proofs.Common.{rules, ◌≡◌}
use Rattle.std.specs.Prelude.{Some}
use Rattle.type_check.specs.Expressions.{found_of}
use Rattle.type_check.proofs.Reaching.{part_agreed}
use Rattle.type_check.proofs.declarations.declare_node.Goals as goal

pub note_part-requires : goal.note_part-requires
note_part-requires c = λ typ leads.
    let known = c.args.walk.now.known.parts in
    let at : (found_of known c.args.expr.now).part ≡ Some c.in-Some.part = search rules in
    part_agreed typ known c.args.expr.now c.in-Some.part (c.in-Some-reference_at.ensures known typ leads) at
