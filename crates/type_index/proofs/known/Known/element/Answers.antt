use Rattle.type_index.proofs.Parts.{knows_element, no_vector, element_of}
use Rattle.type_index.proofs.known.Known.element.Goals as goal

pub new-requires : goal.new-requires
new-requires c =
    rw (c.get.ensures, c.get-2.ensures)
    (knows_element c.args.self.typ.now c.in-Vector.element c.in-Vector.field-1 c.args.self.index.now c.in-Vector-inside.inner c.args.self.knows c.in-Vector.is c.in-Vector-inside.is)

pub returns-clause-ways : goal.returns-clause-ways
returns-clause-ways c =
    rw (c.new.ensures.typ, c.new.ensures.index, c.get.ensures, c.get-2.ensures)
    (λ texts m. element_of c.args.self.typ.now c.in-Vector.element c.in-Vector.field-1 c.args.self.index.now c.in-Vector-inside.inner m c.in-Vector.is c.in-Vector-inside.is)

pub unreachable-requires : goal.unreachable-requires
unreachable-requires c =
    no_vector c.args.self.typ.now c.in-Vector.element c.in-Vector.field-1 c.args.self.index.now c.args.self.knows c.in-Vector.is
    (λ inner e. c.in_default-inside.not-Vector inner e)
