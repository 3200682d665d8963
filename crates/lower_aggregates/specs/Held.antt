-- What is held of declarations and pieces.
use Rattle.std.specs.Prelude.{◌≡◌, List, map}
use Rattle.fir_meaning.specs.Components as tree
use Rattle.fir_meaning.specs.Components.{TypedModule}
use Rattle.lower_aggregates.specs.declared.declarations.Sort.{Sort}
use Rattle.lower_aggregates.specs.declared.declarations.Sort.TheVariants as sort
use Rattle.lower_aggregates.specs.declared.declarations.Declaration.{Declaration}
use Rattle.lower_aggregates.specs.declared.pieces.Piece.{Piece}
use Rattle.lower_aggregates.specs.Headings.{Heading, heading}
use Rattle.lower_aggregates.specs.Parts.{Part, parts_of}

abbrev pub held_sort : Sort → tree.Sort
held_sort sort.Input = tree.An_input
held_sort sort.Output = tree.An_output
held_sort sort.Wire = tree.A_wire
held_sort (sort.Register clock) = tree.A_register clock.now
held_sort (sort.ResetRegister clock reset init) = tree.A_reset_register clock.now reset.now init.now
held_sort (sort.Memory memory) = tree.A_memory memory.now
held_sort (sort.Instance target) = tree.An_instance target
held_sort (sort.Node expr) = tree.A_node expr.now

abbrev pub held_heading : Declaration → Heading
held_heading d = heading d.name (held_sort d.sort)

abbrev pub held_part : Piece → Part
held_part p = record { name = p.name.id; place = p.name.place; sort = held_sort p.sort; typ = p.typ.now; first = p.first }

-- The pieces are the components of a module, in text order.
abbrev pub ArePieces : TypedModule → List Piece → Type 0
ArePieces m pieces = map held_part pieces ≡ parts_of m
