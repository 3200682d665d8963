use Rattle.std.proofs.Common.{take}
use Rattle.std.specs.List.{flat_map}
use Rattle.width_rules.specs.Layers.{node_field_spots, Adds}
use Rattle.width_rules.proofs.sizes.+node_slots.Given as goal

abbrev pub invariant-push_node_fields-loop-field : goal.invariant-push_node_fields-loop-field
invariant-push_node_fields-loop-field l = Adds l.place (flat_map node_field_spots (take l.field-index l.fields)) l.fn.slots l.slots l.fn.places.items l.places.items
