-- What is known of some fields of a bundle, in order.
use Rattle.std.specs.Prelude.{◌≡◌, ◌-◌, ◌^◌, min, not, List, map, sum}
use Rattle.std.specs.List.{list_any}
use Rattle.fir_types.specs.declared.fir_type.Field.{Field}
use Rattle.fir_types.specs.Leaves.{field_count, has_clock, has_signal}
use Rattle.fir_types.specs.Passivity.{field_has_flip}
use Rattle.fir_tree.specs.LeafNames.{Texts}
use Rattle.fir_types.specs.Spots.{field_size}
use Rattle.fir_tree.specs.Caps.{cap}
use Rattle.fir_tree.specs.Texts.{field_bytes}
use Rattle.type_index.specs.declared.gathered.Gathered.{Gathered}
use Rattle.type_index.specs.Knowing.{FieldsMatch, IsRight}

pub record Gathers (texts : Texts) (fields : List Field) (gathered : Gathered) : Type 0 where
  pub parts : FieldsMatch (IsRight texts) fields gathered.parts
  pub leaves : gathered.ways.leaves ≡ cap (sum (map field_count fields))
  pub bytes : gathered.ways.bytes ≡ cap (sum (map (field_bytes texts) fields))
  pub passive : gathered.passive ≡ not (list_any field_has_flip fields)
  pub clocked : gathered.clocked ≡ list_any (λ field. has_clock field.typ) fields
  pub signals : gathered.signals ≡ list_any (λ field. has_signal field.typ) fields
  pub places : gathered.places ≡ min (sum (map field_size fields)) (2 ^ 64 - 1)
