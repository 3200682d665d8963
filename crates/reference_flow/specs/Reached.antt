-- What is lent of a component, and the part that it means.
use Rattle.std.specs.Prelude.{◌≡◌, ◌⊎◌, ℕ, Option, Some, None}
use Rattle.place_text.specs.declared.place.Place.{Place}
use Rattle.fir_types.specs.declared.memory.Memory.{Memory as AMemory}
use Rattle.fir_types.specs.declared.memory.PortMode.{PortMode}
use Rattle.fir_types.specs.Bundles.{instance_of, memory_of, mask_of, port_type}
use Rattle.fir_types.specs.Memories.{element_of, depth_of}
use Rattle.fir_tree.specs.declared.part.Flow.TheVariants.{Sink}
use Rattle.fir_tree.specs.declared.part.Part.{Part}
use Rattle.reference_flow.specs.declared.component.PartRef.{PartRef}
use Rattle.reference_flow.specs.declared.component.Reached.{Reached}
use Rattle.reference_flow.specs.declared.component.Reached.TheVariants.{Typed, Instance, Memory, MemoryPort, Plain}
use Rattle.fir_tree.specs.Parts.{part_of, source_of, field_part, element_part}

abbrev pub lent : PartRef → Part
lent part = part_of part.typ.now part.flow

-- a mask has the fields and elements of what it masks
abbrev pub mask_of_part : Part → Part
mask_of_part part = part_of (mask_of part.typ) part.flow

-- a port of a memory, which is flipped in it
abbrev pub port_part : AMemory → PortMode → Place → Part
port_part memory mode place = part_of (port_type (element_of memory) (depth_of memory) mode place) Sink

-- each step leaves what has no parts
pub record IsPlain (part : Part) : Type 0 where
  pub field : (name : ℕ) → field_part name part ≡ part
  pub element : element_part part ≡ part

-- what is reached means this part
abbrev pub Means : Reached → Part → Type 0
Means (Typed held) part = (part ≡ lent held) ⊎ (part ≡ mask_of_part (lent held))
Means (Instance ports) part = part ≡ source_of (instance_of ports.now)
Means (Memory memory) part = part ≡ source_of (memory_of memory.now)
Means (MemoryPort memory mode) part = (place : Place) × (part ≡ port_part memory.now mode place)
Means (Plain flow) part = (part.flow ≡ flow) × IsPlain part

-- the same, where there may be none
pub data MayMean : Option Reached → Option Part → Type 0 where
  neither : MayMean None None
  both : (reached : Reached) (part : Part) → Means reached part → MayMean (Some reached) (Some part)
