-- The elements of a memory (FIRRTL specification 3.0, "Memories").
use Rattle.std.specs.Prelude.{◌≡◌, []}
use Rattle.fir_types.specs.declared.fir_type.FirType.{FirType}
use Rattle.fir_types.specs.declared.memory.Memory.{Memory}
use Rattle.fir_types.specs.Leaves.{leaves}
use Rattle.fir_types.specs.Memories.{element_of}
use Rattle.fir_meaning.specs.Components.{Component, ports_bundle}
use Rattle.fir_meaning.specs.MemoryPorts.{memory_ports}

-- The elements of a memory have the leaves of this type: its ports show them, and where it has none, its text gives them.
pub record IsElement (c : Component) (memory : Memory) (typ : FirType) : Type 0 where
  pub bundle : leaves c.typ ≡ leaves (ports_bundle memory typ)
  pub unported : memory_ports memory ≡ [] → leaves typ ≡ leaves (element_of memory)
