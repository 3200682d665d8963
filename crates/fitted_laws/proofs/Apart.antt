-- In an accepted circuit no two leaves of a memory's elements stand at one way.
use Rattle.std.proofs.Common.{◌≡◌, ℕ, List, Some, slice_get}
use Rattle.fir_types.specs.declared.leaf.TypeLeaf.{TypeLeaf}
use Rattle.fir_types.specs.declared.memory.Memory.{Memory}
use Rattle.fir_types.specs.Leaves.{leaves}
use Rattle.fir_types.specs.Memories.{element_of}
use Rattle.fir_tree.specs.declared.scope.Fitted.{Fitted}
use Rattle.fir_meaning.specs.Components.{TypedModule, Component, A_memory, design_of, module_at, component_named}
use Rattle.fir_meaning.proofs.Ports.{component_found}
use Rattle.circuit_laws.proofs.Reached.{known_module}
use Rattle.fitted_laws.specs.Accepted.{IsAccepted}
use Rattle.fitted_laws.proofs.Once.{element_once, leaves_differ, differ_places}
use Rattle.fitted_laws.proofs.Circuits as circuits
use Rattle.fitted_laws.proofs.WellFormed.{accepted_well_formed}

pub elements_apart : (fitted : Fitted) → IsAccepted fitted → (path : List ℕ) (m : TypedModule) (c : Component) (memory : Memory) (j k : ℕ) (a b : TypeLeaf)
    → module_at (design_of fitted) path ≡ Some m → component_named m c.declaration.name ≡ Some c → c.declaration.sort ≡ A_memory memory
    → slice_get (leaves (element_of memory)) j ≡ Some a → slice_get (leaves (element_of memory)) k ≡ Some b → a.path ≡ b.path → j ≡ k
elements_apart fitted ok path m c memory j k a b at found sort =
    let it = known_module fitted (accepted_well_formed fitted ok) path m at in
    let declared = circuits.component_declared fitted ok it.k it.holder m it.here it.number it.reached c (component_found m c.declaration.name c found).1 in
    differ_places (leaves (element_of memory)) (leaves_differ (element_of memory) (element_once memory (declared.stored memory sort))) j k a b
