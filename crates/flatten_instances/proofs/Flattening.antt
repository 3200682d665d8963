-- The flat circuit of a plan.
use Rattle.std.proofs.Common.{◌≡◌, [], length, take, sym, ◌∙◌, subst, arith, Some, slice_get}
use Rattle.std.specs.Prelude.{filter}
use Rattle.std.proofs.lemmas.List.{take_all}
use Rattle.ground_net.specs.declared.circuit.DrivenCircuit.{DrivenCircuit}
use Rattle.ground_net.specs.declared.circuit.DrivenModule.{DrivenModule}
use Rattle.ground_net.specs.declared.circuit.FlatCircuit.{FlatCircuit}
use Rattle.flatten_instances.specs.declared.plan.Plan.{Plan}
use Rattle.flatten_instances.specs.FlatOrder.{InFlatOrder, leaf_spots, memories_from}
use Rattle.flatten_instances.specs.Flat.{OneByOne, IsFlat, IsFlatLeaf, IsFlatDriver, IsFlatRegister, IsFlatMemory, is_register_at}
use Rattle.flatten_instances.specs.Plans.{IsLeafSite, IsMemorySite, IsPlan, LeafAtSite, DriverAtSite, MemoryAtSite, RegistersOf}
use Rattle.flatten_instances.proofs.Lists.{some_same, weaker_by}
use Rattle.flatten_instances.proofs.Sites.{at_spots}

pub is_flat : (driven : DrivenCircuit) (plan : Plan) (main : DrivenModule) (flat : FlatCircuit) → IsPlan driven plan → slice_get driven.modules driven.main ≡ Some main → flat.ports ≡ main.ports
    → OneByOne (LeafAtSite driven plan) plan.leaves flat.leaves → OneByOne (DriverAtSite driven plan) plan.leaves flat.drivers → RegistersOf driven plan (length plan.leaves) flat.registers
    → OneByOne (MemoryAtSite driven plan) plan.memories flat.memories → IsFlat driven flat
is_flat driven plan main flat p found ports leaves drivers registers memories = record {
  main = main;
  found = found;
  items = p.items;
  order = subst (λ m. InFlatOrder driven [] driven.main m 0 0 0 p.items) (some_same (sym p.found ∙ found)) p.order;
  is = record {
    ports = ports;
    leaves = at_spots (IsLeafSite driven plan.levels) (IsFlatLeaf driven) (leaf_spots p.items) plan.leaves flat.leaves p.leaf_sites leaves;
    drivers = at_spots (IsLeafSite driven plan.levels) (IsFlatDriver driven (leaf_spots p.items)) (leaf_spots p.items) plan.leaves flat.drivers p.leaf_sites
        (weaker_by (DriverAtSite driven plan) _ plan.leaves flat.drivers (λ site driver f s h. f (leaf_spots p.items) s p.leaf_sites h) drivers);
    registers = subst (λ l. OneByOne (IsFlatRegister driven (leaf_spots p.items)) (filter (is_register_at driven) l) flat.registers) all (registers (leaf_spots p.items) p.leaf_sites);
    memories = at_spots (IsMemorySite driven plan.levels) (IsFlatMemory driven (leaf_spots p.items)) (memories_from 0 p.items) plan.memories flat.memories p.memory_sites
        (weaker_by (MemoryAtSite driven plan) _ plan.memories flat.memories (λ site memory f both h. f (leaf_spots p.items) both p.leaf_sites h) memories);
  };
}
  where
    all : take (length plan.leaves) (leaf_spots p.items) ≡ leaf_spots p.items
    all = take_all (length plan.leaves) (leaf_spots p.items) (omega (arith, p.leaf_sites.counted))
