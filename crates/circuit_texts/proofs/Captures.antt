-- What a captured read shows: a port of a memory, and the way within an element.
use Rattle.std.proofs.Common.{◌≡◌, ℕ, ◌<◌, Bool, true, false, List, ◌∷◌, length, Some, refl, sym, ap, ◌∙◌, subst, slice_get}
use Rattle.std.specs.Prelude.{Contains}
use Rattle.fir_types.specs.declared.fir_type.FirType.{FirType}
use Rattle.fir_types.specs.declared.leaf.PathStep.{PathStep}
use Rattle.fir_types.specs.declared.leaf.PathStep.TheVariants as step
use Rattle.fir_types.specs.declared.memory.Memory.{Memory}
use Rattle.fir_types.specs.Leaves.{leaves}
use Rattle.fir_tree.specs.LeafNames.{Texts}
use Rattle.fir_meaning.specs.Components.{Design}
use Rattle.fir_meaning.specs.MemoryPorts.{MemoryPort, memory_ports}
use Rattle.ground_net.specs.declared.net.Net.{Net}
use Rattle.ground_net.specs.declared.net.NetPort.{NetPort}
use Rattle.ground_net.specs.declared.net.NetRead.{NetRead}
use Rattle.ground_net.specs.declared.net.Role.TheVariants as role
use Rattle.ground_net.specs.Cycles.{Capture}
use Rattle.ground_net.specs.Nets.{IsNet, HasRole}
use Rattle.ground_net.proofs.Ranges.{capture_from}
use Rattle.net_of_circuit.specs.FlatOrder.{Placed, Standing, all_leaves, all_memories}
use Rattle.net_of_circuit.specs.NetOf.{IsNetWith, IsPortOf, NameAll, may_read, read_field}
use Rattle.net_laws.proofs.Numbers.{some_same, none_some, below_length}
use Rattle.net_laws.proofs.Lists.{in_list}
use Rattle.circuit_run.proofs.Lists.{get_item}

-- The leaf shows what this port of this memory reads.
pub record Shows (placed : List Placed) (y : Standing) : Type 0 where
  pub number : ℕ
  pub p : Placed
  pub memory : Memory
  pub there : slice_get (all_memories placed) number ≡ Some (p, memory)
  pub port : MemoryPort
  pub among : Contains (memory_ports memory) port
  pub way : List PathStep
  pub of : p ≡ y.0
  pub path : y.1.path ≡ step.Field port.name ∷ step.Field (read_field port.mode) ∷ way

module _ (texts : Texts) (design : Design) (placed : List Placed) (elements : List FirType) (net : Net) (is : IsNetWith texts design placed elements net) (well : IsNet net) where
  reads_of : (p : Placed) (memory : Memory) (element : FirType) (port : MemoryPort) (np : NetPort) → IsPortOf (all_leaves placed) p memory element port np → (read : NetRead) → np.read ≡ Some read
      → NameAll (all_leaves placed) p port.name (read_field port.mode) element read.leaves
  reads_of p memory element port np of read e = by (may_read port.mode) refl where
    by : (b : Bool) → may_read port.mode ≡ b → NameAll (all_leaves placed) p port.name (read_field port.mode) element read.leaves
    by true q =
        let r = of.read q in
        subst (λ (z : NetRead). NameAll (all_leaves placed) p port.name (read_field port.mode) element z.leaves) (some_same (sym r.1 ∙ e)) r.2
    by false q = none_some (sym (of.no_read q) ∙ e)

  pub shown_by : (x n : ℕ) (y : Standing) → slice_get (all_leaves placed) x ≡ Some y → HasRole net x (role.Captured n) → Shows placed y
  shown_by x n y e held =
      let capture = well.captured x n held in
      let c : Capture = capture.0 in
      let comes = capture_from net n c capture.1 in
      let below : c.number < length (all_memories placed) = subst (λ m. c.number < m) is.all_memories_there (below_length net.memories c.number c.memory comes.there) in
      let both = get_item (all_memories placed) c.number below in
      let p : Placed = both.0.0 in
      let memory : Memory = both.0.1 in
      let typ = get_item elements c.number (subst (λ m. c.number < m) (sym is.all_elements_there) below) in
      let of = is.memories c.number p memory typ.0 c.memory both.1 typ.1 comes.there in
      let port = get_item (memory_ports memory) comes.place (subst (λ m. comes.place < m) of.all_ports (below_length c.memory.ports comes.place c.port comes.listed)) in
      let port_of = of.ports comes.place port.0 c.port port.1 comes.listed in
      let r = reads_of p memory typ.0 port.0 c.port port_of comes.read comes.reads in
      let l = get_item (leaves typ.0) c.element (subst (λ m. c.element < m) r.counted (below_length comes.read.leaves c.element c.leaf comes.leaf)) in
      let names = r.each c.element c.leaf l.0 comes.leaf l.1 in
      let same : (p, names.leaf) ≡ y = some_same (sym names.there ∙ (ap (slice_get (all_leaves placed)) capture.2 ∙ e)) in
      record {
        number = c.number;
        p = p;
        memory = memory;
        there = both.1;
        port = port.0;
        among = in_list (memory_ports memory) comes.place port.0 port.1;
        way = l.0.path;
        of = ap (λ (z : Standing). z.0) same;
        path = ap (λ (z : Standing). z.1.path) (sym same) ∙ names.is;
      }
