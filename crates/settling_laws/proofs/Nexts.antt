-- The next states of states that are the same as far as the design goes.
use Rattle.std.proofs.Common.{◌≡◌, ℕ, ◌==◌, ◌&&◌, List, [], ◌∷◌, fold, Some, option_map, option_and_then, nat_lt, sym, ap, ◌∙◌, if◌then◌else◌}
use Rattle.fir_types.specs.declared.leaf.TypeLeaf.{TypeLeaf}
use Rattle.fir_types.specs.declared.leaf.PathStep.{PathStep}
use Rattle.fir_types.specs.declared.leaf.PathStep.TheVariants as step
use Rattle.fir_types.specs.declared.memory.Memory.{Memory}
use Rattle.fir_types.specs.declared.memory.Under.{Under}
use Rattle.fir_types.specs.declared.memory.Under.TheVariants as under
use Rattle.fir_types.specs.Memories.{depth_of, under_of}
use Rattle.fir_meaning.specs.Components.{Design, TypedModule, Component, HasBundles, module_at, component_named}
use Rattle.fir_meaning.specs.Values.{Valuation, scene_of}
use Rattle.fir_meaning.specs.MemoryPorts.{MemoryPort, Contents, Leaves, memory_ports, port_named, shown, after_port, after_writes}
use Rattle.fir_meaning.specs.States.{State, SameState, Stands, next, next_of_register, next_of_memory, next_of_port, located, where_located, taken}
use Rattle.fir_meaning.proofs.MemoryWays.{shown_same}
use Rattle.fir_meaning.proofs.Settling.{read_contents}

kept_by_ports : (memory : Memory) (l : Leaves) (element : ℕ) (way : List PathStep) (ports : List MemoryPort) (before after : Contents) → before element way ≡ after element way
    → fold (after_port memory l) before ports element way ≡ fold (after_port memory l) after ports element way
kept_by_ports memory l element way [] before after old = old
kept_by_ports memory l element way (port ∷ ports) before after old =
    let p = shown l port in
    kept_by_ports memory l element way ports (after_port memory l before port) (after_port memory l after port)
    (ap (λ o. if (p.writes && nat_lt p.address (depth_of memory)) && ((p.address == element) && p.masked way) then p.written way else o) old)

taken_same : (u : Under) (memory : Memory) (l : Leaves) (element : ℕ) (way : List PathStep) (before after : Contents) → before element way ≡ after element way
    → taken u before (after_writes memory l before) element way ≡ taken u after (after_writes memory l after) element way
taken_same under.New memory l element way before after old = kept_by_ports memory l element way (memory_ports memory) before after old
taken_same under.Old memory l element way before after old = old
taken_same under.Undefined memory l element way before after old = old

located_there : (design : Design) (path : List ℕ) (m : TypedModule) (c : Component) → module_at design path ≡ Some m → component_named m c.declaration.name ≡ Some c
    → located design path c.declaration.name ≡ Some (m, c)
located_there design path m c reached declared =
    ap (option_and_then (λ x. option_map (λ y. (x, y)) (component_named x c.declaration.name))) reached ∙ ap (option_map (λ y. (m, y))) declared

located_is : (design : Design) (path : List ℕ) (m : TypedModule) (c : Component) (leaf : TypeLeaf) → Stands design path m c leaf → located design path c.declaration.name ≡ Some (m, c)
located_is design path m c leaf stands = located_there design path m c stands.reached stands.declared

pub next_alike : (design : Design) → HasBundles design → (s t : State) → SameState design s t → (rho : Valuation) → SameState design (next design s rho) (next design t rho)
next_alike design has s t kept rho = record {
  registers = λ path m c leaf stands register.
      let place = located_is design path m c leaf stands in
      let name : ℕ = c.declaration.name in
      ap (where_located (s.registers path name leaf.path) (λ found. next_of_register (scene_of found.0 path rho) found.1 found.1.declaration.sort leaf.path (s.registers path name leaf.path))) place
      ∙ (ap (next_of_register (scene_of m path rho) c c.declaration.sort leaf.path) (kept.registers path m c leaf stands register)
      ∙ sym (ap (where_located (t.registers path name leaf.path) (λ found. next_of_register (scene_of found.0 path rho) found.1 found.1.declaration.sort leaf.path (t.registers path name leaf.path))) place));
  contents = λ path m c memory typ leaf element reached declared sort of inside below.
      let way : List PathStep = leaf.path in
      let place = located_there design path m c reached declared in
      let name : ℕ = c.declaration.name in
      ap (λ o. where_located (s.contents path name) (λ found. next_of_memory (scene_of found.0 path rho) found.1 found.1.declaration.sort (s.contents path name)) o element way) place
      ∙ (ap (λ k. next_of_memory (scene_of m path rho) c k (s.contents path name) element way) sort
      ∙ (kept_by_ports memory ((scene_of m path rho).integers name) element way (memory_ports memory) (s.contents path name) (t.contents path name) (kept.contents path m c memory typ leaf element reached declared sort of inside below)
      ∙ (sym (ap (λ k. next_of_memory (scene_of m path rho) c k (t.contents path name) element way) sort)
      ∙ sym (ap (λ o. where_located (t.contents path name) (λ found. next_of_memory (scene_of found.0 path rho) found.1 found.1.declaration.sort (t.contents path name)) o element way) place))));
  captured = λ path m c leaf memory port inner way stands sort later turned is.
      let place = located_is design path m c leaf stands in
      let name : ℕ = c.declaration.name in
      let l : Leaves = (scene_of m path rho).integers name in
      ap (λ o. where_located (s.captured path name) (λ found. next_of_port (scene_of found.0 path rho) found.1 found.1.declaration.sort (s.contents path name)) o port way) place
      ∙ (ap (λ k. next_of_port (scene_of m path rho) c k (s.contents path name) port way) sort
      ∙ (read_contents memory l (taken (under_of memory) (s.contents path name) (after_writes memory l (s.contents path name))) (taken (under_of memory) (t.contents path name) (after_writes memory l (t.contents path name))) way
      (λ element below. taken_same (under_of memory) memory l element way (s.contents path name) (t.contents path name) (shown_same design has s t kept path m c leaf memory port inner way element stands sort turned is below)) (port_named memory port)
      ∙ (sym (ap (λ k. next_of_port (scene_of m path rho) c k (t.contents path name) port way) sort)
      ∙ sym (ap (λ o. where_located (t.captured path name) (λ found. next_of_port (scene_of found.0 path rho) found.1 found.1.declaration.sort (t.contents path name)) o port way) place))));
}
