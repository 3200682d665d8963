use Rattle.std.proofs.Common.{◌≡◌, ℕ, [], ◌∷◌, map, ap, Some, All, slice_get, sym, subst, ◌∙◌, refl}
use Rattle.std.specs.Prelude.{IsSome}
use Rattle.ground_net.specs.declared.net.Net.{Net}
use Rattle.ground_net.specs.declared.net.NetMemory.{NetMemory}
use Rattle.ground_net.specs.declared.net.NetPort.{NetPort}
use Rattle.ground_net.specs.declared.net.ElementLeaf.{ElementLeaf}
use Rattle.ground_net.specs.declared.ground.Ground.TheVariants.{Leaf}
use Rattle.ground_net.specs.Shapes.{shape}
use Rattle.code_emit.specs.Emits.{sources_table}
use Rattle.code_memories.specs.declared.places.Target.{Target}
use Rattle.ground_net.specs.Cycles.{shown}
use Rattle.ground_net.specs.Nets.{element_shape}
use Rattle.partition_code.specs.Effects.{leaf_told}
use Rattle.code_memories.specs.Writes.{PublishesLeft, TellsTarget}
use Rattle.code_memories.proofs.Targets.{on_ok_so}
use Rattle.code_memories.proofs.WriteLoops.{leaf_done, address_here, source_here, conditions_here}
use Rattle.code_emit.specs.Spans.{EvaluatesAll}
use Rattle.code_memories.specs.SinkGroups.{EvaluatesOnly}
use Rattle.code_memories.proofs.RegisterEvaluating.{one_such}
use Rattle.code_memories.specs.WriteGroups.{IsWriteGroup}
use Rattle.code_memories.proofs.writes.publish_leaf.Goals as goal

pub publish_target-requires-clause-address : goal.publish_target-requires-clause-address
publish_target-requires-clause-address c = address_here c.args.at.memory.net.now c.args.at.memory.sources.now c.args.at.memory.number c.memory_of.result.now c.memory_of.ensures c.args.at.port c.port_of-port.result.now c.port_of-port.ensures c.requires.net c.requires.memory c.args.at.leaf c.in-Some.write c.in-Some-get.mask.now c.in-Some-get-2.source.now c.in-Some.is (sym c.in-Some-get.ensures.value) (sym c.in-Some-get-2.ensures.value) c.requires.there

pub publish_target-requires-clause-source : goal.publish_target-requires-clause-source
publish_target-requires-clause-source c = source_here c.args.at.memory.net.now c.args.at.memory.sources.now c.args.at.memory.number c.memory_of.result.now c.memory_of.ensures c.args.at.port c.port_of-port.result.now c.port_of-port.ensures c.requires.net c.requires.memory c.args.at.leaf c.in-Some.write c.in-Some-get.mask.now c.in-Some-get-2.source.now c.in-Some.is (sym c.in-Some-get.ensures.value) (sym c.in-Some-get-2.ensures.value) c.requires.there

pub publish_target-requires-clause-conditions : goal.publish_target-requires-clause-conditions
publish_target-requires-clause-conditions c =
    subst (λ xs. All (λ x. IsSome (shape (Leaf x) (sources_table c.args.at.memory.sources.now))) xs) (sym (c.as_slice.ensures ∙ c.in_ok-conditions.ensures)) (conditions_here c.args.at.memory.net.now c.args.at.memory.sources.now c.args.at.memory.number c.memory_of.result.now c.memory_of.ensures c.args.at.port c.port_of-port.result.now c.port_of-port.ensures c.requires.net c.requires.memory c.args.at.leaf c.in-Some.write c.in-Some-get.mask.now c.in-Some-get-2.source.now c.in-Some.is (sym c.in-Some-get.ensures.value) (sym c.in-Some-get-2.ensures.value) c.requires.there)

pub returns-clause-left : goal.returns-clause-left
returns-clause-left c =
    let net = c.args.at.memory.net.now in
    let S = c.args.at.memory.sources.now in
    let m = c.args.at.memory.number in
    let p = c.args.at.port in
    let k = c.args.at.leaf in
    let a = c.args.draft.now in
    let b = c.publish_target.new.draft in
    let target : Target = record { address = c.port_of-port.result.now.addr; source = c.in-Some-get-2.source.now; region = c.region_of.result } in
    let xs = c.as_slice.result.now in
    on_ok_so ((n : Net) → TellsTarget n S target xs a b)
    ((memory : NetMemory) (port : NetPort) (leaf : ElementLeaf) → slice_get net.memories m ≡ Some memory → slice_get memory.ports p ≡ Some port → slice_get memory.elements k ≡ Some leaf
    → PublishesLeft net S (λ st instant. leaf_told net m memory (shown instant port) (k, element_shape leaf)) a b)
    c.publish_target.result c.publish_target.ensures.tells (λ told.
    leaf_done c.args.at.memory.net.now c.args.at.memory.sources.now c.args.at.memory.number c.memory_of.result.now c.memory_of.ensures c.args.at.port c.port_of-port.result.now c.port_of-port.ensures c.requires.net c.requires.memory c.args.at.leaf c.in-Some.write c.in-Some-get.mask.now c.in-Some-get-2.source.now c.in-Some.is (sym c.in-Some-get.ensures.value) (sym c.in-Some-get-2.ensures.value) target xs a b refl refl c.region_of.ensures (c.as_slice.ensures ∙ c.in_ok-conditions.ensures) (told net))

pub returns-clause-evaluates : goal.returns-clause-evaluates
returns-clause-evaluates c =
    let net = c.args.at.memory.net.now in
    let S = c.args.at.memory.sources.now in
    let m = c.args.at.memory.number in
    let a = c.args.draft.now in
    let b = c.publish_target.new.draft in
    let port = c.port_of-port.result.now in
    let x = c.in-Some-get-2.source.now in
    let xs = c.as_slice.result.now in
    on_ok_so (EvaluatesAll S ((Leaf port.addr ∷ Leaf x ∷ map (λ (y : ℕ). Leaf y) xs) ∷ []) a b) (EvaluatesOnly S (IsWriteGroup net m) a b) c.publish_target.result c.publish_target.ensures.evaluates (λ told.
    one_such S (IsWriteGroup net m) (Leaf port.addr ∷ Leaf x ∷ map (λ (y : ℕ). Leaf y) xs) a b
    (record {
      memory = c.memory_of.result.now;
      there = c.memory_of.ensures;
      p = c.args.at.port;
      port = port;
      listed = c.port_of-port.ensures;
      write = c.in-Some.write;
      writes = c.in-Some.is;
      k = c.args.at.leaf;
      mask = c.in-Some-get.mask.now;
      masked = sym c.in-Some-get.ensures.value;
      source = x;
      sourced = sym c.in-Some-get-2.ensures.value;
      is = ap (λ ys. Leaf port.addr ∷ Leaf x ∷ map (λ (y : ℕ). Leaf y) ys) (c.as_slice.ensures ∙ c.in_ok-conditions.ensures);
    })
    told)
