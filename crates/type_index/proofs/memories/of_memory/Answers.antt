use Rattle.std.proofs.Common.{filter_map, ap}
use Rattle.fir_types.specs.Bundles.{mask_of, port_field}
use Rattle.fir_types.specs.Memories.{element_of, depth_of}
use Rattle.type_index.proofs.Built.{weaker}
use Rattle.type_index.proofs.Ported.{ports_are}
use Rattle.type_index.proofs.memories.of_memory.Goals as goal

pub returns-clause-knows : goal.returns-clause-knows
returns-clause-knows c =
    let memory = c.args.memory.now in
    let element = element_of memory in
    ∣ weaker (λ t x r. r.0) (c.in_ok-index.ensures element (mask_of element) (filter_map (port_field element (depth_of memory)) memory.lines)
    (ap (λ typ. typ.shape) c.in_ok-typ.ensures) (ports_are element (depth_of memory) memory.lines)) ∣₁

pub returns-clause-ways : goal.returns-clause-ways
returns-clause-ways c =
    let memory = c.args.memory.now in
    let element = element_of memory in
    weaker (λ t x r. r.1) (c.in_ok-index.ensures element (mask_of element) (filter_map (port_field element (depth_of memory)) memory.lines)
    (ap (λ typ. typ.shape) c.in_ok-typ.ensures) (ports_are element (depth_of memory) memory.lines))
