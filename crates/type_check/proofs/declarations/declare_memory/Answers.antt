use Rattle.std.proofs.Common.{refl}
use Rattle.std.specs.Prelude.{Some}
use Rattle.std.proofs.lemmas.Result.{on_ok_weaker}
use Rattle.fir_types.specs.Bundles.{memory_of}
use Rattle.fir_tree.specs.Parts.{source_of}
use Rattle.type_check.specs.declared.walk.Walk.{Walk}
use Rattle.type_check.specs.Memories.{memory_faults}
use Rattle.type_check.proofs.Kept.{walks_declared}
use Rattle.type_check.proofs.Walking.{walks_noted}
use Rattle.type_check.proofs.declarations.declare_memory.Goals as goal

pub returns : goal.returns
returns c =
    let memory = c.args.memory.now in
    let walk = c.args.walk.now in
    let noted : Walk = record { known = walk.known; found = record { types = walk.found.types; faults = c.push_memory.new.faults } } in
    on_ok_weaker c.note_memory.result
    (λ h. walks_noted (memory_faults memory) {b = noted} refl refl c.in_ok-push_memory.ensures (walks_declared memory.name.id (Some (source_of (memory_of memory))) h refl refl))
    c.note_memory.ensures
