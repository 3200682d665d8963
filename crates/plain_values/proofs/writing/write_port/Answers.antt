use Rattle.std.proofs.Common.{◌≡◌, ◌<◌, ◌∙◌, ap, subst, map, get_or, [], filter_map}
use Rattle.bit_words.specs.Values.{integer_of}
use Rattle.fir_types.specs.Memories.{depth_of, depth_in, first_or}
use Rattle.fir_meaning.specs.Values.{beside, lone}
use Rattle.fir_meaning.specs.MemoryPorts.{shown}
use Rattle.plain_values.specs.Contents.{leaves_of_seen, port_of_held}
use Rattle.plain_values.specs.Writing.{over}
use Rattle.plain_values.proofs.Storing.{port_wrote}
use Rattle.plain_values.proofs.writing.write_port.Goals as goal

pub returns-in_ok-put : goal.returns-in_ok-put
returns-in_ok-put c =
    let memory = c.args.memory.now.memory.now in
    let seen = leaves_of_seen c.args.memory.now in
    let leaves = c.args.memory.now.leaves.now in
    let old = c.args.elements.now in
    let port = port_of_held c.args.port in
    let at = c.in_ok-at.at in
    let within : at < depth_of memory = subst (λ d. at < d) (c.depth_of.ensures ∙ ap (λ ls. first_or 1 (filter_map depth_in ls)) c.as_slice.ensures) c.if-at-depth_of.true in
    let wrote : map integer_of c.in_ok-element.element ≡ map (over (shown seen port)) (beside (lone []) leaves (get_or old at [])) =
    c.in_ok-element.ensures ∙ ap (λ vs. map (over (shown seen port)) (beside (lone []) leaves vs)) (c.element_at.ensures ∙ ap (λ es. get_or es at []) c.as_slice-then-at-depth_of.ensures) in
    port_wrote memory seen leaves old port c.put.new.elements c.in_ok-element.element at c.in_ok-writes.writes c.in_ok-at.ensures c.in_ok-writes.ensures c.if-writes.true within c.in_ok-put.ensures wrote
