use Rattle.std.proofs.Common.{◌≡◌, ◌<◌, ◌∙◌, List, ap, subst, get_or, length}
use Rattle.bit_words.specs.declared.value.Value.{Value}
use Rattle.fir_types.specs.declared.memory.MemLine.{MemLine}
use Rattle.fir_meaning.specs.MemoryPorts.{port_in}
use Rattle.plain_values.specs.Contents.{contents_of, leaves_of_seen, port_of_held}
use Rattle.plain_values.proofs.Storing.{lines_wrote, lines_idle, no_port}
use Rattle.plain_values.proofs.writing.write.Goals.{in-MemPort+in_ok-write_port, in_default}
use Rattle.plain_values.proofs.writing.write.Goals as goal

pub loop-at-preserved : goal.loop-at-preserved
loop-at-preserved c = λ element leaf among.
    let memory = c.args.memory.now.memory.now in
    let seen = leaves_of_seen c.args.memory.now in
    let leaves = c.args.memory.now.leaves.now in
    let at = c.loop-at.at in
    let line = c.index-lines-at.result in
    let within : at < length memory.lines = subst (λ (ls : List MemLine). at < length ls) c.as_slice-lines.ensures c.loop-at-test.true in
    let is : line ≡ get_or memory.lines at line = c.index-lines-at.is ∙ ap (λ ls. get_or ls at line) c.as_slice-lines.ensures in
    let before = contents_of leaves c.args.elements.now in
    let held = contents_of leaves c.loop-at.elements in
    elim c.match-line.branch [
      | in-MemPort+in_ok-write_port w ↦
          ap (λ (es : List (List Value)). contents_of leaves es element leaf.path) w.elements-is
          ∙ lines_wrote memory seen memory.lines at line (port_of_held (record { name = w.in-MemPort.name; mode = w.in-MemPort.mode })) before held (contents_of leaves w.write_port.new.elements) element leaf.path
          within is (ap port_in w.in-MemPort.is) (c.loop-at.invariant element leaf among) (w.in_ok-write_port.ensures element leaf among)
      | in_default w ↦
          ap (λ (es : List (List Value)). contents_of leaves es element leaf.path) w.elements-is
          ∙ lines_idle memory seen memory.lines at line before held element leaf.path within is (no_port line w.in_default.not-MemPort) (c.loop-at.invariant element leaf among)
    ]
