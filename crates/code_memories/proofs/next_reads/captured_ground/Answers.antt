use Rattle.std.proofs.Common.{◌∙◌, sym, ap}
use Rattle.std.proofs.lemmas.Result.{IfOk-weaker}
use Rattle.bit_words.specs.Values.{integer_of}
use Rattle.ground_net.specs.Grounds.{value}
use Rattle.ground_net.specs.Shapes.{shape}
use Rattle.code_memories.specs.NextReads.{captured_ground}
use Rattle.code_memories.proofs.Reading.{captured_value}
use Rattle.code_memories.proofs.Shaping.{captured_shape}
use Rattle.code_memories.proofs.next_reads.captured_ground.Goals as goal

pub returns-then-after-clause-value : goal.returns-then-after-clause-value
returns-then-after-clause-value c =
    let memory = c.args.memory.now in
    let port = c.args.port.now in
    IfOk-weaker c.after_ground.result _ _
    (λ g is table instant held read has shapes shows reads.
    ap (λ x. integer_of (value x instant)) (is c.depth_value-depth.ensures.value ∙ sym (ap (captured_ground memory port c.args.of) c.if-after.true))
    ∙ captured_value instant table memory port c.args.of held read has shapes shows reads c.args.after c.depth_value-depth.ensures.bound)
    c.after_ground.ensures

pub returns-then-after-clause-shape : goal.returns-then-after-clause-shape
returns-then-after-clause-shape c =
    let memory = c.args.memory.now in
    let port = c.args.port.now in
    IfOk-weaker c.after_ground.result _ _
    (λ g is table has.
    ap (λ x. shape x table) (is c.depth_value-depth.ensures.value ∙ sym (ap (captured_ground memory port c.args.of) c.if-after.true)) ∙ captured_shape table memory port c.args.of c.args.after has)
    c.after_ground.ensures

pub returns-else-after-clause-value : goal.returns-else-after-clause-value
returns-else-after-clause-value c =
    let memory = c.args.memory.now in
    let port = c.args.port.now in
    IfOk-weaker c.before-else-after.result _ _
    (λ g is table instant held read has shapes shows reads.
    ap (λ x. integer_of (value x instant)) (is ∙ sym (ap (captured_ground memory port c.args.of) c.if-after.false))
    ∙ captured_value instant table memory port c.args.of held read has shapes shows reads c.args.after c.depth_value-depth.ensures.bound)
    c.before-else-after.ensures

pub returns-else-after-clause-shape : goal.returns-else-after-clause-shape
returns-else-after-clause-shape c =
    let memory = c.args.memory.now in
    let port = c.args.port.now in
    IfOk-weaker c.before-else-after.result _ _
    (λ g is table has.
    ap (λ x. shape x table) (is ∙ sym (ap (captured_ground memory port c.args.of) c.if-after.false)) ∙ captured_shape table memory port c.args.of c.args.after has)
    c.before-else-after.ensures
