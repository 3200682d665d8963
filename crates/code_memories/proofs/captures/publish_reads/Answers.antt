use Rattle.std.proofs.Common.{arith}
use Rattle.code_memories.proofs.Published.{reads_at}
use Rattle.code_memories.proofs.Loops.{same_count, capture_step, reads_done}
use Rattle.code_memories.proofs.RegisterEvaluating.{more_such}
use Rattle.code_memories.specs.Groups.{IsCaptureGroup}
use Rattle.code_memories.proofs.captures.publish_reads.Goals as goal

pub publish_capture-requires-clause-there : goal.publish_capture-requires-clause-there
publish_capture-requires-clause-there c =
    reads_at c.args.at.memory.net.now c.args.at.memory.number c.args.at.port c.loop-leaf.leaf c.memory_of.result.now c.port_of.result.now c.in-Some.read c.requires.net c.memory_of.ensures c.port_of.ensures c.in-Some.is
    c.if-not-read.false (omega (arith, c.loop-leaf-test.true))

pub loop-leaf-preserved : goal.loop-leaf-preserved
loop-leaf-preserved c = record {
  left = λ memory port read there listed reads.
      let same = same_count c.args.at.memory.net.now c.args.at.memory.sources.now c.args.at.memory.number c.requires.net c.requires.memory memory there c.args.at.port port listed read reads c.memory_of.result.now c.port_of.result.now c.in-Some.read
      c.memory_of.ensures c.port_of.ensures c.in-Some.is in
      capture_step c.args.at.memory.net.now c.args.at.memory.sources.now c.args.at.memory.number c.requires.net c.requires.memory memory there c.args.at.port port listed read reads c.loop-leaf.leaf c.args.draft.now c.loop-leaf.draft c.publish_capture.new.draft
      (omega (arith, c.loop-leaf-test.true, same)) (c.loop-leaf.invariant.left memory port read there listed reads) c.in_ok-publish_capture.ensures.left;
  evaluates = more_such c.args.at.memory.sources.now (IsCaptureGroup c.args.at.memory.net.now c.args.at.memory.number) c.args.draft.now c.loop-leaf.draft c.publish_capture.new.draft c.loop-leaf.invariant.evaluates c.in_ok-publish_capture.ensures.evaluates;
}

pub returns-clause-left : goal.returns-clause-left
returns-clause-left c =
    let memory = c.memory_of.result.now in
    let port = c.port_of.result.now in
    let read = c.in-Some.read in
    reads_done c.args.at.memory.net.now c.args.at.memory.sources.now c.args.at.memory.number c.requires.net c.requires.memory memory c.memory_of.ensures c.args.at.port port c.port_of.ensures read c.loop-leaf.leaf c.args.draft.now c.loop-leaf.draft
    c.in-Some.is c.if-not-read.false (omega (arith, c.loop-leaf-test.false)) (c.loop-leaf.invariant.left memory port read c.memory_of.ensures c.port_of.ensures c.in-Some.is)
