use Rattle.std.proofs.Common.{refl}
use Rattle.std.proofs.lemmas.Option.{slice_get_read}
use Rattle.memory_ports.proofs.Placements.{placed_next, word_next, words_next}
use Rattle.memory_ports.proofs.memories.placed_memories.Goals as goal

pub loop-memory-preserved : goal.loop-memory-preserved
loop-memory-preserved c = record {
  placed = placed_next c.args.memories.now c.loop-memory.placed _ c.loop-memory.memory-index c.memory-item.result c.in_ok-one.one
      (slice_get_read c.args.memories.now _ c.loop-memory.memory-index c.memory-item.result refl c.loop-memory-test.true c.memory-item.is)
      c.in_ok-one.ensures.memory c.in_ok-push.ensures.ok c.loop-memory.invariant.placed;
  word = word_next c.loop-memory.placed _ c.in_ok-one.one c.memory-item.result c.args.word c.loop-memory.word c.in_ok-word.word c.in_ok-push.ensures.ok c.in_ok-one.ensures.memory c.loop-memory.invariant.word c.in_ok-word.ensures;
  words = words_next c.loop-memory.placed _ c.in_ok-one.one c.args.word c.loop-memory.word c.in_ok-push.ensures.ok c.in_ok-one.ensures.word c.loop-memory.invariant.word c.loop-memory.invariant.words;
}
