use Rattle.std.proofs.Common.{map, refl, ap, ◌∙◌}
use Rattle.part_compile.specs.declared.captured.CapturedRead.{CapturedRead}
use Rattle.part_compile.proofs.Rowed.{first_are}
use Rattle.part_compile.proofs.words.first_words.Goals as goal

pub returns : goal.returns
returns c =
    first_are c.args.net.now c.as_slice.result.now c.as_slice-4.result.now c.in_ok-registers.registers c.in_ok-captured.captured 0 c.behind_memories.result
    (c.as_slice.ensures ∙ c.in_ok-leaves.ensures)
    (c.as_slice-4.ensures ∙ (c.in_ok-shown.ensures ∙ ap (map (λ (read : CapturedRead). read.leaf)) (c.as_slice-3.ensures ∙ c.in_ok-reads.ensures)))
    refl c.behind_memories.ensures c.in_ok-registers.ensures.counted c.in_ok-registers.ensures.each c.in_ok-captured.ensures.counted c.in_ok-captured.ensures.each
