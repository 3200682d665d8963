use Rattle.std.proofs.Common.{length, ap, sym, ◌∙◌}
use Rattle.memory_ports.proofs.Placements.{data_counted, placed_is}
use Rattle.memory_ports.proofs.placing.placed.Goals as goal

pub placed_leaves-requires : goal.placed_leaves-requires
placed_leaves-requires c = ap length (c.as_slice-2.ensures.value ∙ c.in_ok-shown.ensures) ∙ (data_counted c.args.flat.now ∙ ap length (sym c.as_slice.ensures))

pub placed_drivers-requires : goal.placed_drivers-requires
placed_drivers-requires c = ap length c.in_ok-shown.ensures ∙ data_counted c.args.flat.now

pub returns : goal.returns
returns c = placed_is c.args.flat.now c.in_ok-leaves.leaves c.in_ok-drivers.drivers c.in_ok-registers.registers c.in_ok-memories.memories c.register_words-word.result
    (rw c.as_slice.ensures at c.in_ok-leaves.ensures.counted) (rw (c.as_slice.ensures, c.as_slice-2.ensures.value, c.in_ok-shown.ensures) at c.in_ok-leaves.ensures.are)
    c.in_ok-drivers.ensures.counted (rw c.in_ok-shown.ensures at c.in_ok-drivers.ensures.each) (c.in_ok-registers.ensures ∙ c.as_slice-3.ensures)
    (rw (c.as_slice-4.ensures, c.as_slice-5.ensures) at c.register_words-word.ensures) (c.in_ok-memories.ensures.memories ∙ c.as_slice-6.ensures) c.in_ok-memories.ensures.words
