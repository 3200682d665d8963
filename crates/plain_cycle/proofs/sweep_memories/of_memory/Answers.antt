use Rattle.std.proofs.Common.{filter_map, ap, ◌∙◌}
use Rattle.fir_types.specs.Memories.{first_or, read_latency_in, read_latency_of}
use Rattle.plain_cycle.specs.Runs.{design_in, state_at, given_at, values_at, shown_of}
use Rattle.plain_cycle.proofs.Asked.{captured_shown}
use Rattle.plain_cycle.proofs.Holding.{memory_is, captured_there}
use Rattle.plain_cycle.proofs.sweep_memories.of_memory.Goals as goal

pub returns : goal.returns
returns c = λ x is memory e.
    let run = c.args.run.now in
    let moment = c.args.moment.now in
    let part = c.args.part.now in
    c.captured.ensures
    ∙ (captured_there (design_in run) x part is run.sites.now moment.held.now.captured c.as_slice-4.result.now c.as_slice-3.result.now c.in-Some.port c.in-Some.way.now c.as_slice-3.ensures c.as_slice-4.ensures
    ∙ captured_shown (design_in run) (state_at run moment) (given_at run moment) (values_at run moment) x part is c.args.leaf.now memory c.args.leaf.now.path c.in-Some.port c.in-Some.way.now
    (c.in-Some.ensures.some ∙ ap shown_of c.as_slice.ensures)
    (λ zero. c.if-latency_of-eq0.false
    (c.latency_of.ensures ∙ (ap (λ ls. first_or 0 (filter_map read_latency_in ls)) c.as_slice-2.ensures ∙ (ap read_latency_of (memory_is run c.requires.run x part is c.in-Memory.memory c.in-Memory.is memory e) ∙ zero)))))
