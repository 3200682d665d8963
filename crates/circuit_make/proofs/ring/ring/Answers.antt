use Rattle.std.proofs.Common.{codes, ◌++◌, ◌-◌, ap, ◌∙◌}
use Rattle.std.specs.List.{flat_map, range_with_len}
use Rattle.circuit_make.specs.Rings.{register_line, connect_line, sum_line, last_lines}
use Rattle.circuit_make.proofs.ring.ring.Goals as goal

pub returns : goal.returns
returns c =
    c.in_ok-push_last.ensures
    ∙ ap (λ t. t ++ last_lines c.args.n c.args.cycles)
    (c.in_ok-push_sums.ensures
    ∙ ap (λ t. t ++ flat_map sum_line (range_with_len 1 (c.args.n - 1)))
    (c.in_ok-extend_from_slice.ensures.items
    ∙ ap (λ t. t ++ codes "    node s0 = r0\n")
    (c.in_ok-push_connects.ensures
    ∙ ap (λ t. t ++ flat_map (connect_line c.args.n) (range_with_len 0 c.args.n))
    (c.in_ok-push_registers.ensures ∙ ap (λ t. t ++ flat_map register_line (range_with_len 0 c.args.n)) c.in_ok-text.ensures.items))))
