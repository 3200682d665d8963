use Rattle.std.proofs.Common.{◌≡◌, ◌++◌, flat_map, codes, decimal, take}
use Rattle.bit_words.specs.Values.{integer_of}
use Rattle.bit_words.specs.Decimals.{decimal_text}
use Rattle.trace_print.proofs.trace.push_trace_line.Given as goal

abbrev pub invariant-loop-value : goal.invariant-loop-value
invariant-loop-value l = l.lines.items ≡ l.fn.lines.items ++ (decimal l.cycle ++ flat_map (λ value. codes " " ++ decimal_text (integer_of value)) (take l.value-index l.row))
