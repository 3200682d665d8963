use Rattle.std.proofs.Common.{◌≡◌, ◌++◌, Some, slice_get, sym, ap₂, ◌∙◌, arith}
use Rattle.part_compile.specs.KeptRows.{told_by_ports}
use Rattle.part_compile.proofs.ToldReads.{told_more, told_all}
use Rattle.part_compile.proofs.captured.captured_reads.Goals as goal

pub loop-number-preserved : goal.loop-number-preserved
loop-number-preserved c =
    let net = c.args.net.now in
    let m = c.loop-number.number in
    let memory = c.in-Some.memory.now in
    let there : slice_get net.memories m ≡ Some memory = sym c.in-Some.ensures.value in
    c.in_ok-push_ports.ensures ∙ (ap₂ (λ a b. a ++ told_by_ports m b) c.loop-number.invariant c.as_slice.ensures ∙ sym (told_more net m memory there))

pub returns : goal.returns
returns c = let test = c.loop-number-test.false in let long = c.len-number-end.ensures in c.loop-number.invariant ∙ told_all c.args.net.now c.loop-number.number (omega (arith, test, long))
