use Rattle.std.proofs.Common.{length, slice_index, ap, ◌∙◌, arith}
use Rattle.std.proofs.lemmas.Option.{slice_get_within}
use Rattle.ground_net.specs.Cycles.{captures}
use Rattle.part_compile.proofs.Rowed.{register_source, captured_source, clock_source}
use Rattle.part_compile.proofs.sources.source_of.Goals as goal

pub bounds-as_slice-number : goal.bounds-as_slice-number
bounds-as_slice-number c =
    let at = c.requires.leaf in
    let r = c.requires.net.registers at.number c.in-Register.number (record { leaf = c.args.leaf.now; there = at.there; is = c.in-Register.is }) in
    let lt = slice_get_within c.args.net.now.registers c.in-Register.number r.0 r.1 in
    let long = c.requires.words.all_registers in
    let same = ap length c.as_slice.ensures in
    omega (arith, lt, long, same)

pub bounds-as_slice-number-in-Captured : goal.bounds-as_slice-number-in-Captured
bounds-as_slice-number-in-Captured c =
    let at = c.requires.leaf in
    let net = c.args.net.now in
    let r = c.requires.net.captured at.number c.in-Captured.number (record { leaf = c.args.leaf.now; there = at.there; is = c.in-Captured.is }) in
    let lt = slice_get_within (captures net) c.in-Captured.number r.0 r.1 in
    let long = c.requires.words.all_captured in
    let same = ap length c.as_slice-in-Captured.ensures in
    omega (arith, lt, long, same)

pub returns-in-Clock : goal.returns-in-Clock
returns-in-Clock c = clock_source c.args.net.now c.args.leaf.now c.zero.result c.in-Clock.is c.zero.ensures

pub returns-in-Register : goal.returns-in-Register
returns-in-Register c =
    let at = c.requires.leaf in
    let n = c.in-Register.number in
    let r = c.requires.net.registers at.number c.in-Register.number (record { leaf = c.args.leaf.now; there = at.there; is = c.in-Register.is }) in
    let lt = slice_get_within c.args.net.now.registers c.in-Register.number r.0 r.1 in
    register_source c.args.net.now c.args.leaf.now c.in-Register.number _ c.kept-in-Register.result c.in-Register.is (ap (λ l. slice_index l n) c.as_slice.ensures ∙ c.requires.words.registers n (omega (arith, lt)))
    c.kept-in-Register.ensures

pub returns-in-Captured : goal.returns-in-Captured
returns-in-Captured c =
    let at = c.requires.leaf in
    let net = c.args.net.now in
    let n = c.in-Captured.number in
    let r = c.requires.net.captured at.number c.in-Captured.number (record { leaf = c.args.leaf.now; there = at.there; is = c.in-Captured.is }) in
    let lt = slice_get_within (captures net) c.in-Captured.number r.0 r.1 in
    captured_source c.args.net.now c.args.leaf.now c.in-Captured.number _ c.kept-in-Captured.result c.in-Captured.is (ap (λ l. slice_index l n) c.as_slice-in-Captured.ensures ∙ c.requires.words.captured n (omega (arith, lt)))
    c.kept-in-Captured.ensures
