use Rattle.std.proofs.Common.{◌≡◌, Some, refl}
use Rattle.std.specs.Prelude.{slice_get}
use Rattle.std.proofs.lemmas.Result.{err_from_is_err_and}
use Rattle.std.proofs.lemmas.Option.{slice_get_read}
use Rattle.stimulus.proofs.Judged.{ordered_from, cycle_first, leaf_first, value_first_of, sound_of}
use Rattle.stimulus.proofs.judging.judge.Goals as goal

pub returns-in_err-cycle : goal.returns-in_err-cycle
returns-in_err-cycle c before said is zip =
    let p = err_from_is_err_and c.from_residual.result c.from_residual.ensures.1 in
    let text = c.args.reading.now.bytes.now in
    let known = c.args.progress.now in
    rw (p.1, p.2)
    (cycle_first text c.args.reading.now.ports.now c.args.reading.now.cycles known.last known.set_in known.settings before said (ordered_from text c.args.line.now said is c.requires.inside) c.requires.knows zip c.in_err-cycle.field-0.0
    (c.in_err-cycle.ensures said is))

pub returns-in_err-input : goal.returns-in_err-input
returns-in_err-input c before said is zip =
    let p = err_from_is_err_and c.from_residual-in_err-input.result c.from_residual-in_err-input.ensures.1 in
    let text = c.args.reading.now.bytes.now in
    let known = c.args.progress.now in
    rw (p.1, p.2)
    (leaf_first text c.args.reading.now.ports.now c.args.reading.now.cycles known.last known.set_in known.settings before said (ordered_from text c.args.line.now said is c.requires.inside) c.requires.knows zip c.in_ok-cycle.cycle c.in_err-input.field-0.0
    (c.in_ok-cycle.ensures said is) (c.in_err-input.ensures.answer said is))

pub returns-in_err-value : goal.returns-in_err-value
returns-in_err-value c before said is zip =
    let p = err_from_is_err_and c.from_residual-in_err-value.result c.from_residual-in_err-value.ensures.1 in
    let text = c.args.reading.now.bytes.now in
    let known = c.args.progress.now in
    let leaf = c.index-as_slice-input.result in
    let at : slice_get c.args.reading.now.ports.now.inputs c.in_ok-input.input ≡ Some leaf =
    slice_get_read c.args.reading.now.ports.now.inputs _ c.in_ok-input.input leaf refl c.in_ok-input.ensures.within (rw c.as_slice.ensures at c.index-as_slice-input.is) in
    rw (p.1, p.2)
    (value_first_of text c.args.reading.now.ports.now c.args.reading.now.cycles known.last known.set_in known.settings before said (ordered_from text c.args.line.now said is c.requires.inside) c.requires.knows zip c.in_ok-cycle.cycle c.in_ok-input.input leaf c.in_err-value.field-0.0
    (c.in_ok-cycle.ensures said is) (c.in_ok-input.ensures.answer said is) at (c.in_err-value.ensures said is))

pub returns : goal.returns
returns c before said is zip =
    let text = c.args.reading.now.bytes.now in
    let known = c.args.progress.now in
    let leaf = c.index-as_slice-input.result in
    let at : slice_get c.args.reading.now.ports.now.inputs c.in_ok-input.input ≡ Some leaf =
    slice_get_read c.args.reading.now.ports.now.inputs _ c.in_ok-input.input leaf refl c.in_ok-input.ensures.within (rw c.as_slice.ensures at c.index-as_slice-input.is) in
    sound_of text c.args.reading.now.ports.now c.args.reading.now.cycles known.last known.set_in known.settings before said (ordered_from text c.args.line.now said is c.requires.inside) c.requires.knows zip c.in_ok-cycle.cycle c.in_ok-input.input leaf c.in_ok-value.value
    (c.in_ok-cycle.ensures said is) (c.in_ok-input.ensures.answer said is) at (c.in_ok-value.ensures said is)
