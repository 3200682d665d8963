use Rattle.std.proofs.Common.{map, sym, ap, ◌∙◌}
use Rattle.std.proofs.lemmas.Result.{IfOk-weaker}
use Rattle.bit_words.specs.Values.{integer_of}
use Rattle.drive_check.specs.Keys.{step_of}
use Rattle.plain_values.specs.Sites.{integer_or_zero}
use Rattle.plain_cycle.specs.Runs.{design_in, state_at, values_at}
use Rattle.plain_cycle.proofs.Views.{or_nothing, name_is, block_is, scene_there, block_typed, narrow_there}
use Rattle.plain_cycle.proofs.OfRegisters.{reset_typed, held_there, next_there}
use Rattle.plain_cycle.proofs.registers.next_of_leaf.Goals as goal

pub next_of_register-requires-clause-narrow : goal.next_of_register-requires-clause-narrow
next_of_register-requires-clause-narrow c = narrow_there c.args.run.now c.requires.run

pub next_of_register-requires-clause-typed : goal.next_of_register-requires-clause-typed
next_of_register-requires-clause-typed c =
    rw c.requires.register.block (block_typed c.args.run.now c.requires.run c.requires.part.0 c.args.part.now c.requires.part.1 c.as_slice-path.result.now c.as_slice-path.ensures)

pub next_of_register-requires-clause-reset : goal.next_of_register-requires-clause-reset
next_of_register-requires-clause-reset c =
    reset_typed c.args.run.now c.requires.run c.requires.part.0 c.args.part.now c.requires.part.1 c.as_slice-path.result.now c.as_slice-path.ensures c.args.here.0.now c.requires.register

pub returns : goal.returns
returns c =
    let run = c.args.run.now in
    let moment = c.args.moment.now in
    let part = c.args.part.now in
    let register = c.args.here.0.now in
    let leaf = c.args.here.1.now in
    let way = c.in_ok-key.ensures.way ∙ c.as_slice.ensures in
    IfOk-weaker c.next_of_register.result _ _
    (λ v h x is.
    h x.c c.requires.register.clock (sym (c.in_ok-key.ensures.component ∙ name_is (design_in run) x part is)) (sym (c.requires.register.block ∙ block_is (design_in run) x part is))
    ∙ next_there run c.requires.run x part is (state_at run moment) (values_at run moment) register c.requires.register _ _ leaf.path _
    (scene_there run c.requires.run x part is c.as_slice-path.result.now c.as_slice-path.ensures moment.values.now) way
    (ap integer_of c.unwrap_or.ensures
    ∙ (or_nothing c.value_on-held.result c.nothing.result c.nothing.ensures
    ∙ (ap integer_or_zero c.value_on-held.ensures
    ∙ held_there run c.requires.run x part is c.as_slice-registers.result.now moment.held.now.registers c.as_slice-path.result.now _ leaf.path c.as_slice-registers.ensures c.as_slice-path.ensures (ap (map step_of) c.as_slice-2.ensures.value ∙ way)))))
    c.next_of_register.ensures
