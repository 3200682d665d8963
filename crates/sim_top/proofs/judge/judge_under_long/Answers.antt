use Rattle.place_text.specs.Places.{first_place}
use Rattle.asked_texts.specs.declared.texts.WholeFault.TheVariants.{TooLong}
use Rattle.asked_texts.specs.Commands.{Run}
use Rattle.sim_top.specs.Endings.{of_circuit, of_whole_stimulus}
use Rattle.sim_top.proofs.Judging.{ran_long, refused_from}
use Rattle.sim_top.proofs.judge.judge_under_long.Goals as goal

pub returns-in_ok-refuse_long_stimulus-in-Ok-clause-judges : goal.returns-in_ok-refuse_long_stimulus-in-Ok-clause-judges
returns-in_ok-refuse_long_stimulus-in-Ok-clause-judges c = λ stimulus long.
    let told = c.in_ok-refuse_long_stimulus-in-Ok.ensures in
    ran_long _ stimulus _ _ _ c.in-Ok.ensures.built long told.0 told.1

pub returns-in_ok-refuse_long_stimulus-in-Ok-clause-line : goal.returns-in_ok-refuse_long_stimulus-in-Ok-clause-line
returns-in_ok-refuse_long_stimulus-in-Ok-clause-line c =
    let told = c.in_ok-refuse_long_stimulus-in-Ok.ensures in rw (told.0, told.1) (of_whole_stimulus TooLong first_place)

pub returns-in_ok-refuse-in-Err-clause-judges : goal.returns-in_ok-refuse-in-Err-clause-judges
returns-in_ok-refuse-in-Err-clause-judges c = λ stimulus long.
    let told = c.in_ok-refuse-in-Err.ensures in
    refused_from Run c.args.text.now stimulus _ told.1.0 _ _ c.in-Err.ensures.fault told.1.1 told.0 told.1.2

pub returns-in_ok-refuse-in-Err-clause-line : goal.returns-in_ok-refuse-in-Err-clause-line
returns-in_ok-refuse-in-Err-clause-line c = let told = c.in_ok-refuse-in-Err.ensures in rw (told.0, told.1.2) (of_circuit _ told.1.0)
