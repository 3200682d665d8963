use Rattle.std.proofs.Common.{◌∙◌}
use Rattle.size_check.proofs.Summing.{main_total}
use Rattle.size_check.proofs.rounds.measure.Goals as goal

pub returns : goal.returns
returns c =
    main_total c.args.circuit.now.names c.args.circuit.now.modules c.args.modules.now.all.now c.args.circuit.now.main.id c.found.result c.requires.all
    (c.found.ensures c.args.circuit.now.names 33 (c.as_slice-2.ensures.value ∙ c.in_ok-totals.ensures))
