use Rattle.std.proofs.Common.{map, refl, sym, ap, subst, ◌∙◌}
use Rattle.ground_net.specs.Watching.{AreValuesOf, inputs}
use Rattle.stimulus.specs.Rows.{zero_of}
use Rattle.circuit_run.proofs.Traces.{first_within}
use Rattle.circuit_texts.proofs.Firsts.{zeros_fit}
use Rattle.circuit_texts.proofs.starting.first_snapshot.Goals as goal

pub returns : goal.returns
returns c =
    let net = c.args.net.now in
    let row = c.in_ok-zeros.ensures ∙ ap (map zero_of) (c.as_slice.ensures ∙ c.requires.fed) in (
      refl,
      row,
      record { inputs = subst (AreValuesOf (inputs net)) (sym row) (zeros_fit (inputs net)); within = first_within net; words = c.in_ok-first_words.ensures },
    )
