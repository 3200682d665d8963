use Rattle.std.proofs.Common.{ap, ◌∙◌}
use Rattle.bit_words.specs.Values.{integer}
use Rattle.bit_words.proofs.Congruence.{fit_same}
use Rattle.bit_words.proofs.literal.value_from.Goals as goal

pub returns-clause-integer : goal.returns-clause-integer
returns-clause-integer c =
    ap (integer c.args.kind c.args.width) (c.cut.ensures ∙ c.complement.ensures c.args.width c.requires.narrow) ∙ fit_same c.args.kind c.args.width _ c.requires.fits
