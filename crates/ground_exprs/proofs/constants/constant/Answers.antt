use Rattle.std.proofs.Common.{◌∙◌, ap}
use Rattle.bit_words.specs.Values.{bits_of}
use Rattle.bit_words.specs.Numbers.{integer_of_number}
use Rattle.prim_ops.specs.Values.{fitted}
use Rattle.prim_ops.proofs.Fittings.{same_value, min_small}
use Rattle.ground_exprs.proofs.constants.constant.Goals as goal

pub returns : goal.returns
returns c = same_value c.fit.result (fitted c.args.kind c.args.width (integer_of_number c.args.number)) c.fit.ensures.kind
    (c.fit.ensures.width ∙ min_small c.args.width c.requires)
    (c.fit.ensures.bits ∙ (c.low_bits-bits.ensures c.args.width c.requires ∙ ap (λ w. bits_of w (integer_of_number c.args.number)) (min_small c.args.width c.requires)))
