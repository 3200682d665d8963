use Rattle.std.proofs.Common.{◌≡◌, ap, ◌∙◌, sym, min}
use Rattle.std.specs.Option.{unwrap_or}
use Rattle.bit_words.specs.Numbers.{integer_of_number}
use Rattle.width_rules.specs.Sources.{literal_bits}
use Rattle.width_rules.proofs.Literals.{least_told}
use Rattle.width_rules.proofs.measuring.width_of.Goals as goal

pub returns-in-None : goal.returns-in-None
returns-in-None c =
    let is : c.min.result ≡ min (unwrap_or c.least_width.result 129) 129 = c.min.ensures ∙ ap (λ n. min n 129) c.unwrap_or.ensures in
    least_told c.args.kind (integer_of_number c.args.number) c.least_width.result c.min.result c.least_width.ensures.some c.least_width.ensures.none is
    ∙ sym (ap (literal_bits c.args.kind (integer_of_number c.args.number)) c.in-None.is)
