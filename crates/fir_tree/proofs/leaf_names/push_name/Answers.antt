use Rattle.std.proofs.Common.{ap, sym, ◌∙◌, arith}
use Rattle.std.specs.Option.{option_copied}
use Rattle.std.proofs.lemmas.Grind.{common_steps}
use Rattle.fir_tree.proofs.Texts.{no_text}
use Rattle.fir_tree.proofs.leaf_names.push_name.Goals as goal

pub returns-in_default : goal.returns-in_default
returns-in_default c =
    let e = no_text c.args.names.now c.args.id (sym c.get.ensures ∙ ap option_copied c.in_default.is) in
    grind (arith, common_steps, e)
