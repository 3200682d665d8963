use Rattle.std.proofs.Common.{◌∙◌, sym, ap}
use Rattle.std.specs.Prelude.{Some}
use Rattle.std.specs.Option.{option_copied}
use Rattle.type_index.proofs.Parts.{place_found, place_placed}
use Rattle.type_index.proofs.known.place_in.Goals as goal

pub returns-in-Some-clause-position : goal.returns-in-Some-clause-position
returns-in-Some-clause-position c =
    place_found (option_copied c.args.among) c.get.result.now c.args.fields.now c.args.id c.place.result c.requires.among
    (ap option_copied c.in-Some.is ∙ ap Some (sym c.get.ensures)) c.place.ensures

pub returns-in-Some-clause-before : goal.returns-in-Some-clause-before
returns-in-Some-clause-before c =
    place_placed (option_copied c.args.among) c.get.result.now c.args.fields.now c.args.id c.place.result c.requires.among
    (ap option_copied c.in-Some.is ∙ ap Some (sym c.get.ensures)) c.place.ensures
