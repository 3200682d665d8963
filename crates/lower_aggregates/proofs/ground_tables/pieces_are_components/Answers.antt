use Rattle.std.proofs.Common.{◌∙◌, ap, sym, length, zip}
use Rattle.std.proofs.lemmas.List.{length-map}
use Rattle.fir_meaning.specs.Components.{declarations_of}
use Rattle.lower_aggregates.specs.Headings.{heading_of}
use Rattle.lower_aggregates.specs.Parts.{parts_from, component_parts}
use Rattle.lower_aggregates.proofs.Listing.{headings_are}
use Rattle.lower_aggregates.proofs.Zipping.{parts_are}
use Rattle.lower_aggregates.proofs.ground_tables.pieces_are_components.Goals as goal

pub returns-clause-counted : goal.returns-clause-counted
returns-clause-counted c = λ holder. ap length (sym (headings_are holder)) ∙ length-map (declarations_of holder) heading_of

pub returns-clause-pieces : goal.returns-clause-pieces
returns-clause-pieces c = λ holder types m pieces e h.
    h ∙ ap (λ hs. parts_from 0 (zip hs types)) (sym (headings_are holder)) ∙ parts_are 0 (declarations_of holder) types ∙ ap (component_parts 0) (sym e)
