-- What an accepted circuit keeps stands apart, its names are names of a text, and its items are sound.
use Rattle.std.proofs.Common.{ℕ, List, refl, sym, ap, subst}
use Rattle.std.specs.List.{All}
use Rattle.fir_layout.specs.Layout.{tokens_in}
use Rattle.fir_tree.specs.declared.circuit.Circuit.{Circuit}
use Rattle.fir_tree.specs.declared.scope.Fitted.{Fitted}
use Rattle.fir_meaning.specs.Components.{design_of}
use Rattle.fitted_laws.proofs.Apart.{elements_apart}
use Rattle.name_laws.specs.Names.{IsName}
use Rattle.name_laws.proofs.Tokens.{tokens_are_in}
use Rattle.name_laws.proofs.Spelled.{spelled_words, fields_are_words}
use Rattle.name_laws.proofs.Items.{circuit_names}
use Rattle.circuit_texts.specs.Apart.{KeepsApart}
use Rattle.circuit_texts.proofs.Accepted.{keeps_apart}
use Rattle.found_items.specs.Finding.{HasItems}
use Rattle.item_laws.proofs.Sound.{spelled_items}
use Rattle.sim_engine.specs.Stages.{IsAccepted}
use Rattle.sim_engine.proofs.Accepting.{accepted_circuit, fitted_well_formed}

pub accepted_apart : (text : List ℕ) (fitted : Fitted) → IsAccepted text fitted → KeepsApart (design_of fitted)
accepted_apart text fitted a =
    let fits = a.clocked.driven.fits in
    keeps_apart fitted (fitted_well_formed text fitted fits)
    (λ path m c memory j k x y at found sort none. elements_apart fitted (accepted_circuit text fitted fits) path m c memory j k x y at found sort)

pub accepted_names : (text : List ℕ) (fitted : Fitted) → IsAccepted text fitted → All IsName fitted.checked.resolved.names
accepted_names text fitted a =
    let typed = a.clocked.driven.fits.widthed.sized.typed in
    let parsed = typed.named.parsed in
    let is = parsed.spelled in
    subst (All IsName) (sym (ap (λ (c : Circuit). c.names) typed.resolved.is)) (circuit_names fitted.checked.circuit is.lines is.names is.is
    (spelled_words is.major text refl is.spelled.spelled (tokens_are_in text (tokens_in parsed.list) parsed.laid.lexed.tokens_are) fields_are_words).1)

pub accepted_items : (text : List ℕ) (fitted : Fitted) → IsAccepted text fitted → HasItems fitted.checked.resolved.names (design_of fitted) fitted.checked.resolved.prints
accepted_items text fitted a =
    let fits = a.clocked.driven.fits in
    let typed = fits.widthed.sized.typed in
    let parsed = typed.named.parsed in
    spelled_items text parsed.list fitted.checked.circuit fitted fits.types.widths parsed.spelled typed.resolved (fitted_well_formed text fitted fits) fits.types.fitted_is
