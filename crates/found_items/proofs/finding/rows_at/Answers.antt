use Rattle.std.proofs.Common.{rules, ◌≡◌, ◌∙◌, ◌<◌, ℕ, ap, sym, subst, get_or, slice_get, length, map, slice_index_or, Some, true, List}
use Rattle.std.specs.List.{AllZip}
use Rattle.fir_tree.specs.declared.circuit.Circuit.{Circuit}
use Rattle.fir_tree.specs.declared.circuit.Module.{Module}
use Rattle.lower_aggregates.specs.declared.pieces.Piece.{Piece}
use Rattle.lower_aggregates.specs.Parts.{Part}
use Rattle.lower_aggregates.specs.Held.{held_sort, held_part}
use Rattle.lower_aggregates.specs.Instances.{IsMade}
use Rattle.lower_aggregates.proofs.Circuits.{lowerable, one_lowerable, enough, placed_means}
use Rattle.lower_aggregates.proofs.Assembling.{pieces_made}
use Rattle.found_items.specs.PieceRows.{IsRowOf}
use Rattle.found_items.proofs.Rows.{rows_are}
use Rattle.found_items.proofs.finding.rows_at.Goals as goal

pub pieces_of-requires : goal.pieces_of-requires
pieces_of-requires c =
    enough c.args.fitted.now c.args.number c.index-as_slice-number.result c.args.types.now c.requires.within
    (c.index-as_slice-number.is ∙ ap (λ (l : List Module). get_or l c.args.number c.index-as_slice-number.result) (c.as_slice-2.ensures ∙ ap (λ (x : Circuit). x.modules) c.get.ensures)) c.requires.stands
    (c.pieces_are_components.ensures.counted c.index-as_slice-number.result)

pub rows_of_pieces-requires : goal.rows_of_pieces-requires
rows_of_pieces-requires c =
    let flag : c.is_reached.result ≡ true = search rules in
    let fitted = c.args.fitted.now in
    let reached : slice_get fitted.checked.scope.reached c.args.number ≡ Some true = subst (λ l. slice_get l c.args.number ≡ Some true) c.as_slice.ensures (c.is_reached.ensures.0 flag) in
    let is : c.index-as_slice-number.result ≡ get_or fitted.checked.resolved.modules c.args.number c.index-as_slice-number.result =
    c.index-as_slice-number.is ∙ ap (λ (l : List Module). get_or l c.args.number c.index-as_slice-number.result) (c.as_slice-2.ensures ∙ ap (λ (x : Circuit). x.modules) c.get.ensures) in
    let one = one_lowerable c.reached_modules_stand_at_paths.ensures.reached c.modules_are_named.ensures.numbered fitted c.requires.formed c.args.numbers.now.entries c.requires.placed c.args.number
    c.index-as_slice-number.result c.args.types.now c.requires.within is c.requires.stands reached in
    subst (λ (ps : List Piece). (k : ℕ) (d : Piece) → k < length ps → IsMade c.args.numbers.now.entries (held_sort (slice_index_or ps k d).sort)) (sym c.as_slice-3.ensures.value)
    (pieces_made fitted.checked.resolved fitted.checked.scope c.args.numbers.now.entries c.index-as_slice-number.result c.args.types.now one.0 one.1 c.in_ok-pieces.pieces.items c.in_ok-pieces.ensures)

pub returns : goal.returns
returns c = λ m e reached.
    let fitted = c.args.fitted.now in
    let is : c.index-as_slice-number.result ≡ get_or fitted.checked.resolved.modules c.args.number c.index-as_slice-number.result =
    c.index-as_slice-number.is ∙ ap (λ (l : List Module). get_or l c.args.number c.index-as_slice-number.result) (c.as_slice-2.ensures ∙ ap (λ (x : Circuit). x.modules) c.get.ensures) in
    let low = lowerable c.reached_modules_stand_at_paths.ensures.reached c.modules_are_named.ensures.numbered fitted c.requires.formed c.args.numbers.now.entries c.requires.placed c.args.number
    c.index-as_slice-number.result c.args.types.now c.requires.within is c.requires.stands reached m e in
    let pieces = c.in_ok-pieces.pieces.items in
    let are = c.pieces_are_components.ensures.pieces c.index-as_slice-number.result c.args.types.now m pieces low.components c.in_ok-pieces.ensures in
    let zip : AllZip (IsRowOf c.args.numbers.now.entries) (map held_part pieces) c.in_ok-rows.rows = subst (λ ps. AllZip (IsRowOf c.args.numbers.now.entries) (map held_part ps) c.in_ok-rows.rows) c.as_slice-3.ensures.value c.in_ok-rows.ensures in
    rows_are fitted.checked.resolved c.args.numbers.now.entries (placed_means fitted.checked.resolved c.args.numbers.now.entries c.requires.placed) 0 m.components c.in_ok-rows.rows
    (subst (λ (ps : List Part). AllZip (IsRowOf c.args.numbers.now.entries) ps c.in_ok-rows.rows) are zip)
