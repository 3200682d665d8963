use Rattle.std.proofs.Common.{◌≡◌, ◌∙◌, ◌+◌, ap, sym, subst, map, take, List, [], ◌∷◌, ◌++◌}
use Rattle.std.proofs.lemmas.List.{take_more, map-append}
use Rattle.lower_aggregates.specs.declared.pieces.Piece.{Piece}
use Rattle.lower_aggregates.specs.Parts.{Part}
use Rattle.lower_aggregates.specs.Held.{held_part}
use Rattle.found_items.proofs.Lists.{zip_push}
use Rattle.found_items.specs.PieceRows.{IsRowOf, AreRowsOf}
use Rattle.found_items.proofs.finding.rows_of_pieces.Goals as goal

pub loop-piece-preserved : goal.loop-piece-preserved
loop-piece-preserved c =
    let numbers = c.args.numbers.now.entries in
    let pieces = c.args.pieces.now in
    let i = c.loop-piece.piece-index in
    let p : Piece = c.piece-item.result in
    let row = c.in_ok-row_of.field-0 in
    let one : IsRowOf numbers (held_part p) row = c.in_ok-row_of.ensures in
    let more : map held_part (take (i + 1) pieces) ≡ map held_part (take i pieces) ++ held_part p ∷ [] =
    ap (map held_part) (take_more pieces i p c.loop-piece-test.true ∙ ap (λ (q : Piece). take i pieces ++ q ∷ []) (sym c.piece-item.is)) ∙ map-append held_part (take i pieces) (p ∷ []) in
    subst (AreRowsOf numbers (map held_part (take (i + 1) pieces))) (sym c.in_ok-push.ensures.ok)
    (subst (λ (ps : List Part). AreRowsOf numbers ps (c.loop-piece.rows ++ row ∷ [])) (sym more) (zip_push (IsRowOf numbers) (map held_part (take i pieces)) c.loop-piece.rows (held_part p) row c.loop-piece.invariant one))
