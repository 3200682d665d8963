use Rattle.std.proofs.Common.{ℕ, ◌<◌, List, length, map, slice_index_or, sym, ap, ◌∙◌, subst}
use Rattle.std.specs.List.{flat_map, sum_by}
use Rattle.fir_meaning.specs.WellTyped.{are_typed}
use Rattle.ground_exprs.specs.Sources.{known_of}
use Rattle.lower_aggregates.specs.declared.pieces.Piece.{Piece}
use Rattle.lower_aggregates.specs.Held.{held_sort, held_part}
use Rattle.lower_aggregates.specs.Tables.{piece_rows, flags_of_piece, port_size}
use Rattle.lower_aggregates.specs.Views.{KnowsPieces}
use Rattle.ground_statements.specs.Bodies.{IsBody}
use Rattle.lower_aggregates.specs.Registers.{AreRegisters, IsTypedSort}
use Rattle.lower_aggregates.specs.Memories.{memories_in}
use Rattle.lower_aggregates.specs.Instances.{IsMade, instances_from}
use Rattle.lower_aggregates.proofs.Assembling.{pieces_made, narrow, body_typed, pieces_typed, is_module}
use Rattle.lower_aggregates.proofs.modules.lower_module.Goals as goal

pub lower_body-requires-clause-narrow : goal.lower_body-requires-clause-narrow
lower_body-requires-clause-narrow c =
    let s = c.requires.stands in
    narrow s.0 s.1 c.args.numbers.now.entries c.args.holder.now c.args.types.now s.2 s.3 c.in_ok-pieces.pieces.items c.in_ok-pieces.ensures c.in_ok-known.known.entries
    (subst (λ ps. KnowsPieces ps c.in_ok-known.known.entries) c.as_slice.ensures.value c.in_ok-known.ensures) c.in_ok-settable.settable.items
    (c.in_ok-settable.ensures ∙ ap (flat_map flags_of_piece) c.as_slice-2.ensures.value)

pub lower_body-requires-clause-typed : goal.lower_body-requires-clause-typed
lower_body-requires-clause-typed c =
    let s = c.requires.stands in
    ap (are_typed (known_of c.in_ok-known.known.entries)) c.as_slice-5.ensures
    ∙ body_typed s.0 s.1 c.args.numbers.now.entries c.args.holder.now c.args.types.now s.2 s.3 c.in_ok-pieces.pieces.items c.in_ok-pieces.ensures c.in_ok-known.known.entries
    (subst (λ ps. KnowsPieces ps c.in_ok-known.known.entries) c.as_slice.ensures.value c.in_ok-known.ensures) c.in_ok-settable.settable.items
    (c.in_ok-settable.ensures ∙ ap (flat_map flags_of_piece) c.as_slice-2.ensures.value)

pub registers_of-requires-clause-narrow : goal.registers_of-requires-clause-narrow
registers_of-requires-clause-narrow c =
    let s = c.requires.stands in
    narrow s.0 s.1 c.args.numbers.now.entries c.args.holder.now c.args.types.now s.2 s.3 c.in_ok-pieces.pieces.items c.in_ok-pieces.ensures c.in_ok-known.known.entries
    (subst (λ ps. KnowsPieces ps c.in_ok-known.known.entries) c.as_slice.ensures.value c.in_ok-known.ensures) c.in_ok-settable.settable.items
    (c.in_ok-settable.ensures ∙ ap (flat_map flags_of_piece) c.as_slice-2.ensures.value)

pub registers_of-requires-clause-typed : goal.registers_of-requires-clause-typed
registers_of-requires-clause-typed c =
    let s = c.requires.stands in
    subst (λ (ps : List Piece). (k : ℕ) (d : Piece) → k < length ps → IsTypedSort c.in_ok-known.known.entries (held_sort (slice_index_or ps k d).sort)) (sym c.as_slice-7.ensures.value)
    (pieces_typed s.0 s.1 c.args.numbers.now.entries c.args.holder.now c.args.types.now s.2 s.3 c.in_ok-pieces.pieces.items c.in_ok-pieces.ensures c.in_ok-known.known.entries
    (subst (λ ps. KnowsPieces ps c.in_ok-known.known.entries) c.as_slice.ensures.value c.in_ok-known.ensures) c.in_ok-settable.settable.items
    (c.in_ok-settable.ensures ∙ ap (flat_map flags_of_piece) c.as_slice-2.ensures.value))

pub instances_of-requires : goal.instances_of-requires
instances_of-requires c =
    let s = c.requires.stands in
    subst (λ (ps : List Piece). (k : ℕ) (d : Piece) → k < length ps → IsMade c.args.numbers.now.entries (held_sort (slice_index_or ps k d).sort)) (sym c.as_slice-9.ensures.value)
    (pieces_made s.0 s.1 c.args.numbers.now.entries c.args.holder.now c.args.types.now s.2 s.3 c.in_ok-pieces.pieces.items c.in_ok-pieces.ensures)

pub returns : goal.returns
returns c = λ circuit scope m low.
    is_module circuit scope c.args.numbers.now.entries c.args.holder.now c.args.types.now m low c.in_ok-pieces.pieces.items c.in_ok-pieces.ensures c.in_ok-known.known.entries
    (subst (λ ps. KnowsPieces ps c.in_ok-known.known.entries) c.as_slice.ensures.value c.in_ok-known.ensures) c.in_ok-settable.settable.items
    (c.in_ok-settable.ensures ∙ ap (flat_map flags_of_piece) c.as_slice-2.ensures.value)
    c.args.names.now c.in_ok-leaves.leaves (c.in_ok-leaves.ensures ∙ ap (flat_map (piece_rows c.args.names.now)) c.as_slice-6.ensures.value)
    c.in_ok-ports.ports c.in_ok-lowered.lowered.behind c.in_ok-lowered.lowered.body c.in_ok-registers.registers c.in_ok-memories.memories c.in_ok-instances.instances
    (c.in_ok-ports.ensures ∙ ap (sum_by port_size) c.as_slice-3.ensures.value)
    (subst (λ flags. IsBody c.in_ok-known.known.entries flags c.args.holder.now.body c.in_ok-ports.ports c.in_ok-lowered.lowered.behind c.in_ok-lowered.lowered.body) c.as_slice-4.ensures.value
    (subst (λ body. IsBody c.in_ok-known.known.entries c.as_slice-4.result.now body c.in_ok-ports.ports c.in_ok-lowered.lowered.behind c.in_ok-lowered.lowered.body) c.as_slice-5.ensures c.in_ok-lowered.ensures))
    (subst (λ ps. AreRegisters c.in_ok-known.known.entries (map held_part ps) c.in_ok-registers.registers) c.as_slice-7.ensures.value c.in_ok-registers.ensures)
    (c.in_ok-memories.ensures ∙ ap (λ ps. memories_in c.args.names.now (map held_part ps)) c.as_slice-8.ensures.value)
    (c.in_ok-instances.ensures ∙ ap (λ ps. instances_from c.args.names.now c.args.numbers.now.entries 0 (map held_part ps)) c.as_slice-9.ensures.value)
