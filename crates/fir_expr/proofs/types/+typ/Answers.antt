use Rattle.std.proofs.Common.{[], ◌∷◌, arith}
use Rattle.std.proofs.lemmas.Result.{err_from_is_err_and}
use Rattle.fir_grammar.specs.Grammar.{A, Type_of, colon, Its_name}
use Rattle.fir_grammar.specs.Reading.{no_memory}
use Rattle.token_reader.proofs.Sources.{source_part}
use Rattle.token_reader.proofs.Composition.{refused_first}
use Rattle.token_reader.proofs.Depth.{whole_stands}
use Rattle.fir_expr.proofs.Passing.{room_step}
use Rattle.fir_expr.proofs.TypeNames.{into_bundle, begins_so}
use Rattle.fir_expr.proofs.TypeLengths.{type_no_base, type_no_lengths, type_read}
use Rattle.fir_expr.proofs.TypeFields.{no_fields, more_fields, field_refused, close_refused, all_fields, bundle_not_opened, bundle_stands, bundle_no_fields, bundle_read, bundle_begins}
use Rattle.fir_expr.proofs.TypeFlips.{field_stands, field_room, field_read, field_fails, called_no_colon, called_room, called_begins, called_no_type, called_read}
use Rattle.fir_expr.proofs.types.+typ.Goals as goal

pub typ-returns-in_err-base : goal.typ-returns-in_err-base
typ-returns-in_err-base t c = let p = err_from_is_err_and c.from_residual.result c.from_residual.ensures.1 in rw (p.1, p.2) (type_no_base c.in_err-base.ensures.read)

pub typ-returns-in_err-read : goal.typ-returns-in_err-read
typ-returns-in_err-read t c = let p = err_from_is_err_and c.from_residual-in_err-read.result c.from_residual-in_err-read.ensures.1 in rw (p.1, p.2) (type_no_lengths c.in_ok-base.ensures.read c.in_err-read.ensures.err)

pub typ-returns : goal.typ-returns
typ-returns t c = type_read c.in_ok-base.ensures.read c.in_ok-read.ensures.ok

pub base_type-returns-in_err-part-clause-read : goal.base_type-returns-in_err-part-clause-read
base_type-returns-in_err-part-clause-read t c = let p = err_from_is_err_and c.from_residual.result c.from_residual.ensures.1 in rw (p.1, p.2, c.in_err-part.ensures.err) no_memory

pub base_type-is_word-requires : goal.base_type-is_word-requires
base_type-is_word-requires t c = source_part c.args.from.now.text.now c.args.from.now.laid.now c.args.at c.in_ok-part.part c.requires.source c.in_ok-part.ensures.ok

pub base_type-is_word-requires-2 : goal.base_type-is_word-requires-2
base_type-is_word-requires-2 t c = source_part c.args.from.now.text.now c.args.from.now.laid.now c.args.at c.in_ok-part.part c.requires.source c.in_ok-part.ensures.ok

pub base_type-is_word-requires-3 : goal.base_type-is_word-requires-3
base_type-is_word-requires-3 t c = source_part c.args.from.now.text.now c.args.from.now.laid.now c.args.at c.in_ok-part.part c.requires.source c.in_ok-part.ensures.ok

pub base_type-is_word-requires-4 : goal.base_type-is_word-requires-4
base_type-is_word-requires-4 t c = source_part c.args.from.now.text.now c.args.from.now.laid.now c.args.at c.in_ok-part.part c.requires.source c.in_ok-part.ensures.ok

pub base_type-returns-then-is_word-clause-begins : goal.base_type-returns-then-is_word-clause-begins
base_type-returns-then-is_word-clause-begins t c = begins_so c.integer_type.result c.requires.begins c.integer_type.ensures.begins

pub base_type-returns-then-is_word-2-clause-begins : goal.base_type-returns-then-is_word-2-clause-begins
base_type-returns-then-is_word-2-clause-begins t c = begins_so c.integer_type-then-is_word-2.result c.requires.begins c.integer_type-then-is_word-2.ensures.begins

pub base_type-returns-then-is_word-3-clause-begins : goal.base_type-returns-then-is_word-3-clause-begins
base_type-returns-then-is_word-3-clause-begins t c = begins_so c.bare_type.result c.requires.begins c.bare_type.ensures.begins

pub base_type-returns-then-is_word-4-clause-begins : goal.base_type-returns-then-is_word-4-clause-begins
base_type-returns-then-is_word-4-clause-begins t c = begins_so c.bare_type-then-is_word-4.result c.requires.begins c.bare_type-then-is_word-4.ensures.begins

pub base_type-bundle-requires : goal.base_type-bundle-requires
base_type-bundle-requires t c = (
  omega arith,
  (
    c.requires.source,
    (
      c.requires.room,
      (
        c.requires.begins,
        into_bundle c.args.from.now.text.now c.args.from.now.laid.now c.args.at c.in_ok-part.part c.in_ok-part.ensures.ok
            (λ u. let e = c.is_word.ensures.1 u in let n = c.if-is_word.false in cc) (λ u. let e = c.is_word-2.ensures.1 u in let n = c.if-is_word-2.false in cc)
            (λ u. let e = c.is_word-3.ensures.1 u in let n = c.if-is_word-3.false in cc) (λ u. let e = c.is_word-4.ensures.1 u in let n = c.if-is_word-4.false in cc),
      ),
    ),
  ),
)

pub bundle-returns-in_err-part-clause-read : goal.bundle-returns-in_err-part-clause-read
bundle-returns-in_err-part-clause-read t c = let p = err_from_is_err_and c.from_residual.result c.from_residual.ensures.1 in rw (p.1, p.2) (bundle_not_opened c.requires.into c.in_err-part.ensures.taken)

pub bundle-place_of_part-place-requires-clause-inside : goal.bundle-place_of_part-place-requires-clause-inside
bundle-place_of_part-place-requires-clause-inside t c = source_part c.args.from.now.text.now c.args.from.now.laid.now c.args.at c.in_ok-part.part c.requires.source c.in_ok-part.ensures.taken.here

pub bundle-fields-requires : goal.bundle-fields-requires
bundle-fields-requires t c =
    let step = room_step c.args.names.now c.args.from.now.laid.now c.args.at c.in_ok-part.part c.in_ok-part.ensures.taken.here in
    (omega (arith, c.in_ok-part.ensures.few), (c.requires.source, (omega (arith, step, c.requires.room), (bundle_stands c.requires.begins c.requires.into c.in_ok-part.ensures.taken c.in_ok-part.ensures.few, omega (arith, c.in_ok-part.ensures.within)))))

pub bundle-returns-in_err-fields-clause-read : goal.bundle-returns-in_err-fields-clause-read
bundle-returns-in_err-fields-clause-read t c =
    let p = err_from_is_err_and c.from_residual-in_err-fields.result c.from_residual-in_err-fields.ensures.1 in
    rw (p.1, p.2) (bundle_no_fields c.requires.begins c.requires.into c.in_ok-part.ensures.taken c.in_err-fields.ensures.err)

pub bundle-returns-in_err-new-clause-read : goal.bundle-returns-in_err-new-clause-read
bundle-returns-in_err-new-clause-read t c = let p = err_from_is_err_and c.from_residual-in_err-new.result c.from_residual-in_err-new.ensures.1 in rw (p.1, p.2) no_memory

pub bundle-returns-clause-read : goal.bundle-returns-clause-read
bundle-returns-clause-read t c = rw (c.place_of_part-place.ensures, c.in_ok-new.ensures) (bundle_read c.requires.begins c.requires.into c.in_ok-part.ensures.taken c.in_ok-fields.ensures.ok)

pub bundle-returns-clause-begins : goal.bundle-returns-clause-begins
bundle-returns-clause-begins t c = bundle_begins c.requires.begins c.requires.into c.in_ok-part.ensures.taken c.in_ok-fields.ensures.ok

pub field-returns-in_err-flip-clause-read : goal.field-returns-in_err-flip-clause-read
field-returns-in_err-flip-clause-read t c = let p = err_from_is_err_and c.from_residual.result c.from_residual.ensures.1 in rw (p.1, p.2, c.in_err-flip.ensures.err) no_memory

pub field-named_type-requires : goal.field-named_type-requires
field-named_type-requires t c =
    let room = field_room c.args.from.now.text.now c.args.from.now.laid.now c.args.at c.in_ok-flip.named c.args.brackets c.requires.stands c.args.names.now c.in_ok-flip.flip c.in_ok-flip.ensures.ok in
    (omega arith, (c.requires.source, (omega (arith, room, c.requires.room), field_stands c.args.from.now.text.now c.args.from.now.laid.now c.args.at c.in_ok-flip.named c.args.brackets c.requires.stands c.in_ok-flip.flip c.in_ok-flip.ensures.ok)))

pub field-returns-in_err-name-clause-read : goal.field-returns-in_err-name-clause-read
field-returns-in_err-name-clause-read t c =
    let p = err_from_is_err_and c.from_residual-in_err-name.result c.from_residual-in_err-name.ensures.1 in
    rw (p.1, p.2) (field_fails c.args.from.now.text.now c.args.from.now.laid.now c.args.at c.in_ok-flip.named c.args.brackets c.requires.stands c.in_ok-flip.flip c.in_ok-flip.ensures.ok c.in_err-name.ensures.err)

pub field-returns-clause-read : goal.field-returns-clause-read
field-returns-clause-read t c = field_read c.args.from.now.text.now c.args.from.now.laid.now c.args.at c.in_ok-flip.named c.args.brackets c.requires.stands c.in_ok-flip.flip c.in_ok-flip.ensures.ok c.in_ok-name.ensures.ok

pub fields-loop-fields-init : goal.fields-loop-fields-init
fields-loop-fields-init t c = rw c.new-fields.ensures (no_fields c.args.names.now c.requires.stands c.requires.within)

pub fields-returns-in_err-part_at-clause-err : goal.fields-returns-in_err-part_at-clause-err
fields-returns-in_err-part_at-clause-err t c = let p = err_from_is_err_and c.from_residual.result c.from_residual.ensures.1 in rw (p.1, p.2, c.in_err-part_at.ensures.err) no_memory

pub fields-field-requires : goal.fields-field-requires
fields-field-requires t c = (omega arith, (c.requires.source, (omega (arith, c.loop-fields.invariant.room, c.requires.room), whole_stands c.loop-fields.invariant.whole c.requires.stands)))

pub fields-returns-in_err-field-clause-err : goal.fields-returns-in_err-field-clause-err
fields-returns-in_err-field-clause-err t c =
    let p = err_from_is_err_and c.from_residual-in_err-field.result c.from_residual-in_err-field.ensures.1 in
    rw (p.1, p.2) (field_refused c.loop-fields.invariant c.in_ok-part_at.ensures.ok (λ u. let e = (c.is_mark.ensures c.args.from.now.text.now).1 u in let n = c.if-not-is_mark.true in cc) c.in_err-field.ensures.read)

pub fields-returns-in_err-push-clause-err : goal.fields-returns-in_err-push-clause-err
fields-returns-in_err-push-clause-err t c = let p = err_from_is_err_and c.from_residual-in_err-push.result c.from_residual-in_err-push.ensures.1 in rw (p.1, p.2) no_memory

pub fields-loop-fields-smaller : goal.fields-loop-fields-smaller
fields-loop-fields-smaller t c = omega (arith, c.in_ok-field.ensures.further, c.in_ok-part_at.ensures.within)

pub fields-loop-fields-preserved : goal.fields-loop-fields-preserved
fields-loop-fields-preserved t c = rw c.in_ok-push.ensures.ok
    (more_fields c.loop-fields.invariant c.in_ok-part_at.ensures.ok (λ u. let e = (c.is_mark.ensures c.args.from.now.text.now).1 u in let n = c.if-not-is_mark.true in cc) c.in_ok-field.ensures.read)

pub fields-returns-in_err-take_mark-clause-err : goal.fields-returns-in_err-take_mark-clause-err
fields-returns-in_err-take_mark-clause-err t c =
    let p = err_from_is_err_and c.from_residual-in_err-take_mark.result c.from_residual-in_err-take_mark.ensures.1 in
    rw (p.1, p.2) (close_refused c.loop-fields.invariant c.in_ok-part_at.ensures.ok ((c.is_mark.ensures c.args.from.now.text.now).0 c.if-not-is_mark.false) c.in_err-take_mark.ensures.taken)

pub fields-returns-clause-ok : goal.fields-returns-clause-ok
fields-returns-clause-ok t c = all_fields c.loop-fields.invariant c.in_ok-take_mark.ensures.taken.here c.in_ok-take_mark.ensures.taken

pub named_type-returns-in_err-name-clause-err : goal.named_type-returns-in_err-name-clause-err
named_type-returns-in_err-name-clause-err t c =
    let p = err_from_is_err_and c.from_residual.result c.from_residual.ensures.1 in
    rw (p.1, p.2) (refused_first (colon ∷ A Type_of ∷ []) (c.in_err-name.ensures.err.refused Its_name))

pub named_type-returns-in_err-take_mark-clause-err : goal.named_type-returns-in_err-take_mark-clause-err
named_type-returns-in_err-take_mark-clause-err t c =
    let p = err_from_is_err_and c.from_residual-in_err-take_mark.result c.from_residual-in_err-take_mark.ensures.1 in
    rw (p.1, p.2) (called_no_colon c.requires.stands c.in_ok-name.ensures.ok c.in_err-take_mark.ensures.taken)

pub named_type-typ-requires : goal.named_type-typ-requires
named_type-typ-requires t c =
    let room = called_room c.requires.stands c.in_ok-name.ensures.ok c.in_ok-take_mark.ensures.taken in
    (omega arith, (c.requires.source, (omega (arith, room, c.requires.room), called_begins c.requires.stands c.in_ok-name.ensures.ok c.in_ok-take_mark.ensures.taken)))

pub named_type-returns-in_err-typ-clause-err : goal.named_type-returns-in_err-typ-clause-err
named_type-returns-in_err-typ-clause-err t c =
    let p = err_from_is_err_and c.from_residual-in_err-typ.result c.from_residual-in_err-typ.ensures.1 in
    rw (p.1, p.2) (called_no_type c.requires.stands c.in_ok-name.ensures.ok c.in_ok-take_mark.ensures.taken c.in_err-typ.ensures)

pub named_type-returns-clause-ok : goal.named_type-returns-clause-ok
named_type-returns-clause-ok t c = called_read c.requires.stands c.in_ok-name.ensures.ok c.in_ok-take_mark.ensures.taken c.in_ok-typ.ensures
