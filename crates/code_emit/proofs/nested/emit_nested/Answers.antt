use Rattle.std.proofs.Common.{◌≡◌, [], ◌∷◌, ◌++◌, Ok, All, subst, ap, ◌∙◌}
use Rattle.std.specs.Prelude.{IfOk, IfSome}
use Rattle.ground_net.specs.Shapes.{shape_of_row}
use Rattle.flat_code.specs.Meaning.{location_shape}
use Rattle.flat_code.specs.Fine.{location_shapes, location_slots, slots_of}
use Rattle.code_draft.specs.declared.draft.Draft.{Draft}
use Rattle.code_draft.specs.Drafts.{IsDraft, Stands, Makes}
use Rattle.code_draft.specs.Segments.{Step}
use Rattle.code_emit.specs.Ways.{IsMade, row_value}
use Rattle.code_emit.specs.Nested.{nested_value}
use Rattle.code_emit.specs.Spans.{Follows}
use Rattle.code_emit.proofs.Shaped.{ok_so}
use Rattle.code_emit.proofs.Nesting.{some_inner, both_make}
use Rattle.code_emit.proofs.Following.{row_some, step_follows, follows_then}
use Rattle.code_emit.proofs.nested.emit_nested.Goals as goal

pub returns-in-Some-clause-follows : goal.returns-in-Some-clause-follows
returns-in-Some-clause-follows c =
    let d = c.args.draft.now in
    let e = c.lowest.new.draft in
    let ss = c.args.locations in
    let s = c.in-Some.location in
    let qs = c.args.inner.params.now in
    let row = some_inner (λ t. shape_of_row c.args.outer.prim c.args.outer.params.now (t ∷ [])) (shape_of_row c.args.inner.prim qs (location_shapes ss)) c.requires in
    let st = subst (λ o. IfSome o (λ t. Step d e (slots_of c.as_slice.result.now) (location_slots t) 2)) c.in-Some.is c.in_ok-location.ensures.step in
    step_follows ss d e s (row_some c.args.inner.prim qs ss row) (subst (λ ts. Step d e (slots_of ts) (location_slots s) 2) c.as_slice.ensures st)

pub emit_operation-requires : goal.emit_operation-requires
emit_operation-requires c =
    some_inner (λ s. shape_of_row c.args.outer.prim c.args.outer.params.now (s ∷ [])) (shape_of_row c.args.inner.prim c.args.inner.params.now (location_shapes c.args.locations)) c.requires

pub returns-clause-makes : goal.returns-clause-makes
returns-clause-makes c =
    let p = c.args.inner.prim in
    let qs = c.args.inner.params.now in
    let o = c.args.outer.prim in
    let ps = c.args.outer.params.now in
    let ss = c.args.locations in
    let d = c.lowest.new.draft in
    let e = c.emit_operation.new.draft in
    let f = c.emit_operation-2.new.draft in
    let m = c.in_ok-between.between in
    let one : c.push.new.self ≡ m ∷ [] = c.in_ok-push.ensures.ok ∙ ap (λ xs. xs ++ m ∷ []) c.new-one.ensures in
    let same : d ≡ c.args.draft.now = c.lowest.ensures.none (c.in_ok-location.was ∙ ap Ok c.in_default.is) in
    subst (λ (x : Draft). IfOk c.emit_operation-2.result (λ s. IsDraft x → All (Stands x) ss → Makes x f s (IsMade (nested_value p qs o ps) ss (location_shape s)))) same
    (ok_so c.emit_operation-2.result c.emit_operation-2.ensures.makes (λ s next.
    both_make p qs o ps d e f ss m s c.in_ok-between.ensures.makes
    (subst (λ xs. IsDraft e → All (Stands e) xs → Makes e f s (IsMade (row_value o ps) xs (location_shape s))) one next) c.in_ok-between.ensures.shape))

pub returns-clause-follows : goal.returns-clause-follows
returns-clause-follows c =
    let qs = c.args.inner.params.now in
    let ss = c.args.locations in
    let d = c.lowest.new.draft in
    let e = c.emit_operation.new.draft in
    let f = c.emit_operation-2.new.draft in
    let m = c.in_ok-between.between in
    let one : c.push.new.self ≡ m ∷ [] = c.in_ok-push.ensures.ok ∙ ap (λ xs. xs ++ m ∷ []) c.new-one.ensures in
    let row = some_inner (λ s. shape_of_row c.args.outer.prim c.args.outer.params.now (s ∷ [])) (shape_of_row c.args.inner.prim qs (location_shapes ss)) c.requires in
    let same : d ≡ c.args.draft.now = c.lowest.ensures.none (c.in_ok-location.was ∙ ap Ok c.in_default.is) in
    subst (λ (x : Draft). IfOk c.emit_operation-2.result (λ s. Follows ss x f s)) same
    (ok_so c.emit_operation-2.result c.emit_operation-2.ensures.follows (λ s next.
    follows_then ss d e f m s (row_some c.args.inner.prim qs ss row) c.in_ok-between.ensures.follows (subst (λ xs. Follows xs e f s) one next)))
