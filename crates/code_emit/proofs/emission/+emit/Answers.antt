use Rattle.std.proofs.Common.{rules, ◌≡◌, Some, IsSome, true, [], ◌∷◌, ◌++◌, ◌+◌, take, option_map, refl, sym, subst, ap, ap₂, ◌∙◌}
use Rattle.std.proofs.lemmas.List.{take_more}
use Rattle.ground_net.specs.declared.ground.Ground.{the_lemmas}
use Rattle.ground_net.specs.declared.ground.Ground.TheVariants.{Op, Mux, Select, Indexed, Load, Fit, Const}
use Rattle.ground_net.specs.Shapes.{Shape, shaped, shape, shape_of_items, shape_of_load, is_index, all_of}
use Rattle.flat_code.specs.Meaning.{location_shape}
use Rattle.flat_code.specs.Fine.{location_shapes, shape_of_picked}
use Rattle.flat_code.specs.Fine.{shape_of_pick}
use Rattle.code_emit.proofs.Indexing.{indices_shaped, leaves_shaped, leaves_row, indices_long, pick_row, indexed_emits, indexed_spans}
use Rattle.code_emit.specs.Emits.{as_leaves, sources_table, AreShaped, EmitsAll, elements_shape, shapes_in}
use Rattle.code_emit.proofs.Shaped.{ok_so}
use Rattle.code_emit.proofs.Arms.{ok_both, location_shape_by, op_shaped, op_row, mux_shaped, mux_row, index_shaped, items_shaped, items_row, index_row, load_row, load_element, fit_shaped, fit_row, fit_is, picked_shape, one_ground, one_more_shape}
use Rattle.code_emit.proofs.Emitting.{none_emitted, const_emits, leaf_emits, op_emits, mux_emits, fit_emits, select_emits, load_emits, both_emitted, one_more_emitted}
use Rattle.code_emit.specs.Spans.{SpansAll}
use Rattle.code_emit.proofs.Spanning.{none_spans, fetched_spans, leaf_spans, load_spans, fit_spans, select_spans, both_span, one_more_spans}
use Rattle.code_emit.proofs.Leaves.{no_leaf, leaf_stands, leaf-Const, leaf-Op, leaf-Mux, leaf-Select, leaf-Load, leaf-Fit}
use Rattle.code_emit.proofs.Nesting.{nested_shaped, nested_row, nested_emits}
use Rattle.code_emit.proofs.Following.{mux_spans, op_spans, nested_spans}
use Rattle.code_draft.specs.Rows.{IsRow}
use Rattle.code_emit.proofs.Loading.{found, row_indices, row_counted, row_some, row_shape, row_emits, row_spans}
use Rattle.code_emit.proofs.emission.+emit.Goals as goal

pub emit-emit_all-requires : goal.emit-emit_all-requires
emit-emit_all-requires t c =
    let table = sources_table c.args.sources.now in
    let g = c.args.ground.now in
    let o = c.in-Op.prim in
    let ps = c.in-Op.params in
    let p = c.in-Some.inner.row.prim in
    let qs = c.in-Some.inner.row.params.now in
    let gs = c.in-Some.inner.operands.now in
    let e : g ≡ Op o (Op p gs qs ∷ []) ps = c.in-Op.is ∙ ap (λ os. Op o os ps) (sym c.as_slice.ensures ∙ c.in-Some.ensures) in (
      search (rules, the_lemmas, e),
      nested_shaped table g c.requires o ps p qs gs e,
    )

pub emit-emit_all-requires-in-None : goal.emit-emit_all-requires-in-None
emit-emit_all-requires-in-None t c =
    let table = sources_table c.args.sources.now in (
      search (rules, the_lemmas, c.in-Op.is),
      subst (AreShaped table) (sym c.as_slice-in-None.ensures) (op_shaped table c.args.ground.now c.requires c.in-Op.prim c.in-Op.operands c.in-Op.params c.in-Op.is),
    )

pub emit-emit_all-requires-in-Mux : goal.emit-emit_all-requires-in-Mux
emit-emit_all-requires-in-Mux t c =
    let table = sources_table c.args.sources.now in (
      search (rules, the_lemmas, c.in-Mux.is),
      subst (AreShaped table) (sym c.as_slice-in-Mux.ensures) (mux_shaped table c.args.ground.now c.requires c.in-Mux.items c.in-Mux.is),
    )

pub emit-emit_all-requires-in-Select : goal.emit-emit_all-requires-in-Select
emit-emit_all-requires-in-Select t c =
    let table = sources_table c.args.sources.now in (
      search (rules, the_lemmas, c.in-Select.is),
      subst (AreShaped table) (sym c.as_slice-in-Select.ensures) (index_shaped table c.args.ground.now c.requires c.in-Select.index c.in-Select.items c.in-Select.is),
    )

pub emit-emit_all-requires-in-Select-2 : goal.emit-emit_all-requires-in-Select-2
emit-emit_all-requires-in-Select-2 t c =
    let table = sources_table c.args.sources.now in (
      search (rules, the_lemmas, c.in-Select.is),
      subst (AreShaped table) (sym c.as_slice-in-Select-2.ensures) (items_shaped table c.args.ground.now c.requires c.in-Select.index c.in-Select.items c.in-Select.is),
    )

pub emit-items_measure-measure-requires : goal.emit-items_measure-measure-requires
emit-items_measure-measure-requires t c =
    let table = sources_table c.args.sources.now in
    let g = c.args.ground.now in
    let is = c.as_slice-in-Select.result.now in
    let gs = c.as_slice-in-Select-2.result.now in
    let e : g ≡ Select is gs = c.in-Select.is ∙ ap₂ (λ os qs. Select os qs) (sym c.as_slice-in-Select.ensures) (sym c.as_slice-in-Select-2.ensures) in
    subst (λ ss. IsSome (shape_of_items (location_shapes ss))) (sym c.as_slice-in-Select-3.ensures)
    (subst (λ o. IsSome o) (sym (items_row table g c.requires is gs c.in_ok-back-in-Select.back e c.in_ok-back-in-Select.ensures.shapes)) c.requires)

pub emit-emit_all-requires-in-Fit : goal.emit-emit_all-requires-in-Fit
emit-emit_all-requires-in-Fit t c =
    let table = sources_table c.args.sources.now in (
      search (rules, the_lemmas, c.in-Fit.is),
      subst (AreShaped table) (sym c.as_slice-in-Fit.ensures) (fit_shaped table c.args.ground.now c.requires c.in-Fit.kind c.in-Fit.width c.in-Fit.items c.in-Fit.is),
    )

pub emit-returns-in-Const-clause-emits : goal.emit-returns-in-Const-clause-emits
emit-returns-in-Const-clause-emits t c =
    ok_so c.constant.result c.constant.ensures.makes (λ s m. const_emits c.args.sources.now c.args.ground.now c.in-Const.value c.args.draft.now c.constant.new.draft s c.in-Const.is m)

pub emit-returns-in-Leaf-clause-emits : goal.emit-returns-in-Leaf-clause-emits
emit-returns-in-Leaf-clause-emits t c =
    ok_so c.fetch.result c.fetch.ensures.makes (λ s m. leaf_emits c.args.sources.now c.args.ground.now c.in-Leaf.leaf c.source_of.result c.args.draft.now c.fetch.new.draft s c.in-Leaf.is c.source_of.ensures m)

pub emit-emit_nested-requires : goal.emit-emit_nested-requires
emit-emit_nested-requires t c =
    let table = sources_table c.args.sources.now in
    let g = c.args.ground.now in
    let o = c.in-Op.prim in
    let ps = c.as_slice-in-Some.result.now in
    let p = c.in-Some.inner.row.prim in
    let qs = c.in-Some.inner.row.params.now in
    let gs = c.in-Some.inner.operands.now in
    let ss = c.in_ok-locations-in-Some.locations in
    let e : g ≡ Op o (Op p gs qs ∷ []) ps =
    c.in-Op.is ∙ (ap (λ os. Op o os c.in-Op.params) (sym c.as_slice.ensures ∙ c.in-Some.ensures) ∙ ap (Op o (Op p gs qs ∷ [])) (sym c.as_slice-in-Some.ensures)) in
    subst (λ x. IsSome x) (sym (nested_row table g c.requires o ps p qs gs e ss c.in_ok-locations-in-Some.ensures.shapes)) c.requires

pub emit-returns-in_ok-locations-in-Some-clause-shape : goal.emit-returns-in_ok-locations-in-Some-clause-shape
emit-returns-in_ok-locations-in-Some-clause-shape t c =
    let table = sources_table c.args.sources.now in
    let g = c.args.ground.now in
    let o = c.in-Op.prim in
    let ps = c.as_slice-in-Some.result.now in
    let p = c.in-Some.inner.row.prim in
    let qs = c.in-Some.inner.row.params.now in
    let gs = c.in-Some.inner.operands.now in
    let ss = c.in_ok-locations-in-Some.locations in
    let e : g ≡ Op o (Op p gs qs ∷ []) ps =
    c.in-Op.is ∙ (ap (λ os. Op o os c.in-Op.params) (sym c.as_slice.ensures ∙ c.in-Some.ensures) ∙ ap (Op o (Op p gs qs ∷ [])) (sym c.as_slice-in-Some.ensures)) in
    ok_so c.emit_nested.result c.emit_nested.ensures.shape (λ s h. sym (nested_row table g c.requires o ps p qs gs e ss c.in_ok-locations-in-Some.ensures.shapes) ∙ h)

pub emit-returns-in_ok-locations-in-Some-clause-emits : goal.emit-returns-in_ok-locations-in-Some-clause-emits
emit-returns-in_ok-locations-in-Some-clause-emits t c =
    let S = c.args.sources.now in
    let table = sources_table S in
    let g = c.args.ground.now in
    let o = c.in-Op.prim in
    let ps = c.as_slice-in-Some.result.now in
    let p = c.in-Some.inner.row.prim in
    let qs = c.in-Some.inner.row.params.now in
    let gs = c.in-Some.inner.operands.now in
    let ss = c.in_ok-locations-in-Some.locations in
    let e : g ≡ Op o (Op p gs qs ∷ []) ps =
    c.in-Op.is ∙ (ap (λ os. Op o os c.in-Op.params) (sym c.as_slice.ensures ∙ c.in-Some.ensures) ∙ ap (Op o (Op p gs qs ∷ [])) (sym c.as_slice-in-Some.ensures)) in
    ok_so c.emit_nested.result (ok_both _ _ c.emit_nested.result c.emit_nested.ensures.shape c.emit_nested.ensures.makes) (λ s h.
    nested_emits S g o ps p qs gs c.args.draft.now c.emit_all.new.draft c.emit_nested.new.draft ss s (location_shape s) e c.in_ok-locations-in-Some.ensures.emits h.1
    (sym (nested_row table g c.requires o ps p qs gs e ss c.in_ok-locations-in-Some.ensures.shapes) ∙ h.0))

pub emit-emit_operation-requires : goal.emit-emit_operation-requires
emit-emit_operation-requires t c =
    let table = sources_table c.args.sources.now in
    let g = c.args.ground.now in
    let prim = c.in-Op.prim in
    let gs = c.as_slice-in-None.result.now in
    let ps = c.as_slice-in-None-2.result.now in
    let ss = c.in_ok-locations-in-None.locations in
    let e : g ≡ Op prim gs ps = c.in-Op.is ∙ ap₂ (λ os qs. Op prim os qs) (sym c.as_slice-in-None.ensures) (sym c.as_slice-in-None-2.ensures) in
    subst (λ o. IsSome o) (sym (op_row table g c.requires prim gs ps ss e c.in_ok-locations-in-None.ensures.shapes)) c.requires

pub emit-returns-in_ok-locations-in-None-clause-shape : goal.emit-returns-in_ok-locations-in-None-clause-shape
emit-returns-in_ok-locations-in-None-clause-shape t c =
    let table = sources_table c.args.sources.now in
    let g = c.args.ground.now in
    let prim = c.in-Op.prim in
    let gs = c.as_slice-in-None.result.now in
    let ps = c.as_slice-in-None-2.result.now in
    let ss = c.in_ok-locations-in-None.locations in
    let e : g ≡ Op prim gs ps = c.in-Op.is ∙ ap₂ (λ os qs. Op prim os qs) (sym c.as_slice-in-None.ensures) (sym c.as_slice-in-None-2.ensures) in
    ok_so c.emit_operation.result c.emit_operation.ensures.shape (λ s h. sym (op_row table g c.requires prim gs ps ss e c.in_ok-locations-in-None.ensures.shapes) ∙ h)

pub emit-returns-in_ok-locations-in-None-clause-emits : goal.emit-returns-in_ok-locations-in-None-clause-emits
emit-returns-in_ok-locations-in-None-clause-emits t c =
    let S = c.args.sources.now in
    let table = sources_table S in
    let g = c.args.ground.now in
    let prim = c.in-Op.prim in
    let gs = c.as_slice-in-None.result.now in
    let ps = c.as_slice-in-None-2.result.now in
    let ss = c.in_ok-locations-in-None.locations in
    let e : g ≡ Op prim gs ps = c.in-Op.is ∙ ap₂ (λ os qs. Op prim os qs) (sym c.as_slice-in-None.ensures) (sym c.as_slice-in-None-2.ensures) in
    ok_so c.emit_operation.result (ok_both _ _ c.emit_operation.result c.emit_operation.ensures.shape c.emit_operation.ensures.makes) (λ s h.
    op_emits S g prim gs ps c.args.draft.now c.emit_all-in-None.new.draft c.emit_operation.new.draft ss s (location_shape s) e c.in_ok-locations-in-None.ensures.emits h.1
    (sym (op_row table g c.requires prim gs ps ss e c.in_ok-locations-in-None.ensures.shapes) ∙ h.0))

pub emit-emit_choice-requires : goal.emit-emit_choice-requires
emit-emit_choice-requires t c =
    let table = sources_table c.args.sources.now in
    let g = c.args.ground.now in
    let gs = c.as_slice-in-Mux.result.now in
    let e : g ≡ Mux gs = c.in-Mux.is ∙ ap Mux (sym c.as_slice-in-Mux.ensures) in
    subst (λ o. IsSome o) (sym (mux_row table g c.requires gs c.in_ok-locations-in-Mux.locations e c.in_ok-locations-in-Mux.ensures.shapes)) c.requires

pub emit-returns-in_ok-locations-in-Mux-clause-shape : goal.emit-returns-in_ok-locations-in-Mux-clause-shape
emit-returns-in_ok-locations-in-Mux-clause-shape t c =
    let table = sources_table c.args.sources.now in
    let g = c.args.ground.now in
    let gs = c.as_slice-in-Mux.result.now in
    let ss = c.in_ok-locations-in-Mux.locations in
    let e : g ≡ Mux gs = c.in-Mux.is ∙ ap Mux (sym c.as_slice-in-Mux.ensures) in
    ok_so c.emit_choice.result c.emit_choice.ensures.shape (λ s h. sym (mux_row table g c.requires gs ss e c.in_ok-locations-in-Mux.ensures.shapes) ∙ h)

pub emit-returns-in_ok-locations-in-Mux-clause-emits : goal.emit-returns-in_ok-locations-in-Mux-clause-emits
emit-returns-in_ok-locations-in-Mux-clause-emits t c =
    let S = c.args.sources.now in
    let table = sources_table S in
    let g = c.args.ground.now in
    let gs = c.as_slice-in-Mux.result.now in
    let ss = c.in_ok-locations-in-Mux.locations in
    let e : g ≡ Mux gs = c.in-Mux.is ∙ ap Mux (sym c.as_slice-in-Mux.ensures) in
    ok_so c.emit_choice.result (ok_both _ _ c.emit_choice.result c.emit_choice.ensures.shape c.emit_choice.ensures.makes) (λ s h.
    mux_emits S g gs c.args.draft.now c.emit_all-in-Mux.new.draft c.emit_choice.new.draft ss s (location_shape s) e c.in_ok-locations-in-Mux.ensures.emits h.1
    (sym (mux_row table g c.requires gs ss e c.in_ok-locations-in-Mux.ensures.shapes) ∙ h.0))

pub emit-emit_fit-requires-clause-shape : goal.emit-emit_fit-requires-clause-shape
emit-emit_fit-requires-clause-shape t c =
    let table = sources_table c.args.sources.now in
    let g = c.args.ground.now in
    let kind = c.in-Fit.kind in
    let width = c.in-Fit.width in
    let gs = c.as_slice-in-Fit.result.now in
    let e : g ≡ Fit kind width gs = c.in-Fit.is ∙ ap (λ xs. Fit kind width xs) (sym c.as_slice-in-Fit.ensures) in
    fit_row table g c.requires kind width gs c.in_ok-locations-in-Fit.locations e c.in_ok-locations-in-Fit.ensures.shapes ∙ (fit_is table g c.requires kind width gs e).1

pub emit-returns-in_ok-locations-in-Fit-clause-emits : goal.emit-returns-in_ok-locations-in-Fit-clause-emits
emit-returns-in_ok-locations-in-Fit-clause-emits t c =
    let S = c.args.sources.now in
    let table = sources_table S in
    let g = c.args.ground.now in
    let kind = c.in-Fit.kind in
    let width = c.in-Fit.width in
    let gs = c.as_slice-in-Fit.result.now in
    let ss = c.in_ok-locations-in-Fit.locations in
    let e : g ≡ Fit kind width gs = c.in-Fit.is ∙ ap (λ xs. Fit kind width xs) (sym c.as_slice-in-Fit.ensures) in
    let at : shape g table ≡ Some (shaped kind width) = (fit_is table g c.requires kind width gs e).1 in
    ok_so c.emit_fit.result c.emit_fit.ensures.makes (λ s m. fit_emits S g kind width gs c.args.draft.now c.emit_all-in-Fit.new.draft c.emit_fit.new.draft ss s (shaped kind width) e c.in_ok-locations-in-Fit.ensures.emits m at)

pub emit-returns-in_ok-locations-in-Select-clause-shape : goal.emit-returns-in_ok-locations-in-Select-clause-shape
emit-returns-in_ok-locations-in-Select-clause-shape t c =
    let table = sources_table c.args.sources.now in
    let g = c.args.ground.now in
    let is = c.as_slice-in-Select.result.now in
    let gs = c.as_slice-in-Select-2.result.now in
    let back = c.in_ok-back-in-Select.back in
    let kind = c.items_measure-measure.result.kind in
    let width = c.items_measure-measure.result.width in
    let e : g ≡ Select is gs = c.in-Select.is ∙ ap₂ (λ os qs. Select os qs) (sym c.as_slice-in-Select.ensures) (sym c.as_slice-in-Select-2.ensures) in
    let row : shape_of_items (location_shapes back) ≡ Some (shaped kind width) = ap (λ xs. shape_of_items (location_shapes xs)) (sym c.as_slice-in-Select-3.ensures) ∙ c.items_measure-measure.ensures in
    let at : shape g table ≡ Some (shaped kind width) = sym (items_row table g c.requires is gs back e c.in_ok-back-in-Select.ensures.shapes) ∙ row in
    ok_so c.wide_value.result (ok_both _ _ c.wide_value.result c.wide_value.ensures.shape c.wide_value.ensures.width) (λ s h. at ∙ ap Some (sym (location_shape_by s kind width h.0 h.1)))

pub emit-returns-in_ok-locations-in-Select-clause-emits : goal.emit-returns-in_ok-locations-in-Select-clause-emits
emit-returns-in_ok-locations-in-Select-clause-emits t c =
    let S = c.args.sources.now in
    let table = sources_table S in
    let g = c.args.ground.now in
    let is = c.as_slice-in-Select.result.now in
    let gs = c.as_slice-in-Select-2.result.now in
    let front = c.in_ok-front-in-Select.front in
    let back = c.in_ok-back-in-Select.back in
    let ss = c.in_ok-locations-in-Select.locations in
    let kind = c.items_measure-measure.result.kind in
    let width = c.items_measure-measure.result.width in
    let e : g ≡ Select is gs = c.in-Select.is ∙ ap₂ (λ os qs. Select os qs) (sym c.as_slice-in-Select.ensures) (sym c.as_slice-in-Select-2.ensures) in
    let same : ss ≡ front ++ back = c.in_ok-locations-in-Select.ensures ∙ ap (λ xs. front ++ xs) c.as_slice-in-Select-4.ensures in
    let row : shape_of_items (location_shapes back) ≡ Some (shaped kind width) = ap (λ xs. shape_of_items (location_shapes xs)) (sym c.as_slice-in-Select-3.ensures) ∙ c.items_measure-measure.ensures in
    let at : shape g table ≡ Some (shaped kind width) = sym (items_row table g c.requires is gs back e c.in_ok-back-in-Select.ensures.shapes) ∙ row in
    let index : is_index (location_shapes front) ≡ true = index_row table g c.requires is gs front e c.in_ok-front-in-Select.ensures.shapes in
    let one = one_ground table is (location_shapes front) c.in_ok-front-in-Select.ensures.shapes index in
    let both = both_emitted S is gs c.args.draft.now c.emit_all-in-Select.new.draft c.emit_all-in-Select-2.new.draft front back c.in_ok-front-in-Select.ensures.emits c.in_ok-back-in-Select.ensures.emits in
    let whole = ap (λ xs. shape_of_picked (location_shapes xs)) same ∙ (picked_shape front back index ∙ row) in
    ok_so c.wide_value.result c.wide_value.ensures.makes (λ s m.
    select_emits S g is gs one.0 c.args.draft.now c.emit_all-in-Select-2.new.draft c.wide_value.new.draft ss s (shaped kind width) e one.1
    (subst (EmitsAll S (is ++ gs) c.args.draft.now c.emit_all-in-Select-2.new.draft) (sym same) both) m whole at)

pub emit-returns-in_ok-locations-in-Load-clause-emits : goal.emit-returns-in_ok-locations-in-Load-clause-emits
emit-returns-in_ok-locations-in-Load-clause-emits t c =
    let S = c.args.sources.now in
    let table = sources_table S in
    let g = c.args.ground.now in
    let m = c.in-Load.memory in
    let k = c.in-Load.leaf in
    let gs = c.as_slice-in-Load.result.now in
    let ss = c.in_ok-locations-in-Load.locations in
    let el = c.elements_of-elements.result in
    let e : g ≡ Load m k gs = c.in-Load.is ∙ ap (λ xs. Load m k xs) (sym c.as_slice-in-Load.ensures) in
    let known : table.element m k ≡ Some (elements_shape el) = ap (option_map elements_shape) c.elements_of-elements.ensures in
    let at : shape g table ≡ Some (elements_shape el) = sym (load_element table g c.requires m k gs e) ∙ known in
    let row : shape_of_load (table.element m k) (location_shapes ss) ≡ shape g table = load_row table g c.requires m k gs ss e c.in_ok-locations-in-Load.ensures.shapes in
    ok_so c.wide_value-in-Load.result (ok_both _ _ c.wide_value-in-Load.result (ok_both _ _ c.wide_value-in-Load.result c.wide_value-in-Load.ensures.shape c.wide_value-in-Load.ensures.width) c.wide_value-in-Load.ensures.makes) (λ s h.
    let same : location_shape s ≡ elements_shape el = location_shape_by s el.kind el.width h.0.0 h.0.1 in
    load_emits S g m k gs el c.args.draft.now c.emit_all-in-Load.new.draft c.wide_value-in-Load.new.draft ss s (elements_shape el) e c.elements_of-elements.ensures refl same c.in_ok-locations-in-Load.ensures.emits h.1
    (ap (λ (u : Shape). shape_of_load (Some u) (location_shapes ss)) same ∙ (ap (λ o. shape_of_load o (location_shapes ss)) (sym known) ∙ (row ∙ at))) at)

pub emit_all-loop-ground-preserved : goal.emit_all-loop-ground-preserved
emit_all-loop-ground-preserved t c =
    let S = c.args.sources.now in
    let gs = c.args.grounds.now in
    let g = c.ground-item.result in
    let k = c.loop-ground.ground-index in
    let ss = c.loop-ground.locations in
    let s = c.in_ok-emit.field-0 in
    let longer : take (k + 1) gs ≡ take k gs ++ g ∷ [] = take_more gs k g c.loop-ground-test.true ∙ ap (λ h. take k gs ++ h ∷ []) (sym c.ground-item.is) in
    let locations = c.in_ok-push.ensures.ok in
    record {
      shapes = ap (λ hs. all_of (shapes_in (sources_table S) hs)) longer ∙ (one_more_shape (sources_table S) (take k gs) g ss s c.loop-ground.invariant.shapes c.in_ok-emit.ensures.shape
          ∙ ap (λ xs. Some (location_shapes xs)) (sym locations));
      emits = subst (λ hs. EmitsAll S hs c.args.draft.now c.emit.new.draft c.push.new.self) (sym longer)
          (subst (λ xs. EmitsAll S (take k gs ++ g ∷ []) c.args.draft.now c.emit.new.draft xs) (sym locations)
          (one_more_emitted S (take k gs) g c.args.draft.now c.loop-ground.draft c.emit.new.draft ss s c.loop-ground.invariant.emits c.in_ok-emit.ensures.emits));
      spans = subst (λ hs. SpansAll S hs c.args.draft.now c.emit.new.draft c.push.new.self) (sym longer)
          (subst (λ xs. SpansAll S (take k gs ++ g ∷ []) c.args.draft.now c.emit.new.draft xs) (sym locations)
          (one_more_spans S (take k gs) g c.args.draft.now c.loop-ground.draft c.emit.new.draft ss s c.loop-ground.invariant.spans c.in_ok-emit.ensures.spans));
    }

pub emit-returns-in-Const-clause-spans : goal.emit-returns-in-Const-clause-spans
emit-returns-in-Const-clause-spans t c =
    ok_so c.constant.result c.constant.ensures.step (λ s st. fetched_spans c.args.sources.now c.args.ground.now c.args.draft.now c.constant.new.draft s st)

pub emit-returns-in-Leaf-clause-spans : goal.emit-returns-in-Leaf-clause-spans
emit-returns-in-Leaf-clause-spans t c =
    ok_so c.fetch.result c.fetch.ensures.step (λ s st.
    leaf_spans c.args.sources.now c.args.ground.now c.in-Leaf.leaf c.source_of.result c.args.draft.now c.fetch.new.draft s c.in-Leaf.is c.source_of.ensures st)

pub emit-returns-in_ok-locations-in-Some-clause-spans : goal.emit-returns-in_ok-locations-in-Some-clause-spans
emit-returns-in_ok-locations-in-Some-clause-spans t c =
    let g = c.args.ground.now in
    let o = c.in-Op.prim in
    let ps = c.as_slice-in-Some.result.now in
    let p = c.in-Some.inner.row.prim in
    let qs = c.in-Some.inner.row.params.now in
    let gs = c.in-Some.inner.operands.now in
    let e : g ≡ Op o (Op p gs qs ∷ []) ps =
    c.in-Op.is ∙ (ap (λ os. Op o os c.in-Op.params) (sym c.as_slice.ensures ∙ c.in-Some.ensures) ∙ ap (Op o (Op p gs qs ∷ [])) (sym c.as_slice-in-Some.ensures)) in
    let S = c.args.sources.now in
    ok_so c.emit_nested.result c.emit_nested.ensures.follows (λ s st.
    nested_spans S (sources_table S) g gs c.args.draft.now c.emit_all.new.draft c.emit_nested.new.draft c.in_ok-locations-in-Some.locations s c.in_ok-locations-in-Some.ensures.shapes c.in_ok-locations-in-Some.ensures.spans st o ps p qs e)

pub emit-returns-in_ok-locations-in-None-clause-spans : goal.emit-returns-in_ok-locations-in-None-clause-spans
emit-returns-in_ok-locations-in-None-clause-spans t c =
    let g = c.args.ground.now in
    let prim = c.in-Op.prim in
    let gs = c.as_slice-in-None.result.now in
    let ps = c.as_slice-in-None-2.result.now in
    let e : g ≡ Op prim gs ps = c.in-Op.is ∙ ap₂ (λ os qs. Op prim os qs) (sym c.as_slice-in-None.ensures) (sym c.as_slice-in-None-2.ensures) in
    let S = c.args.sources.now in
    ok_so c.emit_operation.result c.emit_operation.ensures.follows (λ s st.
    op_spans S (sources_table S) g gs c.args.draft.now c.emit_all-in-None.new.draft c.emit_operation.new.draft c.in_ok-locations-in-None.locations s c.in_ok-locations-in-None.ensures.shapes c.in_ok-locations-in-None.ensures.spans st prim ps e)

pub emit-returns-in_ok-locations-in-Mux-clause-spans : goal.emit-returns-in_ok-locations-in-Mux-clause-spans
emit-returns-in_ok-locations-in-Mux-clause-spans t c =
    let S = c.args.sources.now in
    let g = c.args.ground.now in
    let gs = c.as_slice-in-Mux.result.now in
    let e : g ≡ Mux gs = c.in-Mux.is ∙ ap Mux (sym c.as_slice-in-Mux.ensures) in
    ok_so c.emit_choice.result c.emit_choice.ensures.follows (λ s last.
    mux_spans S (sources_table S) g gs c.args.draft.now c.emit_all-in-Mux.new.draft c.emit_choice.new.draft c.in_ok-locations-in-Mux.locations s c.in_ok-locations-in-Mux.ensures.shapes c.in_ok-locations-in-Mux.ensures.spans last e)

pub emit-returns-in_ok-locations-in-Fit-clause-spans : goal.emit-returns-in_ok-locations-in-Fit-clause-spans
emit-returns-in_ok-locations-in-Fit-clause-spans t c =
    let g = c.args.ground.now in
    let kind = c.in-Fit.kind in
    let width = c.in-Fit.width in
    let gs = c.as_slice-in-Fit.result.now in
    let e : g ≡ Fit kind width gs = c.in-Fit.is ∙ ap (λ xs. Fit kind width xs) (sym c.as_slice-in-Fit.ensures) in
    ok_so c.emit_fit.result c.emit_fit.ensures.step (λ s st.
    fit_spans c.args.sources.now g gs c.args.draft.now c.emit_all-in-Fit.new.draft c.emit_fit.new.draft c.in_ok-locations-in-Fit.locations s c.in_ok-locations-in-Fit.ensures.spans st kind width e)

pub emit-returns-in_ok-locations-in-Select-clause-spans : goal.emit-returns-in_ok-locations-in-Select-clause-spans
emit-returns-in_ok-locations-in-Select-clause-spans t c =
    let S = c.args.sources.now in
    let g = c.args.ground.now in
    let is = c.as_slice-in-Select.result.now in
    let gs = c.as_slice-in-Select-2.result.now in
    let front = c.in_ok-front-in-Select.front in
    let back = c.in_ok-back-in-Select.back in
    let ss = c.in_ok-locations-in-Select.locations in
    let d = c.args.draft.now in
    let b = c.emit_all-in-Select-2.new.draft in
    let e : g ≡ Select is gs = c.in-Select.is ∙ ap₂ (λ os qs. Select os qs) (sym c.as_slice-in-Select.ensures) (sym c.as_slice-in-Select-2.ensures) in
    let same : ss ≡ front ++ back = c.in_ok-locations-in-Select.ensures ∙ ap (λ xs. front ++ xs) c.as_slice-in-Select-4.ensures in
    let both = both_span S is gs d c.emit_all-in-Select.new.draft b front back c.in_ok-front-in-Select.ensures.spans c.in_ok-back-in-Select.ensures.spans in
    ok_so c.wide_value.result c.wide_value.ensures.step (λ s st.
    select_spans S g is gs d b c.wide_value.new.draft ss s e (subst (SpansAll S (is ++ gs) d b) (sym same) both) st)

pub emit-returns-in_ok-locations-in-Load-clause-spans : goal.emit-returns-in_ok-locations-in-Load-clause-spans
emit-returns-in_ok-locations-in-Load-clause-spans t c =
    let g = c.args.ground.now in
    let m = c.in-Load.memory in
    let k = c.in-Load.leaf in
    let gs = c.as_slice-in-Load.result.now in
    let e : g ≡ Load m k gs = c.in-Load.is ∙ ap (λ xs. Load m k xs) (sym c.as_slice-in-Load.ensures) in
    ok_so c.wide_value-in-Load.result c.wide_value-in-Load.ensures.step (λ s st.
    load_spans c.args.sources.now g gs c.args.draft.now c.emit_all-in-Load.new.draft c.wide_value-in-Load.new.draft c.in_ok-locations-in-Load.locations s c.in_ok-locations-in-Load.ensures.spans st m k e)

pub emit_all-loop-ground-init : goal.emit_all-loop-ground-init
emit_all-loop-ground-init t c =
    let S = c.args.sources.now in
    let d = c.args.draft.now in
    let none : c.new-locations.result ≡ [] = c.new-locations.ensures in
    record {
      shapes = ap (λ xs. Some (location_shapes xs)) (sym none);
      emits = subst (EmitsAll S [] d d) (sym none) (none_emitted S d);
      spans = subst (SpansAll S [] d d) (sym none) (none_spans S d);
    }

pub emit-returns-in-Const-clause-stands : goal.emit-returns-in-Const-clause-stands
emit-returns-in-Const-clause-stands t c = no_leaf c.args.sources.now c.args.ground.now (Const c.in-Const.value) c.args.draft.now c.constant.new.draft c.constant.result c.in-Const.is (leaf-Const c.in-Const.value)

pub emit-returns-in-Leaf-clause-stands : goal.emit-returns-in-Leaf-clause-stands
emit-returns-in-Leaf-clause-stands t c =
    ok_so c.fetch.result c.fetch.ensures.stands (λ s st.
    leaf_stands c.args.sources.now c.args.ground.now c.in-Leaf.leaf c.source_of.result c.args.draft.now c.fetch.new.draft s c.in-Leaf.is c.source_of.ensures st)

pub emit-returns-in_ok-locations-in-None-clause-stands : goal.emit-returns-in_ok-locations-in-None-clause-stands
emit-returns-in_ok-locations-in-None-clause-stands t c = no_leaf c.args.sources.now c.args.ground.now (Op c.in-Op.prim c.in-Op.operands c.in-Op.params) c.args.draft.now c.emit_operation.new.draft c.emit_operation.result c.in-Op.is (leaf-Op c.in-Op.prim c.in-Op.operands c.in-Op.params)

pub emit-returns-in_ok-locations-in-Mux-clause-stands : goal.emit-returns-in_ok-locations-in-Mux-clause-stands
emit-returns-in_ok-locations-in-Mux-clause-stands t c = no_leaf c.args.sources.now c.args.ground.now (Mux c.in-Mux.items) c.args.draft.now c.emit_choice.new.draft c.emit_choice.result c.in-Mux.is (leaf-Mux c.in-Mux.items)

pub emit-returns-in_ok-locations-in-Select-clause-stands : goal.emit-returns-in_ok-locations-in-Select-clause-stands
emit-returns-in_ok-locations-in-Select-clause-stands t c = no_leaf c.args.sources.now c.args.ground.now (Select c.in-Select.index c.in-Select.items) c.args.draft.now c.wide_value.new.draft c.wide_value.result c.in-Select.is (leaf-Select c.in-Select.index c.in-Select.items)

pub emit-returns-in_ok-locations-in-Load-clause-stands : goal.emit-returns-in_ok-locations-in-Load-clause-stands
emit-returns-in_ok-locations-in-Load-clause-stands t c = no_leaf c.args.sources.now c.args.ground.now (Load c.in-Load.memory c.in-Load.leaf c.in-Load.items) c.args.draft.now c.wide_value-in-Load.new.draft c.wide_value-in-Load.result c.in-Load.is (leaf-Load c.in-Load.memory c.in-Load.leaf c.in-Load.items)

pub emit-returns-in_ok-locations-in-Fit-clause-stands : goal.emit-returns-in_ok-locations-in-Fit-clause-stands
emit-returns-in_ok-locations-in-Fit-clause-stands t c = no_leaf c.args.sources.now c.args.ground.now (Fit c.in-Fit.kind c.in-Fit.width c.in-Fit.items) c.args.draft.now c.emit_fit.new.draft c.emit_fit.result c.in-Fit.is (leaf-Fit c.in-Fit.kind c.in-Fit.width c.in-Fit.items)

pub emit-returns-in_ok-locations-in-Some-clause-stands : goal.emit-returns-in_ok-locations-in-Some-clause-stands
emit-returns-in_ok-locations-in-Some-clause-stands t c = no_leaf c.args.sources.now c.args.ground.now (Op c.in-Op.prim c.in-Op.operands c.in-Op.params) c.args.draft.now c.emit_nested.new.draft c.emit_nested.result c.in-Op.is (leaf-Op c.in-Op.prim c.in-Op.operands c.in-Op.params)

pub emit-emit_all-requires-in-Indexed : goal.emit-emit_all-requires-in-Indexed
emit-emit_all-requires-in-Indexed t c =
    let table = sources_table c.args.sources.now in (
      search (rules, the_lemmas, c.in-Indexed.is),
      subst (AreShaped table) (sym c.as_slice-in-Indexed.ensures) (indices_shaped table c.args.ground.now c.requires c.in-Indexed.numbers c.in-Indexed.indices c.in-Indexed.lengths c.in-Indexed.is),
    )

pub emit-emit_leaves-requires : goal.emit-emit_leaves-requires
emit-emit_leaves-requires t c = leaves_shaped (sources_table c.args.sources.now) c.args.ground.now c.requires c.in-Indexed.numbers c.in-Indexed.indices c.in-Indexed.lengths c.in-Indexed.is

pub emit-items_measure-measure-requires-in-Indexed : goal.emit-items_measure-measure-requires-in-Indexed
emit-items_measure-measure-requires-in-Indexed t c =
    subst (λ ss. IsSome (shape_of_items (location_shapes ss))) (sym c.as_slice-in-Indexed-3.ensures)
    (subst (λ o. IsSome o) (sym (leaves_row (sources_table c.args.sources.now) c.args.ground.now c.requires c.in-Indexed.numbers c.in-Indexed.indices c.in-Indexed.lengths c.in-Indexed.is c.in_ok-back-in-Indexed.back
    c.in_ok-back-in-Indexed.ensures.shapes)) c.requires)

pub emit-returns-in_ok-lengths-in-Indexed-clause-shape : goal.emit-returns-in_ok-lengths-in-Indexed-clause-shape
emit-returns-in_ok-lengths-in-Indexed-clause-shape t c =
    let S = c.args.sources.now in
    let table = sources_table S in
    let g = c.args.ground.now in
    let ns = c.in-Indexed.numbers in
    let is = c.as_slice-in-Indexed.result.now in
    let ls = c.in_ok-lengths-in-Indexed.lengths in
    let front = c.in_ok-front-in-Indexed.front in
    let back = c.in_ok-back-in-Indexed.back in
    let ss = c.in_ok-locations-in-Indexed.locations in
    let d = c.args.draft.now in
    let b = c.emit_leaves.new.draft in
    let kind = c.items_measure-measure-in-Indexed.result.kind in
    let width = c.items_measure-measure-in-Indexed.result.width in
    let e : g ≡ Indexed ns is ls = c.in-Indexed.is ∙ ap₂ (λ os qs. Indexed ns os qs) (sym c.as_slice-in-Indexed.ensures) (sym (c.in_ok-lengths-in-Indexed.ensures ∙ c.as_slice-in-Indexed-5.ensures)) in
    let same : ss ≡ front ++ back = c.in_ok-locations-in-Indexed.ensures ∙ ap (λ xs. front ++ xs) c.as_slice-in-Indexed-4.ensures in
    let row : shape_of_items (location_shapes back) ≡ Some (shaped kind width) = ap (λ xs. shape_of_items (location_shapes xs)) (sym c.as_slice-in-Indexed-3.ensures) ∙ c.items_measure-measure-in-Indexed.ensures in
    let at : shape g table ≡ Some (shaped kind width) = sym (leaves_row table g c.requires ns is ls e back c.in_ok-back-in-Indexed.ensures.shapes) ∙ row in
    ok_so c.wide_value-in-Indexed.result (ok_both _ _ c.wide_value-in-Indexed.result c.wide_value-in-Indexed.ensures.shape c.wide_value-in-Indexed.ensures.width) (λ s h. at ∙ ap Some (sym (location_shape_by s kind width h.0 h.1)))

pub emit-returns-in_ok-lengths-in-Indexed-clause-emits : goal.emit-returns-in_ok-lengths-in-Indexed-clause-emits
emit-returns-in_ok-lengths-in-Indexed-clause-emits t c =
    let S = c.args.sources.now in
    let table = sources_table S in
    let g = c.args.ground.now in
    let ns = c.in-Indexed.numbers in
    let is = c.as_slice-in-Indexed.result.now in
    let ls = c.in_ok-lengths-in-Indexed.lengths in
    let front = c.in_ok-front-in-Indexed.front in
    let back = c.in_ok-back-in-Indexed.back in
    let ss = c.in_ok-locations-in-Indexed.locations in
    let d = c.args.draft.now in
    let b = c.emit_leaves.new.draft in
    let kind = c.items_measure-measure-in-Indexed.result.kind in
    let width = c.items_measure-measure-in-Indexed.result.width in
    let e : g ≡ Indexed ns is ls = c.in-Indexed.is ∙ ap₂ (λ os qs. Indexed ns os qs) (sym c.as_slice-in-Indexed.ensures) (sym (c.in_ok-lengths-in-Indexed.ensures ∙ c.as_slice-in-Indexed-5.ensures)) in
    let same : ss ≡ front ++ back = c.in_ok-locations-in-Indexed.ensures ∙ ap (λ xs. front ++ xs) c.as_slice-in-Indexed-4.ensures in
    let row : shape_of_items (location_shapes back) ≡ Some (shaped kind width) = ap (λ xs. shape_of_items (location_shapes xs)) (sym c.as_slice-in-Indexed-3.ensures) ∙ c.items_measure-measure-in-Indexed.ensures in
    let at : shape g table ≡ Some (shaped kind width) = sym (leaves_row table g c.requires ns is ls e back c.in_ok-back-in-Indexed.ensures.shapes) ∙ row in
    let both = both_emitted S is (as_leaves ns) d c.emit_all-in-Indexed.new.draft b front back c.in_ok-front-in-Indexed.ensures.emits c.in_ok-back-in-Indexed.ensures.emits in
    let whole : shape_of_pick ls (location_shapes ss) ≡ Some (shaped kind width) =
    ap (λ xs. shape_of_pick ls (location_shapes xs)) same ∙ (pick_row table g c.requires ns is ls e front back c.in_ok-front-in-Indexed.ensures.shapes c.in_ok-back-in-Indexed.ensures.shapes ∙ row) in
    ok_so c.wide_value-in-Indexed.result c.wide_value-in-Indexed.ensures.makes (λ s m.
    indexed_emits S g ns is ls d b c.wide_value-in-Indexed.new.draft ss s (shaped kind width) e (indices_long table g c.requires ns is ls e)
    (subst (EmitsAll S (is ++ as_leaves ns) d b) (sym same) both) m whole at)

pub emit-returns-in_ok-lengths-in-Indexed-clause-spans : goal.emit-returns-in_ok-lengths-in-Indexed-clause-spans
emit-returns-in_ok-lengths-in-Indexed-clause-spans t c =
    let S = c.args.sources.now in
    let table = sources_table S in
    let g = c.args.ground.now in
    let ns = c.in-Indexed.numbers in
    let is = c.as_slice-in-Indexed.result.now in
    let ls = c.in_ok-lengths-in-Indexed.lengths in
    let front = c.in_ok-front-in-Indexed.front in
    let back = c.in_ok-back-in-Indexed.back in
    let ss = c.in_ok-locations-in-Indexed.locations in
    let d = c.args.draft.now in
    let b = c.emit_leaves.new.draft in
    let kind = c.items_measure-measure-in-Indexed.result.kind in
    let width = c.items_measure-measure-in-Indexed.result.width in
    let e : g ≡ Indexed ns is ls = c.in-Indexed.is ∙ ap₂ (λ os qs. Indexed ns os qs) (sym c.as_slice-in-Indexed.ensures) (sym (c.in_ok-lengths-in-Indexed.ensures ∙ c.as_slice-in-Indexed-5.ensures)) in
    let same : ss ≡ front ++ back = c.in_ok-locations-in-Indexed.ensures ∙ ap (λ xs. front ++ xs) c.as_slice-in-Indexed-4.ensures in
    let row : shape_of_items (location_shapes back) ≡ Some (shaped kind width) = ap (λ xs. shape_of_items (location_shapes xs)) (sym c.as_slice-in-Indexed-3.ensures) ∙ c.items_measure-measure-in-Indexed.ensures in
    let at : shape g table ≡ Some (shaped kind width) = sym (leaves_row table g c.requires ns is ls e back c.in_ok-back-in-Indexed.ensures.shapes) ∙ row in
    let both = both_span S is (as_leaves ns) d c.emit_all-in-Indexed.new.draft b front back c.in_ok-front-in-Indexed.ensures.spans c.in_ok-back-in-Indexed.ensures.spans in
    ok_so c.wide_value-in-Indexed.result c.wide_value-in-Indexed.ensures.step (λ s st.
    indexed_spans S g ns is ls d b c.wide_value-in-Indexed.new.draft ss s e (subst (SpansAll S (is ++ as_leaves ns) d b) (sym same) both) st)

pub emit-load_row-requires : goal.emit-load_row-requires
emit-load_row-requires t c =
    let S = c.args.sources.now in
    let g = c.args.ground.now in
    let ns = c.in-Indexed.numbers in
    let is = c.as_slice-in-Indexed.result.now in
    let ls = c.as_slice-in-Some-2-2.result.now in
    let front = c.as_slice-in-Some-2.result.now in
    let row = c.in-Some-2.row in
    let e : g ≡ Indexed ns is ls = c.in-Indexed.is ∙ ap₂ (λ os qs. Indexed ns os qs) (sym c.as_slice-in-Indexed.ensures) (sym c.as_slice-in-Some-2-2.ensures) in
    let reads : IsRow S ns front row = subst (λ xs. IsRow S ns xs row) (c.as_slice-in-Indexed-2.ensures ∙ sym c.as_slice-in-Some-2.ensures) (found _ c.in_ok-row-in-Indexed.field-0 row c.in-Some-2.is c.in_ok-row-in-Indexed.ensures) in
    let shapes = subst (λ xs. all_of (shapes_in (sources_table S) is) ≡ Some (location_shapes xs)) (sym c.as_slice-in-Some-2.ensures) c.in_ok-front-in-Indexed.ensures.shapes in
    record {
      shape = row_indices S g ns is ls c.requires e front row shapes reads;
      words = reads.indices_few;
      counted = row_counted S g ns is ls c.requires e front row shapes reads;
      some = row_some S g ns is ls c.requires e front row shapes reads;
    }

pub emit-returns-in-Some-2-clause-shape : goal.emit-returns-in-Some-2-clause-shape
emit-returns-in-Some-2-clause-shape t c =
    let S = c.args.sources.now in
    let g = c.args.ground.now in
    let ns = c.in-Indexed.numbers in
    let is = c.as_slice-in-Indexed.result.now in
    let ls = c.as_slice-in-Some-2-2.result.now in
    let front = c.as_slice-in-Some-2.result.now in
    let row = c.in-Some-2.row in
    let e : g ≡ Indexed ns is ls = c.in-Indexed.is ∙ ap₂ (λ os qs. Indexed ns os qs) (sym c.as_slice-in-Indexed.ensures) (sym c.as_slice-in-Some-2-2.ensures) in
    let reads : IsRow S ns front row = subst (λ xs. IsRow S ns xs row) (c.as_slice-in-Indexed-2.ensures ∙ sym c.as_slice-in-Some-2.ensures) (found _ c.in_ok-row-in-Indexed.field-0 row c.in-Some-2.is c.in_ok-row-in-Indexed.ensures) in
    let shapes = subst (λ xs. all_of (shapes_in (sources_table S) is) ≡ Some (location_shapes xs)) (sym c.as_slice-in-Some-2.ensures) c.in_ok-front-in-Indexed.ensures.shapes in
    ok_so c.load_row.result c.load_row.ensures.shape (λ s at. row_shape S g ns is ls c.requires e front row shapes reads ∙ ap Some (sym at))

pub emit-returns-in-Some-2-clause-emits : goal.emit-returns-in-Some-2-clause-emits
emit-returns-in-Some-2-clause-emits t c =
    let S = c.args.sources.now in
    let g = c.args.ground.now in
    let ns = c.in-Indexed.numbers in
    let is = c.as_slice-in-Indexed.result.now in
    let ls = c.as_slice-in-Some-2-2.result.now in
    let front = c.as_slice-in-Some-2.result.now in
    let row = c.in-Some-2.row in
    let e : g ≡ Indexed ns is ls = c.in-Indexed.is ∙ ap₂ (λ os qs. Indexed ns os qs) (sym c.as_slice-in-Indexed.ensures) (sym c.as_slice-in-Some-2-2.ensures) in
    let reads : IsRow S ns front row = subst (λ xs. IsRow S ns xs row) (c.as_slice-in-Indexed-2.ensures ∙ sym c.as_slice-in-Some-2.ensures) (found _ c.in_ok-row-in-Indexed.field-0 row c.in-Some-2.is c.in_ok-row-in-Indexed.ensures) in
    let shapes = subst (λ xs. all_of (shapes_in (sources_table S) is) ≡ Some (location_shapes xs)) (sym c.as_slice-in-Some-2.ensures) c.in_ok-front-in-Indexed.ensures.shapes in
    let all = subst (EmitsAll S is c.args.draft.now c.emit_all-in-Indexed.new.draft) (sym c.as_slice-in-Some-2.ensures) c.in_ok-front-in-Indexed.ensures.emits in
    ok_so c.load_row.result c.load_row.ensures.makes (λ s m. row_emits S g ns is ls c.requires e front row shapes reads c.args.draft.now c.emit_all-in-Indexed.new.draft c.load_row.new.draft s all m)

pub emit-returns-in-Some-2-clause-spans : goal.emit-returns-in-Some-2-clause-spans
emit-returns-in-Some-2-clause-spans t c =
    let S = c.args.sources.now in
    let g = c.args.ground.now in
    let ns = c.in-Indexed.numbers in
    let is = c.as_slice-in-Indexed.result.now in
    let ls = c.as_slice-in-Some-2-2.result.now in
    let front = c.as_slice-in-Some-2.result.now in
    let row = c.in-Some-2.row in
    let e : g ≡ Indexed ns is ls = c.in-Indexed.is ∙ ap₂ (λ os qs. Indexed ns os qs) (sym c.as_slice-in-Indexed.ensures) (sym c.as_slice-in-Some-2-2.ensures) in
    let reads : IsRow S ns front row = subst (λ xs. IsRow S ns xs row) (c.as_slice-in-Indexed-2.ensures ∙ sym c.as_slice-in-Some-2.ensures) (found _ c.in_ok-row-in-Indexed.field-0 row c.in-Some-2.is c.in_ok-row-in-Indexed.ensures) in
    let shapes = subst (λ xs. all_of (shapes_in (sources_table S) is) ≡ Some (location_shapes xs)) (sym c.as_slice-in-Some-2.ensures) c.in_ok-front-in-Indexed.ensures.shapes in
    let all = subst (SpansAll S is c.args.draft.now c.emit_all-in-Indexed.new.draft) (sym c.as_slice-in-Some-2.ensures) c.in_ok-front-in-Indexed.ensures.spans in
    ok_so c.load_row.result c.load_row.ensures.segment (λ s seg. row_spans S g ns is ls c.requires e front row shapes reads c.args.draft.now c.emit_all-in-Indexed.new.draft c.load_row.new.draft s all seg)
