use Rattle.std.proofs.Common.{◌≡◌, ◌∙◌, sym, subst, ap, ap₂, true, rules, arith, map, List, [], ◌∷◌, Some, option_map}
use Rattle.std.specs.List.{list_all}
use Rattle.std.specs.Option.{option_copied}
use Rattle.fir_tree.specs.declared.expr.Expr.{the_lemmas}
use Rattle.bit_words.specs.declared.value.Kind.TheVariants.{Unsigned}
use Rattle.prim_ops.specs.Values.{operation, lone}
use Rattle.prim_ops.specs.Values.{is_one as is_one_value}
use Rattle.fir_meaning.specs.WellTyped.{typed, is_typed}
use Rattle.fir_meaning.specs.Values.{value, chosen}
use Rattle.bit_words.specs.declared.value.Value.{Value}
use Rattle.plain_values.specs.Sites.{known_of_view, scene_of_view}
use Rattle.plain_values.specs.Applying.{Applies}
use Rattle.drive_check.specs.Keys.{step_of}
use Rattle.plain_values.proofs.Lists.{three_there}
use Rattle.plain_values.proofs.Typed.{operands_typed, prim_applies, prim_value, mux_value, one_unsigned, choice_asked, second_typed, choice_value}
use Rattle.plain_values.proofs.Stepping.{step_field, step_at, step_index, ref_value}
use Rattle.plain_values.proofs.Following.{name_known, index_asked, field_typed, at_typed, Leads, leads_first, leads_more, leads_whole, step_typed}
use Rattle.plain_values.proofs.evaluating.+evaluate.Goals as goal

pub evaluate-operand_values-requires : goal.evaluate-operand_values-requires
evaluate-operand_values-requires t c = (
  search (rules, the_lemmas, c.as_slice-in-Prim.ensures, c.in-Prim.is),
  (
    c.requires.narrow,
    subst (λ es. list_all (is_typed (known_of_view c.args.view.now)) es ≡ true) (sym c.as_slice-in-Prim.ensures)
        (operands_typed (known_of_view c.args.view.now) c.args.expr.now c.in-Prim.prim c.in-Prim.operands c.in-Prim.params c.in-Prim.is c.requires.typed),
  ),
)

pub evaluate-applied-requires : goal.evaluate-applied-requires
evaluate-applied-requires t c =
    let scene = scene_of_view c.args.view.now in
    let values : c.as_slice-in-Prim-2.result.now ≡ map (λ e. lone (value e scene)) c.in-Prim.operands =
    c.as_slice-in-Prim-2.ensures ∙ (c.in_ok-operands-in-Prim.ensures ∙ ap (map (λ e. lone (value e scene))) c.as_slice-in-Prim.ensures) in
    subst (λ vs. Applies c.in-Prim.prim c.as_slice-in-Prim-3.result.now vs) (sym values)
    (subst (λ ps. Applies c.in-Prim.prim ps (map (λ e. lone (value e scene)) c.in-Prim.operands)) (sym c.as_slice-in-Prim-3.ensures)
    (prim_applies c.args.view.now c.requires.narrow c.args.expr.now c.in-Prim.prim c.in-Prim.operands c.in-Prim.params c.in-Prim.is c.requires.typed))

pub evaluate-returns-in_ok-values-in-Prim : goal.evaluate-returns-in_ok-values-in-Prim
evaluate-returns-in_ok-values-in-Prim t c =
    let scene = scene_of_view c.args.view.now in
    let values : c.as_slice-in-Prim-2.result.now ≡ map (λ e. lone (value e scene)) c.in-Prim.operands =
    c.as_slice-in-Prim-2.ensures ∙ (c.in_ok-operands-in-Prim.ensures ∙ ap (map (λ e. lone (value e scene))) c.as_slice-in-Prim.ensures) in
    c.from_vec-in-Prim.ensures ∙ (c.in_ok-values-in-Prim.ensures.items
    ∙ (ap (λ (v : Value). v ∷ []) (c.applied.ensures ∙ ap₂ (operation c.in-Prim.prim) values c.as_slice-in-Prim-3.ensures)
    ∙ sym (prim_value scene c.args.expr.now c.in-Prim.prim c.in-Prim.operands c.in-Prim.params c.in-Prim.is)))

pub evaluate-returns-in_ok-values-in-Mux : goal.evaluate-returns-in_ok-values-in-Mux
evaluate-returns-in_ok-values-in-Mux t c =
    let scene = scene_of_view c.args.view.now in
    c.in_ok-values-in-Mux.ensures ∙ (ap (λ es. chosen (map (λ e. value e scene) es)) c.as_slice-in-Mux.ensures ∙ sym (mux_value scene c.args.expr.now c.in-Mux.operands c.in-Mux.is))

pub follow-unreachable-requires : goal.follow-unreachable-requires
follow-unreachable-requires t c =
    name_known c.args.view.now c.args.name c.args.suffixes.now c.requires.typed (sym c.site_at.ensures ∙ ap option_copied c.in_default.is)

pub step-element_step-element-requires : goal.step-element_step-element-requires
step-element_step-element-requires t c =
    let asked = index_asked (known_of_view c.args.view.now) c.args.suffix.now c.in-Index.field-0 c.in-Index.index c.args.spot.typ c.in-Index.is c.requires.typed in
    ap (λ (v : Value). v.kind) (c.first-number.ensures ∙ ap lone (c.as_slice.ensures ∙ c.in_ok-own-in-Index.ensures)) ∙ one_unsigned c.args.view.now c.requires.narrow c.in-Index.index asked.0

pub follow-loop-suffix-init : goal.follow-loop-suffix-init
follow-loop-suffix-init t c =
    subst (λ w. Leads c.args.view.now c.args.name [] (record { component = c.args.name; typ = c.in_ok-typ.typ; way = Some w })) (sym c.new.ensures)
    (leads_first c.args.view.now c.args.name c.in-Some.site.now c.in_ok-typ.typ (sym c.site_at.ensures ∙ ap option_copied c.in-Some.is) c.in_ok-typ.ensures)

pub follow-step-requires : goal.follow-step-requires
follow-step-requires t c = (
  search (rules, the_lemmas, c.suffix-item.is),
  (
    c.requires.narrow,
    step_typed c.args.view.now c.args.name c.args.suffixes.now c.loop-suffix.suffix-index c.suffix-item.result c.loop-suffix.spot c.loop-suffix-test.true c.suffix-item.is c.requires.typed c.loop-suffix.invariant,
  ),
)

pub follow-loop-suffix-preserved : goal.follow-loop-suffix-preserved
follow-loop-suffix-preserved t c =
    leads_more c.args.view.now c.args.name c.args.suffixes.now c.loop-suffix.suffix-index c.suffix-item.result c.loop-suffix.spot c.in_ok-spot.spot c.loop-suffix-test.true c.suffix-item.is
    c.loop-suffix.invariant c.in_ok-spot.ensures.spot c.in_ok-spot.ensures.typ

pub follow-returns : goal.follow-returns
follow-returns t c = leads_whole c.args.view.now c.args.name c.args.suffixes.now c.loop-suffix.suffix-index c.loop-suffix.spot c.loop-suffix-test.false c.loop-suffix.invariant

pub choice-evaluate-requires-3 : goal.choice-evaluate-requires-3
choice-evaluate-requires-3 t c =
    let known = known_of_view c.args.view.now in
    let three = three_there c.args.operands.now c.condition-item.result c.first_one-item.result c.second_one-item.result (omega arith) (omega arith) c.condition-item.is c.first_one-item.is c.second_one-item.is in
    let asked = choice_asked known c.args.operands.now c.condition-item.result c.first_one-item.result c.second_one-item.result three c.requires.typed in
    (search (rules, the_lemmas, c.second_one-item.is), (c.requires.narrow, second_typed (typed c.first_one-item.result known) (typed c.second_one-item.result known) asked.1))

pub choice-returns : goal.choice-returns
choice-returns t c =
    let scene = scene_of_view c.args.view.now in
    let three = three_there c.args.operands.now c.condition-item.result c.first_one-item.result c.second_one-item.result (omega arith) (omega arith) c.condition-item.is c.first_one-item.is c.second_one-item.is in
    choice_value scene c.args.operands.now c.condition-item.result c.first_one-item.result c.second_one-item.result c.holds.result c.as_slice-2.result.now c.as_slice-3.result.now c.in_ok-values.values three
    (c.holds.ensures ∙ ap is_one_value (c.first.ensures ∙ ap lone (c.as_slice.ensures ∙ c.in_ok-test.ensures)))
    (c.as_slice-2.ensures ∙ c.in_ok-firsts.ensures) (c.as_slice-3.ensures ∙ c.in_ok-seconds.ensures) c.in_ok-values.ensures

pub evaluate-returns-in_ok-values-in-Ref : goal.evaluate-returns-in_ok-values-in-Ref
evaluate-returns-in_ok-values-in-Ref t c =
    ref_value (scene_of_view c.args.view.now) c.args.expr.now c.in-Ref.name c.in-Ref.suffixes c.as_slice.result.now c.in_ok-spot-in-Ref.spot c.in_ok-values-in-Ref.values c.in-Ref.is c.as_slice.ensures
    c.in_ok-spot-in-Ref.ensures c.in_ok-values-in-Ref.ensures

pub step-returns-in_ok-next-in-Field-clause-spot : goal.step-returns-in_ok-next-in-Field-clause-spot
step-returns-in_ok-next-in-Field-clause-spot t c =
    step_field (scene_of_view c.args.view.now) c.args.suffix.now c.in-Field.name c.args.spot c.in_ok-next-in-Field.next c.in_ok-typ-in-Field.typ c.in-Field.is
    (c.in_ok-typ-in-Field.ensures ∙ c.field_type.ensures) c.in_ok-next-in-Field.ensures.is

pub step-returns-in_ok-next-in-Field-clause-typ : goal.step-returns-in_ok-next-in-Field-clause-typ
step-returns-in_ok-next-in-Field-clause-typ t c =
    field_typed (known_of_view c.args.view.now) c.args.suffix.now c.in-Field.name c.args.spot.typ c.in-Field.is c.requires.typed
    ∙ ap Some (sym (c.in_ok-next-in-Field.ensures.typ ∙ (c.in_ok-typ-in-Field.ensures ∙ c.field_type.ensures)))

pub step-returns-in_ok-next-in-At-clause-spot : goal.step-returns-in_ok-next-in-At-clause-spot
step-returns-in_ok-next-in-At-clause-spot t c =
    step_at (scene_of_view c.args.view.now) c.args.suffix.now c.in-At.field-0 c.in-At.field-1 c.in-At.number c.args.spot c.in_ok-next-in-At.next c.in_ok-typ-in-At.typ c.in-At.is
    (c.in_ok-typ-in-At.ensures ∙ c.element_type.ensures) c.in_ok-next-in-At.ensures.is

pub step-returns-in_ok-next-in-At-clause-typ : goal.step-returns-in_ok-next-in-At-clause-typ
step-returns-in_ok-next-in-At-clause-typ t c =
    at_typed (known_of_view c.args.view.now) c.args.suffix.now c.in-At.field-0 c.in-At.field-1 c.in-At.number c.args.spot.typ c.in-At.is c.requires.typed
    ∙ ap Some (sym (c.in_ok-next-in-At.ensures.typ ∙ (c.in_ok-typ-in-At.ensures ∙ c.element_type.ensures)))

pub step-returns-in_ok-next-in-Index-clause-spot : goal.step-returns-in_ok-next-in-Index-clause-spot
step-returns-in_ok-next-in-Index-clause-spot t c =
    step_index (scene_of_view c.args.view.now) c.args.suffix.now c.in-Index.field-0 c.in-Index.index c.args.spot c.in_ok-next-in-Index.next c.in_ok-typ-in-Index.typ c.first-number.result c.vector_length.result
    (option_map step_of c.element_step-element.result) c.in-Index.is (c.in_ok-typ-in-Index.ensures ∙ c.element_type-in-Index.ensures)
    (c.first-number.ensures ∙ ap lone (c.as_slice.ensures ∙ c.in_ok-own-in-Index.ensures)) c.vector_length.ensures c.element_step-element.ensures c.in_ok-next-in-Index.ensures.is

pub step-returns-in_ok-next-in-Index-clause-typ : goal.step-returns-in_ok-next-in-Index-clause-typ
step-returns-in_ok-next-in-Index-clause-typ t c =
    (index_asked (known_of_view c.args.view.now) c.args.suffix.now c.in-Index.field-0 c.in-Index.index c.args.spot.typ c.in-Index.is c.requires.typed).1
    ∙ ap Some (sym (c.in_ok-next-in-Index.ensures.typ ∙ (c.in_ok-typ-in-Index.ensures ∙ c.element_type-in-Index.ensures)))
