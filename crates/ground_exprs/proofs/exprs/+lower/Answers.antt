use Rattle.std.proofs.Common.{◌≡◌, ◌∙◌, sym, subst, refl, true, [], rules, arith, length, map}
use Rattle.fir_tree.specs.declared.expr.Expr.{the_lemmas}
use Rattle.std.specs.Prelude.{IsSome}
use Rattle.std.specs.List.{list_all}
use Rattle.fir_meaning.specs.WellTyped.{typed}
use Rattle.ground_net.specs.Shapes.{shape_of_row}
use Rattle.ground_exprs.specs.Sources.{known_of, told, is_lone, IsLowered, AreOperands, Leads}
use Rattle.ground_exprs.proofs.Lists.{item_there}
use Rattle.ground_exprs.proofs.Lowered.{leads_whole, leads_more, step_typed, name_known, steps_field, steps_at, steps_index, at_asked, index_asked, unsigned_some, unsigned_lone}
use Rattle.ground_exprs.proofs.Operands.{operands_more, operands_lone, row_fits}
use Rattle.ground_exprs.proofs.Mixing.{choice_asked, second_typed, choice_lowers}
use Rattle.ground_exprs.proofs.Closing.{take_whole, three_there, ref_lowers, literal_lowers, prim_lowers, narrow_element}
use Rattle.ground_exprs.proofs.exprs.+lower.Goals as goal

pub follow-unreachable-requires : goal.follow-unreachable-requires
follow-unreachable-requires t c = name_known c.args.known.now.entries c.args.name c.args.suffixes.now c.requires.typed (sym c.in_default.ensures.value)

pub follow-loop-suffix-init : goal.follow-loop-suffix-init
follow-loop-suffix-init t c =
    subst (λ typ. Leads c.args.known.now.entries c.args.name.id [] typ c.whole.result) (sym c.tabled.ensures)
    (leads_whole c.args.known.now.entries c.args.name.id c.in-Some.component.now c.whole.result c.requires.narrow (sym c.in-Some.ensures.value) c.whole.ensures)

pub follow-step-requires : goal.follow-step-requires
follow-step-requires t c = (
  search (rules, the_lemmas, c.suffix-item.is),
  (
    c.requires.narrow,
    step_typed c.args.known.now.entries c.args.name c.args.suffixes.now c.loop-suffix.suffix-index c.suffix-item.result c.loop-suffix.view.at.typ.now c.loop-suffix.view.part
        c.loop-suffix-test.true c.suffix-item.is c.requires.typed c.loop-suffix.invariant,
  ),
)

pub follow-loop-suffix-preserved : goal.follow-loop-suffix-preserved
follow-loop-suffix-preserved t c =
    leads_more c.args.known.now.entries c.args.name.id c.args.suffixes.now c.loop-suffix.suffix-index c.suffix-item.result c.loop-suffix.view.at.typ.now c.in_ok-view.view.at.typ.now
    c.loop-suffix.view.part c.in_ok-view.view.part c.loop-suffix-test.true c.suffix-item.is c.loop-suffix.invariant c.in_ok-view.ensures

pub follow-returns : goal.follow-returns
follow-returns t c =
    subst (λ ss. Leads c.args.known.now.entries c.args.name.id ss c.loop-suffix.view.at.typ.now c.loop-suffix.view.part) (take_whole c.args.suffixes.now c.loop-suffix.suffix-index c.loop-suffix-test.false)
    c.loop-suffix.invariant

pub lower_choice-lone-condition-requires : goal.lower_choice-lone-condition-requires
lower_choice-lone-condition-requires t c =
    let three = three_there c.args.operands.now c.condition-item.result c.first-item.result c.second-item.result (omega arith) (omega arith) c.condition-item.is c.first-item.is c.second-item.is in
    let asked = choice_asked (known_of c.args.known.now.entries) c.args.operands.now c.condition-item.result c.first-item.result c.second-item.result three c.requires.typed in
    unsigned_lone (typed c.condition-item.result (known_of c.args.known.now.entries)) c.in_ok-lower_expr.field-0 asked.0 c.in_ok-lower_expr.ensures.typed

pub lower_choice-lower_expr-requires-3 : goal.lower_choice-lower_expr-requires-3
lower_choice-lower_expr-requires-3 t c =
    let three = three_there c.args.operands.now c.condition-item.result c.first-item.result c.second-item.result (omega arith) (omega arith) c.condition-item.is c.first-item.is c.second-item.is in
    let asked = choice_asked (known_of c.args.known.now.entries) c.args.operands.now c.condition-item.result c.first-item.result c.second-item.result three c.requires.typed in
    (search (rules, the_lemmas, c.second-item.is), (c.requires.narrow, second_typed (typed c.first-item.result (known_of c.args.known.now.entries)) (typed c.second-item.result (known_of c.args.known.now.entries)) asked.1))

pub lower_choice-returns : goal.lower_choice-returns
lower_choice-returns t c =
    let three = three_there c.args.operands.now c.condition-item.result c.first-item.result c.second-item.result (omega arith) (omega arith) c.condition-item.is c.first-item.is c.second-item.is in
    choice_lowers c.args.known.now.entries c.args.operands.now c.condition-item.result c.first-item.result c.second-item.result c.lone-condition.result c.in_ok-lower_expr.field-0 c.in_ok-first.first
    c.in_ok-second.second c.in_ok-sources.sources three c.requires.typed c.lone-condition.ensures c.in_ok-lower_expr.ensures c.in_ok-first.ensures c.in_ok-second.ensures c.in_ok-sources.ensures

pub lower_expr-lower_operands-requires : goal.lower_expr-lower_operands-requires
lower_expr-lower_operands-requires t c = (
  search (rules, the_lemmas, c.as_slice-in-Prim.ensures, c.in-Prim.is),
  (
    c.requires.narrow,
    subst (λ es. list_all (is_lone (known_of c.args.known.now.entries)) es ≡ true) (sym c.as_slice-in-Prim.ensures)
        (operands_lone c.args.known.now.entries c.args.expr.now c.in-Prim.prim c.in-Prim.operands c.in-Prim.params c.in-Prim.is c.requires.typed),
  ),
)

pub lower_expr-operation-requires : goal.lower_expr-operation-requires
lower_expr-operation-requires t c =
    subst (λ ps. IsSome (shape_of_row c.in-Prim.prim ps (map told c.in_ok-operands-in-Prim.operands))) (sym c.as_slice-in-Prim-2.ensures)
    (row_fits c.args.known.now.entries c.args.expr.now c.in-Prim.prim c.in-Prim.operands c.in-Prim.params c.in_ok-operands-in-Prim.operands c.in-Prim.is c.requires.typed
    (subst (λ es. AreOperands c.args.known.now.entries es (length es) c.in_ok-operands-in-Prim.operands) c.as_slice-in-Prim.ensures c.in_ok-operands-in-Prim.ensures))

pub lower_expr-returns-in_ok-sources-in-Ref : goal.lower_expr-returns-in_ok-sources-in-Ref
lower_expr-returns-in_ok-sources-in-Ref t c =
    ref_lowers c.args.known.now.entries c.args.expr.now c.in-Ref.name c.in-Ref.suffixes c.as_slice.result.now c.in_ok-view-in-Ref.view.at.typ.now c.in_ok-view-in-Ref.view.part c.in_ok-sources-in-Ref.sources
    c.in-Ref.is c.as_slice.ensures c.in_ok-view-in-Ref.ensures c.in_ok-sources-in-Ref.ensures

pub lower_expr-returns-in_ok-sources-in-Literal : goal.lower_expr-returns-in_ok-sources-in-Literal
lower_expr-returns-in_ok-sources-in-Literal t c =
    literal_lowers c.args.known.now.entries c.args.expr.now c.in-Literal.kind c.in-Literal.width c.in-Literal.number c.in_ok-sources-in-Literal.sources c.in-Literal.is (c.in_ok-sources-in-Literal.ensures c.args.known.now.entries)

pub lower_expr-returns-in_ok-sources-in-Prim : goal.lower_expr-returns-in_ok-sources-in-Prim
lower_expr-returns-in_ok-sources-in-Prim t c =
    prim_lowers c.args.known.now.entries c.args.expr.now c.in-Prim.prim c.in-Prim.operands c.as_slice-in-Prim.result.now c.in-Prim.params c.as_slice-in-Prim-2.result.now c.in_ok-operands-in-Prim.operands c.from_vec.result
    c.in_ok-source-in-Prim.source c.in-Prim.is c.as_slice-in-Prim.ensures c.as_slice-in-Prim-2.ensures c.in_ok-operands-in-Prim.ensures c.in_ok-source-in-Prim.ensures.expr c.in_ok-source-in-Prim.ensures.shape
    (c.from_vec.ensures ∙ c.in_ok-sources-in-Prim.ensures.items)

pub lower_operands-loop-operand-preserved : goal.lower_operands-loop-operand-preserved
lower_operands-loop-operand-preserved t c =
    operands_more c.args.known.now.entries c.args.operands.now c.loop-operand.operand-index c.operand-item.result c.loop-operand.sources c.push.new.self c.in_ok-lower_expr.field-0 c.lone-source.result
    c.loop-operand.invariant (item_there c.args.operands.now c.args.operands.now c.loop-operand.operand-index c.operand-item.result refl c.loop-operand-test.true c.operand-item.is)
    c.lone-source.ensures c.in_ok-lower_expr.ensures c.in_ok-push.ensures.ok

pub step-lower_expr-requires : goal.step-lower_expr-requires
step-lower_expr-requires t c = (
  search (rules, the_lemmas, c.in-Index.is),
  (
    c.requires.narrow,
    unsigned_some (typed c.in-Index.index (known_of c.args.known.now.entries)) (index_asked (known_of c.args.known.now.entries) c.args.suffix.now c.in-Index.field-0 c.in-Index.index c.args.view.at.typ.now c.in-Index.is c.requires.typed).0,
  ),
)

pub step-lone-source-requires : goal.step-lone-source-requires
step-lone-source-requires t c =
    unsigned_lone (typed c.in-Index.index (known_of c.args.known.now.entries)) c.in_ok-lower_expr-in-Index.field-0
    (index_asked (known_of c.args.known.now.entries) c.args.suffix.now c.in-Index.field-0 c.in-Index.index c.args.view.at.typ.now c.in-Index.is c.requires.typed).0 c.in_ok-lower_expr-in-Index.ensures.typed

pub step-returns-in_ok-next-in-Field : goal.step-returns-in_ok-next-in-Field
step-returns-in_ok-next-in-Field t c =
    steps_field c.args.known.now.entries c.args.suffix.now c.in-Field.name c.args.view.at.typ.now c.in_ok-next-in-Field.next.at.typ.now c.args.view.part c.in_ok-next-in-Field.next.part c.in-Field.is
    c.in_ok-next-in-Field.ensures.typ c.in_ok-next-in-Field.ensures.part

pub step-returns-in_ok-next-in-At : goal.step-returns-in_ok-next-in-At
step-returns-in_ok-next-in-At t c =
    steps_at c.args.known.now.entries c.args.suffix.now c.in-At.field-0 c.in-At.field-1 c.in-At.number c.args.view.at.typ.now c.in_ok-next-in-At.next.at.typ.now c.args.view.part c.in_ok-next-in-At.next.part c.in-At.is
    (at_asked (known_of c.args.known.now.entries) c.args.suffix.now c.in-At.field-0 c.in-At.field-1 c.in-At.number c.args.view.at.typ.now c.in-At.is c.requires.typed).0
    c.in_ok-next-in-At.ensures.typ c.in_ok-next-in-At.ensures.part

pub step-returns-in_ok-part-in-Index : goal.step-returns-in_ok-part-in-Index
step-returns-in_ok-part-in-Index t c =
    steps_index c.args.known.now.entries c.args.suffix.now c.in-Index.field-0 c.in-Index.index c.args.view.at.typ.now c.in_ok-elements-in-Index.elements.at.typ.now c.args.view.part c.in_ok-part-in-Index.part c.lone-source.result
    (record { index = c.lone-source.result.expr; length = c.in_ok-elements-in-Index.elements.length; stride = c.in_ok-elements-in-Index.elements.stride }) c.in-Index.is
    (index_asked (known_of c.args.known.now.entries) c.args.suffix.now c.in-Index.field-0 c.in-Index.index c.args.view.at.typ.now c.in-Index.is c.requires.typed).0
    (subst (IsLowered c.args.known.now.entries c.in-Index.index) c.lone-source.ensures c.in_ok-lower_expr-in-Index.ensures)
    c.in_ok-elements-in-Index.ensures.typ c.in_ok-elements-in-Index.ensures.length refl c.in_ok-elements-in-Index.ensures.inside
    (narrow_element c.args.view.at.typ.now c.in_ok-elements-in-Index.elements.at.typ.now c.in_ok-elements-in-Index.ensures.typ) c.in_ok-part-in-Index.ensures.first c.in_ok-part-in-Index.ensures.picks
