use Rattle.std.proofs.Common.{◌≡◌, true, [], ◌∷◌, sym, rules, refl, subst}
use Rattle.std.proofs.lemmas.Result.{IfOk-weaker}
use Rattle.fir_tree.specs.declared.stmt.Stmt.{the_lemmas}
use Rattle.fir_meaning.specs.WellTyped.{typed, are_typed}
use Rattle.ground_exprs.specs.Sources.{known_of}
use Rattle.ground_exprs.proofs.Lowered.{unsigned_some, unsigned_lone}
use Rattle.ground_statements.specs.Bodies.{IsBody}
use Rattle.ground_statements.proofs.Closing.{arm_typed, stmt_typed, body_goes_on, arms_go_on, when_made, with_told}
use Rattle.ground_statements.proofs.PlainStatements.{is_wire, is_register, is_reset_register, is_memory, is_instance, is_node, is_connect, is_invalidate, is_skip}
use Rattle.ground_statements.proofs.body.+body.Goals as goal

pub lower_arms-lower_expr-requires-clause-typed : goal.lower_arms-lower_expr-requires-clause-typed
lower_arms-lower_expr-requires-clause-typed t c =
    unsigned_some (typed c.arm-item.result.condition (known_of c.args.known.now.entries))
    (arm_typed (known_of c.args.known.now.entries) c.args.arms.now c.loop-arm.arm-index c.arm-item.result c.loop-arm-test.true c.arm-item.is c.requires.typed).0

pub lower_arms-lone-condition-requires : goal.lower_arms-lone-condition-requires
lower_arms-lone-condition-requires t c =
    unsigned_lone (typed c.arm-item.result.condition (known_of c.args.known.now.entries)) c.in_ok-lower_expr.field-0
    (arm_typed (known_of c.args.known.now.entries) c.args.arms.now c.loop-arm.arm-index c.arm-item.result c.loop-arm-test.true c.arm-item.is c.requires.typed).0 c.in_ok-lower_expr.ensures.typed

pub lower_arms-lower_body-requires : goal.lower_arms-lower_body-requires
lower_arms-lower_body-requires t c = (
  search (rules, the_lemmas, c.as_slice.ensures, c.arm-item.is),
  (
    c.requires.narrow,
    subst (λ body. are_typed (known_of c.args.known.now.entries) body ≡ true) (sym c.as_slice.ensures)
        (arm_typed (known_of c.args.known.now.entries) c.args.arms.now c.loop-arm.arm-index c.arm-item.result c.loop-arm-test.true c.arm-item.is c.requires.typed).1,
  ),
)

pub lower_arms-loop-arm-preserved : goal.lower_arms-loop-arm-preserved
lower_arms-loop-arm-preserved t c =
    arms_go_on c.args.known.now.entries c.args.settable.now c.args.arms.now c.loop-arm.arm-index c.arm-item.result c.args.before c.loop-arm.behind c.in_ok-lowered.lowered.behind c.loop-arm.made c.push.new.self
    (record { condition = c.lone-condition.result.expr; body = c.in_ok-lowered.lowered.body }) c.lone-condition.result c.in_ok-lower_expr.field-0 c.loop-arm-test.true c.arm-item.is c.loop-arm.invariant c.requires.typed
    c.in_ok-lower_expr.ensures c.lone-condition.ensures refl
    (subst (λ body. IsBody c.args.known.now.entries c.args.settable.now body c.loop-arm.behind c.in_ok-lowered.lowered.behind c.in_ok-lowered.lowered.body) c.as_slice.ensures c.in_ok-lowered.ensures) c.in_ok-push.ensures.ok

pub lower_body-lower_statement-requires : goal.lower_body-lower_statement-requires
lower_body-lower_statement-requires t c = (
  search (rules, the_lemmas, c.statement-item.is),
  (
    c.requires.narrow,
    stmt_typed (known_of c.args.known.now.entries) c.args.body.now c.loop-statement.statement-index c.statement-item.result c.loop-statement-test.true c.statement-item.is c.requires.typed,
  ),
)

pub lower_body-loop-statement-preserved : goal.lower_body-loop-statement-preserved
lower_body-loop-statement-preserved t c =
    body_goes_on c.args.known.now.entries c.args.settable.now c.args.body.now c.loop-statement.statement-index c.statement-item.result c.args.before c.loop-statement.behind c.in_ok-lowered.lowered.behind c.loop-statement.made
    c.in_ok-lowered.lowered.body c.append.new.made c.loop-statement-test.true c.statement-item.is c.loop-statement.invariant c.in_ok-lowered.ensures c.in_ok-append.ensures

pub lower_statement-returns-in-Wire : goal.lower_statement-returns-in-Wire
lower_statement-returns-in-Wire t c =
    IfOk-weaker c.declared.result _ _
    (λ l h. with_told c.args.known.now.entries c.args.settable.now (c.args.statement.now ∷ []) c.args.before l.behind l.behind [] l.body h.0 refl
    (is_wire c.args.known.now.entries c.args.settable.now c.args.before l.behind c.args.statement.now c.in-Wire.name c.in-Wire.field-1 c.in-Wire.is h.1)) c.declared.ensures

pub lower_statement-returns-in-Reg : goal.lower_statement-returns-in-Reg
lower_statement-returns-in-Reg t c =
    IfOk-weaker c.declared-in-Reg.result _ _
    (λ l h. with_told c.args.known.now.entries c.args.settable.now (c.args.statement.now ∷ []) c.args.before l.behind l.behind [] l.body h.0 refl
    (is_register c.args.known.now.entries c.args.settable.now c.args.before l.behind c.args.statement.now c.in-Reg.name c.in-Reg.field-1 c.in-Reg.field-2 c.in-Reg.is h.1)) c.declared-in-Reg.ensures

pub lower_statement-returns-in-RegReset : goal.lower_statement-returns-in-RegReset
lower_statement-returns-in-RegReset t c =
    IfOk-weaker c.declared-in-RegReset.result _ _
    (λ l h. with_told c.args.known.now.entries c.args.settable.now (c.args.statement.now ∷ []) c.args.before l.behind l.behind [] l.body h.0 refl
    (is_reset_register c.args.known.now.entries c.args.settable.now c.args.before l.behind c.args.statement.now c.in-RegReset.name c.in-RegReset.field-1 c.in-RegReset.field-2 c.in-RegReset.field-3 c.in-RegReset.field-4 c.in-RegReset.is h.1)) c.declared-in-RegReset.ensures

pub lower_statement-returns-in-Mem : goal.lower_statement-returns-in-Mem
lower_statement-returns-in-Mem t c =
    IfOk-weaker c.declared-in-Mem.result _ _
    (λ l h. with_told c.args.known.now.entries c.args.settable.now (c.args.statement.now ∷ []) c.args.before l.behind l.behind [] l.body h.0 refl
    (is_memory c.args.known.now.entries c.args.settable.now c.args.before l.behind c.args.statement.now c.in-Mem.memory c.in-Mem.is h.1)) c.declared-in-Mem.ensures

pub lower_statement-returns-in-Inst : goal.lower_statement-returns-in-Inst
lower_statement-returns-in-Inst t c =
    IfOk-weaker c.declared-in-Inst.result _ _
    (λ l h. with_told c.args.known.now.entries c.args.settable.now (c.args.statement.now ∷ []) c.args.before l.behind l.behind [] l.body h.0 refl
    (is_instance c.args.known.now.entries c.args.settable.now c.args.before l.behind c.args.statement.now c.in-Inst.name c.in-Inst.field-1 c.in-Inst.is h.1)) c.declared-in-Inst.ensures

pub lower_statement-returns-in_ok-body-in-Node : goal.lower_statement-returns-in_ok-body-in-Node
lower_statement-returns-in_ok-body-in-Node t c =
    is_node c.args.known.now.entries c.args.settable.now c.in-Node.name c.in-Node.expr c.in_ok-sources-in-Node.sources c.in_ok-body-in-Node.body c.in_ok-body-in-Node.ensures c.in_ok-sources-in-Node.ensures
    c.args.statement.now c.args.before c.in_ok-behind-in-Node.behind c.in-Node.is c.in_ok-behind-in-Node.ensures

pub lower_statement-returns-in_ok-body-in-Connect : goal.lower_statement-returns-in_ok-body-in-Connect
lower_statement-returns-in_ok-body-in-Connect t c =
    with_told c.args.known.now.entries c.args.settable.now (c.args.statement.now ∷ []) c.args.before c.args.before c.staying.result.behind c.in_ok-body-in-Connect.body c.staying.result.body c.staying.ensures.body c.staying.ensures.behind
    (is_connect c.args.known.now.entries c.args.settable.now c.args.statement.now c.in-Connect.left c.in-Connect.right c.args.before c.in_ok-body-in-Connect.body c.in-Connect.is c.in_ok-body-in-Connect.ensures)

pub lower_statement-returns-in_ok-body-in-Invalidate : goal.lower_statement-returns-in_ok-body-in-Invalidate
lower_statement-returns-in_ok-body-in-Invalidate t c =
    with_told c.args.known.now.entries c.args.settable.now (c.args.statement.now ∷ []) c.args.before c.args.before c.staying-in-Invalidate.result.behind c.in_ok-body-in-Invalidate.body c.staying-in-Invalidate.result.body c.staying-in-Invalidate.ensures.body c.staying-in-Invalidate.ensures.behind
    (is_invalidate c.args.known.now.entries c.args.settable.now c.args.statement.now c.in-Invalidate.target c.args.before c.in_ok-body-in-Invalidate.body c.in-Invalidate.is c.in_ok-body-in-Invalidate.ensures)

pub lower_statement-returns-in_ok-lowered-in-When : goal.lower_statement-returns-in_ok-lowered-in-When
lower_statement-returns-in_ok-lowered-in-When t c =
    when_made c.args.known.now.entries c.args.settable.now c.args.statement.now c.in-When.arms c.in-When.other c.args.before c.in_ok-arms-in-When.arms.behind c.in_ok-other-in-When.other.behind
    c.in_ok-lowered-in-When.lowered.behind c.in_ok-arms-in-When.arms.arms c.in_ok-other-in-When.other.body c.in_ok-lowered-in-When.lowered.body c.in-When.is
    (search rules) (search rules) c.in_ok-lowered-in-When.ensures.body c.in_ok-lowered-in-When.ensures.behind

pub lower_statement-returns-in-Skip : goal.lower_statement-returns-in-Skip
lower_statement-returns-in-Skip t c =
    with_told c.args.known.now.entries c.args.settable.now (c.args.statement.now ∷ []) c.args.before c.args.before c.staying-in-Skip.result.behind [] c.staying-in-Skip.result.body (search rules) c.staying-in-Skip.ensures.behind
    (is_skip c.args.known.now.entries c.args.settable.now c.args.statement.now c.in-Skip.field-0 c.args.before c.in-Skip.is)
