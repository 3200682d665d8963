use Rattle.std.proofs.Common.{ℕ, ◌+◌, ◌-◌, refl, ap, arith}
use Rattle.std.proofs.lemmas.Result.{err_from_is_err_and}
use Rattle.fir_grammar.specs.Reading.{no_memory}
use Rattle.fir_expr.proofs.Bracketed.{opener_call, operation_no_item, stands_opened, stands_indexed}
use Rattle.token_reader.proofs.Depth.{whole_stands}
use Rattle.fir_expr.proofs.Passing.{room_step, room_name}
use Rattle.token_reader.proofs.Sources.{source_part}
use Rattle.fir_expr.proofs.OperandsRead.{component_here, component_read, component_refused, operands_none, operands_no_operand, operands_refused, operands_more, mux_no_call, mux_no_operand, mux_not_closed, mux_read, operation_no_call, operation_no_operand, operation_no_number, operation_not_closed, operation_read, reference_no_name, name_begins, reference_refused, reference_read, suffixes_none, index_no_mark, index_refused, index_not_closed, index_stepped}
use Rattle.prim_ops.specs.Operations.{name_of}
use Rattle.std.specs.Prelude.{codes}
use Rattle.fir_expr.proofs.Underway.{underway_more}
use Rattle.fir_expr.proofs.expressions.+expr.Goals as goal

-- expressions

pub expr-returns-in_err-head_at : goal.expr-returns-in_err-head_at
expr-returns-in_err-head_at t c = let p = err_from_is_err_and c.from_residual.result c.from_residual.ensures.1 in rw (p.1, p.2, c.in_err-head_at.ensures.err) no_memory

pub expr-returns-in_err-component-in-Component : goal.expr-returns-in_err-component-in-Component
expr-returns-in_err-component-in-Component t c =
    let p = err_from_is_err_and c.from_residual-in_err-component-in-Component.result c.from_residual-in_err-component-in-Component.ensures.1 in
    rw (p.1, p.2) (component_refused (component_here c.in_ok-head_at.field-0 c.in-Component.is c.in_ok-head_at.ensures.ok) c.in_err-component-in-Component.ensures)

pub expr-returns-in_ok-component-in-Component : goal.expr-returns-in_ok-component-in-Component
expr-returns-in_ok-component-in-Component t c = component_read (component_here c.in_ok-head_at.field-0 c.in-Component.is c.in_ok-head_at.ensures.ok) c.in_ok-component-in-Component.ensures

-- multiplexers

pub mux-returns-in_err-call : goal.mux-returns-in_err-call
mux-returns-in_err-call t c =
    let p = err_from_is_err_and c.from_residual.result c.from_residual.ensures.1 in
    rw (p.1, p.2) (mux_no_call c.requires.start.stands c.requires.head (c.in_err-call.ensures.taken (codes "mux") refl c.requires.head))

pub mux-operands-requires : goal.mux-operands-requires
mux-operands-requires t c =
    let taken = c.in_ok-call.ensures.taken (codes "mux") refl c.requires.head in
    let few = c.in_ok-call.ensures.few in
    let within = c.in_ok-call.ensures.within in
    let e = room_step c.args.names.now c.args.from.now.laid.now c.args.at c.in_ok-call.call taken.here in
    (omega (arith, few, c.decreases), (record { source = c.requires.start.source; room = omega (arith, e, c.requires.start.room); stands = stands_opened (opener_call (codes "mux") refl) taken c.requires.start.stands few }, omega (arith, within)))

pub mux-returns-in_err-close : goal.mux-returns-in_err-close
mux-returns-in_err-close t c =
    let p = err_from_is_err_and c.from_residual-in_err-close.result c.from_residual-in_err-close.ensures.1 in
    rw (p.1, p.2) (mux_no_operand c.requires.start.stands c.requires.head (c.in_ok-call.ensures.taken (codes "mux") refl c.requires.head) c.in_err-close.ensures.err)

pub mux-returns-in_err-take_mark : goal.mux-returns-in_err-take_mark
mux-returns-in_err-take_mark t c =
    let p = err_from_is_err_and c.from_residual-in_err-take_mark.result c.from_residual-in_err-take_mark.ensures.1 in
    rw (p.1, p.2) (mux_not_closed c.requires.start.stands c.requires.head (c.in_ok-call.ensures.taken (codes "mux") refl c.requires.head) c.in_ok-close.ensures.ok c.new-read.ensures c.in_err-take_mark.ensures.taken)

pub mux-place_of_part-place-requires-clause-inside : goal.mux-place_of_part-place-requires-clause-inside
mux-place_of_part-place-requires-clause-inside t c =
    source_part c.args.from.now.text.now c.args.from.now.laid.now c.args.at c.in_ok-call.call c.requires.start.source (c.in_ok-call.ensures.taken (codes "mux") refl c.requires.head).here

pub mux-returns : goal.mux-returns
mux-returns t c = rw c.place_of_part-place.ensures
    (mux_read c.requires.start.stands c.requires.head (c.in_ok-call.ensures.taken (codes "mux") refl c.requires.head) c.in_ok-close.ensures.ok c.new-read.ensures c.in_ok-take_mark.ensures.taken)

-- operations

pub operation-returns-in_err-call : goal.operation-returns-in_err-call
operation-returns-in_err-call t c =
    let p = err_from_is_err_and c.from_residual.result c.from_residual.ensures.1 in
    rw (p.1, p.2) (operation_no_call c.args.prim c.requires.written c.requires.start.stands c.requires.head refl refl (c.in_err-call.ensures.taken (name_of c.args.prim) (operation_no_item c.args.prim) c.requires.head))

pub operation-operands-requires : goal.operation-operands-requires
operation-operands-requires t c =
    let taken = c.in_ok-call.ensures.taken (name_of c.args.prim) (operation_no_item c.args.prim) c.requires.head in
    let few = c.in_ok-call.ensures.few in
    let within = c.in_ok-call.ensures.within in
    let e = room_step c.args.names.now c.args.from.now.laid.now c.args.at c.in_ok-call.call taken.here in
    (omega (arith, few, c.decreases), (record { source = c.requires.start.source; room = omega (arith, e, c.requires.start.room); stands = stands_opened (opener_call (name_of c.args.prim) (operation_no_item c.args.prim)) taken c.requires.start.stands few }, omega (arith, within)))

pub operation-returns-in_err-behind : goal.operation-returns-in_err-behind
operation-returns-in_err-behind t c =
    let p = err_from_is_err_and c.from_residual-in_err-behind.result c.from_residual-in_err-behind.ensures.1 in
    rw (p.1, p.2) (operation_no_operand c.args.prim c.requires.written c.requires.start.stands c.requires.head (ap (λ (x : ℕ × ℕ). x.0) c.arity-counts.ensures) refl (c.in_ok-call.ensures.taken (name_of c.args.prim) (operation_no_item c.args.prim) c.requires.head) c.in_err-behind.ensures.err)

pub operation-numbers-requires-clause-stands : goal.operation-numbers-requires-clause-stands
operation-numbers-requires-clause-stands t c = (
  c.args.brackets + 1,
  whole_stands c.in_ok-behind.ensures.ok.passed.whole
      (stands_opened (opener_call (name_of c.args.prim) (operation_no_item c.args.prim)) (c.in_ok-call.ensures.taken (name_of c.args.prim) (operation_no_item c.args.prim) c.requires.head) c.requires.start.stands c.in_ok-call.ensures.few),
)

pub operation-returns-in_err-parameters : goal.operation-returns-in_err-parameters
operation-returns-in_err-parameters t c =
    let p = err_from_is_err_and c.from_residual-in_err-parameters.result c.from_residual-in_err-parameters.ensures.1 in
    rw (p.1, p.2) (operation_no_number c.args.prim c.requires.written c.requires.start.stands c.requires.head (ap (λ (x : ℕ × ℕ). x.0) c.arity-counts.ensures) (ap (λ (x : ℕ × ℕ). x.1) c.arity-counts.ensures)
    (c.in_ok-call.ensures.taken (name_of c.args.prim) (operation_no_item c.args.prim) c.requires.head) c.in_ok-behind.ensures.ok c.new-read.ensures (c.in_err-parameters.ensures c.args.from.now.major c.operands.new.names))

pub operation-returns-in_err-take_mark : goal.operation-returns-in_err-take_mark
operation-returns-in_err-take_mark t c =
    let p = err_from_is_err_and c.from_residual-in_err-take_mark.result c.from_residual-in_err-take_mark.ensures.1 in
    rw (p.1, p.2) (operation_not_closed c.args.prim c.requires.written c.requires.start.stands c.requires.head (ap (λ (x : ℕ × ℕ). x.0) c.arity-counts.ensures) (ap (λ (x : ℕ × ℕ). x.1) c.arity-counts.ensures)
    (c.in_ok-call.ensures.taken (name_of c.args.prim) (operation_no_item c.args.prim) c.requires.head) c.in_ok-behind.ensures.ok c.new-read.ensures (c.in_ok-parameters.ensures c.args.from.now.major c.operands.new.names) c.in_err-take_mark.ensures.taken)

pub operation-place_of_part-place-requires-clause-inside : goal.operation-place_of_part-place-requires-clause-inside
operation-place_of_part-place-requires-clause-inside t c =
    source_part c.args.from.now.text.now c.args.from.now.laid.now c.args.at c.in_ok-call.call c.requires.start.source (c.in_ok-call.ensures.taken (name_of c.args.prim) (operation_no_item c.args.prim) c.requires.head).here

pub operation-returns : goal.operation-returns
operation-returns t c = rw (c.place_of_part-place.ensures, c.in_version.ensures)
    (operation_read c.args.prim c.requires.written c.requires.start.stands c.requires.head (ap (λ (x : ℕ × ℕ). x.0) c.arity-counts.ensures) (ap (λ (x : ℕ × ℕ). x.1) c.arity-counts.ensures)
    (c.in_ok-call.ensures.taken (name_of c.args.prim) (operation_no_item c.args.prim) c.requires.head) c.in_ok-behind.ensures.ok c.new-read.ensures (c.in_ok-parameters.ensures c.args.from.now.major c.operands.new.names) c.in_ok-take_mark.ensures.taken)

-- operands

pub operands-returns-then-count-eq0-clause-ok : goal.operands-returns-then-count-eq0-clause-ok
operands-returns-then-count-eq0-clause-ok t c = operands_none c.args.names.now c.args.read.now c.requires.start.stands c.requires.within (omega (arith, c.if-count-eq0.true))

pub operands-returns-in_err-operand-clause-err : goal.operands-returns-in_err-operand-clause-err
operands-returns-in_err-operand-clause-err t c =
    let p = err_from_is_err_and c.from_residual.result c.from_residual.ensures.1 in
    rw (p.1, p.2) (operands_no_operand (c.args.count - 1) (omega (arith, c.if-count-eq0.false)) c.in_err-operand.ensures)

pub operands-returns-in_err-push-clause-err : goal.operands-returns-in_err-push-clause-err
operands-returns-in_err-push-clause-err t c = let p = err_from_is_err_and c.from_residual-in_err-push.result c.from_residual-in_err-push.ensures.1 in rw (p.1, p.2) no_memory

pub operands-returns-in_err-end-clause-err : goal.operands-returns-in_err-end-clause-err
operands-returns-in_err-end-clause-err t c =
    let p = err_from_is_err_and c.from_residual-in_err-end.result c.from_residual-in_err-end.ensures.1 in
    rw (p.1, p.2) (operands_refused c.in_ok-operand.ensures (c.args.count - 1) (omega (arith, c.if-count-eq0.false)) c.in_err-end.ensures.err)

pub operands-returns-clause-ok : goal.operands-returns-clause-ok
operands-returns-clause-ok t c =
    operands_more c.in_ok-operand.ensures (c.args.count - 1) (omega (arith, c.if-count-eq0.false)) (rw c.in_ok-push.ensures.ok at c.in_ok-end.ensures.ok)

pub operands-expr-requires : goal.operands-expr-requires
operands-expr-requires t c = (omega (arith, c.decreases), c.requires.start)

pub operands-operands-requires : goal.operands-operands-requires
operands-operands-requires t c = (
  omega (arith, c.if-count-eq0.false, c.decreases),
  (record { source = c.requires.start.source; room = omega (arith, c.in_ok-operand.ensures.room, c.requires.start.room); stands = whole_stands c.in_ok-operand.ensures.whole c.requires.start.stands }, c.in_ok-operand.ensures.read.within),
)

-- references

pub reference-returns-in_err-name : goal.reference-returns-in_err-name
reference-returns-in_err-name t c = let p = err_from_is_err_and c.from_residual.result c.from_residual.ensures.1 in rw (p.1, p.2) (reference_no_name c.in_err-name.ensures.err)

pub reference-suffixes-requires : goal.reference-suffixes-requires
reference-suffixes-requires t c =
    let n = c.in_ok-name.ensures.ok in
    let e = room_name c.args.names.now c.take_name.new.names c.args.from.now.laid.now c.args.at n.token n.taken.here n.grows in
    (omega (arith, c.decreases), (record { source = c.requires.source; room = omega (arith, e, c.requires.room); stands = (name_begins n c.requires.stands).stands }, (name_begins n c.requires.stands).no_suffix))

pub reference-returns-in_err-end : goal.reference-returns-in_err-end
reference-returns-in_err-end t c =
    let p = err_from_is_err_and c.from_residual-in_err-end.result c.from_residual-in_err-end.ensures.1 in
    rw (p.1, p.2) (reference_refused c.in_ok-name.ensures.ok c.in_err-end.ensures.err)

pub reference-returns : goal.reference-returns
reference-returns t c = reference_read c.in_ok-name.ensures.ok c.requires.stands c.in_ok-end.ensures.ok c.new-read.ensures

-- suffixes

pub suffixes-returns-in_default-clause-ok : goal.suffixes-returns-in_default-clause-ok
suffixes-returns-in_default-clause-ok t c =
    let none = rw c.in_default.is at c.in_ok-next.ensures.none in c.loop-next.invariant.goes_on (suffixes_none c.loop-next.read c.loop-next.invariant.stands none.0 none.1)

pub suffixes-returns-in_err-push-clause-err : goal.suffixes-returns-in_err-push-clause-err
suffixes-returns-in_err-push-clause-err t c = let p = err_from_is_err_and c.from_residual-in_err-push.result c.from_residual-in_err-push.ensures.1 in rw (p.1, p.2) no_memory

pub suffixes-loop-next-preserved : goal.suffixes-loop-next-preserved
suffixes-loop-next-preserved t c =
    let step = rw c.in-Some.is at c.in_ok-next.ensures.some in
    rw c.in_ok-push.ensures.ok (underway_more c.loop-next.invariant step)

pub suffixes-suffix-requires : goal.suffixes-suffix-requires
suffixes-suffix-requires t c = (
  omega arith,
  (record { source = c.requires.start.source; room = omega (arith, c.loop-next.invariant.room, c.requires.start.room); stands = c.loop-next.invariant.stands }, c.loop-next.invariant.counted),
)

-- one suffix

pub suffix-returns-in_err-part-clause-err : goal.suffix-returns-in_err-part-clause-err
suffix-returns-in_err-part-clause-err t c = let p = err_from_is_err_and c.from_residual.result c.from_residual.ensures.1 in rw (p.1, p.2, c.in_err-part.ensures.err) no_memory

-- indices

pub index-returns-in_err-first : goal.index-returns-in_err-first
index-returns-in_err-first t c = let p = err_from_is_err_and c.from_residual.result c.from_residual.ensures.1 in rw (p.1, p.2, c.in_err-first.ensures.err) no_memory

pub dynamic-returns-in_err-mark : goal.dynamic-returns-in_err-mark
dynamic-returns-in_err-mark t c =
    let p = err_from_is_err_and c.from_residual.result c.from_residual.ensures.1 in rw (p.1, p.2) (index_no_mark c.requires.begins c.requires.number c.in_err-mark.ensures.taken)

pub dynamic-expr-requires : goal.dynamic-expr-requires
dynamic-expr-requires t c =
    let taken = c.in_ok-mark.ensures.taken in
    let few = c.in_ok-mark.ensures.few_brackets refl in
    let e = room_step c.args.names.now c.args.from.now.laid.now c.args.at c.in_ok-mark.mark taken.here in
    (omega (arith, few, c.decreases), record { source = c.requires.start.source; room = omega (arith, e, c.requires.start.room); stands = stands_indexed taken c.requires.start.stands few })

pub dynamic-returns-in_err-index : goal.dynamic-returns-in_err-index
dynamic-returns-in_err-index t c =
    let p = err_from_is_err_and c.from_residual-in_err-index.result c.from_residual-in_err-index.ensures.1 in
    rw (p.1, p.2) (index_refused c.requires.begins c.requires.number c.in_ok-mark.ensures.taken c.in_err-index.ensures)

pub dynamic-returns-in_err-take_mark : goal.dynamic-returns-in_err-take_mark
dynamic-returns-in_err-take_mark t c =
    let p = err_from_is_err_and c.from_residual-in_err-take_mark.result c.from_residual-in_err-take_mark.ensures.1 in
    rw (p.1, p.2) (index_not_closed c.requires.begins c.requires.number c.in_ok-mark.ensures.taken c.in_ok-index.ensures c.in_err-take_mark.ensures.taken)

pub dynamic-place_of_part-requires-clause-inside : goal.dynamic-place_of_part-requires-clause-inside
dynamic-place_of_part-requires-clause-inside t c = source_part c.args.from.now.text.now c.args.from.now.laid.now c.args.at c.in_ok-mark.mark c.requires.start.source c.in_ok-mark.ensures.taken.here

pub dynamic-returns : goal.dynamic-returns
dynamic-returns t c = (
  rw c.place_of_part.ensures (index_stepped c.requires.begins c.requires.number c.in_ok-mark.ensures.taken c.in_ok-index.ensures c.requires.start.stands c.in_ok-take_mark.ensures.taken),
  c.in_ok-mark.ensures.few,
)
