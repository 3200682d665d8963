use Rattle.std.proofs.Common.{◌≡◌, ◌<◌, ◌∙◌, sym, ap, rules, option_map, get_or, length}
use Rattle.std.specs.Option.{option_or}
use Rattle.bit_words.specs.Values.{integer_of}
use Rattle.fir_tree.specs.declared.stmt.Stmt.{the_lemmas}
use Rattle.fir_tree.specs.declared.stmt.Arm.{Arm}
use Rattle.fir_meaning.specs.Drives.{effect, set_by_connect, set_by_invalidate}
use Rattle.fir_meaning.specs.WellTyped.{are_typed}
use Rattle.drive_check.specs.Keys.{leaf_of_key}
use Rattle.plain_values.specs.Sites.{known_of_view, scene_of_view}
use Rattle.plain_values.specs.Choosing.{are_conditions}
use Rattle.plain_values.proofs.Numbers.{or_of}
use Rattle.plain_values.proofs.Settings.{left_or}
use Rattle.plain_values.proofs.Statements.{turn_more, typed_one, arms_typed, body_typed, effect-Connect, effect-Invalidate, within, left_by_other, left_by_arm}
use Rattle.plain_values.proofs.driving.+drive.Goals as goal

pub after_block-after_statement-requires : goal.after_block-after_statement-requires
after_block-after_statement-requires t c = (
  search (rules, the_lemmas, c.statement-item.is),
  (
    c.requires.narrow,
    typed_one (known_of_view c.args.view.now) c.args.block.now c.loop-statement.statement-index c.statement-item.result c.loop-statement-test.true c.statement-item.is c.requires.typed,
  ),
)

pub after_block-loop-statement-preserved : goal.after_block-loop-statement-preserved
after_block-loop-statement-preserved t c =
    let does = effect (scene_of_view c.args.view.now) (leaf_of_key c.args.leaf.now) in
    c.in_ok-last.ensures
    ∙ (ap (does c.statement-item.result) c.loop-statement.invariant
    ∙ sym (turn_more does c.args.block.now c.loop-statement.statement-index c.statement-item.result (option_map integer_of c.args.before) c.loop-statement-test.true c.statement-item.is))

pub after_statement-holding-requires-clause-typed : goal.after_statement-holding-requires-clause-typed
after_statement-holding-requires-clause-typed t c =
    ap (are_conditions (known_of_view c.args.view.now)) c.as_slice-arms.ensures
    ∙ arms_typed (known_of_view c.args.view.now) c.args.statement.now c.in-When.arms c.in-When.other c.in-When.is c.requires.typed

pub after_statement-after_block-requires-in-When : goal.after_statement-after_block-requires-in-When
after_statement-after_block-requires-in-When t c =
    let known = known_of_view c.args.view.now in
    let arms = c.in-When.arms in
    let n = c.in-Some.number in
    let arm = c.index-arms-number.result in
    let at : arm ≡ get_or arms n arm = c.index-arms-number.is ∙ ap (λ l. get_or l n arm) c.as_slice-arms.ensures in
    let less : n < length arms = within c.as_slice-arms.result.now arms c.in_ok-number-in-When.field-0 n c.as_slice-arms.ensures c.in-Some.is c.in_ok-number-in-When.ensures.within in (
      search (rules, the_lemmas, c.as_slice-in-When.ensures, c.index-arms-number.is, c.as_slice-arms.ensures, c.in-When.is),
      (
        c.requires.narrow,
        ap (are_typed known) c.as_slice-in-When.ensures
            ∙ (sym (ap (λ (a : Arm). are_typed known a.body) c.index-arms-number.is) ∙ body_typed known c.args.statement.now arms c.in-When.other n arm c.in-When.is c.requires.typed less at),
      ),
    )

pub after_statement-returns-in_default : goal.after_statement-returns-in_default
after_statement-returns-in_default t c =
    left_by_other (scene_of_view c.args.view.now) (leaf_of_key c.args.leaf.now) c.args.statement.now c.in-When.arms c.as_slice-arms.result.now c.in-When.other c.as_slice.result.now
    c.in_ok-number-in-When.field-0 (option_map integer_of c.args.before) (option_map integer_of c.in_ok-last-in-When.last) c.in-When.is c.as_slice-arms.ensures c.in_default.is c.in_ok-number-in-When.ensures.first
    c.as_slice.ensures c.in_ok-last-in-When.ensures

pub after_statement-returns-in_ok-last-in-When-2 : goal.after_statement-returns-in_ok-last-in-When-2
after_statement-returns-in_ok-last-in-When-2 t c =
    left_by_arm (scene_of_view c.args.view.now) (leaf_of_key c.args.leaf.now) c.args.statement.now c.in-When.arms c.as_slice-arms.result.now c.in-When.other c.as_slice-in-When.result.now
    c.in_ok-number-in-When.field-0 c.in-Some.number c.index-arms-number.result (option_map integer_of c.args.before) (option_map integer_of c.in_ok-last-in-When-2.last) c.in-When.is c.as_slice-arms.ensures c.in-Some.is
    c.in_ok-number-in-When.ensures.first c.in_ok-number-in-When.ensures.within c.index-arms-number.is
    (c.as_slice-in-When.ensures ∙ sym (ap (λ (a : Arm). a.body) c.index-arms-number.is)) c.in_ok-last-in-When-2.ensures

pub after_statement-returns-in_ok-set-in-Connect : goal.after_statement-returns-in_ok-set-in-Connect
after_statement-returns-in_ok-set-in-Connect t c =
    let scene = scene_of_view c.args.view.now in
    let leaf = leaf_of_key c.args.leaf.now in
    let last = option_map integer_of c.args.before in
    ap (option_map integer_of) c.or.ensures
    ∙ (or_of integer_of c.in_ok-set-in-Connect.set c.args.before
    ∙ (ap (λ o. option_or o last) c.in_ok-set-in-Connect.ensures
    ∙ sym (effect-Connect scene leaf c.args.statement.now c.in-Connect.left c.in-Connect.right last c.in-Connect.is ∙ left_or leaf last (set_by_connect scene c.in-Connect.left c.in-Connect.right))))

pub after_statement-returns-in_ok-set-in-Invalidate : goal.after_statement-returns-in_ok-set-in-Invalidate
after_statement-returns-in_ok-set-in-Invalidate t c =
    let scene = scene_of_view c.args.view.now in
    let leaf = leaf_of_key c.args.leaf.now in
    let last = option_map integer_of c.args.before in
    ap (option_map integer_of) c.or-in-Invalidate.ensures
    ∙ (or_of integer_of c.in_ok-set-in-Invalidate.set c.args.before
    ∙ (ap (λ o. option_or o last) c.in_ok-set-in-Invalidate.ensures
    ∙ sym (effect-Invalidate scene leaf c.args.statement.now c.in-Invalidate.target last c.in-Invalidate.is ∙ left_or leaf last (set_by_invalidate scene c.in-Invalidate.target))))
