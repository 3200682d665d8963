use Rattle.std.proofs.Common.{◌≡◌, refl, sym, subst}
use Rattle.code_draft.specs.Drafts.{Works, with_instr, with_slots, at_slot}
use Rattle.code_draft.specs.Rows.{reaching, keeping}
use Rattle.code_draft.proofs.Placing.{ok_so, on_both, works_as, code_as}
use Rattle.code_draft.proofs.Reaching.{Reaches, loads, keep_computes, word_loads, word_adds, whole_loads, whole_adds}
use Rattle.code_draft.proofs.loading.load_word.Goals as goal

pub returns-clause-loads : goal.returns-clause-loads
returns-clause-loads c = ok_so c.computed-2.result c.computed-2.ensures.works (λ slot last is written within.
    let a = c.args.draft.now in
    let b = c.computed.new.draft in
    let e = c.computed-2.new.draft in
    let x = c.args.address in
    let r = c.args.region in
    let k = c.in_ok-word.word in
    let code : b ≡ with_instr (with_slots a 1) (at_slot a.slots (reaching x r)) = code_as a b _ _ c.fetched.ensures c.in_ok-word.ensures.code in
    let reaches : Reaches a (reaching x r) = record { op = refl; address = written; within = within } in
    let first : Works a b (reaching x r) k =
    subst (λ d. Works a d (reaching x r) k) (sym code) (subst (λ j. Works a (with_instr (with_slots a 1) (at_slot a.slots (reaching x r))) (reaching x r) j) (sym c.in_ok-word.ensures.place) (loads a (reaching x r) is reaches)) in
    let next : Works b e (keeping k c.args.mask) slot = works_as b e _ _ slot c.cut.ensures last first.grows.is (keep_computes b k c.args.mask first.written) in
    word_loads a b e x k slot c.args.mask r first next)

pub returns-clause-adds : goal.returns-clause-adds
returns-clause-adds c = ok_so c.computed-2.result (on_both _ _ c.computed-2.result c.computed-2.ensures.place c.computed-2.ensures.code) (λ slot last.
    word_adds c.args.draft.now c.computed.new.draft c.computed-2.new.draft c.args.address c.in_ok-word.word c.args.mask c.args.region (code_as _ _ _ _ c.fetched.ensures c.in_ok-word.ensures.code) c.in_ok-word.ensures.place
    (code_as _ _ _ _ c.cut.ensures last.1))

pub returns-then-mask-eq18446744073709551615-clause-loads : goal.returns-then-mask-eq18446744073709551615-clause-loads
returns-then-mask-eq18446744073709551615-clause-loads c = λ is written within.
    let a = c.args.draft.now in
    let b = c.computed.new.draft in
    let x = c.args.address in
    let r = c.args.region in
    let k = c.in_ok-word.word in
    let code : b ≡ with_instr (with_slots a 1) (at_slot a.slots (reaching x r)) = code_as a b _ _ c.fetched.ensures c.in_ok-word.ensures.code in
    let reaches : Reaches a (reaching x r) = record { op = refl; address = written; within = within } in
    let first : Works a b (reaching x r) k =
    subst (λ d. Works a d (reaching x r) k) (sym code) (subst (λ j. Works a (with_instr (with_slots a 1) (at_slot a.slots (reaching x r))) (reaching x r) j) (sym c.in_ok-word.ensures.place) (loads a (reaching x r) is reaches)) in
    whole_loads a b x k c.args.mask r c.if-mask-eq18446744073709551615.true first

pub returns-then-mask-eq18446744073709551615-clause-adds : goal.returns-then-mask-eq18446744073709551615-clause-adds
returns-then-mask-eq18446744073709551615-clause-adds c = whole_adds c.args.draft.now c.computed.new.draft c.args.address c.args.region (code_as _ _ _ _ c.fetched.ensures c.in_ok-word.ensures.code)
