use Rattle.std.proofs.Common.{rules, ◌≡◌, ℕ, ◌+◌, ◌∙◌, sym, subst, ap}
use Rattle.code_draft.specs.declared.draft.Draft.{Draft}
use Rattle.code_draft.specs.Drafts.{Works, with_instr, with_slots}
use Rattle.code_draft.proofs.Worked.{works}
use Rattle.code_draft.proofs.computing.computed.Goals as goal

abbrev with_count : Draft → ℕ → Draft
with_count d n = record { instrs = d.instrs; ports = d.ports; wides = d.wides; slots = n; words = d.words }

pub returns-clause-works : goal.returns-clause-works
returns-clause-works c = λ is can.
    let d = c.args.draft.now in
    let more : c.in-Some.slots ≡ d.slots + 1 = search (rules, c.checked_add.ensures, c.in-Some.is, c.in-Some.ensures) in
    let e = c.in_ok-add_instr.ensures ∙ (ap (λ n. with_instr (with_count d n) c.with_target.result) more ∙ ap (with_instr (with_slots d 1)) c.with_target.ensures) in
    subst (λ x. Works d x c.args.work d.slots) (sym e) (works d c.args.work is can)
