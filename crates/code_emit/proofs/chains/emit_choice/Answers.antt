use Rattle.std.proofs.Common.{◌≡◌, ◌<◌, length, true, sym, subst, ap, ◌∙◌, arith}
use Rattle.flat_code.specs.Fine.{location_slots, slots_of}
use Rattle.code_draft.specs.Segments.{Segment}
use Rattle.code_emit.specs.Spans.{ComeBefore, are_words}
use Rattle.code_emit.proofs.Shaped.{ok_so}
use Rattle.code_emit.proofs.Following.{choice_some, step_follows, chain_follows}
use Rattle.code_emit.proofs.chains.emit_choice.Goals as goal

pub returns-then-are_words-clause-follows : goal.returns-then-are_words-clause-follows
returns-then-are_words-clause-follows c =
    let ss = c.args.locations in
    let d = c.args.draft.now in
    let e = c.emit_chain.new.draft in
    let words : are_words ss ≡ true = ap are_words (sym c.as_slice.ensures) ∙ (sym c.are_words.ensures ∙ c.if-are_words.true) in
    let many : 3 < length ss = omega (arith, c.if-len-gt3.true, c.len.ensures) in
    ok_so c.emit_chain.result c.emit_chain.ensures.segment (λ s h.
    chain_follows ss d e s words many (subst (λ xs. ComeBefore d.slots (slots_of xs) → Segment d e (slots_of xs) (location_slots s) 2) c.as_slice-then-are_words.ensures h))

pub returns-else-len-gt3-clause-follows : goal.returns-else-len-gt3-clause-follows
returns-else-len-gt3-clause-follows c =
    ok_so c.emit_one_choice.result c.emit_one_choice.ensures.step (λ s st. step_follows c.args.locations c.args.draft.now c.emit_one_choice.new.draft s (choice_some c.args.locations c.requires) st)
