use Rattle.std.proofs.Common.{◌≡◌, ◌||◌, true, [], ap, sym, ◌∙◌, rules}
use Rattle.width_rules.specs.Pieces.{slots_in}
use Rattle.width_rules.specs.Targets.{has_variable}
use Rattle.width_rules.proofs.Targets.{same_targets, has_variable-append}
use Rattle.width_rules.proofs.measuring.part_varies.Goals as goal

pub returns-then-has_variable : goal.returns-then-has_variable
returns-then-has_variable c =
    let behind = slots_in c.in-Some.behind in
    let told : has_variable c.in-Some.piece.now ≡ true = search rules in
    sym (same_targets (slots_in c.args.view.slots) ∙ c.loop-piece.invariant ∙ ap has_variable c.in-Some.ensures.some
    ∙ has_variable-append c.in-Some.piece.now behind ∙ ap (λ b. b || has_variable behind) told)

pub returns : goal.returns
returns c =
    let none : slots_in c.loop-piece.rest ≡ [] = search rules in
    sym (same_targets (slots_in c.args.view.slots) ∙ c.loop-piece.invariant ∙ ap has_variable none)
