use Rattle.std.proofs.Common.{rules, ap₂, sym, ◌∙◌}
use Rattle.bit_words.specs.contracts.value.Kind.{the_type}
use Rattle.ground_net.specs.Shapes.{shaped}
use Rattle.code_draft.proofs.Standing.{not_other, same_number}
use Rattle.code_draft.proofs.rows.is_word_at.Goals as goal
use denote.Enum.Bare.{same_true}

pub returns : goal.returns
returns c = λ e. record {
  kept = c.in-Some-Some-Word.kept;
  there = search (rules, c.get.ensures.value, c.in-Some-Some-Word.is, c.in-Some-Some-Word.field-0-is, c.in-Some-Some-Word.field-0-0-is);
  shape = ap₂ (λ k w. shaped k w) (same_true the_type tt c.in-Some-Some-Word.kept.kind c.args.row.kind (not_other _ (sym c.ne.ensures ∙ c.if-ne.false))) c.if-kept-row.false;
  at = sym c.from.ensures ∙ same_number c.from.result c.args.number e;
}
