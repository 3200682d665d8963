use Rattle.std.proofs.Common.{Some, refl, ◌∙◌, ap, sym}
use Rattle.fir_layout.specs.declared.laid.Laid.{Laid}
use Rattle.fir_layout.specs.declared.laid.Laid.TheVariants.{Item}
use Rattle.token_reader.proofs.Sources.{source_part}
use Rattle.fir_expr.proofs.LiteralHeads.{no_token, other_goes, call_head, kind_head, word_goes, other_kind_goes}
use Rattle.fir_expr.proofs.literals.head_at.Goals as goal

pub returns-in_default : goal.returns-in_default
returns-in_default c = record {
  ok = other_goes c.args.text.now c.args.laid.now c.args.at c.in_ok-part.part c.in_ok-part.ensures.ok (no_token c.args.text.now c.in_ok-part.part c.in_default.not-Item);
  err = tt;
}

pub bytes-requires : goal.bytes-requires
bytes-requires c = source_part c.args.text.now c.args.laid.now c.args.at (Item c.in-Item.token) c.requires (c.in_ok-part.ensures.ok ∙ ap (λ (l : Laid). Some l) c.in-Item.is)

pub bytes-requires-in-Word : goal.bytes-requires-in-Word
bytes-requires-in-Word c = source_part c.args.text.now c.args.laid.now c.args.at (Item c.in-Item.token) c.requires (c.in_ok-part.ensures.ok ∙ ap (λ (l : Laid). Some l) c.in-Item.is)

pub returns-in-Call-clause-ok : goal.returns-in-Call-clause-ok
returns-in-Call-clause-ok c = call_head c.args.text.now c.args.laid.now c.args.at c.in-Item.token c.bytes.result.now (c.in_ok-part.ensures.ok ∙ ap (λ (l : Laid). Some l) c.in-Item.is)
    (sym c.bytes.ensures) c.head_of_call.result c.in-Call.is c.head_of_call.ensures

pub returns-in_ok-next-in-Some-clause-ok : goal.returns-in_ok-next-in-Some-clause-ok
returns-in_ok-next-in-Some-clause-ok c = kind_head c.args.text.now c.args.laid.now c.args.at c.in-Item.token c.bytes-in-Word.result.now (c.in_ok-part.ensures.ok ∙ ap (λ (l : Laid). Some l) c.in-Item.is)
    (sym c.bytes-in-Word.ensures) c.head_before.result c.in-Some.kind c.in_ok-next-in-Some.next c.in-Word.is c.in-Some.ensures.some c.in_ok-next-in-Some.ensures.ok (c.head_before.ensures c.args.text.now)

pub returns-in-None-clause-ok : goal.returns-in-None-clause-ok
returns-in-None-clause-ok c = word_goes c.args.text.now c.args.laid.now c.args.at c.in-Item.token c.bytes-in-Word.result.now (c.in_ok-part.ensures.ok ∙ ap (λ (l : Laid). Some l) c.in-Item.is)
    (sym c.bytes-in-Word.ensures) c.in-Word.is c.in-None.ensures.unsigned c.in-None.ensures.signed

pub returns-in_default-kind : goal.returns-in_default-kind
returns-in_default-kind c = record {
  ok = other_kind_goes c.args.text.now c.args.laid.now c.args.at c.in-Item.token _ (c.in_ok-part.ensures.ok ∙ ap (λ (l : Laid). Some l) c.in-Item.is) refl c.in_default-kind.not-Call c.in_default-kind.not-Word;
  err = tt;
}
