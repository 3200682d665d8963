use Rattle.std.proofs.Common.{refl}
use Rattle.token_reader.proofs.Sources.{source_part}
use Rattle.fir_expr.proofs.TypeFlips.{into_plain, into_named_flip, into_flipped}
use Rattle.fir_expr.proofs.types.flip_before.Goals as goal

pub is_word-requires : goal.is_word-requires
is_word-requires c = source_part c.args.text.now c.args.laid.now c.args.at c.in_ok-part.part c.requires c.in_ok-part.ensures.ok

pub returns-then-not-is_word-clause-ok : goal.returns-then-not-is_word-clause-ok
returns-then-not-is_word-clause-ok c = (into_plain c.args.text.now c.args.laid.now c.args.at c.in_ok-part.part c.in_ok-part.ensures.ok (λ t. let e = c.is_word.ensures.1 t in let n = c.if-not-is_word.true in cc), refl)

pub returns-then-is_mark-clause-ok : goal.returns-then-is_mark-clause-ok
returns-then-is_mark-clause-ok c = (
  into_named_flip c.args.text.now c.args.laid.now c.args.at c.in_ok-part.part c.in_ok-part.ensures.ok (c.is_word.ensures.0 c.if-not-is_word.false) c.in_ok-next.next c.in_ok-next.ensures.ok
      ((c.is_mark.ensures c.args.text.now).0 c.if-is_mark.true),
  refl,
)

pub returns-clause-ok : goal.returns-clause-ok
returns-clause-ok c = (
  into_flipped c.args.text.now c.args.laid.now c.args.at c.in_ok-part.part c.in_ok-part.ensures.ok (c.is_word.ensures.0 c.if-not-is_word.false) c.in_ok-next.next c.in_ok-next.ensures.ok
      (λ t. let e = (c.is_mark.ensures c.args.text.now).1 t in let n = c.if-is_mark.false in cc),
  record { part = c.in_ok-part.part; here = c.in_ok-part.ensures.ok; takes = c.is_word.ensures.0 c.if-not-is_word.false },
  refl,
)
