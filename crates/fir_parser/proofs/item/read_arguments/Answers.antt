use Rattle.std.proofs.lemmas.Result.{err_from_is_err_and}
use Rattle.std.proofs.Common.{◌≡◌, ◌+◌, ◌∙◌, suc, drop, slice_get, Some}
use Rattle.item_lines.specs.Formats.{shows}
use Rattle.fir_parser.proofs.Steps.{refuses_memory}
use Rattle.fir_parser.proofs.Loops.{piece_stands, one_shown, argument_refused, more_arguments, arguments_end, shows_end}
use Rattle.fir_parser.proofs.item.read_arguments.Goals as goal

pub returns-in_err-argument : goal.returns-in_err-argument
returns-in_err-argument c =
    let p = err_from_is_err_and c.from_residual.result c.from_residual.ensures.1 in
    let here : slice_get c.args.pieces.now c.loop-piece.piece-index ≡ Some c.piece-item.result = piece_stands c.args.pieces.now c.loop-piece.piece-index c.piece-item.result c.loop-piece-test.true c.piece-item.is in
    let left : shows (drop c.loop-piece.piece-index c.args.pieces.now) ≡ suc (shows (drop (c.loop-piece.piece-index + 1) c.args.pieces.now)) = one_shown c.args.pieces.now c.loop-piece.piece-index c.piece-item.result here c.if-not-is_shown.ensures in
    rw (p.1, p.2) (argument_refused c.args.reader.now (shows c.args.pieces.now) c.loop-piece.reader (shows (drop (c.loop-piece.piece-index + 1) c.args.pieces.now)) c.loop-piece.arguments _ (rw left at c.loop-piece.invariant.2) c.in_err-argument.ensures)

pub returns-in_err-push : goal.returns-in_err-push
returns-in_err-push c =
    let p = err_from_is_err_and c.from_residual-in_err-push.result c.from_residual-in_err-push.ensures.1 in
    rw p.1 (refuses_memory _ _ _ p.2)

pub loop-piece-preserved : goal.loop-piece-preserved
loop-piece-preserved c =
    let here : slice_get c.args.pieces.now c.loop-piece.piece-index ≡ Some c.piece-item.result = piece_stands c.args.pieces.now c.loop-piece.piece-index c.piece-item.result c.loop-piece-test.true c.piece-item.is in
    let left : shows (drop c.loop-piece.piece-index c.args.pieces.now) ≡ suc (shows (drop (c.loop-piece.piece-index + 1) c.args.pieces.now)) = one_shown c.args.pieces.now c.loop-piece.piece-index c.piece-item.result here c.if-not-is_shown.ensures in (
      c.in_ok-argument.ensures.at,
      c.in_ok-argument.ensures.blocks ∙ c.loop-piece.invariant.1,
      rw c.in_ok-push.ensures.ok (more_arguments c.args.reader.now (shows c.args.pieces.now) c.loop-piece.reader c.take_expression.new.reader (shows (drop (c.loop-piece.piece-index + 1) c.args.pieces.now)) c.loop-piece.arguments c.in_ok-argument.argument
          (rw left at c.loop-piece.invariant.2) c.in_ok-argument.ensures.taken),
    )

pub returns : goal.returns
returns c = record {
  taken = arguments_end c.args.reader.now (shows c.args.pieces.now) c.loop-piece.reader c.loop-piece.arguments (rw (shows_end c.args.pieces.now c.loop-piece.piece-index c.loop-piece-test.false) at c.loop-piece.invariant.2) c.loop-piece.invariant.0.within;
  at = c.loop-piece.invariant.0;
  blocks = c.loop-piece.invariant.1;
}
