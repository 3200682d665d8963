use Rattle.std.proofs.Common.{◌≡◌, ◌∷◌, ◌++◌, ◌∙◌, [], sym, ap, ap₂, subst}
use Rattle.std.specs.Prelude.{◌%◌, ◌/◌, ◌^◌}
use Rattle.std.proofs.lemmas.List.{append_assoc}
use Rattle.ground_net.specs.Words.{words_of_value}
use Rattle.snapshot_text.specs.Cells.{state_cells}
use Rattle.snapshot_text.specs.Steps.{cells_ahead}
use Rattle.snapshot_text.proofs.Held.{IsKeptTo, kept_more, kept_done, wide_words, narrow_words}
use Rattle.snapshot_text.proofs.reading.read_words.Goals as goal

pub lines-preserved-in_ok-push-2 : goal.lines-preserved-in_ok-push-2
lines-preserved-in_ok-push-2 c =
    let next = c.in-Some.ensures.some in
    let told = c.in_ok-told.ensures.told in
    let v = c.in_ok-told.told.value in
    let words = c.lines.words in
    let cells = state_cells c.args.net.now in
    let two = sym c.words_of.ensures.is ∙ c.if-words_of-eq2.true in
    let all : c.push-then-words_of-eq2.new.self ≡ words ++ words_of_value v =
    c.in_ok-push-2.ensures.ok
    ∙ (ap₂ (λ l h. l ++ h ∷ []) (c.in_ok-push.ensures.ok ∙ ap (λ x. words ++ x ∷ []) c.low_word.ensures) c.high_word.ensures
    ∙ (append_assoc words (v.bits % 2 ^ 64 ∷ []) (v.bits / 2 ^ 64 ∷ []) ∙ ap (λ l. words ++ l) (sym (wide_words c.in-Some.line v c.in_ok-told.ensures.width two)))) in
    record {
      kept = subst (IsKeptTo c.args.bytes.now cells c.args.at (cells_ahead c.in-Some.ahead) c.in_ok-told.told.behind) (sym all)
          (kept_more c.args.bytes.now cells c.args.at (cells_ahead c.lines.cursor) (cells_ahead c.in-Some.ahead) c.lines.behind c.in_ok-told.told.behind words c.in-Some.line v c.lines.invariant.kept next.ahead told c.in_ok-told.ensures.kind c.in_ok-told.ensures.width);
      settled = next.settled;
      net = rw next.net c.lines.invariant.net;
      within = told.within;
    }

pub lines-preserved : goal.lines-preserved
lines-preserved c =
    let next = c.in-Some.ensures.some in
    let told = c.in_ok-told.ensures.told in
    let v = c.in_ok-told.told.value in
    let words = c.lines.words in
    let cells = state_cells c.args.net.now in
    let all : c.push.new.self ≡ words ++ words_of_value v =
    c.in_ok-push.ensures.ok
    ∙ (ap (λ x. words ++ x ∷ []) c.low_word.ensures ∙ ap (λ l. words ++ l) (sym (narrow_words c.in-Some.line v c.in_ok-told.ensures.width (λ e. c.if-words_of-eq2.false (c.words_of.ensures.is ∙ e))))) in
    record {
      kept = subst (IsKeptTo c.args.bytes.now cells c.args.at (cells_ahead c.in-Some.ahead) c.in_ok-told.told.behind) (sym all)
          (kept_more c.args.bytes.now cells c.args.at (cells_ahead c.lines.cursor) (cells_ahead c.in-Some.ahead) c.lines.behind c.in_ok-told.told.behind words c.in-Some.line v c.lines.invariant.kept next.ahead told c.in_ok-told.ensures.kind c.in_ok-told.ensures.width);
      settled = next.settled;
      net = rw next.net c.lines.invariant.net;
      within = told.within;
    }

pub returns-clause-held : goal.returns-clause-held
returns-clause-held c = kept_done c.args.bytes.now (state_cells c.args.net.now) c.args.at (cells_ahead c.lines.cursor) c.lines.behind c.lines.words c.lines.invariant.kept c.in_default.ensures.none
