use Rattle.std.proofs.Common.{◌≡◌, ℕ, List, ◌∷◌, ◌++◌, [], true, refl, ap, ◌∙◌, get_or}
use Rattle.std.specs.Prelude.{not, cond}
use Rattle.std.specs.Borrow.{MutBor}
use Rattle.std.specs.Result.{is_ok}
use Rattle.word_pool.proofs.Cutting.{lengths_more, words_more, rest_more}
use Rattle.word_pool.proofs.region.Region.frames.Goals as goal

pub loop-length-preserved : goal.loop-length-preserved
loop-length-preserved c =
    let lengths = c.args.lengths.now in
    let words = c.args.self.now.words.items in
    let i = c.loop-length.length-index in
    let n = get_or lengths i 0 in
    let frame = c.split_at_mut-frame.result.0 in
    let fine : is_ok c.push.result ≡ true = c.is_err.ensures.negation ∙ ap not c.if-is_err.false in
    let pushed : c.push.new.self.items ≡ c.loop-length.frames.items ++ frame ∷ [] = c.push.ensures.items ∙ ap (λ b. cond b (c.loop-length.frames.items ++ frame ∷ []) c.loop-length.frames.items) fine in
    let s = c.split_at_mut-frame.ensures in
    let inv = c.loop-length.invariant in
    let now : MutBor (List ℕ) → List ℕ = λ f. f.now in
    record {
      lengths = lengths_more now c.loop-length.frames.items c.push.new.self.items frame lengths words c.loop-length.rest.now c.split_at_mut-frame.result.1.now i n c.loop-length-test.true refl pushed inv.lengths s.front_len;
      words = words_more now c.loop-length.frames.items c.push.new.self.items frame lengths words c.loop-length.rest.now c.split_at_mut-frame.result.1.now i n c.loop-length-test.true refl pushed inv.words inv.rest s.front;
      rest = rest_more now c.loop-length.frames.items c.push.new.self.items frame lengths words c.loop-length.rest.now c.split_at_mut-frame.result.1.now i n c.loop-length-test.true refl pushed inv.rest s.back;
      fits = inv.fits;
    }
