use Rattle.std.proofs.Common.{◌≡◌, ℕ, ◌<◌, length, replicate, slice_index_or, sym, ap, ◌∙◌, arith}
use Rattle.ground_net.specs.Words.{state_words}
use Rattle.crew_run.proofs.Firsts.{first_words_are, code_words}
use Rattle.crew_run.proofs.crew.first_words.Goals as goal

pub returns : goal.returns
returns c =
    let net = c.args.ordered.now.net in
    let codes = c.args.codes.now in
    let of = c.requires.codes.3 in
    let lt : 0 < length codes = omega (arith, of.counted, c.requires.codes.2) in
    let words : (slice_index_or codes 0 c.index-codes-0.result).words ≡ state_words net = code_words net c.requires.codes.0 c.requires.codes.1 codes of 0 c.index-codes-0.result lt in
    c.from_vec.ensures ∙ (c.in_ok-from_elem.ensures.items_if_clones_equal (λ w e. e) ∙ (ap (λ n. replicate {A = ℕ} n 0) words ∙ sym (first_words_are net)))
