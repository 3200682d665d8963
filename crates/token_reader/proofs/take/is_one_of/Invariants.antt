use Rattle.std.proofs.Common.{◌≡◌, ℕ, ◌<◌, slice_index_or, map}
use Rattle.token_reader.proofs.take.is_one_of.Given as goal

abbrev pub invariant-loop-listed : goal.invariant-loop-listed
invariant-loop-listed l = (k : ℕ) → k < l.listed-index → ¬ (slice_index_or (map (λ text. text.now) l.words) k l.word ≡ l.word)
