use Rattle.std.proofs.Common.{ℕ, suc, List, map, if◌then◌else◌, ap₂}
use Rattle.std.specs.List.{range_with_len}
use Rattle.flat_code.specs.declared.code.Span.{Span}
use Rattle.partition_code.specs.Codes.{is_among}
use Rattle.partition_code.proofs.laws.words_have_their_first_owner.Goals as goal

-- the owners of six words by the spans of two codes
abbrev owners_by : List Span → List Span → List ℕ
owners_by xs ys = map (λ i. if is_among xs i then 0 else suc (if is_among ys i then 0 else suc 0)) (range_with_len 0 6)

pub returns : goal.returns
returns c = λ first second one other. ap₂ owners_by one other
