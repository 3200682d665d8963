-- How deep the pieces go, one piece behind the other.
use Rattle.std.proofs.Common.{◌≡◌, ℕ, ◌+◌, ◌<◌, List, [], ◌∷◌, ◌++◌, length, take, refl, ◌∙◌, ap, arith, slice_get, get_or, Some}
use Rattle.std.proofs.Math.Seq.{take-suc}
use Rattle.std.proofs.lemmas.Grind.{common_steps}
use Rattle.std.proofs.lemmas.List.Sums.{fold-append}
use Rattle.std.proofs.lemmas.Option.{slice_get_within, get_or_from_slice_get}
use Rattle.fir_layout.specs.Pieces.{Piece}
use Rattle.fir_grammar.specs.Faults.{levels, no_levels, past, without_last}
use Rattle.token_reader.specs.Standing.{StandsIn, IsWhole}

take-next : {X : Type 0} (xs : List X) (i : ℕ) (x : X) → slice_get xs i ≡ Some x → take (i + 1) xs ≡ take i xs ++ x ∷ []
take-next xs i x h =
    let within : i < length xs = slice_get_within xs i x h in
    let e : get_or xs i x ≡ x = get_or_from_slice_get xs i x x h in
    let all = take-suc xs i x within in
    grind (arith, common_steps)

-- the levels behind a piece are past it
pub levels_next : (pieces : List Piece) (i : ℕ) (p : Piece) → slice_get pieces i ≡ Some p → levels (take (i + 1) pieces) ≡ past (levels (take i pieces)) p
levels_next pieces i p h = ap levels (take-next pieces i p h) ∙ fold-append past no_levels (take i pieces) (p ∷ [])

length_without_last : (xs : List ℕ) → 0 < length xs → length xs ≡ length (without_last xs) + 1
length_without_last [] h = absurd (omega (arith, h))
length_without_last (x ∷ xs) h = omega arith

-- where a whole part ends, as many brackets are open as where it began
pub whole_stands : {pieces : List Piece} {i j brackets : ℕ} → IsWhole pieces i j → StandsIn pieces i brackets → StandsIn pieces j brackets
whole_stands {pieces} {i} {j} {brackets} w s =
    let begin : length (levels (take i pieces)).suffixes ≡ length (without_last (levels (take i pieces)).suffixes) + 1 = length_without_last _ (rw s.counted (omega arith)) in
    let behind : length (levels (take j pieces)).suffixes ≡ length (without_last (levels (take j pieces)).suffixes) + 1 = length_without_last _ w.some in
    let outer : length (without_last (levels (take j pieces)).suffixes) ≡ length (without_last (levels (take i pieces)).suffixes) = ap length w.outer in
    record { counted = omega (arith, begin, behind, outer, s.counted); few = s.few; no_dot = w.no_dot }

pub whole_then : {pieces : List Piece} {i j k : ℕ} → IsWhole pieces i j → IsWhole pieces j k → IsWhole pieces i k
whole_then a b = record { blocks = b.blocks ∙ a.blocks; outer = b.outer ∙ a.outer; some = b.some; no_dot = b.no_dot }

pub whole_none : {pieces : List Piece} {i brackets : ℕ} → StandsIn pieces i brackets → IsWhole pieces i i
whole_none {pieces} {i} s = record { blocks = refl; outer = refl; some = rw s.counted (omega arith); no_dot = s.no_dot }
