-- What values look like, and how logs end.
use Rattle.std.proofs.Common.{◌≡◌, List, [], ◌∷◌, refl, codes}
use Rattle.std.specs.Fmt.{digits}
use Rattle.bit_words.specs.declared.value.Value.{Value}
use Rattle.fir_tree.specs.declared.print.Piece.TheVariants.{Bytes}
use Rattle.fir_tree.specs.declared.print.Radix.TheVariants.{Bin, Hex, Char}
use Rattle.print_stop.specs.Printed.{shown, printed, stopped_line, ended_line, least_digits}

-- binary and hexadecimal digits, with no 0 before others
digits_of_six : least_digits 2 128 6 ≡ codes "110"
unfolding least_digits
digits_of_six = refl

digits_of_none : least_digits 2 128 0 ≡ codes "0"
unfolding least_digits
digits_of_none = refl

digits_of_many : least_digits 16 128 43981 ≡ codes "abcd"
unfolding least_digits
digits_of_many = refl

-- `%c` is the lowest eight bits: those of 266 are a line feed
byte_of : (v : Value) → v.bits ≡ 266 → shown Char v ≡ 10 ∷ []
byte_of v is = rw is refl

stopped_at_two : stopped_line 2 7 ≡ codes "stopped 2 7\n"
unfolding digits
stopped_at_two = refl

ended_at_two : ended_line 2 ≡ codes "ended 2\n"
unfolding digits
ended_at_two = refl

only_bytes : printed (Bytes (codes "x%") ∷ []) [] ≡ codes "x%"
only_bytes = refl
