use Rattle.bit_words.proofs.Digits.{ReadTo}
use Rattle.bit_words.proofs.number.digits_value.Given as goal

abbrev pub invariant-loop-byte : goal.invariant-loop-byte
invariant-loop-byte l = ReadTo l.fn.base l.digits l.byte-index l.value
