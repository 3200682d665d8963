-- What a line of a memory says, by the word that it begins with.
use Rattle.std.specs.Prelude.{◌≡◌, ℕ, List, codes}
use Rattle.fir_types.specs.declared.memory.PortMode.TheVariants as mode
use Rattle.fir_grammar.specs.Grammar.{The_word}
use Rattle.fir_expr.specs.declared.reader.Reader.{Reader}
use Rattle.fir_parser.specs.declared.memory.Key.{Key}
use Rattle.fir_parser.specs.declared.memory.Key.TheVariants as key
use Rattle.fir_parser.specs.Expected.{Meets}

abbrev pub word_of : Key → List ℕ
word_of key.Element = codes "data-type"
word_of key.Depth = codes "depth"
word_of key.ReadLatency = codes "read-latency"
word_of key.WriteLatency = codes "write-latency"
word_of key.ReadUnder = codes "read-under-write"
word_of (key.Port mode.Reader) = codes "reader"
word_of (key.Port mode.Writer) = codes "writer"
word_of (key.Port mode.ReadWriter) = codes "readwriter"

-- the word stands at the reader's place, or none of the other words where it is `readwriter`
abbrev pub IsKeyAt : Key → Reader → Type 0
IsKeyAt key.Element reader = Meets (The_word (codes "data-type")) reader
IsKeyAt key.Depth reader = Meets (The_word (codes "depth")) reader
IsKeyAt key.ReadLatency reader = Meets (The_word (codes "read-latency")) reader
IsKeyAt key.WriteLatency reader = Meets (The_word (codes "write-latency")) reader
IsKeyAt key.ReadUnder reader = Meets (The_word (codes "read-under-write")) reader
IsKeyAt (key.Port mode.Reader) reader = Meets (The_word (codes "reader")) reader
IsKeyAt (key.Port mode.Writer) reader = Meets (The_word (codes "writer")) reader
IsKeyAt (key.Port mode.ReadWriter) reader = (other : Key) → ¬ (other ≡ key.Port mode.ReadWriter) → ¬ (Meets (The_word (word_of other)) reader)
