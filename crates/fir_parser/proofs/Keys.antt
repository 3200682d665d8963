-- The lines of a memory by their words.
use Rattle.std.proofs.Common.{◌≡◌, ◌∙◌, ap, ℕ, List, [], ◌∷◌, codes, refl}
use Rattle.place_text.specs.declared.place.Place.{Place}
use Rattle.fir_types.specs.declared.name.Name.{Name}
use Rattle.fir_types.specs.declared.memory.PortMode.{PortMode}
use Rattle.fir_types.specs.declared.memory.PortMode.TheVariants as mode
use Rattle.fir_types.specs.declared.memory.MemLine.TheVariants as line
use Rattle.fir_tree.specs.declared.fault.ParseFault.{ParseFault}
use Rattle.fir_grammar.specs.Grammar.{The_word, Is, A, Its_place, Symbol, Values, tree, IsCase, Memory_line, Type_of, Under_write, arrow, number, name, a_data_type, a_depth, a_read_latency, a_write_latency, a_read_under_write, a_reader, a_writer, a_readwriter}
use Rattle.fir_expr.specs.declared.reader.Reader.{Reader}
use Rattle.token_reader.proofs.Composition.{Enters}
use Rattle.fir_parser.specs.declared.memory.Key.{Key}
use Rattle.fir_parser.specs.declared.memory.Key.TheVariants as key
use Rattle.fir_parser.specs.Taking.{pieces, Passes, Refuses, blocks_at}
use Rattle.fir_parser.specs.Expected.{Meets}
use Rattle.fir_parser.specs.Keys.{word_of, IsKeyAt}
use Rattle.fir_parser.proofs.Joins.{joins_on, first, later_on, makes_on, breaks}
use Rattle.fir_parser.proofs.Entering.{enters_word, into_readwriter}

-- what stands behind the word and `=>`
abbrev pub value_of : Key → Symbol
value_of key.Element = A Type_of
value_of key.Depth = number
value_of key.ReadLatency = number
value_of key.WriteLatency = number
value_of key.ReadUnder = A Under_write
value_of (key.Port m) = name

abbrev pub case_of : (k : Key) → IsCase Memory_line (Is Its_place (The_word (word_of k)) ∷ arrow ∷ value_of k ∷ [])
case_of key.Element = a_data_type
case_of key.Depth = a_depth
case_of key.ReadLatency = a_read_latency
case_of key.WriteLatency = a_write_latency
case_of key.ReadUnder = a_read_under_write
case_of (key.Port mode.Reader) = a_reader
case_of (key.Port mode.Writer) = a_writer
case_of (key.Port mode.ReadWriter) = a_readwriter

pub enters_key : (k : Key) (reader : Reader) → IsKeyAt k reader → Enters (pieces reader) reader.at (case_of k)
enters_key key.Element reader m = enters_word a_data_type "data-type" (λ ps. refl) reader m
enters_key key.Depth reader m = enters_word a_depth "depth" (λ ps. refl) reader m
enters_key key.ReadLatency reader m = enters_word a_read_latency "read-latency" (λ ps. refl) reader m
enters_key key.WriteLatency reader m = enters_word a_write_latency "write-latency" (λ ps. refl) reader m
enters_key key.ReadUnder reader m = enters_word a_read_under_write "read-under-write" (λ ps. refl) reader m
enters_key (key.Port mode.Reader) reader m = enters_word a_reader "reader" (λ ps. refl) reader m
enters_key (key.Port mode.Writer) reader m = enters_word a_writer "writer" (λ ps. refl) reader m
enters_key (key.Port mode.ReadWriter) reader none = into_readwriter reader (none key.Element (λ e. cc)) (none key.Depth (λ e. cc)) (none key.ReadLatency (λ e. cc)) (none key.WriteLatency (λ e. cc)) (none key.ReadUnder (λ e. cc))
    (none (key.Port mode.Reader) (λ e. cc)) (none (key.Port mode.Writer) (λ e. cc))

-- none of the words but the last stands there
pub no_other : (reader : Reader) → ¬ (Meets (The_word (codes "data-type")) reader) → ¬ (Meets (The_word (codes "depth")) reader) → ¬ (Meets (The_word (codes "read-latency")) reader)
    → ¬ (Meets (The_word (codes "write-latency")) reader) → ¬ (Meets (The_word (codes "read-under-write")) reader) → ¬ (Meets (The_word (codes "reader")) reader) → ¬ (Meets (The_word (codes "writer")) reader)
    → IsKeyAt (key.Port mode.ReadWriter) reader
no_other reader a b c d e f g = λ k other. of k other
  where
    of : (k : Key) → ¬ (k ≡ key.Port mode.ReadWriter) → ¬ (Meets (The_word (word_of k)) reader)
    of key.Element other = a
    of key.Depth other = b
    of key.ReadLatency other = c
    of key.WriteLatency other = d
    of key.ReadUnder other = e
    of (key.Port mode.Reader) other = f
    of (key.Port mode.Writer) other = g
    of (key.Port mode.ReadWriter) other = absurd (other refl)

-- a line that has come to its value
pub line_read : {k : Key} (given : Key) {word : List ℕ} {a b c : Reader} {n : ℕ} {place : Place} {ws : Values (value_of k ∷ [])} → given ≡ k → IsKeyAt given a → word ≡ word_of given
    → Passes (Is Its_place (The_word word) ∷ arrow ∷ []) a b n (place, tt) → Passes (value_of k ∷ []) b c (blocks_at b) ws → Passes (A Memory_line ∷ []) a c n (tree a.major (case_of k) (place, ws), tt)
line_read {k} given {a} same here word p q = makes_on (case_of k) (enters_key k a (rw same at here)) (joins_on (rw (word ∙ ap word_of same) at p) q)

pub line_begins : (given : Key) {word : List ℕ} {a : Reader} {fault : ParseFault} → IsKeyAt given a → word ≡ word_of given → Refuses (Is Its_place (The_word word) ∷ arrow ∷ []) a fault → Refuses (A Memory_line ∷ []) a fault
line_begins given {a} here word r = breaks (case_of given) (enters_key given a here) (first _ (rw word at r))

pub line_stops : {k : Key} (given : Key) {word : List ℕ} {a b : Reader} {n : ℕ} {place : Place} {fault : ParseFault} → given ≡ k → IsKeyAt given a → word ≡ word_of given
    → Passes (Is Its_place (The_word word) ∷ arrow ∷ []) a b n (place, tt) → Refuses (value_of k ∷ []) b fault → Refuses (A Memory_line ∷ []) a fault
line_stops {k} given {a} same here word p r = breaks (case_of k) (enters_key k a (rw same at here)) (later_on (rw (word ∙ ap word_of same) at p) r)

pub port_line : (major : ℕ) (m : PortMode) (place : Place) (id : Name) → tree major (case_of (key.Port m)) (place, (id, tt)) ≡ line.MemPort place m id
port_line major mode.Reader place id = refl
port_line major mode.Writer place id = refl
port_line major mode.ReadWriter place id = refl
