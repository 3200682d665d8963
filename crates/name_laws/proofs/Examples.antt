-- Names, and texts that are none.
use Rattle.std.proofs.Common.{◌≡◌, false, codes, refl}
use Rattle.fir_lexer.specs.Bytes.{in_word}
use Rattle.fir_lexer.specs.declared.token.TokenKind.TheVariants.{Quoted}
use Rattle.fir_grammar.specs.Grammar.{name_in}
use Rattle.name_laws.specs.Names.{in_name, no_break, IsWord}
use Rattle.name_laws.proofs.Spelled.{word_passes}

a_word : IsWord (codes "io_0$-a")
a_word = word_passes (codes "io_0$-a") refl

-- a name between backquotes may be digits, and has none of them
a_quoted : name_in Quoted (codes "`0-1`") ≡ codes "0-1"
a_quoted = refl

a_dot : in_name 46 ≡ false
a_dot = refl

a_hash : in_word 35 ≡ false
a_hash = refl

a_line_feed : no_break 10 ≡ false
a_line_feed = refl
