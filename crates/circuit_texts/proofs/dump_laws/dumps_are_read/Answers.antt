use Rattle.std.proofs.Common.{refl}
use Rattle.fir_layout.specs.Layout.{tokens_in}
use Rattle.name_laws.proofs.Tokens.{tokens_are_in}
use Rattle.name_laws.proofs.Spelled.{spelled_words, fields_are_words}
use Rattle.name_laws.proofs.Items.{circuit_names}
use Rattle.circuit_texts.proofs.Plain.{dump_is_read, dump_is_read_once}
use Rattle.circuit_texts.proofs.dump_laws.dumps_are_read.Goals as goal

pub returns-clause-read : goal.returns-clause-read
returns-clause-read c = λ texts design names stimulus bytes are few dump. dump_is_read texts design names stimulus bytes are few dump

pub returns-clause-only : goal.returns-clause-only
returns-clause-only c = λ texts design names stimulus bytes are few dump rows read. dump_is_read_once texts design names stimulus bytes are few dump rows read

pub returns-clause-of_text : goal.returns-clause-of_text
returns-clause-of_text c = λ text list circuit tokens is design names stimulus bytes few dump.
    dump_is_read circuit.names design names stimulus bytes
    (circuit_names circuit is.lines is.names is.is (spelled_words is.major text refl is.spelled.spelled (tokens_are_in text (tokens_in list) tokens) fields_are_words).1) few dump
