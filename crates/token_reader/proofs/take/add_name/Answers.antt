use Rattle.fir_layout.specs.Pieces.{bytes_of}
use Rattle.token_reader.proofs.Ascii.{utf8_name}
use Rattle.token_reader.proofs.take.add_name.Goals as goal

pub unreachable-requires : goal.unreachable-requires
unreachable-requires c = c.in_default.ensures.cases.0 (rw c.name_text.ensures (utf8_name c.args.token.kind (bytes_of c.args.text.now c.args.token) c.requires.inside.behind c.requires.inside.of c.requires.named))
