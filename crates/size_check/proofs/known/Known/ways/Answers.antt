use Rattle.std.proofs.Common.{◌∙◌, ap}
use Rattle.fir_tree.specs.Texts.{way_bytes}
use Rattle.size_check.specs.Caps.{cap}
use Rattle.size_check.proofs.Kept.{bytes_of}
use Rattle.size_check.proofs.known.Known.ways.Goals as goal

pub returns-clause-bytes : goal.returns-clause-bytes
returns-clause-bytes c = λ texts all.
    bytes_of texts c.of-part.result.typ.now c.of-part.result.index.now (c.of-part.ensures.ways texts all) ∙ ap (λ t. cap (way_bytes texts t)) c.of-part.ensures.typ
