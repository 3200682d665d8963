use Rattle.std.proofs.Common.{◌≡◌, ◌∙◌, sym, rules}
use Rattle.fir_lexer.specs.declared.token.TokenKind.TheVariants as kind
use Rattle.fir_parser.proofs.Steps.{format_found}
use Rattle.fir_parser.proofs.symbols.format_here.Goals as goal

pub returns-in-Some-clause-some : goal.returns-in-Some-clause-some
returns-in-Some-clause-some c =
    let text : c.in-Some-Item.token.kind ≡ kind.Text = search rules in
    format_found c.args.reader.now c.in-Some-Item.token c.in-Some.inside.now c.read_format.result (rw c.in-Some-Item.field-0-is at (sym c.in-Some-Item.ensures.part)) text (sym c.token_bytes.ensures ∙ c.in-Some.ensures.some) c.read_format.ensures.pieces
