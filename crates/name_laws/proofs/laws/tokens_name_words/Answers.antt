use Rattle.std.proofs.lemmas.List.Elements.{All-contains}
use Rattle.name_laws.proofs.Tokens.{IsTokenIn, tokens_are_in, token_word}
use Rattle.name_laws.proofs.laws.tokens_name_words.Goals as goal

pub returns : goal.returns
returns c = λ text tokens token are among e. token_word text token (All-contains (IsTokenIn text) tokens token (tokens_are_in text tokens are) among) e
