use Rattle.cut_listing.proofs.Texts.{one_text}
use Rattle.cut_listing.proofs.cut_laws.cuts_are_one.Goals as goal

pub returns : goal.returns
returns c = λ texts design net serves stand workers bytes other a b. one_text texts design net serves stand workers bytes other a b
