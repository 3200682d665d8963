use Rattle.std.proofs.Common.{refl}
use Rattle.type_index.proofs.Built.{nothing_gathered}
use Rattle.type_index.proofs.gathered.Gathered.new.Goals as goal

pub returns : goal.returns
returns c = λ texts. nothing_gathered texts _ c.new.ensures refl refl refl refl refl refl
