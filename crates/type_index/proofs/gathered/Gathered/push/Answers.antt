use Rattle.std.proofs.Common.{refl}
use Rattle.type_index.proofs.Built.{gathers_more}
use Rattle.type_index.proofs.gathered.Gathered.push.Goals as goal

pub returns : goal.returns
returns c = λ fields.
    gathers_more c.args.names.now fields c.args.field.now c.args.part c.args.self.now _ c.named.result.leaves c.named.result.bytes c.named.ensures.leaves c.named.ensures.bytes
    c.in_ok-push.ensures.ok c.and-self.ensures.leaves c.and-self.ensures.bytes c.still_passive-self.ensures refl refl c.saturating_add-self.ensures
