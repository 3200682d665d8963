use Rattle.std.proofs.Common.{◌∙◌}
use Rattle.type_index.proofs.Ordering.{fields_found}
use Rattle.type_index.proofs.classes.Classes.bundle.Goals as goal

pub returns : goal.returns
returns c = c.copied.ensures ∙ c.get.ensures.value ∙ fields_found c.args.key c.args.self.now.bundles.entries
