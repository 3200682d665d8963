use Rattle.std.proofs.Common.{rules}
use Rattle.width_rules.specs.Pieces.{slots_in}
use Rattle.width_rules.proofs.Indexing.{behind_all}
use Rattle.width_rules.proofs.steps.slots_past.Goals as goal

pub returns-in-Bundle : goal.returns-in-Bundle
returns-in-Bundle c = λ none.
    behind_all c.args.name c.args.view.known.typ.now c.in-Bundle.field-0 c.args.view.known.index.now.places (slots_in c.args.view.slots) (slots_in c.without_first.result)
    (search rules) none (search rules) (search rules) (search rules)
