use Rattle.std.proofs.Common.{◌∙◌}
use Rattle.fir_tree.proofs.Numbering.{cloned_texts, cloned_numbers}
use Rattle.fir_tree.proofs.names.Names.copy.Goals as goal

pub invariant_of-result : goal.invariant_of-result
invariant_of-result c = rw (cloned_texts c.self.inside.texts.items c.in_ok-clone.field-0.items c.in_ok-clone.ensures.cases.0) (cloned_numbers c.self.inside.numbers c.in_ok-clone-2.field-0 _ c.self.invariant c.in_ok-clone-2.ensures.cases)

pub returns : goal.returns
returns c = cloned_texts c.self.inside.texts.items c.in_ok-clone.field-0.items c.in_ok-clone.ensures.cases.0 ∙ c.self.view_is
