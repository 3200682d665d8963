use Rattle.std.proofs.Common.{◌≡◌, ◌∙◌, [], ap}
use Rattle.std.specs.List.{flat_map}
use Rattle.type_check.specs.Statements.{module_walk}
use Rattle.type_check.proofs.checking.find.Goals as goal

pub returns-clause-types : goal.returns-clause-types
returns-clause-types c =
    let all : c.in_ok-modules.modules.all.now ≡ c.args.circuit.now.modules = c.in_ok-modules.ensures.all ∙ c.as_slice.ensures in
    (rw c.new-2.ensures.items at c.in_ok-walk_modules.ensures.types) ∙ ap (λ ms. flat_map (λ m. (module_walk ms m []).nodes) ms) all

pub returns-clause-faults : goal.returns-clause-faults
returns-clause-faults c =
    let all : c.in_ok-modules.modules.all.now ≡ c.args.circuit.now.modules = c.in_ok-modules.ensures.all ∙ c.as_slice.ensures in
    (rw c.new-3.ensures.items at c.in_ok-walk_modules.ensures.faults) ∙ ap (λ ms. flat_map (λ m. (module_walk ms m []).faults) ms) all
