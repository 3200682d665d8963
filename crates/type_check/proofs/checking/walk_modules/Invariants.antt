use Rattle.std.proofs.Common.{take, ◌≡◌, ◌++◌, []}
use Rattle.std.specs.List.{flat_map}
use Rattle.type_check.specs.Statements.{module_walk}
use Rattle.type_check.proofs.checking.walk_modules.Given as goal

abbrev pub invariant-loop-holder : goal.invariant-loop-holder
invariant-loop-holder l = record {
  types : l.found.types.items ≡ l.fn.found.types.items ++ flat_map (λ m. (module_walk l.modules.all.now m []).nodes) (take l.holder-index l.holders);
  faults : l.found.faults.items ≡ l.fn.found.faults.items ++ flat_map (λ m. (module_walk l.modules.all.now m []).faults) (take l.holder-index l.holders);
}
