use Rattle.std.proofs.Common.{◌≡◌, map, take}
use Rattle.size_check.specs.Caps.{capped}
use Rattle.size_check.specs.Owns.{module_own}
use Rattle.size_check.proofs.rounds.owns_of.Given as goal

abbrev pub invariant-loop-number : goal.invariant-loop-number
invariant-loop-number l = l.owns.items ≡ map (λ m. capped (module_own l.names l.modules.all.now m)) (take l.number l.modules.all.now)
