use Rattle.std.proofs.Common.{◌≡◌, ℕ, take}
use Rattle.std.specs.Prelude.{nat_eq}
use Rattle.std.specs.Map.{lookup}
use Rattle.clock_check.specs.Makes.{makes_of}
use Rattle.clock_check.proofs.instances.targets_of.Given as goal

abbrev pub invariant-loop-at : goal.invariant-loop-at
invariant-loop-at l = (name : ℕ) → lookup (nat_eq name) l.targets.entries ≡ lookup (nat_eq name) (makes_of (take l.at l.instances))
