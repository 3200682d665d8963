use Rattle.std.proofs.Common.{◌≡◌, ℕ, Some, length, slice_get}
use Rattle.ground_net.specs.declared.circuit.GroundModule.{GroundModule}
use Rattle.ground_net.specs.declared.circuit.DrivenModule.{DrivenModule}
use Rattle.expand_whens.specs.Expanding.{IsExpandedModule}
use Rattle.expand_whens.proofs.circuit.expand.Given as goal

abbrev pub invariant-loop-one : goal.invariant-loop-one
invariant-loop-one l = record {
  counted : length l.modules ≡ l.one-index;
  each : (k : ℕ) (before : GroundModule) (after : DrivenModule) → slice_get l.ground.modules k ≡ Some before → slice_get l.modules k ≡ Some after → IsExpandedModule before after;
}
