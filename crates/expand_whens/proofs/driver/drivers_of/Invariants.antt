use Rattle.std.proofs.Common.{◌≡◌, ◌≤◌, ℕ, Some, Option, length, slice_get}
use Rattle.ground_net.specs.declared.ground.Ground.{Ground}
use Rattle.ground_net.specs.declared.circuit.GroundLeaf.{GroundLeaf}
use Rattle.expand_whens.specs.Walking.{ways_at}
use Rattle.expand_whens.specs.Expanding.{Chooses}
use Rattle.expand_whens.proofs.driver.drivers_of.Given as goal

abbrev pub invariant-loop-number : goal.invariant-loop-number
invariant-loop-number l = record {
  counted : length l.drivers ≡ l.number;
  same_length : length l.ways.items ≡ length l.fn.ways.items;
  later : (x : ℕ) → l.number ≤ x → ways_at l.ways.items x ≡ ways_at l.fn.ways.items x;
  each : (x : ℕ) (leaf : GroundLeaf) (driver : Option Ground) → slice_get l.leaves x ≡ Some leaf → slice_get l.drivers x ≡ Some driver → Chooses leaf x (ways_at l.fn.ways.items x) driver;
}
