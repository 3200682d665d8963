use Rattle.std.proofs.Common.{◌≡◌, ◌≤◌, ℕ, Some, Option, length, slice_get}
use Rattle.ground_net.specs.declared.ground.Ground.{Ground}
use Rattle.ground_net.specs.declared.circuit.GroundLeaf.{GroundLeaf}
use Rattle.memory_ports.specs.declared.reads.ReadData.{ReadData}
use Rattle.memory_ports.specs.Placing.{driver_for, own_driver}
use Rattle.memory_ports.proofs.drivers.placed_drivers.Given as goal

abbrev pub invariant-loop-number : goal.invariant-loop-number
invariant-loop-number l = record {
  counted : length l.drivers ≡ l.number;
  same_length : length l.marks.items ≡ length l.fn.marks.items;
  later : (x : ℕ) → l.number ≤ x → slice_get l.marks.items x ≡ slice_get l.fn.marks.items x;
  each : (x : ℕ) (leaf : GroundLeaf) (driver : Option Ground) → slice_get l.flat.leaves x ≡ Some leaf → slice_get l.drivers x ≡ Some driver
      → (shown : Option ReadData) → slice_get l.fn.marks.items x ≡ Some shown → driver ≡ driver_for leaf.role shown (own_driver l.flat x);
}
