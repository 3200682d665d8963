-- The flat numbers of the leaves that a module sees, and what is renumbered by them.
use Rattle.std.specs.Prelude.{◌≡◌, ℕ, ◌+◌, ◌<◌, List, ◌∷◌, map, length, slice_get, slice_index, Option, Some, option_map}
use Rattle.ground_net.specs.declared.circuit.DrivenCircuit.{DrivenCircuit}
use Rattle.ground_net.specs.declared.circuit.DrivenModule.{DrivenModule}
use Rattle.ground_net.specs.declared.circuit.GroundInstance.{GroundInstance}
use Rattle.ground_net.specs.declared.ground.Ground.{Ground}
use Rattle.ground_net.specs.declared.net.NetRegister.{NetRegister}
use Rattle.ground_net.specs.declared.net.NetReset.{NetReset}
use Rattle.ground_net.specs.declared.net.NetPort.{NetPort}
use Rattle.ground_net.specs.declared.net.NetWrite.{NetWrite}
use Rattle.ground_net.specs.declared.net.NetRead.{NetRead}
use Rattle.ground_net.specs.Renumbering.{with_numbers}
use Rattle.ground_net.specs.Reads.{lone_driver}
use Rattle.flatten_instances.specs.FlatOrder.{Spot, spot}

-- Where leaf y of the module at a path stands: at the path itself, or, where it is leaf j of an instance, as leaf j of the instance's module.
pub data StandsAt (driven : DrivenCircuit) (path : List ℕ) (n : ℕ) (m : DrivenModule) : ℕ → Spot → Type 0 where
  its_own : {y : ℕ} → StandsAt driven path n m y (spot path n y)
  of_instance : {i : ℕ} (j : ℕ) (gi : GroundInstance) (child : DrivenModule) → slice_get m.instances i ≡ Some gi → slice_get driven.modules gi.module ≡ Some child
      → j < child.ports → StandsAt driven path n m (gi.first + j) (spot (i ∷ path) gi.module j)

-- These are the flat numbers of the leaves of the module at a path: their places among all leaves in flat order.
pub record AreNumbers (driven : DrivenCircuit) (spots : List Spot) (path : List ℕ) (n : ℕ) (numbers : List ℕ) : Type 0 where
  pub m : DrivenModule
  pub there : slice_get driven.modules n ≡ Some m
  pub counted : length numbers ≡ length m.leaves
  pub each : (y x : ℕ) → slice_get numbers y ≡ Some x → (s : Spot) × StandsAt driven path n m y s × (slice_get spots x ≡ Some s)

-- The driver of a leaf of a module, where it has one.
abbrev pub driver_in : DrivenModule → ℕ → Option Ground
driver_in m y = lone_driver (slice_get m.drivers y)

-- a driver, a register and a port with other numbers for their leaves
abbrev pub driver_with : List ℕ → Option Ground → Option Ground
driver_with numbers driver = option_map (with_numbers (slice_index numbers)) driver

abbrev pub reset_with : List ℕ → NetReset → NetReset
reset_with numbers r = record { reset = with_numbers (slice_index numbers) r.reset; init = with_numbers (slice_index numbers) r.init }

abbrev pub register_with : List ℕ → NetRegister → NetRegister
register_with numbers r = record { leaf = slice_index numbers r.leaf; reset = option_map (reset_with numbers) r.reset }

abbrev pub write_with : List ℕ → NetWrite → NetWrite
write_with numbers w = record { leaves = map (slice_index numbers) w.leaves; masks = map (slice_index numbers) w.masks }

abbrev pub read_with : List ℕ → NetRead → NetRead
read_with numbers r = record { leaves = map (slice_index numbers) r.leaves; captured = r.captured; after = r.after }

abbrev pub port_with : List ℕ → NetPort → NetPort
port_with numbers p = record {
  addr = slice_index numbers p.addr;
  en = slice_index numbers p.en;
  mode = option_map (slice_index numbers) p.mode;
  write = option_map (write_with numbers) p.write;
  read = option_map (read_with numbers) p.read;
}
