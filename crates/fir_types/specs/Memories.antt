-- The lines of a memory (FIRRTL specification 3.0, "Memories").
use Rattle.std.specs.Prelude.{◌≡◌, ◌≢◌, ◌≤◌, ℕ, List, [], ◌∷◌, filter_map, Option, Some, None, All}
use Rattle.fir_types.specs.declared.memory.Memory.{Memory}
use Rattle.fir_types.specs.declared.memory.MemLine.{MemLine}
use Rattle.fir_types.specs.declared.memory.MemLine.TheVariants as line
use Rattle.fir_types.specs.declared.memory.Under.{Under}
use Rattle.fir_types.specs.declared.memory.Under.TheVariants as under
use Rattle.fir_types.specs.declared.fir_type.FirType.{FirType}
use Rattle.fir_types.specs.declared.fir_type.Shape.TheVariants as shape

-- what a line says, where it is one of the kind

abbrev pub element_in : MemLine → Option FirType
element_in (line.Element at typ) = Some typ
element_in _ = None

abbrev pub depth_in : MemLine → Option ℕ
depth_in (line.Depth at n) = Some n
depth_in _ = None

abbrev pub read_latency_in : MemLine → Option ℕ
read_latency_in (line.ReadLatency at n) = Some n
read_latency_in _ = None

abbrev pub write_latency_in : MemLine → Option ℕ
write_latency_in (line.WriteLatency at n) = Some n
write_latency_in _ = None

abbrev pub under_in : MemLine → Option Under
under_in (line.ReadUnder at u) = Some u
under_in _ = None

abbrev pub port_name_in : MemLine → Option ℕ
port_name_in (line.MemPort at m name) = Some name.id
port_name_in _ = None

abbrev pub first_or : {A : Type 0} → A → List A → A
first_or other [] = other
first_or other (x ∷ xs) = x

-- The first line of each kind says it. Where there is none: an empty bundle, 1, 0 and `undefined`.

abbrev pub element_of : Memory → FirType
element_of memory = first_or (record { place = record { line = 1; column = 1 }; shape = shape.Bundle [] }) (filter_map element_in memory.lines)

abbrev pub depth_of : Memory → ℕ
depth_of memory = first_or 1 (filter_map depth_in memory.lines)

abbrev pub read_latency_of : Memory → ℕ
read_latency_of memory = first_or 0 (filter_map read_latency_in memory.lines)

abbrev pub under_of : Memory → Under
under_of memory = first_or under.Undefined (filter_map under_in memory.lines)

-- the list has this one item
abbrev pub Once : {A : Type 0} → (A → Type 0) → List A → Type 0
Once {A} P xs = (x : A) × (xs ≡ x ∷ []) × P x

-- no number is there twice
abbrev pub AreDifferent : List ℕ → Type 0
AreDifferent [] = Unit {0}
AreDifferent (n ∷ ns) = All (λ m. m ≢ n) ns × AreDifferent ns

-- Each of the five lines stands exactly once, and ports have different names. A latency of 2 or more is not accepted.
pub record IsValid (memory : Memory) : Type 0 where
  pub element : Once (λ typ. Unit {0}) (filter_map element_in memory.lines)
  pub depth : Once (λ n. 1 ≤ n) (filter_map depth_in memory.lines)
  pub read_latency : Once (λ n. n ≤ 1) (filter_map read_latency_in memory.lines)
  pub write_latency : Once (λ n. n ≡ 1) (filter_map write_latency_in memory.lines)
  pub under : Once (λ u. Unit {0}) (filter_map under_in memory.lines)
  pub ports : AreDifferent (filter_map port_name_in memory.lines)
