-- What a `Reset` becomes (FIRRTL specification 3.0, "Reset Type"): an AsyncReset where a chain of feeds leads to it from an AsyncReset
-- leaf. One that stays is a `UInt<1>`.
use Rattle.std.specs.Prelude.{◌≡◌, ◌↔◌, ℕ, ◌+◌, Bool, true, false, List, [], ◌∷◌, ◌++◌, map, sum, Option, Some, None, if◌then◌else◌}
use Rattle.place_text.specs.declared.place.Place.{Place}
use Rattle.fir_types.specs.declared.fir_type.FirType.{FirType, fold-FirType}
use Rattle.fir_types.specs.declared.fir_type.Shape.{Shape}
use Rattle.fir_types.specs.declared.fir_type.Shape.TheOpen.{Shape-F, Field-F, FirType-F}
use Rattle.fir_types.specs.declared.fir_type.Shape.TheVariants as shape
use Rattle.fir_types.specs.declared.fir_type.Field.{Field}
use Rattle.fir_types.specs.declared.name.Name.{Name}
use Rattle.fir_types.specs.declared.port.Port.{Port}
use Rattle.fir_types.specs.declared.memory.Memory.{Memory}
use Rattle.fir_types.specs.declared.memory.MemLine.{MemLine}
use Rattle.fir_types.specs.declared.memory.MemLine.TheVariants as line
use Rattle.fir_tree.specs.declared.circuit.Circuit.{Circuit}
use Rattle.fir_tree.specs.declared.circuit.Module.{Module}
use Rattle.fir_tree.specs.declared.stmt.Stmt.{Stmt, fold-Stmt}
use Rattle.fir_tree.specs.declared.stmt.Arm.{Arm}
use Rattle.fir_tree.specs.declared.stmt.Stmt.TheOpen.{Stmt-F, Arm-F}
use Rattle.fir_tree.specs.declared.stmt.Stmt.TheVariants as stmt
use Rattle.fir_types.specs.Spots.{size}
use Rattle.reset_search.specs.declared.spot.Spot.TheVariants.{Declared}
use Rattle.reset_search.specs.Feeds.{IsReached, feeds_in, memory_count, ports_count, all_ports}

-- How many places of the text a part of the circuit has, and what it becomes where they have the numbers from this one on.
abbrev pub Becomes : Type 0 → Type 0
Becomes A = ℕ × (ℕ → A)

abbrev pub stays : {A : Type 0} → ℕ → A → Becomes A
stays count x = (count, λ n. x)

-- one behind the other
abbrev pub all_from : {A : Type 0} → List (Becomes A) → ℕ → List A
all_from [] n = []
all_from (b ∷ bs) n = b.1 n ∷ all_from bs (n + b.0)

abbrev pub in_all : {A : Type 0} → List (Becomes A) → ℕ
in_all [] = 0
in_all (b ∷ bs) = b.0 + in_all bs

module _ (reached : ℕ → Bool) where
  -- Types

  abbrev pub of_shape : Shape-F (Becomes Shape) (Becomes Field) (Becomes FirType) → Becomes Shape
  of_shape (Shape-F.Unsigned width) = stays 1 (shape.Unsigned width)
  of_shape (Shape-F.Signed width) = stays 1 (shape.Signed width)
  of_shape Shape-F.Clock = stays 0 shape.Clock
  of_shape Shape-F.Reset = (1, λ n. if reached n then shape.AsyncReset else shape.Reset)
  of_shape Shape-F.AsyncReset = stays 1 shape.AsyncReset
  of_shape (Shape-F.Bundle fields) = (in_all fields, λ n. shape.Bundle (all_from fields n))
  of_shape (Shape-F.Vector element length) = (element.0, λ n. shape.Vector (element.1 n) length)

  abbrev pub of_field : Field-F (Becomes Shape) (Becomes Field) (Becomes FirType) → Becomes Field
  of_field f = (f.typ.0, λ n. record { flip = f.flip; name = f.name; typ = f.typ.1 n })

  abbrev pub of_type : FirType-F (Becomes Shape) (Becomes Field) (Becomes FirType) → Becomes FirType
  of_type t = (t.shape.0, λ n. record { place = t.place; shape = t.shape.1 n })

  abbrev pub becomes : FirType → Becomes FirType
  becomes = fold-FirType (Becomes Shape) (Becomes Field) (Becomes FirType) of_shape of_field of_type

  -- The resolved type of a type whose places have the numbers from this one on.
  abbrev pub resolved : ℕ → FirType → FirType
  resolved n typ = (becomes typ).1 n

  -- Statements, which keep all but their types

  abbrev pub with_element : ℕ → MemLine → MemLine
  with_element n (line.Element at typ) = line.Element at (resolved n typ)
  with_element n other = other

  abbrev pub resolved_memory : ℕ → Memory → Memory
  resolved_memory n memory = record { name = memory.name; lines = map (with_element n) memory.lines }

  abbrev pub of_stmt : Stmt-F (Becomes Stmt) (Becomes Arm) → Becomes Stmt
  of_stmt (Stmt-F.Wire name typ) = (size typ, λ n. stmt.Wire name (resolved n typ))
  of_stmt (Stmt-F.Reg name typ clock) = (size typ, λ n. stmt.Reg name (resolved n typ) clock)
  of_stmt (Stmt-F.RegReset name typ clock reset init) = (size typ, λ n. stmt.RegReset name (resolved n typ) clock reset init)
  of_stmt (Stmt-F.Mem memory) = (memory_count memory, λ n. stmt.Mem (resolved_memory n memory))
  of_stmt (Stmt-F.Inst name target) = stays 0 (stmt.Inst name target)
  of_stmt (Stmt-F.Node name e) = stays 0 (stmt.Node name e)
  of_stmt (Stmt-F.Connect left right) = stays 0 (stmt.Connect left right)
  of_stmt (Stmt-F.Invalidate target) = stays 0 (stmt.Invalidate target)
  of_stmt (Stmt-F.When arms other) = (in_all arms + in_all other, λ n. stmt.When (all_from arms n) (all_from other (n + in_all arms)))
  of_stmt (Stmt-F.Skip place) = stays 0 (stmt.Skip place)

  abbrev pub of_arm : Arm-F (Becomes Stmt) (Becomes Arm) → Becomes Arm
  of_arm arm = (in_all arm.body, λ n. record { condition = arm.condition; body = all_from arm.body n })

  abbrev pub becomes_stmt : Stmt → Becomes Stmt
  becomes_stmt = fold-Stmt (Becomes Stmt) (Becomes Arm) of_stmt of_arm

  abbrev pub resolved_ports : ℕ → List Port → List Port
  resolved_ports n [] = []
  resolved_ports n (port ∷ ports) = record { output = port.output; name = port.name; typ = resolved n port.typ } ∷ resolved_ports (n + size port.typ) ports

  -- the modules, with the ports' places from one number on and the bodies' from another
  abbrev pub resolved_modules : ℕ → ℕ → List Module → List Module
  resolved_modules p n [] = []
  resolved_modules p n (m ∷ modules) =
      let body = map becomes_stmt m.body in
      record { name = m.name; ports = resolved_ports p m.ports; body = all_from body n } ∷ resolved_modules (p + ports_count m.ports) (n + in_all body) modules

  abbrev pub resolved_circuit : Circuit → Circuit
  resolved_circuit circuit =
      record { names = circuit.names; main = circuit.main; modules = resolved_modules 0 (all_ports circuit.modules) circuit.modules; prints = circuit.prints }

abbrev pub none_reached : ℕ → Bool
none_reached n = false

-- This is the circuit with its `Reset`s resolved: a place of the text is AsyncReset exactly where a chain of feeds leads to it from an
-- AsyncReset leaf.
pub record IsResolved (circuit tree : Circuit) : Type 0 where
  pub reached : ℕ → Bool
  pub exact : (n : ℕ) → (reached n ≡ true) ↔ IsReached (feeds_in circuit) (Declared n)
  pub is : tree ≡ resolved_circuit reached circuit
