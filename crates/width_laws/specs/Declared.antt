-- The declared types of a circuit in text order (FIRRTL specification 3.0, "Circuits and Modules" and "Statements"): a port, a wire
-- and a register have the type that the text gives, a memory and an instance the bundle of their ports, and a node the type of its
-- expression.
use Rattle.std.specs.Prelude.{◌≡◌, ℕ, ◌≤◌, Bool, true, false, Option, None, List, [], ◌∷◌, ◌++◌, map, flat_map, length, Some}
use Rattle.std.specs.List.{AllZip}
use Rattle.fir_types.specs.declared.fir_type.FirType.{FirType}
use Rattle.fir_types.specs.declared.port.Port.{Port}
use Rattle.fir_types.specs.Bundles.{memory_of}
use Rattle.prim_ops.specs.declared.widths.Width.{Width}
use Rattle.fir_tree.specs.declared.circuit.Circuit.{Circuit}
use Rattle.fir_tree.specs.declared.circuit.Module.{Module}
use Rattle.fir_tree.specs.declared.expr.Expr.{Expr}
use Rattle.fir_tree.specs.declared.stmt.Stmt.{Stmt, fold-Stmt}
use Rattle.fir_tree.specs.declared.stmt.Stmt.TheOpen.{Stmt-F, Arm-F}
use Rattle.fir_tree.specs.declared.part.Part.{Part}
use Rattle.fir_tree.specs.declared.part.Flow.TheVariants.{Duplex}
use Rattle.fir_tree.specs.Parts.{part_of, source_of, port_flow, instance_in, part_or_none}
use Rattle.fir_tree.specs.Turns.{in_order}
use Rattle.type_check.specs.Parts.{Known, known_with}
use Rattle.width_rules.specs.declared.component.Component.{Component}
use Rattle.width_rules.specs.Places.{size}
use Rattle.width_rules.specs.Sources.{measured}
use Rattle.type_filling.specs.Filling.{filled}
use Rattle.width_fit.specs.Written.{place_widths}

-- a component whose widths don't matter
abbrev pub without_widths : ℕ × Part → ℕ × Component
without_widths entry = (entry.0, record { part = entry.1; slots = [] })

-- the type of an expression among components
abbrev pub type_of : Known → Expr → FirType
type_of known e = (measured e (map without_widths known)).part.typ

-- A declaration's name and its type, and whether the text writes the type itself: that of a port, a wire and a register.
pub record Typed : Type 0 where
  pub name : ℕ
  pub typ : FirType
  pub written : Bool

-- What a part of a module declares in text order, and the components that are known behind it.
pub record Declared : Type 0 where
  pub known : Known
  pub types : List Typed

-- from the components that are known before it
abbrev pub Declares : Type 0
Declares = Known → Declared

abbrev pub nothing : Declares
nothing known = record { known = known; types = [] }

abbrev pub and_then : Declares → Declares → Declares
and_then first second known =
    let a = first known in
    let b = second a.known in
    record { known = b.known; types = a.types ++ b.types }

abbrev pub in_turn : List Declares → Declares
in_turn = in_order and_then nothing

abbrev pub one : Bool → ℕ → Part → Declares
one written name part known = record { known = known_with known name (Some part); types = record { name = name; typ = part.typ; written = written } ∷ [] }

abbrev pub of_stmt : List Module → Stmt-F Declares Declares → Declares
of_stmt modules (Stmt-F.Wire name typ) = one true name.id (part_of typ Duplex)
of_stmt modules (Stmt-F.Reg name typ clock) = one true name.id (part_of typ Duplex)
of_stmt modules (Stmt-F.RegReset name typ clock reset init) = one true name.id (part_of typ Duplex)
of_stmt modules (Stmt-F.Mem memory) = one false memory.name.id (source_of (memory_of memory))
of_stmt modules (Stmt-F.Inst name target) = one false name.id (part_or_none (instance_in modules target.id))
of_stmt modules (Stmt-F.Node name e) = λ known. one false name.id (source_of (type_of known e)) known
of_stmt modules (Stmt-F.When arms other) = and_then (in_turn arms) (in_turn other)
of_stmt modules _ = nothing

abbrev pub of_arm : Arm-F Declares Declares → Declares
of_arm arm = in_turn arm.body

abbrev pub of_port : Port → Declares
of_port port = one true port.name.id (part_of port.typ (port_flow port))

-- what a statement declares, the blocks in it included
abbrev pub declared_by : List Module → Stmt → Declares
declared_by modules = fold-Stmt Declares Declares (of_stmt modules) of_arm

-- what a module declares: its ports, and then its body
abbrev pub declared_in : List Module → Module → Declares
declared_in modules m = and_then (in_turn (map of_port m.ports)) (in_turn (map (declared_by modules) m.body))

-- what a circuit declares, with the declared types
abbrev pub declared_of : Circuit → List Typed
declared_of circuit = flat_map (λ m. (declared_in circuit.modules m []).types) circuit.modules

-- a width that the text gives stays, unless it is above 128
abbrev pub KeepsWidth : Option ℕ → Option ℕ → Type 0
KeepsWidth (Some width) found = width ≤ 128 → found ≡ Some width
KeepsWidth None found = Unit {0}

-- a declared type with a width in each of its places
pub record IsFilled (d : Typed) (typ : FirType) : Type 0 where
  pub widths : List Width
  pub counted : length widths ≡ size d.typ
  pub filled_is : typ ≡ filled d.typ widths
  pub kept : d.written ≡ true → AllZip KeepsWidth (place_widths d.typ) (place_widths typ)
