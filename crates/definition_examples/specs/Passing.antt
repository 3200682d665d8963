-- A design of two modules. Main (100) has the inputs `clock` 20 and a 21, the output x 22, and the instance i 26 of the module 101, which
-- has the inputs `clock` 30 and `in` 31, the output `out` 32 and the register r 33:
--   inst i of 101                      reg r : UInt<4>, clock
--   connect i.clock, clock             connect r, in
--   connect i.in, a                    connect out, r
--   connect x, i.out
use Rattle.std.specs.Prelude.{ℕ, ◌==◌, List, [], ◌∷◌, pos, if◌then◌else◌}
use Rattle.fir_tree.specs.declared.stmt.Stmt.{Stmt}
use Rattle.fir_tree.specs.declared.stmt.Stmt.TheVariants as stmt
use Rattle.fir_meaning.specs.Components.{Design, TypedModule, Component, An_input, An_output, A_register, An_instance}
use Rattle.fir_meaning.specs.Values.{Valuation}
use Rattle.fir_meaning.specs.States.{Inputs}
use Rattle.definition_examples.specs.Samples.{name, uint, clock_type, bundle, plain, flipped, ref, part, dot, connect, component}
use Rattle.definition_examples.specs.Clocks.{clock_in}

abbrev pub behind_instance : List Stmt
behind_instance = connect (part 26 (dot 30 ∷ [])) (ref 20) ∷ connect (part 26 (dot 31 ∷ [])) (ref 21) ∷ connect (ref 22) (part 26 (dot 32 ∷ [])) ∷ []

abbrev pub outer_body : List Stmt
outer_body = stmt.Inst (name 26) (name 101) ∷ behind_instance

abbrev pub instance : Component
instance = component 26 (An_instance 101) (bundle (flipped 30 clock_type ∷ flipped 31 (uint 4) ∷ plain 32 (uint 4) ∷ [])) outer_body behind_instance

abbrev pub a : Component
a = component 21 An_input (uint 4) outer_body outer_body

abbrev pub x : Component
x = component 22 An_output (uint 4) outer_body outer_body

abbrev pub outer : TypedModule
outer = record { name = 100; components = clock_in 20 outer_body ∷ a ∷ x ∷ instance ∷ [] }

abbrev pub behind_register : List Stmt
behind_register = connect (ref 33) (ref 31) ∷ connect (ref 32) (ref 33) ∷ []

abbrev pub inner_body : List Stmt
inner_body = stmt.Reg (name 33) (uint 4) (ref 30) ∷ behind_register

abbrev pub input : Component
input = component 31 An_input (uint 4) inner_body inner_body

abbrev pub output : Component
output = component 32 An_output (uint 4) inner_body inner_body

abbrev pub register : Component
register = component 33 (A_register (ref 30)) (uint 4) inner_body behind_register

abbrev pub inner : TypedModule
inner = record { name = 101; components = clock_in 30 inner_body ∷ input ∷ output ∷ register ∷ [] }

abbrev pub passing : Design
passing = record { main = 100; modules = outer ∷ inner ∷ [] }

-- a is given
abbrev pub giving : ℕ → Inputs
giving given c way = if c == 21 then pos given else pos 0

-- what main's leaves and those of i have where a is given and r holds this
abbrev pub showing : ℕ → ℕ → Valuation
showing given held [] c way = if c == 21 then pos given else if c == 22 then pos held else pos 0
showing given held (i ∷ path) c way = if c == 31 then pos given else if c == 32 then pos held else if c == 33 then pos held else pos 0
