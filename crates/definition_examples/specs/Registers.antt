-- What a register's leaf holds next is made of (FIRRTL specification 3.0, "Registers" and "Combinational Loops"), told within its
-- module: what its live connects mention, its reset, and of `init` what stands at the leaf's own place.
use Rattle.std.specs.Prelude.{◌≡◌, ◌==◌, false, [], Contains, Some, pos, if◌then◌else◌}
use Rattle.fir_types.specs.declared.leaf.TypeLeaf.{TypeLeaf}
use Rattle.fir_tree.specs.declared.expr.Expr.{Expr}
use Rattle.fir_meaning.specs.Components.{Component, Leaf, A_reset_register}
use Rattle.fir_meaning.specs.Mentions.{Scope, joined, mentions, whole_region}
use Rattle.fir_meaning.specs.Values.{Scene}
use Rattle.fir_meaning.specs.Loops.{live, driven_from}
use Rattle.fir_meaning.specs.States.{leaf_of}
use Rattle.definition_examples.specs.Samples.{uint, ref, literal, component}
use Rattle.definition_examples.specs.Sides.{pair}

pub data IsMadeOf (types : Scope) (c : Component) (leaf : TypeLeaf) (y : Leaf) : Type 0 where
  from_connect : Contains (joined (live types (leaf_of c leaf) c.declaration.block)) y → IsMadeOf types c leaf y
  from_reset : (clock reset init : Expr) → c.declaration.sort ≡ A_reset_register clock reset init → Contains (joined (mentions reset types)) y → IsMadeOf types c leaf y
  from_init : (clock reset init : Expr) → c.declaration.sort ≡ A_reset_register clock reset init
      → Contains (joined (driven_from false (leaf_of c leaf) (mentions init types) (Some (whole_region types c.declaration.name)))) y → IsMadeOf types c leaf y

-- `regreset o : { x : UInt<1>, flip y : UInt<1> }, a, c, b`, among the pairs o, a and b: nothing is connected to it.
abbrev pub of_pair : Component
of_pair = component 20 (A_reset_register (ref 21) (ref 25) (ref 22)) pair [] []

-- `regreset r : UInt<4>, clock, reset, UInt<8>(19)` with clock 20, reset 21 and r 23
abbrev pub cut : Component
cut = component 23 (A_reset_register (ref 20) (ref 21) (literal 8 19)) (uint 4) [] []

-- the reset is 1
abbrev pub resetting : Scene
resetting = record { types = λ c. if c == 21 then uint 1 else uint 4; integers = λ c way. if c == 21 then pos 1 else pos 7 }
