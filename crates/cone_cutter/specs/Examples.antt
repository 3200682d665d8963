-- Two small nets and their cuts.
use Rattle.std.specs.Prelude.{ℕ, min, [], ◌∷◌, Some, None, pos}
use Rattle.std.proofs.Math.Nat.{min-le_right}
use Rattle.bit_words.specs.declared.value.Kind.TheVariants.{Unsigned}
use Rattle.prim_ops.specs.Values.{fitted}
use Rattle.prim_ops.specs.declared.operation.PrimOp.TheVariants.{Not}
use Rattle.ground_net.specs.declared.ground.Ground.{Ground}
use Rattle.ground_net.specs.declared.ground.Ground.TheVariants as expression
use Rattle.ground_net.specs.declared.net.Leaf.{Leaf}
use Rattle.ground_net.specs.declared.net.Role.{Role}
use Rattle.ground_net.specs.declared.net.Role.TheVariants as role
use Rattle.ground_net.specs.declared.net.Ordered.{Ordered}
use Rattle.ground_net.specs.declared.net.Cut.{Cut}

abbrev pub leaf : ℕ → Role → Leaf
leaf width r = record { name = []; kind = Unsigned; width = min width 128; place = record { line = 1; column = 1 }; role = r; narrow = min-le_right width 128 }

abbrev pub inverse : ℕ → Ground
inverse x = expression.Op Not (expression.Leaf x ∷ []) []

-- A clock, an input (1), an output (2), two registers (3 and 4) and a node (5), the inverse of the input. The output and both
-- registers take the node.
abbrev pub sharing : Ordered
sharing = record {
  net = record {
    ports = 3;
    leaves = leaf 0 role.Clock ∷ leaf 4 (role.Input 0) ∷ leaf 4 role.Assigned ∷ leaf 4 (role.Register 0) ∷ leaf 4 (role.Register 1) ∷ leaf 4 role.Assigned ∷ [];
    drivers = None ∷ None ∷ Some (expression.Leaf 5) ∷ Some (expression.Leaf 5) ∷ Some (expression.Leaf 5) ∷ Some (inverse 1) ∷ [];
    registers = record { leaf = 3; reset = None } ∷ record { leaf = 4; reset = None } ∷ [];
    memories = [];
  };
  sequence = 5 ∷ 2 ∷ [];
}

-- The output's cone, the output and the node, is the largest. The registers go to the other partition, since the node then costs
-- nothing the second time; it is evaluated in both partitions.
abbrev pub sharing_cut : Cut
sharing_cut = record {
  parts = record { sinks = 0 ∷ []; assignments = 5 ∷ 2 ∷ [] } ∷ record { sinks = 1 ∷ 2 ∷ []; assignments = 5 ∷ [] } ∷ [];
  needed = 2;
}

-- A clock, an input (1), an output (2), two registers (3 and 4) with the input as their reset, and two nodes: 5 is the inverse of
-- the second register, 6 that of the first. Each register takes a node, and the output takes the first register.
abbrev pub crossing : Ordered
crossing = record {
  net = record {
    ports = 3;
    leaves = leaf 0 role.Clock ∷ leaf 1 (role.Input 0) ∷ leaf 4 role.Assigned ∷ leaf 4 (role.Register 0) ∷ leaf 4 (role.Register 1) ∷ leaf 4 role.Assigned ∷ leaf 4 role.Assigned ∷ [];
    drivers = None ∷ None ∷ Some (expression.Leaf 3) ∷ Some (expression.Leaf 5) ∷ Some (expression.Leaf 6) ∷ Some (inverse 4) ∷ Some (inverse 3) ∷ [];
    registers = record { leaf = 3; reset = Some (record { reset = expression.Leaf 1; init = expression.Const (fitted Unsigned 4 (pos 1)) }) }
        ∷ record { leaf = 4; reset = Some (record { reset = expression.Leaf 1; init = expression.Const (fitted Unsigned 4 (pos 2)) }) } ∷ [];
    memories = [];
  };
  sequence = 2 ∷ 5 ∷ 6 ∷ [];
}

-- All cones have one assignment, so the sinks are placed in their order.
abbrev pub crossing_cut : Cut
crossing_cut = record {
  parts = record { sinks = 0 ∷ 2 ∷ []; assignments = 2 ∷ 6 ∷ [] } ∷ record { sinks = 1 ∷ []; assignments = 5 ∷ [] } ∷ [];
  needed = 3;
}
