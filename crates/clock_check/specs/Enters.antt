-- Through the port of an instance a leaf of a module is one of the module of the instance.
use Rattle.std.specs.Prelude.{ℕ, List, ◌∷◌, Option, Some, None}
use Rattle.fir_types.specs.declared.leaf.PathStep.{PathStep}
use Rattle.fir_types.specs.declared.leaf.PathStep.TheVariants as step

-- the port that the way leads into, where there is a module behind it
abbrev pub port_into : Option ℕ → List PathStep → Option ℕ
port_into (Some target) (step.Field x ∷ way) = Some x
port_into _ way = None
