-- What a reference has come to, step by step.
use Rattle.std.specs.Prelude.{◌≡◌, ℕ, Bool, false, List, [], ◌∷◌, map}
use Rattle.fir_types.specs.declared.fir_type.FirType.{FirType}
use Rattle.fir_meaning.specs.Mentions.{Region}
use Rattle.drive_check.specs.declared.leaf_set.Step.{Step}
use Rattle.drive_check.specs.Keys.{step_of}

pub record Follows (region : Region) (component : ℕ) (typ : FirType) (way : List Step) (dynamic : Bool) : Type 0 where
  pub component_is : region.component ≡ component
  pub typ_is : region.typ ≡ typ
  pub dynamic_is : region.dynamic ≡ dynamic
  pub static : dynamic ≡ false → (region.ways ≡ map step_of way ∷ []) × (region.indices ≡ [])
