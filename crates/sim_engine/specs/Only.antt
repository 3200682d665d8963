-- What a relation determines.
use Rattle.std.specs.Prelude.{◌≡◌}

-- this has the property, and nothing else has it
pub record IsOnly {A : Type 0} (Property : A → Type 0) (one : A) : Type 0 where
  pub is : Property one
  pub only : (other : A) → Property other → other ≡ one
