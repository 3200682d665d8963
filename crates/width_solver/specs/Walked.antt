-- What the walk through the bodies keeps.
use Rattle.std.specs.Prelude.{◌≡◌, ◌++◌, length}
use Rattle.width_rules.specs.Circuits.{Walk, Bodies}
use Rattle.width_solver.specs.declared.walk.Found.{Found}

-- a part of a body was walked
pub record Walks (part : Walk) (old new : Found) : Type 0 where
  pub known : new.known.entries ≡ (part old.known.entries (length old.places.items)).known
  pub places : new.places.items ≡ old.places.items ++ (part old.known.entries (length old.places.items)).places
  pub rules : new.rules.items ≡ old.rules.items ++ (part old.known.entries (length old.places.items)).rules

-- bodies were walked
pub record WalksBodies (bodies : Bodies) (old new : Found) : Type 0 where
  pub places : new.places.items ≡ old.places.items ++ bodies.places
  pub rules : new.rules.items ≡ old.rules.items ++ bodies.rules
