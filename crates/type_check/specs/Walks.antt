-- What a walk over the text adds to what it has found.
use Rattle.std.specs.Prelude.{◌≡◌, ◌++◌}
use Rattle.type_check.specs.declared.found.Findings.{Findings}
use Rattle.type_check.specs.declared.walk.Walk.{Walk}
use Rattle.type_check.specs.Expressions.{Judgement}
use Rattle.type_check.specs.Statements.{Walk as Steps}

-- the nodes and the faults of expressions were added
pub record Adds (judgement : Judgement) (old new : Findings) : Type 0 where
  pub types : new.types.items ≡ old.types.items ++ judgement.nodes
  pub faults : new.faults.items ≡ old.faults.items ++ judgement.faults

-- statements were walked
pub record Walks (steps : Steps) (old new : Walk) : Type 0 where
  pub modules : new.known.modules ≡ old.known.modules
  pub known : new.known.parts ≡ (steps old.known.parts).known
  pub types : new.found.types.items ≡ old.found.types.items ++ (steps old.known.parts).nodes
  pub faults : new.found.faults.items ≡ old.found.faults.items ++ (steps old.known.parts).faults
