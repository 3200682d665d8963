-- Circuits of which each cycle settles.
use Rattle.fir_tree.specs.declared.scope.Fitted.{Fitted}
use Rattle.fir_meaning.specs.Components.{design_of}
use Rattle.fir_meaning.specs.Certain.{IsInitialized}
use Rattle.fir_meaning.specs.Loops.{HasNoLoop}

-- The circuit is initialized and has no loop.
pub record CanSettle (fitted : Fitted) : Type 0 where
  pub initialized : IsInitialized (design_of fitted)
  pub loopless : HasNoLoop (design_of fitted)
