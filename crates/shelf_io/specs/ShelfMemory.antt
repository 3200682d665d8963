-- What a shelf over memory shows beside its texts.
use Rattle.std.specs.Prelude.{ℕ, List, Option}
use Rattle.shelf_io.specs.declared.memory.FailPlan.{FailPlan}
use Rattle.shelf_io.specs.declared.memory.ShelfMemory.{ShelfMemory}
use Rattle.shelf_io.specs.HeldTexts.{text_of}

-- which of its calls fail
abbrev pub plan_of : ShelfMemory → FailPlan
plan_of shelf = shelf.plan

-- the most bytes of one read
abbrev pub step_of : ShelfMemory → ℕ
step_of shelf = shelf.step

-- what a name holds
abbrev pub held_by : ShelfMemory → List ℕ → Option (List ℕ)
held_by shelf name = text_of shelf.texts.items name
