-- What the code of sinks evaluates.
use Rattle.std.specs.Prelude.{ℕ, List, [], ◌∷◌, slice_get, Option, Some, None, All}
use Rattle.ground_net.specs.declared.ground.Ground.{Ground}
use Rattle.ground_net.specs.declared.net.Net.{Net}
use Rattle.ground_net.specs.declared.net.NetRegister.{NetRegister}
use Rattle.ground_net.specs.Reads.{driver_of}
use Rattle.code_memories.specs.Nexts.{next_ground}
use Rattle.code_draft.specs.declared.draft.Draft.{Draft}
use Rattle.code_draft.specs.declared.sources.Sources.{Sources}
use Rattle.code_emit.specs.Spans.{AreFoundBefore, Evaluates}

abbrev pub found_groups : Net → Option NetRegister → List (List Ground)
found_groups net (Some register) = (next_ground register (driver_of net register.leaf) ∷ []) ∷ []
found_groups net None = []

-- what the register of this number holds next
abbrev pub register_groups : Net → ℕ → List (List Ground)
register_groups net n = found_groups net (slice_get net.registers n)

-- Code that goes on by segments that evaluate such groups of expressions and keep nothing.
abbrev pub EvaluatesOnly : Sources → (List Ground → Type 0) → Draft → Draft → Type 0
EvaluatesOnly S such old new = AreFoundBefore S old.slots → (groups : List (List Ground)) × All such groups × Evaluates S groups old new
