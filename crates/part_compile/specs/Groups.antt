-- What the code of a sink evaluates, and what it shows.
use Rattle.std.specs.Prelude.{◌≡◌, ℕ, [], ◌∷◌, ◌++◌, Some}
use Rattle.ground_net.specs.declared.net.Net.{Net}
use Rattle.flat_code.specs.declared.instr.Location.{Location}
use Rattle.code_draft.specs.declared.sources.Source.TheVariants as source
use Rattle.code_draft.specs.declared.sources.Sources.{Sources}
use Rattle.code_emit.specs.Emits.{leaf_source}
use Rattle.code_emit.specs.Spans.{EvaluatesAll}
use Rattle.code_memories.specs.SinkGroups.{register_groups}
use Rattle.part_compile.specs.declared.work.Made.{Made}

-- A watched leaf that is found in the frame needs no code: it is shown where it stands.
abbrev pub ShowsLeaf : Sources → ℕ → Made → Made → Type 0
ShowsLeaf S x old new = (t : Location) → leaf_source S x ≡ Some (source.Frame t) → (new.draft ≡ old.draft) × (new.shown ≡ old.shown ++ t ∷ [])

-- The code of a register evaluates what it holds next, and shows nothing.
pub record EvaluatesRegister (net : Net) (S : Sources) (n : ℕ) (old new : Made) : Type 0 where
  pub evaluates : EvaluatesAll S (register_groups net n) old.draft new.draft
  pub shown : new.shown ≡ old.shown
