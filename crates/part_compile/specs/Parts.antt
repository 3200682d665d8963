-- A code that is put together by layers: the sources of a net, its assignments in turn, what its sinks leave, and the whole.
use Rattle.std.specs.Prelude.{◌≡◌, ℕ, List, [], map, Contains}
use Rattle.bit_words.specs.declared.value.Value.{Value}
use Rattle.ground_net.specs.declared.net.Net.{Net}
use Rattle.ground_net.specs.Grounds.{Instant}
use Rattle.ground_net.specs.Cones.{Sink}
use Rattle.ground_net.specs.Reads.{IsAssigned}
use Rattle.flat_code.specs.declared.code.Code.{Code}
use Rattle.flat_code.specs.declared.instr.Location.{Location}
use Rattle.flat_code.specs.Meaning.{location_values}
use Rattle.code_draft.specs.declared.draft.Draft.{Draft}
use Rattle.code_draft.specs.Drafts.{Solved}
use Rattle.code_draft.specs.declared.sources.Sources.{Sources}
use Rattle.code_emit.specs.Emits.{Sees}
use Rattle.partition_code.specs.Sequences.{Goes}
use Rattle.code_memories.specs.Telling.{TellsSinks}
use Rattle.code_draft.specs.Finishing.{IsCodeOf}
use Rattle.partition_code.specs.FromNets.{AreOf}

-- A code of these assignments, which publishes what these sinks leave and puts out these leaves.
pub record IsPart (net : Net) (assignments : List ℕ) (these : List Sink) (shown : List ℕ) (code : Code) : Type 0 where
  pub first : Sources
  pub of : AreOf net first
  pub later : Sources
  pub empty : Draft
  pub none : empty.instrs ≡ []
  pub assigned : Draft
  pub goes : Goes net.drivers assignments first empty later assigned
  pub are : (x : ℕ) → Contains assignments x → IsAssigned net.leaves x
  pub told : Draft
  pub tells : TellsSinks net later these assigned told
  pub locations : List Location
  pub whole : IsCodeOf code told locations
  pub shows : (words : List ℕ) (inputs : List Value) (F : List ℕ) (instant : Instant) → Solved told words inputs F → Sees later words inputs F instant → location_values F locations ≡ map instant.leaf shown
