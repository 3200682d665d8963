-- Whole codes from drafts.
use Rattle.std.specs.Prelude.{◌≡◌, ℕ, ◌<◌, ◌^◌, List, slice_index}
use Rattle.bit_words.specs.declared.value.Value.{Value}
use Rattle.flat_code.specs.declared.code.Code.{Code}
use Rattle.flat_code.specs.declared.instr.Location.{Location}
use Rattle.flat_code.specs.Meaning.{location_values}
use Rattle.flat_code.specs.Codes.{published_by, outputs_by}
use Rattle.code_draft.specs.declared.draft.Draft.{Draft}
use Rattle.code_draft.specs.Drafts.{Solved, pushed_in}

-- The effects of a code are those of a draft: there is a frame that solves the draft, by which it publishes what the draft does and
-- puts out what stands at the locations.
pub record HasEffects (code : Code) (d : Draft) (shown : List Location) (words : List ℕ) (inputs : List Value) : Type 0 where
  pub frame : List ℕ
  pub solved : Solved d words inputs frame
  pub publications : published_by code words inputs ≡ pushed_in d frame
  pub outputs : outputs_by code words inputs ≡ location_values frame shown

abbrev pub IsCodeOf : Code → Draft → List Location → Type 0
IsCodeOf code d shown = (words : List ℕ) (inputs : List Value) → ((k : ℕ) → slice_index words k < 2 ^ 64) → HasEffects code d shown words inputs
