-- Code that publishes the words of a value.
use Rattle.std.specs.Prelude.{◌≡◌, ℕ, ◌+◌, ◌<◌, ◌≤◌, true, List, ◌++◌}
use Rattle.bit_words.specs.declared.value.Value.{Value}
use Rattle.flat_code.specs.declared.instr.Location.{Location}
use Rattle.flat_code.specs.Meaning.{stored}
use Rattle.flat_code.specs.Fine.{further_words}
use Rattle.code_draft.specs.declared.draft.Draft.{Draft}
use Rattle.code_draft.specs.Drafts.{IsDraft, Solved, Stands, Holds, written_in, pushed_in}

-- Code that goes on from other code, and publishes besides the words of the value at a location, from a word on.
pub record Tells (old new : Draft) (word : ℕ) (s : Location) : Type 0 where
  pub is : IsDraft new
  pub words : new.words ≡ old.words
  pub slots : old.slots ≤ new.slots
  pub stays : (k : ℕ) → written_in old k ≡ true → written_in new k ≡ true
  pub back : (words : List ℕ) (inputs : List Value) (F : List ℕ) → Solved new words inputs F → Solved old words inputs F
  pub tells : (F : List ℕ) (v : Value) → Holds F s v → pushed_in new F ≡ pushed_in old F ++ stored word v

abbrev pub Publishes : Draft → Draft → ℕ → Location → Type 0
Publishes old new word s = IsDraft old → Stands old s → word + further_words s.width < old.words → Tells old new word s
