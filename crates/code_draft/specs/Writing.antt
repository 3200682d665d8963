-- Code that publishes what a port writes.
use Rattle.std.specs.Prelude.{◌≡◌, ℕ, ◌≤◌, true, List, [], ◌∷◌, ◌++◌, All}
use Rattle.bit_words.specs.declared.value.Value.{Value}
use Rattle.flat_code.specs.declared.instr.Port.{Port}
use Rattle.flat_code.specs.Meaning.{at_port}
use Rattle.flat_code.specs.Fine.{InRegion}
use Rattle.code_draft.specs.declared.draft.Draft.{Draft}
use Rattle.code_draft.specs.Drafts.{IsDraft, Solved, Stands, written_in, pushed_in}

-- the code with one port more
abbrev pub with_port : Draft → Port → Draft
with_port d p = record { instrs = d.instrs; ports = d.ports ++ p ∷ []; wides = d.wides; slots = d.slots; words = d.words }

-- What a port reads was written, and the words that it may write are there.
pub record HasPort (d : Draft) (p : Port) : Type 0 where
  pub conditions : All (Stands d) p.conditions
  pub address : Stands d p.address
  pub source : Stands d p.source
  pub region : InRegion d.words p.source.width p.region

-- Code that goes on from other code, and publishes besides what the port writes, whatever the frame holds.
pub record TellsBy (old new : Draft) (p : Port) : Type 0 where
  pub is : IsDraft new
  pub words : new.words ≡ old.words
  pub slots : old.slots ≤ new.slots
  pub stays : (k : ℕ) → written_in old k ≡ true → written_in new k ≡ true
  pub back : (words : List ℕ) (inputs : List Value) (F : List ℕ) → Solved new words inputs F → Solved old words inputs F
  pub tells : (F : List ℕ) → pushed_in new F ≡ pushed_in old F ++ at_port p F

abbrev pub PublishesBy : Draft → Draft → Port → Type 0
PublishesBy old new p = IsDraft old → HasPort old p → TellsBy old new p
