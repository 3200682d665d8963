-- The stimulus that a text writes for ports, and which stimuli are well formed for them.
use Rattle.std.specs.Prelude.{◌≡◌, ◌≢◌, ℕ, ◌<◌, ◌≤◌, List, All, AllPairs, slice_get, Some}
use Rattle.std.specs.List.{AllZip}
use Rattle.bit_words.specs.Values.{integer_of}
use Rattle.bit_words.specs.Numbers.{integer_of_number}
use Rattle.ground_net.specs.declared.net.Ports.{Ports}
use Rattle.ground_net.specs.declared.net.PortLeaf.{PortLeaf}
use Rattle.stimulus.specs.declared.stimulus.Stimulus.{Stimulus}
use Rattle.stimulus.specs.declared.stimulus.Setting.{Setting}
use Rattle.stimulus.specs.Words.{Word}
use Rattle.stimulus.specs.Forms.{Heads, Said, Says}
use Rattle.stimulus.specs.Faults.{most_cycles, input_of}

-- a setting is of an input of the ports, and its value has the input's kind and width
pub record IsOf (ports : Ports) (setting : Setting) : Type 0 where
  pub leaf : PortLeaf
  pub input : slice_get ports.inputs setting.input ≡ Some leaf
  pub kind : setting.value.kind ≡ leaf.kind
  pub width : setting.value.width ≡ leaf.width

-- the setting that a line writes
pub record Sets (ports : Ports) (line : List Word) (setting : Setting) : Type 0 where
  pub said : Said
  pub says : Says line said
  pub cycle : setting.cycle ≡ said.cycle
  pub input : input_of ports said.leaf.bytes ≡ Some setting.input
  pub of_input : IsOf ports setting
  pub value : integer_of setting.value ≡ integer_of_number said.number

-- The stimulus of a text: so many cycles as its first line says, and a setting for each line behind it.
pub record IsStimulus (text : List ℕ) (ports : Ports) (stimulus : Stimulus) : Type 0 where
  pub number : Word
  pub lines : List (List Word)
  pub heads : Heads text number stimulus.cycles lines
  pub settings : AllZip (Sets ports) lines stimulus.settings

-- of two settings the one may stand before the other: they go by cycle, and no input is set twice in a cycle
pub record StandsBefore (setting other : Setting) : Type 0 where
  pub in_order : setting.cycle ≤ other.cycle
  pub once : setting.cycle ≡ other.cycle → setting.input ≢ other.input

-- A stimulus is well formed for ports.
pub record IsFormed (ports : Ports) (stimulus : Stimulus) : Type 0 where
  pub few : stimulus.cycles ≤ most_cycles
  pub below : All (λ setting. setting.cycle < stimulus.cycles) stimulus.settings
  pub of_inputs : All (IsOf ports) stimulus.settings
  pub pairs : AllPairs StandsBefore stimulus.settings
