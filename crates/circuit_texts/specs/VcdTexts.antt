-- The dump of a circuit under a stimulus (IEEE 1364, "Value change dump file").
use Rattle.std.specs.Prelude.{◌≡◌, ℕ, List, map}
use Rattle.bit_words.specs.declared.value.Value.{Value}
use Rattle.bit_words.specs.Values.{integer_of}
use Rattle.fir_tree.specs.LeafNames.{Texts, text_of}
use Rattle.fir_meaning.specs.Components.{Design}
use Rattle.fir_meaning.specs.States.{WatchedTrace, first_state}
use Rattle.ground_net.specs.declared.net.PortLeaf.{PortLeaf}
use Rattle.net_of_circuit.specs.FlatOrder.{Standing, flat_of}
use Rattle.stimulus.specs.declared.stimulus.Stimulus.{Stimulus}
use Rattle.vcd_write.specs.Texts.{vcd_text}
use Rattle.vcd_write.specs.Reading.{AreRows}
use Rattle.circuit_run.specs.Traces.{all_inputs}
use Rattle.circuit_texts.specs.Variables.{AreLeavesOfRun, AreVariables}

-- The dump of the leaves that these words name, or of main's watched leaves where there are none: the rows are those of a trace from the
-- state in which all is 0, each value of its leaf's kind and width, and the scope has main's name.
pub record IsVcdText (texts : Texts) (design : Design) (names : List (List ℕ)) (stimulus : Stimulus) (bytes : List ℕ) : Type 0 where
  pub all : List Standing
  pub of_run : AreLeavesOfRun design all
  pub vars : List PortLeaf
  pub leaves : List Standing
  pub are : AreVariables texts design all names vars leaves
  pub rows : List (List Value)
  pub shaped : AreRows vars rows
  pub trace : WatchedTrace design (map flat_of leaves) first_state (all_inputs design stimulus) (map (map integer_of) rows)
  pub is : bytes ≡ vcd_text (text_of texts design.main) vars rows
