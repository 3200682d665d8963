-- What is read for: a text and the ports, and what the words of a line are answered.
use Rattle.std.specs.Prelude.{◌≡◌, ◌⊎◌, ℕ, ◌<◌, ◌≤◌, true, false, List, slice_get, Option, Some, None, Result, MatchResult}
use Rattle.place_text.specs.Places.{place}
use Rattle.bit_words.specs.declared.value.Value.{Value}
use Rattle.bit_words.specs.Values.{InRange, integer_of}
use Rattle.bit_words.specs.Numbers.{integer_of_number}
use Rattle.ground_net.specs.declared.net.Ports.{Ports}
use Rattle.ground_net.specs.declared.net.PortLeaf.{PortLeaf}
use Rattle.stimulus.specs.declared.fault.StimFault.{StimFault}
use Rattle.stimulus.specs.declared.fault.StimFault.TheVariants.{CycleOrder, CycleRange, LeafUnknown, NotInput, LeafTwice, ValueRange}
use Rattle.stimulus.specs.Forms.{Said}
use Rattle.stimulus.specs.Faults.{is_leaf, input_of}

-- a cycle behind the last one, and below the number of cycles
abbrev pub AnswersCycle : List ℕ → ℕ → ℕ → Said → Result ℕ StimFault → Type 0
AnswersCycle text cycles last said result = MatchResult result
    (λ cycle. (cycle ≡ said.cycle) × (last ≤ said.cycle) × (said.cycle < cycles))
    (λ fault. ((fault ≡ CycleOrder (place text said.cycle_word.at)) × (said.cycle < last)) ⊎ ((fault ≡ CycleRange (place text said.cycle_word.at)) × (last ≤ said.cycle) × (cycles ≤ said.cycle)))

-- an input that isn't set in the cycle yet
abbrev pub AnswersLeaf : List ℕ → Ports → List (Option ℕ) → ℕ → Said → Result ℕ StimFault → Type 0
AnswersLeaf text ports set_in cycle said result = MatchResult result
    (λ input. (is_leaf ports said.leaf.bytes ≡ true) × (input_of ports said.leaf.bytes ≡ Some input) × ¬ (slice_get set_in input ≡ Some (Some cycle)))
    (λ fault. ((fault ≡ LeafUnknown (place text said.leaf.at)) × (is_leaf ports said.leaf.bytes ≡ false))
    ⊎ (((fault ≡ NotInput (place text said.leaf.at)) × (is_leaf ports said.leaf.bytes ≡ true) × (input_of ports said.leaf.bytes ≡ None))
    ⊎ ((fault ≡ LeafTwice (place text said.leaf.at)) × (is_leaf ports said.leaf.bytes ≡ true)
    × ((input : ℕ) × (input_of ports said.leaf.bytes ≡ Some input) × (slice_get set_in input ≡ Some (Some cycle))))))

-- a value that the leaf holds
abbrev pub AnswersValue : List ℕ → PortLeaf → Said → Result Value StimFault → Type 0
AnswersValue text leaf said result = MatchResult result
    (λ value. (value.kind ≡ leaf.kind) × (value.width ≡ leaf.width) × (integer_of value ≡ integer_of_number said.number) × InRange leaf.kind leaf.width (integer_of_number said.number))
    (λ fault. (fault ≡ ValueRange (place text said.value_word.at)) × ¬ (InRange leaf.kind leaf.width (integer_of_number said.number)))
