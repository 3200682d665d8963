-- What the program is to answer: a status and the bytes that are written.
use Rattle.std.specs.Prelude.{◌≡◌, ◌≢◌, ℕ, ◌<◌, ◌≤◌, false, List, length, Option, Some, None, codes}
use Rattle.place_text.specs.Places.{fault_line_bytes, first_place}
use Rattle.place_text.specs.declared.place.Place.{Place}
use Rattle.place_text.specs.declared.place.TextPart.TheVariants.{Circuit as Circuit_part, Stimulus as Stimulus_part, State as State_part}
use Rattle.place_text.specs.First.{IsFirst, HasNone as HasNoFault}
use Rattle.fir_tree.specs.LeafNames.{Texts}
use Rattle.fir_tree.specs.declared.scope.Fitted.{Fitted}
use Rattle.fir_meaning.specs.Components.{Design, design_of}
use Rattle.ground_net.specs.declared.net.Ports.{Ports}
use Rattle.stimulus.specs.declared.stimulus.Stimulus.{Stimulus}
use Rattle.stimulus.specs.declared.fault.StimFault.{StimFault}
use Rattle.stimulus.specs.Faults.{IsFault, place_of, rank_of, kind_of}
use Rattle.stimulus.specs.Stimuli.{IsStimulus}
use Rattle.circuit_run.specs.Ports.{ArePortsOf}
use Rattle.circuit_run.specs.Traces.{all_inputs, IsTraceText}
use Rattle.trace_print.specs.Listing.{listing_of}
use Rattle.crew_run.specs.Summaries.{IsSummary}
use Rattle.circuit_make.specs.Rings.{ring_text}
use Rattle.cut_listing.specs.CircuitCuts.{IsCutText}
use Rattle.cut_listing.specs.RefinedTexts.{IsRefinedText}
use Rattle.circuit_texts.specs.Variables.{NamesNoLeaf}
use Rattle.circuit_texts.specs.VcdTexts.{IsVcdText}
use Rattle.snapshot_text.specs.declared.fault.StateFault.{StateFault}
use Rattle.snapshot_text.specs.Faults.{place_of as place_in_state, kind_of as kind_in_state}
use Rattle.circuit_texts.specs.Held.{IsFirstStateFault}
use Rattle.circuit_texts.specs.StateTexts.{IsResumedText, IsSavedText}
use Rattle.print_stop.specs.Logs.{IsLogOf}
use Rattle.sim_engine.specs.Stages.{circuit_limit, IsAccepted, IsFirstFault}
use Rattle.sim_engine.specs.Faults.{kind_name, fault_place}
use Rattle.sim_engine.specs.declared.fault.CircuitFault.{CircuitFault}
use Rattle.asked_texts.specs.declared.texts.WholeFault.{WholeFault}
use Rattle.asked_texts.specs.declared.texts.WholeFault.TheVariants.{TooLong, NoStimulus, WatchUnknown}
use Rattle.asked_texts.specs.Commands.{StateText, Told, Too_long, told, joined_limit, Job, Run, Check, Widths, Cut, Refine, Vcd, Save, Resume, Log, job_from, Question, Of_joined, Of_two, Of_state, Of_made, asked_by}
use Rattle.asked_texts.specs.declared.words.Keeping.{Keeping}
use Rattle.asked_texts.specs.Texts.{stimulus_limit, whole_name, reads_all, HasNone, IsPart}

-- The lines of faults: of a fault of the circuit, of one of its text as a whole or of the words, of a fault of the stimulus, of one of its text as a
-- whole, and the same of a state.
abbrev pub fault_bytes : CircuitFault → Place → List ℕ
fault_bytes fault there' = fault_line_bytes Circuit_part (kind_name fault) there'

abbrev pub whole_bytes : WholeFault → Place → List ℕ
whole_bytes fault there' = fault_line_bytes Circuit_part (whole_name fault) there'

abbrev pub stimulus_bytes : StimFault → Place → List ℕ
stimulus_bytes fault there' = fault_line_bytes Stimulus_part (kind_of fault) there'

abbrev pub whole_stimulus_bytes : WholeFault → Place → List ℕ
whole_stimulus_bytes fault there' = fault_line_bytes Stimulus_part (whole_name fault) there'

abbrev pub state_bytes : StateFault → Place → List ℕ
state_bytes fault there' = fault_line_bytes State_part (kind_in_state fault) there'

abbrev pub whole_state_bytes : WholeFault → Place → List ℕ
whole_state_bytes fault there' = fault_line_bytes State_part (whole_name fault) there'

-- What the text of a stimulus is refused with for a circuit that is run: that it is too long, or its first fault.
pub data RefusesStimulus (texts : Texts) (design : Design) (text : List ℕ) : List ℕ → Type 0 where
  stimulus_too_long : stimulus_limit < length text → RefusesStimulus texts design text (whole_stimulus_bytes TooLong first_place)
  stimulus_faulty : (ports : Ports) (fault : StimFault) (there' : Place) → length text ≤ stimulus_limit → ArePortsOf texts design ports
      → IsFirst place_of rank_of (IsFault text ports) fault → place_of fault ≡ Some there' → RefusesStimulus texts design text (stimulus_bytes fault there')

-- The text is within its limit and without a fault, and this is its stimulus.
pub record TakesStimulus (texts : Texts) (design : Design) (text : List ℕ) (stimulus : Stimulus) : Type 0 where
  pub within : length text ≤ stimulus_limit
  pub ports : Ports
  pub are_ports : ArePortsOf texts design ports
  pub faultless : HasNoFault (IsFault text ports)
  pub is : IsStimulus text ports stimulus

-- What a run of a circuit answers to the text of a stimulus, where this relation says what is written under a stimulus.
pub data Runs (texts : Texts) (design : Design) (Writes : Stimulus → List ℕ → Type 0) (text : List ℕ) : ℕ → List ℕ → Type 0 where
  stimulus_refused : (bytes : List ℕ) → RefusesStimulus texts design text bytes → Runs texts design Writes text 3 bytes
  written : (stimulus : Stimulus) (bytes : List ℕ) → TakesStimulus texts design text stimulus → Writes stimulus bytes → Runs texts design Writes text 0 bytes

-- What the text of a state is refused with for a circuit: that it is too long, or its first fault.
pub data RefusesState (texts : Texts) (design : Design) : Option StateText → List ℕ → Type 0 where
  state_too_long : RefusesState texts design (Some Too_long) (whole_state_bytes TooLong first_place)
  state_faulty : (state : List ℕ) (fault : StateFault) (there' : Place) → IsFirstStateFault texts design state fault → place_in_state fault ≡ Some there'
      → RefusesState texts design (Some (Told state)) (state_bytes fault there')

-- The text of the state with which a run begins, where there is one.
pub data TakesState : Option StateText → Option (List ℕ) → Type 0 where
  no_state : TakesState None None
  told_state : (state : List ℕ) → TakesState (Some (Told state)) (Some state)

-- What a run of a circuit that begins with a state, or where there is none with all 0, answers to the text of a stimulus, where this relation
-- says what is written under a stimulus. The state is judged behind the stimulus.
pub data RunsFrom (texts : Texts) (design : Design) (Writes : Option (List ℕ) → Stimulus → List ℕ → Type 0) (begin : Option StateText) (text : List ℕ) : ℕ → List ℕ → Type 0 where
  given_refused : (bytes : List ℕ) → RefusesStimulus texts design text bytes → RunsFrom texts design Writes begin text 3 bytes
  state_refused : (stimulus : Stimulus) (bytes : List ℕ) → TakesStimulus texts design text stimulus → RefusesState texts design begin bytes
      → RunsFrom texts design Writes begin text 3 bytes
  begun : (stimulus : Stimulus) (state : Option (List ℕ)) (bytes : List ℕ) → TakesStimulus texts design text stimulus → TakesState begin state → Writes state stimulus bytes
      → RunsFrom texts design Writes begin text 0 bytes

-- The log of a circuit under a stimulus: what its items print under what main's inputs are given.
abbrev pub IsLogText : Fitted → Stimulus → List ℕ → Type 0
IsLogText fitted stimulus =
    IsLogOf fitted.checked.resolved.names (design_of fitted) fitted.checked.resolved.prints (all_inputs (design_of fitted) stimulus)

-- What is answered where the circuit's text was taken: its first fault; or for `check` that there is none, for `widths` the listing, for `cut` the
-- circuit's cut, for `refine` the refined one, for `run` what a run of the circuit answers, for `vcd` that a word names no leaf, or what a
-- run answers that is dumped; for `save` what a run answers whose state is written, for `resume` what one answers that goes on from a state, and for
-- `log` what one answers whose items are printed.
pub data JudgesTexts : Job → List ℕ → List ℕ → ℕ → List ℕ → Type 0 where
  refused : (job : Job) (text stimulus : List ℕ) (fault : CircuitFault) (there' : Place) → IsFirstFault text fault → fault_place fault ≡ Some there'
      → JudgesTexts job text stimulus 2 (fault_bytes fault there')
  accepted : (text stimulus : List ℕ) (fitted : Fitted) → IsAccepted text fitted → JudgesTexts Check text stimulus 0 (codes "ok\n")
  listed : (text stimulus : List ℕ) (fitted : Fitted) → IsAccepted text fitted → JudgesTexts Widths text stimulus 0 (listing_of fitted)
  divided : (workers : ℕ) (text stimulus : List ℕ) (fitted : Fitted) (bytes : List ℕ) → IsAccepted text fitted
      → IsCutText fitted.checked.resolved.names (design_of fitted) workers bytes → JudgesTexts (Cut workers) text stimulus 0 bytes
  refined : (workers : ℕ) (text stimulus : List ℕ) (fitted : Fitted) (bytes : List ℕ) → IsAccepted text fitted
      → IsRefinedText fitted.checked.resolved.names (design_of fitted) workers bytes → JudgesTexts (Refine workers) text stimulus 0 bytes
  ran : (text stimulus : List ℕ) (fitted : Fitted) (status : ℕ) (bytes : List ℕ) → IsAccepted text fitted
      → Runs fitted.checked.resolved.names (design_of fitted) (IsTraceText fitted.checked.resolved.names (design_of fitted)) stimulus status bytes
      → JudgesTexts Run text stimulus status bytes
  watch_unknown : (names : List (List ℕ)) (text stimulus : List ℕ) (fitted : Fitted) → IsAccepted text fitted
      → NamesNoLeaf fitted.checked.resolved.names (design_of fitted) names → JudgesTexts (Vcd names) text stimulus 2 (whole_bytes WatchUnknown first_place)
  dumped : (names : List (List ℕ)) (text stimulus : List ℕ) (fitted : Fitted) (status : ℕ) (bytes : List ℕ) → IsAccepted text fitted
      → (NamesNoLeaf fitted.checked.resolved.names (design_of fitted) names → ⊥)
      → Runs fitted.checked.resolved.names (design_of fitted) (IsVcdText fitted.checked.resolved.names (design_of fitted) names) stimulus status bytes
      → JudgesTexts (Vcd names) text stimulus status bytes
  saved : (begin : Option StateText) (text stimulus : List ℕ) (fitted : Fitted) (status : ℕ) (bytes : List ℕ) → IsAccepted text fitted
      → RunsFrom fitted.checked.resolved.names (design_of fitted) (λ state given. IsSavedText fitted.checked.resolved.names (design_of fitted) given state) begin stimulus status bytes
      → JudgesTexts (Save begin) text stimulus status bytes
  resumed : (begin : StateText) (text stimulus : List ℕ) (fitted : Fitted) (status : ℕ) (bytes : List ℕ) → IsAccepted text fitted
      → RunsFrom fitted.checked.resolved.names (design_of fitted) (λ state given. IsResumedText fitted.checked.resolved.names (design_of fitted) given state) (Some begin) stimulus status bytes
      → JudgesTexts (Resume begin) text stimulus status bytes
  logged : (text stimulus : List ℕ) (fitted : Fitted) (status : ℕ) (bytes : List ℕ) → IsAccepted text fitted
      → Runs fitted.checked.resolved.names (design_of fitted) (IsLogText fitted) stimulus status bytes
      → JudgesTexts Log text stimulus status bytes

-- the circuit's text was taken: all is within its limit
pub record IsTaken (job : Job) (joined circuit stimulus : List ℕ) : Type 0 where
  pub within : length joined ≤ joined_limit
  pub part : IsPart job joined circuit stimulus
  pub short : length circuit ≤ circuit_limit

-- What is answered to a joined text. Of the faults of the text as a whole the first in this order counts.
pub data Judges : Job → List ℕ → ℕ → List ℕ → Type 0 where
  joined_too_long : (job : Job) (joined : List ℕ) → joined_limit < length joined → Judges job joined 2 (whole_bytes TooLong first_place)
  no_stimulus : (job : Job) (joined : List ℕ) → reads_all job ≡ false → length joined ≤ joined_limit → HasNone joined
      → Judges job joined 2 (whole_bytes NoStimulus first_place)
  circuit_too_long : (job : Job) (joined circuit stimulus : List ℕ) → length joined ≤ joined_limit → IsPart job joined circuit stimulus
      → circuit_limit < length circuit → Judges job joined 2 (whole_bytes TooLong first_place)
  taken : (job : Job) (joined circuit stimulus : List ℕ) (status : ℕ) (bytes : List ℕ) → IsTaken job joined circuit stimulus
      → JudgesTexts job circuit stimulus status bytes → Judges job joined status bytes

-- The answer to a question, where the texts that it needs are held. Of two texts the circuit's is judged as a whole: no line is looked for in it.
-- The text that is made is run as any joined text, and the summary stands for the trace.
pub data AnswersTo (texts : List ℕ → Option (List ℕ)) : Question → ℕ → List ℕ → Type 0 where
  of_joined : (job : Job) (name joined : List ℕ) (status : ℕ) (bytes : List ℕ) → texts name ≡ Some joined → Judges job joined status bytes
      → AnswersTo texts (Of_joined job name) status bytes
  of_long_circuit : (circuit stimulus text : List ℕ) → texts circuit ≡ Some text → circuit_limit < length text
      → AnswersTo texts (Of_two circuit stimulus) 2 (whole_bytes TooLong first_place)
  of_two : (circuit stimulus text given : List ℕ) (status : ℕ) (bytes : List ℕ) → texts circuit ≡ Some text → length text ≤ circuit_limit
      → texts stimulus ≡ Some given → JudgesTexts Run text given status bytes → AnswersTo texts (Of_two circuit stimulus) status bytes
  of_long_joined : (keeping : Keeping) (circuit state joined : List ℕ) → texts circuit ≡ Some joined → joined_limit < length joined
      → AnswersTo texts (Of_state keeping circuit state) 2 (whole_bytes TooLong first_place)
  of_state : (keeping : Keeping) (circuit state joined text : List ℕ) (status : ℕ) (bytes : List ℕ) → texts circuit ≡ Some joined → length joined ≤ joined_limit
      → texts state ≡ Some text → Judges (job_from keeping (told text)) joined status bytes → AnswersTo texts (Of_state keeping circuit state) status bytes
  of_made : (cycles size : ℕ) (trace summary : List ℕ) → Judges Run (ring_text size cycles) 0 trace → IsSummary trace summary
      → AnswersTo texts (Of_made cycles size) 0 summary
  of_made_refused : (cycles size : ℕ) (status : ℕ) (bytes : List ℕ) → Judges Run (ring_text size cycles) status bytes → status ≢ 0
      → AnswersTo texts (Of_made cycles size) status bytes

-- The answer to a command line.
pub data Answers : List (List ℕ) → (List ℕ → Option (List ℕ)) → ℕ → List ℕ → Type 0 where
  no_command : (words : List (List ℕ)) (texts : List ℕ → Option (List ℕ)) → asked_by words ≡ None → Answers words texts 1 (codes "usage\n")
  answered : (words : List (List ℕ)) (texts : List ℕ → Option (List ℕ)) (question : Question) (status : ℕ) (bytes : List ℕ)
      → asked_by words ≡ Some question → AnswersTo texts question status bytes → Answers words texts status bytes
