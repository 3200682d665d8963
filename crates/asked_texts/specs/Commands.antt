-- What a command line asks for.
use Rattle.std.specs.Prelude.{⊤, ℕ, ◌≤◌, nat_le, Bool, false, List, map, length, Option, Some, None, option_map, if◌then◌else◌}
use Rattle.circuit_make.specs.Rings.{InRange}
use Rattle.command_words.specs.Commands.{Request, Run as Run_asked, Check as Check_asked, Widths as Widths_asked, Cut as Cut_asked, Make as Make_asked, Vcd as Vcd_asked, Refine as Refine_asked, Save as Save_asked, Resume as Resume_asked, Log as Log_asked, command_of}
use Rattle.asked_texts.specs.declared.words.Command.{Command}
use Rattle.asked_texts.specs.declared.words.Command.TheVariants as command
use Rattle.asked_texts.specs.declared.words.Asked.{Asked}
use Rattle.asked_texts.specs.declared.words.Asked.TheVariants as asked
use Rattle.asked_texts.specs.declared.words.StateText.{StateText as GivenText}
use Rattle.asked_texts.specs.declared.words.StateText.TheVariants as given
use Rattle.asked_texts.specs.declared.words.Keeping.{Keeping}
use Rattle.asked_texts.specs.declared.words.Keeping.TheVariants as keeping

-- The greatest lengths of a joined text and of a state's text, in bytes.
abbrev pub joined_limit : ℕ
joined_limit = 20971520

abbrev pub state_limit : ℕ
state_limit = 67108864

-- What a job has of a state's text: all of it, or that it is too long.
pub data StateText : Type 0 where
  Told : (text : List ℕ) → StateText
  Too_long : StateText

abbrev pub told : List ℕ → StateText
told text = if nat_le (length text) state_limit then Told text else Too_long

-- What is done with a joined text: it is run, judged, listed, cut into so many parts by the first cut or by the refined one, run with the
-- changes of the leaves of these names dumped, of main's watched leaves where there is no name; run from a state, or from all 0, to
-- the text of the state behind it; run from a state; or run with what it prints written.
pub data Job : Type 0 where
  Run : Job
  Check : Job
  Widths : Job
  Cut : (workers : ℕ) → Job
  Refine : (workers : ℕ) → Job
  Vcd : (names : List (List ℕ)) → Job
  Save : (begin : Option StateText) → Job
  Resume : (begin : StateText) → Job
  Log : Job

-- the job that begins with a state
abbrev pub job_from : Keeping → StateText → Job
job_from keeping.Save begin = Save (Some begin)
job_from keeping.Resume begin = Resume begin

-- A job on the joined text of a name, a run of two texts, one of a joined text that begins with a state, or a run of so many cycles of
-- the circuit that is made for a size.
pub data Question : Type 0 where
  Of_joined : (job : Job) (name : List ℕ) → Question
  Of_two : (circuit stimulus : List ℕ) → Question
  Of_state : (keeping : Keeping) (circuit state : List ℕ) → Question
  Of_made : (cycles size : ℕ) → Question

-- A run of a name alone is one of a joined text.
abbrev pub run_question : List ℕ → Option (List ℕ) → Question
run_question circuit None = Of_joined Run circuit
run_question circuit (Some stimulus) = Of_two circuit stimulus

-- A state that isn't named is that in which all is 0.
abbrev pub save_question : List ℕ → Option (List ℕ) → Question
save_question circuit None = Of_joined (Save None) circuit
save_question circuit (Some state) = Of_state keeping.Save circuit state

-- The question of a request. The number of workers changes a cut alone, and whether the refined cut is run changes nothing.
abbrev pub question_of : Option Request → Option Question
question_of (Some (Run_asked workers refined circuit stimulus)) = Some (run_question circuit stimulus)
question_of (Some (Check_asked circuit)) = Some (Of_joined Check circuit)
question_of (Some (Widths_asked circuit)) = Some (Of_joined Widths circuit)
question_of (Some (Cut_asked workers circuit)) = Some (Of_joined (Cut workers) circuit)
question_of (Some (Make_asked workers cycles size)) = Some (Of_made cycles size)
question_of (Some (Vcd_asked workers circuit leaves)) = Some (Of_joined (Vcd leaves) circuit)
question_of (Some (Refine_asked workers circuit)) = Some (Of_joined (Refine workers) circuit)
question_of (Some (Save_asked workers circuit state)) = Some (save_question circuit state)
question_of (Some (Resume_asked workers circuit state)) = Some (Of_state keeping.Resume circuit state)
question_of (Some (Log_asked workers circuit)) = Some (Of_joined Log circuit)
question_of None = None

abbrev pub asked_by : List (List ℕ) → Option Question
asked_by words = question_of (command_of words)

-- how many workers a request asks for: one where it says nothing of them
abbrev pub workers_asked : Request → ℕ
workers_asked (Run_asked workers refined circuit stimulus) = workers
workers_asked (Check_asked circuit) = 1
workers_asked (Widths_asked circuit) = 1
workers_asked (Cut_asked workers circuit) = workers
workers_asked (Make_asked workers cycles size) = workers
workers_asked (Vcd_asked workers circuit leaves) = workers
workers_asked (Refine_asked workers circuit) = workers
workers_asked (Save_asked workers circuit state) = workers
workers_asked (Resume_asked workers circuit state) = workers
workers_asked (Log_asked workers circuit) = workers

-- whether a request asks that the refined cut is run
abbrev pub refined_asked : Request → Bool
refined_asked (Run_asked workers refined circuit stimulus) = refined
refined_asked _ = false

-- the number of workers of a crew
abbrev pub IsCrew : ℕ → Type 0
IsCrew workers = (1 ≤ workers) × (workers ≤ 64)

-- a state's text is within its limit
abbrev pub IsShort : Option StateText → Type 0
IsShort (Some (Told text)) = length text ≤ state_limit
IsShort _ = ⊤

-- the numbers and texts of a job, and the numbers of a question, lie in their ranges
abbrev pub AreInRange : Job → Type 0
AreInRange Run = ⊤
AreInRange Check = ⊤
AreInRange Widths = ⊤
AreInRange (Cut workers) = IsCrew workers
AreInRange (Refine workers) = IsCrew workers
AreInRange (Vcd names) = ⊤
AreInRange (Save begin) = IsShort begin
AreInRange (Resume begin) = IsShort (Some begin)
AreInRange Log = ⊤

abbrev pub IsInRange : Question → Type 0
IsInRange (Of_joined job name) = AreInRange job
IsInRange (Of_two circuit stimulus) = ⊤
IsInRange (Of_state keeping circuit state) = ⊤
IsInRange (Of_made cycles size) = InRange cycles × InRange size

-- what is done, and what is asked, as the definition sees it
abbrev pub text_given : GivenText → StateText
text_given (given.Told text) = Told text.now
text_given given.TooLong = Too_long

abbrev pub job : Command → Job
job command.Run = Run
job command.Check = Check
job command.Widths = Widths
job (command.Cut workers) = Cut workers
job (command.Refine workers) = Refine workers
job (command.Vcd names) = Vcd (map (λ name. name.now) names.now)
job (command.Save begin) = Save (option_map text_given begin)
job (command.Resume begin) = Resume (text_given begin)
job command.Log = Log

abbrev pub question : Asked → Question
question (asked.Joined command name) = Of_joined (job command) name.now
question (asked.Two circuit stimulus) = Of_two circuit.now stimulus.now
question (asked.State keeping circuit state) = Of_state keeping circuit.now state.now
question (asked.Made cycles size) = Of_made cycles size
