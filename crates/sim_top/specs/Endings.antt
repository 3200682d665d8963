-- How a call of the program ends.
use Rattle.std.specs.Prelude.{◌≡◌, ◌≢◌, ◌⊎◌, ℕ, ◌<◌, ◌≤◌, List, [], ◌++◌, length, All, Option, Some, take, codes}
use Rattle.place_text.specs.declared.place.Place.{Place}
use Rattle.shelf_io.specs.Outside.{Appends}
use Rattle.fir_meaning.specs.Components.{design_of}
use Rattle.stimulus.specs.declared.stimulus.Stimulus.{Stimulus}
use Rattle.stimulus.specs.declared.fault.StimFault.{StimFault}
use Rattle.stimulus.specs.Stimuli.{IsFormed}
use Rattle.ground_net.specs.Watching.{inputs}
use Rattle.ground_net.specs.Cycles.{NetState}
use Rattle.snapshot_text.specs.declared.snapshot.Snapshot.{Snapshot}
use Rattle.snapshot_text.specs.declared.fault.StateFault.{StateFault}
use Rattle.snapshot_text.specs.Texts.{most_cycles}
use Rattle.snapshot_text.specs.Snapshots.{HoldsState}
use Rattle.circuit_texts.specs.Held.{IsStartOf}
use Rattle.circuit_texts.specs.StateTexts.{IsResumedText, IsSavedText}
use Rattle.circuit_run.specs.NetRuns.{watch}
use Rattle.circuit_run.specs.Traces.{IsTraceText}
use Rattle.circuit_texts.specs.NetNames.{AreNumbersOf}
use Rattle.circuit_texts.specs.VcdTexts.{IsVcdText}
use Rattle.sim_engine.specs.Building.{IsBuilt}
use Rattle.sim_engine.specs.declared.compile.Built.{Built}
use Rattle.sim_engine.specs.declared.fault.CircuitFault.{CircuitFault}
use Rattle.asked_texts.specs.declared.texts.WholeFault.{WholeFault}
use Rattle.sim_top.specs.declared.judge.Decision.{Decision}
use Rattle.sim_top.specs.declared.judge.Decision.TheVariants as decision
use Rattle.asked_texts.specs.Commands.{Job, Run}
use Rattle.sim_top.specs.Answers.{Answers, IsLogText, fault_bytes, whole_bytes, stimulus_bytes, whole_stimulus_bytes, state_bytes, whole_state_bytes}

-- Where the shelf tells its texts and the sink its bytes: `before` stood there, and now stands `after`.
-- answered: the status and the bytes are the definition's, and the definition has no other.
-- shelf_faulted: nothing was written.
-- sink_faulted: a prefix of the definition's bytes was written.
-- memory_wanted: a prefix of the definition's bytes was written, and nothing where the definition has no answer.
pub record Ends (words : List (List ℕ)) (texts : List ℕ → Option (List ℕ)) (status : ℕ) (before : List ℕ) (after : Option (List ℕ)) : Type 0 where
  pub answered : status ≤ 3 → (bytes : List ℕ) × Answers words texts status bytes × (after ≡ Some (before ++ bytes))
  pub only : status ≤ 3 → (other : ℕ) (bytes : List ℕ) → Answers words texts other bytes → (other ≡ status) × (after ≡ Some (before ++ bytes))
  pub shelf_faulted : status ≡ 4 → after ≡ Some before
  pub sink_faulted : status ≡ 5 → (code : ℕ) × (bytes : List ℕ) × (n : ℕ) × Answers words texts code bytes × (after ≡ Some (before ++ take n bytes))
  pub memory_wanted : status ≡ 6 → (n : ℕ) × (written : List ℕ) × (after ≡ Some (before ++ written))
      × ((code : ℕ) (bytes : List ℕ) → Answers words texts code bytes → written ≡ take n bytes)
      × (((code : ℕ) (bytes : List ℕ) → Answers words texts code bytes → ⊥) → written ≡ [])
  pub within : status ≤ 6

-- A reply was written, all of it or a prefix.
pub record IsSaid (result status : ℕ) (bytes : List ℕ) (old new : Option (List ℕ)) : Type 0 where
  pub all : result ≢ 5 → (result ≡ status) × Appends old new bytes
  pub part : result ≡ 5 → (n : ℕ) × Appends old new (take n bytes)

-- A trace, a dump or a log was written: all of it at 0, and a prefix where the sink failed, at 5, or memory was wanted, at 6.
pub record IsRun (result : ℕ) (bytes : List ℕ) (old new : Option (List ℕ)) : Type 0 where
  pub status : (result ≡ 0) ⊎ (result ≡ 5) ⊎ (result ≡ 6)
  pub all : result ≡ 0 → Appends old new bytes
  pub part : result ≢ 0 → (n : ℕ) × Appends old new (take n bytes)

-- A text of which this holds was written: all of it at 0, and a prefix of it where the sink failed, at 5; and nothing where memory was wanted, at 6.
pub record IsWritten (IsText : List ℕ → Type 0) (result : ℕ) (old new : Option (List ℕ)) : Type 0 where
  pub all : result ≡ 0 → (bytes : List ℕ) × IsText bytes × Appends old new bytes
  pub part : result ≡ 5 → (bytes : List ℕ) × IsText bytes × (n : ℕ) × Appends old new (take n bytes)
  pub nothing : result ≡ 6 → Appends old new []

-- The one line that names a fault: at status 2 one of the circuit, of its text as a whole or of the words, at 3 one of the stimulus, of a state, or of the text of
-- either as a whole.
pub data IsFaultLine : ℕ → List ℕ → Type 0 where
  of_circuit : (fault : CircuitFault) (there' : Place) → IsFaultLine 2 (fault_bytes fault there')
  of_whole : (fault : WholeFault) (there' : Place) → IsFaultLine 2 (whole_bytes fault there')
  of_stimulus : (fault : StimFault) (there' : Place) → IsFaultLine 3 (stimulus_bytes fault there')
  of_whole_stimulus : (fault : WholeFault) (there' : Place) → IsFaultLine 3 (whole_stimulus_bytes fault there')
  of_state : (fault : StateFault) (there' : Place) → IsFaultLine 3 (state_bytes fault there')
  of_whole_state : (fault : WholeFault) (there' : Place) → IsFaultLine 3 (whole_state_bytes fault there')

-- what a status says of the bytes of a reply, whatever was asked
abbrev pub IsReply : ℕ → List ℕ → Type 0
IsReply status bytes = (status ≡ 0) ⊎ (((status ≡ 1) × (bytes ≡ codes "usage\n")) ⊎ IsFaultLine status bytes)

-- The dump of words that name the leaves of these numbers has a property of answers, at status 0.
pub record GivesDump (Property : ℕ → List ℕ → Type 0) (built : Built) (stimulus : Stimulus) (numbers : List ℕ) : Type 0 where
  pub names : List (List ℕ)
  pub numbered : AreNumbersOf built.ordered.net names numbers
  pub dumped : (bytes : List ℕ) → IsVcdText built.fitted.checked.resolved.names (design_of built.fitted) names stimulus bytes → Property 0 bytes

-- What a run writes that begins with a snapshot has a property of answers, at status 0: the snapshot is that of this text, or of none.
pub record GivesFrom (Writes : Option (List ℕ) → List ℕ → Type 0) (Property : ℕ → List ℕ → Type 0) (built : Built) (start : Snapshot) : Type 0 where
  pub begin : Option (List ℕ)
  pub begins : IsStartOf built.ordered.net begin start
  pub written : (bytes : List ℕ) → Writes begin bytes → Property 0 bytes

-- A decision has a property of answers: its reply has it, or the trace, the dump, the state's text or the log has it, at status 0.
abbrev pub Gives : (ℕ → List ℕ → Type 0) → Decision → Type 0
Gives Property (decision.Say reply) = Property reply.status reply.bytes.items
Gives Property (decision.Run built stimulus watched) = (bytes : List ℕ) → IsTraceText built.fitted.checked.resolved.names (design_of built.fitted) stimulus bytes → Property 0 bytes
Gives Property (decision.Dump built stimulus numbers) = GivesDump Property built stimulus numbers
Gives Property (decision.Save built stimulus start) = GivesFrom (λ begin. IsSavedText built.fitted.checked.resolved.names (design_of built.fitted) stimulus begin) Property built start
Gives Property (decision.Resume built stimulus watched start) = GivesFrom (λ begin. IsResumedText built.fitted.checked.resolved.names (design_of built.fitted) stimulus begin) Property built start
Gives Property (decision.Log built stimulus) = (bytes : List ℕ) → IsLogText built.fitted stimulus bytes → Property 0 bytes

-- What was built can be run under the stimulus, by the watched leaves of its ports.
pub record IsRunnable (built : Built) (stimulus : Stimulus) (watched : List ℕ) : Type 0 where
  pub text : List ℕ
  pub is_built : IsBuilt text built
  pub formed : IsFormed built.ports stimulus
  pub are_watched : watched ≡ watch built.ordered.net
  pub are_leaves : All (λ x. x < length built.ordered.net.leaves) watched

-- What was built can be run under the stimulus with the leaves of these numbers dumped.
pub record IsDumpable (built : Built) (stimulus : Stimulus) (numbers : List ℕ) : Type 0 where
  pub text : List ℕ
  pub is_built : IsBuilt text built
  pub formed : IsFormed built.ports stimulus
  pub are_leaves : All (λ x. x < length built.ordered.net.leaves) numbers

-- A snapshot from which what was built can be run.
pub record IsStart (built : Built) (start : Snapshot) : Type 0 where
  pub few : start.cycle ≤ most_cycles
  pub state : NetState
  pub holds : HoldsState built.ordered.net (inputs built.ordered.net) state start

-- What was built can be run under the stimulus from a snapshot, with the leaves of these numbers watched.
pub record IsResumable (built : Built) (stimulus : Stimulus) (watched : List ℕ) (start : Snapshot) : Type 0 where
  pub runnable : IsRunnable built stimulus watched
  pub is_start : IsStart built start

-- The same, with no leaf watched.
pub record IsSavable (built : Built) (stimulus : Stimulus) (start : Snapshot) : Type 0 where
  pub text : List ℕ
  pub is_built : IsBuilt text built
  pub formed : IsFormed built.ports stimulus
  pub is_start : IsStart built start

-- What was built can be run under the stimulus with its items printed.
pub record IsLoggable (built : Built) (stimulus : Stimulus) : Type 0 where
  pub text : List ℕ
  pub is_built : IsBuilt text built
  pub formed : IsFormed built.ports stimulus

-- What a decision for a job is: a run that can be run, or a reply. Of a run no trace is said, none is dumped or logged, and none goes on from a state.
abbrev pub IsFor : Job → Decision → Type 0
IsFor job (decision.Say reply) = job ≡ Run → reply.status ≢ 0
IsFor job (decision.Run built stimulus watched) = IsRunnable built stimulus watched
IsFor job (decision.Dump built stimulus numbers) = (job ≢ Run) × IsDumpable built stimulus numbers
IsFor job (decision.Save built stimulus start) = (job ≢ Run) × IsSavable built stimulus start
IsFor job (decision.Resume built stimulus watched start) = (job ≢ Run) × IsResumable built stimulus watched start
IsFor job (decision.Log built stimulus) = (job ≢ Run) × IsLoggable built stimulus

-- A decision can be carried out: a reply is one, and a run can be run.
abbrev pub IsReady : Decision → Type 0
IsReady (decision.Say reply) = IsReply reply.status reply.bytes.items
IsReady (decision.Run built stimulus watched) = IsRunnable built stimulus watched
IsReady (decision.Dump built stimulus numbers) = IsDumpable built stimulus numbers
IsReady (decision.Save built stimulus start) = IsSavable built stimulus start
IsReady (decision.Resume built stimulus watched start) = IsResumable built stimulus watched start
IsReady (decision.Log built stimulus) = IsLoggable built stimulus

-- the status, where nothing fails
abbrev pub status_of : Decision → ℕ
status_of (decision.Say reply) = reply.status
status_of (decision.Run built stimulus watched) = 0
status_of (decision.Dump built stimulus numbers) = 0
status_of (decision.Save built stimulus start) = 0
status_of (decision.Resume built stimulus watched start) = 0
status_of (decision.Log built stimulus) = 0

-- A text of which this holds was written, or a prefix of it.
abbrev pub HasRun : (List ℕ → Type 0) → ℕ → Option (List ℕ) → Option (List ℕ) → Type 0
HasRun IsText result old new = (bytes : List ℕ) × IsText bytes × IsRun result bytes old new

-- What was decided was carried out: the reply was written, or the trace, the dump, the state's text or the log was.
abbrev pub IsCarriedOut : Decision → ℕ → Option (List ℕ) → Option (List ℕ) → Type 0
IsCarriedOut (decision.Say reply) result old new = IsSaid result reply.status reply.bytes.items old new
IsCarriedOut (decision.Run built stimulus watched) result old new =
    HasRun (IsTraceText built.fitted.checked.resolved.names (design_of built.fitted) stimulus) result old new
IsCarriedOut (decision.Dump built stimulus numbers) result old new = (names : List (List ℕ)) → AreNumbersOf built.ordered.net names numbers
    → HasRun (IsVcdText built.fitted.checked.resolved.names (design_of built.fitted) names stimulus) result old new
IsCarriedOut (decision.Save built stimulus start) result old new = (begin : Option (List ℕ)) → IsStartOf built.ordered.net begin start
    → IsWritten (IsSavedText built.fitted.checked.resolved.names (design_of built.fitted) stimulus begin) result old new
IsCarriedOut (decision.Resume built stimulus watched start) result old new = (begin : Option (List ℕ)) → IsStartOf built.ordered.net begin start
    → HasRun (IsResumedText built.fitted.checked.resolved.names (design_of built.fitted) stimulus begin) result old new
IsCarriedOut (decision.Log built stimulus) result old new = HasRun (IsLogText built.fitted stimulus) result old new
