-- What every list of steps keeps, and what the loads of a run give.
use Rattle.std.specs.Prelude.{◌≡◌, ℕ, ◌*◌, ◌<◌, List, length, slice_index}
use Rattle.phase_core.specs.declared.model.Script.{Script}
use Rattle.phase_core.specs.declared.model.View.{View}
use Rattle.phase_core.specs.declared.model.PhaseState.{PhaseState}
use Rattle.phase_core.specs.declared.model.Step.{Step}
use Rattle.phase_core.specs.Script.{values, IsScript}
use Rattle.phase_core.specs.Sound.{Live}
use Rattle.phase_core.specs.Steps.{SoundState, loaded, run}

-- whatever the steps are, a sound state stays sound
abbrev pub StaysSound : Type 0
StaysSound = (s : Script) (t : PhaseState) (steps : List Step) → IsScript s → SoundState s t → SoundState s (run s t steps)

-- a view with 2c passes and 2c arrivals sees the word's value at the beginning of the cycle c
abbrev pub LoadsTheCycle : Type 0
LoadsTheCycle = (s : Script) (t : PhaseState) (j c i : ℕ) (v : View) → IsScript s → SoundState s t → Live t.views j v
    → v.passed ≡ 2 * c → v.arrivals ≡ 2 * c → i < length t.words → loaded t i ≡ slice_index (values s c) i

-- once a view of all workers has passed the last phase, the words are those behind the last cycle
abbrev pub EndsWithTheLast : Type 0
EndsWithTheLast = (s : Script) (t : PhaseState) (j : ℕ) (v : View) → IsScript s → SoundState s t → Live t.views j v
    → v.low ≡ 0 → v.high ≡ s.workers → v.passed ≡ 2 * s.cycles → t.words ≡ values s s.cycles
