-- What a sink over memory shows beside its bytes.
use Rattle.std.specs.Prelude.{ℕ, ◌-◌, vec_len}
use Rattle.shelf_io.specs.declared.memory.FailPlan.{FailPlan}
use Rattle.shelf_io.specs.declared.memory.SinkMemory.{SinkMemory}

-- which of its calls fail
abbrev pub plan_of : SinkMemory → FailPlan
plan_of sink = sink.plan

-- the most bytes of one write
abbrev pub step_of : SinkMemory → ℕ
step_of sink = sink.step

-- how many bytes it still takes
abbrev pub room_left : SinkMemory → ℕ
room_left sink = sink.room - vec_len sink.bytes
