-- Frames of one length.
use Rattle.std.specs.Prelude.{◌≡◌, ℕ, ◌<◌, List, length, slice_index_or, vec_len, Vec}
use Rattle.std.specs.declared.alloc.Global.{Global}

pub record Frames (room : ℕ) (frames : List (Vec ℕ Global)) : Type 0 where
  pub each : (k : ℕ) (d : Vec ℕ Global) → k < length frames → vec_len (slice_index_or frames k d) ≡ room
