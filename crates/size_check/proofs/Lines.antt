-- The lines of a memory.
use Rattle.std.proofs.Common.{◌≡◌, ℕ, None, refl}
use Rattle.place_text.specs.declared.place.Place.{Place}
use Rattle.fir_types.specs.declared.memory.MemLine.{MemLine}
use Rattle.fir_types.specs.declared.memory.MemLine.TheVariants as line
use Rattle.fir_types.specs.Memories.{read_latency_in}

pub not_latency : (l : MemLine) → ((at : Place) (n : ℕ) → l ≡ line.ReadLatency at n → ⊥) → read_latency_in l ≡ None
not_latency (line.ReadLatency at n) h = absurd (h at n refl)
not_latency (line.Element at t) h = refl
not_latency (line.Depth at n) h = refl
not_latency (line.WriteLatency at n) h = refl
not_latency (line.ReadUnder at u) h = refl
not_latency (line.MemPort at m n) h = refl
