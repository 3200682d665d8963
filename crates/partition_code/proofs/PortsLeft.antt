-- What ports leave.
use Rattle.std.proofs.Common.{◌≡◌, ℕ, ◌+◌, ◌/◌, ◌%◌, ◌^◌, ◌<◌, ◌≤◌, Bool, true, false, ◌&&◌, nat_lt, if◌then◌else◌, List, [], ◌∷◌, refl, ap, ◌∙◌, true≢false}
use Rattle.std.proofs.lemmas.Bool.{lt-ltb, le-ltb}
use Rattle.phase_core.specs.declared.model.Publication.{Publication}
use Rattle.prim_ops.specs.Values.{fitted}
use Rattle.prim_ops.specs.Ports.{Shown}
use Rattle.ground_net.specs.declared.net.Net.{Net}
use Rattle.ground_net.specs.declared.net.NetMemory.{NetMemory}
use Rattle.ground_net.specs.Cones.{Sink, A_watched, A_register, A_memory}
use Rattle.ground_net.specs.Shapes.{Shape}
use Rattle.ground_net.specs.Words.{element_word}
use Rattle.flat_code.specs.Meaning.{stored}
use Rattle.partition_code.specs.Effects.{leaf_told, HasWord, of_register, of_elements, of_capture}

no_last : (a : Bool) → (a && false) ≡ false
no_last true = refl
no_last false = refl

abbrev is_watched : Sink → Bool
is_watched (A_watched x) = true
is_watched (A_register n) = false
is_watched (A_memory m) = false

has_unwatched : (net : Net) (sink : Sink) (i : ℕ) → HasWord net sink i → is_watched sink ≡ false
has_unwatched net sink i (of_register register e h) = refl
has_unwatched net sink i (of_elements memory e a b) = refl
has_unwatched net sink i (of_capture n c e q h) = refl

pub watched_word : (net : Net) (x i : ℕ) → HasWord net (A_watched x) i → ⊥
watched_word net x i h = true≢false (has_unwatched net (A_watched x) i h)

module _ (net : Net) (m k : ℕ) (memory : NetMemory) (port : Shown ℕ) (s : Shape) where
  abbrev written : List Publication
  written = stored (element_word net m memory port.address k) (fitted s.kind s.width (port.written k))

  pub leaves_words : port.writes ≡ true → port.address < memory.depth → port.masked k ≡ true → leaf_told net m memory port (k, s) ≡ written
  leaves_words writes below masked =
      ap (λ b. if (b && nat_lt port.address memory.depth) && port.masked k then written else []) writes
      ∙ (ap (λ b. if b && port.masked k then written else []) (lt-ltb port.address memory.depth below) ∙ ap (λ b. if b then written else []) masked)

  pub idle : port.writes ≡ false → leaf_told net m memory port (k, s) ≡ []
  idle writes = ap (λ b. if (b && nat_lt port.address memory.depth) && port.masked k then written else []) writes

  pub past : memory.depth ≤ port.address → leaf_told net m memory port (k, s) ≡ []
  past above =
      ap (λ b. if (port.writes && b) && port.masked k then written else []) (le-ltb port.address memory.depth above) ∙ ap (λ b. if b && port.masked k then written else []) (no_last port.writes)

  pub masked : port.masked k ≡ false → leaf_told net m memory port (k, s) ≡ []
  masked e = ap (λ b. if (port.writes && nat_lt port.address memory.depth) && b then written else []) e ∙ ap (λ b. if b then written else []) (no_last (port.writes && nat_lt port.address memory.depth))
