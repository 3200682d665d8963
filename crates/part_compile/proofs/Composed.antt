-- The layers of a part, one after the other.
use Rattle.std.proofs.Common.{◌≡◌, ℕ, ◌^◌, ◌<◌, List, [], ◌∷◌, ◌++◌, map, slice_get, slice_index, Option, Some, None, option_and_then, refl, sym, ap, ap₂, ◌∙◌}
use Rattle.std.specs.Prelude.{Contains}
use Rattle.bit_words.specs.declared.value.Value.{Value}
use Rattle.bit_words.specs.Values.{integer_of}
use Rattle.ground_net.specs.declared.ground.Ground.{Ground}
use Rattle.ground_net.specs.declared.net.Net.{Net}
use Rattle.ground_net.specs.Grounds.{Instant}
use Rattle.ground_net.specs.Cones.{Sink}
use Rattle.ground_net.specs.Reads.{driver_of, lone_driver}
use Rattle.ground_net.specs.Cycles.{Inputs, Valuation, Settled, instant_of}
use Rattle.ground_net.specs.Nets.{IsNet, leaf_shape, register_shapes}
use Rattle.ground_net.specs.Words.{state_of, register_word, integer_at_word}
use Rattle.flat_code.specs.declared.code.Code.{Code}
use Rattle.flat_code.specs.Codes.{published_by, outputs_by}
use Rattle.flat_code.specs.Orders.{pushed_all}
use Rattle.code_draft.specs.Drafts.{pushed_in}
use Rattle.partition_code.specs.Sequences.{driver_in, AreAssigned}
use Rattle.code_memories.specs.Telling.{ShowsState}
use Rattle.partition_code.specs.Effects.{sinks_told}
use Rattle.part_compile.proofs.Shown.{shows_state}
use Rattle.partition_code.specs.FromNets.{MatchInputs}
use Rattle.partition_code.proofs.Seen.{sees, kept_value, register_shape_there}
use Rattle.part_compile.specs.Parts.{IsPart}

same_driver : (o : Option (Option Ground)) (g : Ground) → option_and_then (λ d. d) o ≡ Some g → lone_driver o ≡ Some g
same_driver (Some d) g e = e
same_driver None g e = e

module _ (net : Net) (assignments : List ℕ) (these : List Sink) (shown : List ℕ) (code : Code) (words : List ℕ) (inputs : List Value) (given : Inputs) (rho : Valuation) (w : IsNet net) (p : IsPart net assignments these shown code)
    (plain : (k : ℕ) → slice_index words k < 2 ^ 64) (match : MatchInputs net inputs given) (settled : Settled net (state_of net words) given rho) where
  abbrev seen_now : Instant
  seen_now = instant_of net (state_of net words) rho

  are_assigned : AreAssigned net.drivers assignments seen_now
  are_assigned x g there e = let a = p.are x there in settled.assigned x a.leaf g a.there a.is (same_driver (slice_get net.drivers x) g e)

  state_shown : ShowsState net (state_of net words) seen_now
  state_shown = shows_state net words given rho w settled

  pub publishes : published_by code words inputs ≡ sinks_told net (state_of net words) seen_now these
  publishes =
      let e = p.whole words inputs plain in
      let F = e.frame in
      let later = p.tells.back words inputs F e.solved in
      let seen = p.goes.sees words inputs F seen_now later (sees net w words inputs F given rho match settled p.first p.of) are_assigned in
      let none : pushed_in p.assigned F ≡ [] = p.goes.grows.quiet F ∙ ap (λ is. pushed_all p.empty.ports is F) p.none in
      e.publications ∙ (p.tells.tells words inputs F seen_now (state_of net words) e.solved seen state_shown ∙ ap (λ ps. ps ++ sinks_told net (state_of net words) seen_now these) none)

  pub shows : outputs_by code words inputs ≡ map rho shown
  shows =
      let e = p.whole words inputs plain in
      let F = e.frame in
      let later = p.tells.back words inputs F e.solved in
      let seen = p.goes.sees words inputs F seen_now later (sees net w words inputs F given rho match settled p.first p.of) are_assigned in
      e.outputs ∙ p.shows words inputs F seen_now e.solved seen
