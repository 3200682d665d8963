use Rattle.std.proofs.Common.{◌≡◌, ℕ, ◌<◌, Some, All, drop, length}
use Rattle.ground_net.specs.Grounds.{chosen}
use Rattle.ground_net.specs.Shapes.{shape_of_choice}
use Rattle.flat_code.specs.Meaning.{location_shape}
use Rattle.flat_code.specs.Fine.{location_shapes, location_slots, slots_of}
use Rattle.code_draft.specs.Drafts.{IsDraft, Stands, Makes}
use Rattle.code_draft.specs.Segments.{Segment}
use Rattle.code_emit.specs.Ways.{IsMade}
use Rattle.code_emit.specs.Spans.{ComeBefore}
use Rattle.code_emit.proofs.Choosing.{twice}
use Rattle.code_emit.proofs.chains.emit_chain.Given as goal

abbrev pub invariant-loop-at : goal.invariant-loop-at
invariant-loop-at l = record {
  even : (k : ℕ) × (l.at ≡ twice k);
  within : l.at < length l.locations;
  shape : shape_of_choice (location_shapes (drop l.at l.locations)) ≡ Some (location_shape l.last);
  makes : IsDraft l.fn.draft → All (Stands l.fn.draft) (drop l.at l.locations) → Makes l.fn.draft l.draft l.last (IsMade chosen (drop l.at l.locations) (location_shape l.last));
  segment : ComeBefore l.fn.draft.slots (slots_of (drop l.at l.locations)) → Segment l.fn.draft l.draft (slots_of (drop l.at l.locations)) (location_slots l.last) 2;
}

abbrev pub decreases-loop-at : goal.decreases-loop-at
decreases-loop-at l = l.at
