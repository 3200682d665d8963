use Rattle.std.proofs.Common.{◌≡◌, ◌+◌, ◌*◌, ◌<◌, ◌≤◌, All, length, drop}
use Rattle.ground_net.specs.Grounds.{element_count}
use Rattle.flat_code.specs.Fine.{slots_of}
use Rattle.code_draft.specs.Drafts.{IsDraft, Stands}
use Rattle.code_draft.specs.Places.{Adds, Finds}
use Rattle.code_draft.proofs.places.place_of.Given as goal

abbrev pub invariant-loop-at : goal.invariant-loop-at
invariant-loop-at l = record {
  finds : IsDraft l.fn.draft → All (Stands l.fn.draft) l.indices → Finds l.fn.draft l.draft (drop l.at l.indices) (drop l.at l.lengths) l.all l.place;
  adds : Adds l.fn.draft l.draft (slots_of l.indices);
  slots : l.draft.slots + 7 * l.at ≤ l.fn.draft.slots + (7 * length l.indices + 1);
  later : l.fn.draft.slots ≤ l.place;
  inner : l.inner ≡ element_count (drop l.at l.lengths);
  below : l.place < l.draft.slots;
  within : l.at ≤ length l.indices;
}

abbrev pub decreases-loop-at : goal.decreases-loop-at
decreases-loop-at l = l.at
