use Rattle.std.proofs.Common.{◌≡◌, ◌≤◌, ◌*◌, ◌^◌, take}
use Rattle.cut_listing.specs.Listing.{all_assignments}
use Rattle.cut_listing.proofs.cut_print.placed.Given as goal

abbrev pub invariant-loop-part : goal.invariant-loop-part
invariant-loop-part l = record {
  sum : l.total ≡ all_assignments (take l.part-index l.parts);
  few : l.total ≤ l.part-index * 2 ^ 64;
}
