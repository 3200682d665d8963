use Rattle.std.proofs.Common.{◌≡◌, ◌++◌, take}
use Rattle.std.specs.List.{flat_map}
use Rattle.cut_listing.specs.Listing.{listing_of}
use Rattle.cut_listing.specs.RefinedTexts.{greatest_line, move_line}
use Rattle.cut_listing.proofs.refine_print.refine_text.Given as goal

abbrev pub invariant-loop-row : goal.invariant-loop-row
invariant-loop-row l = l.text.items ≡ listing_of l.refined.cut ++ greatest_line l.refined.greatest ++ flat_map move_line (take l.row-index l.row-items)
