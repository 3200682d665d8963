use Rattle.std.proofs.Common.{◌≡◌, ◌++◌, List, length, get_or, ap, ◌∙◌, arith, ℕ}
use Rattle.std.specs.List.{flat_map}
use Rattle.ground_net.specs.declared.net.CutPart.{CutPart}
use Rattle.ground_net.specs.Cones.{numbered}
use Rattle.cut_listing.specs.Listing.{part_line, total_line, all_assignments}
use Rattle.cut_listing.proofs.Numbered.{lines_more, numbered_all}
use Rattle.cut_listing.proofs.cut_print.cut_text.Goals as goal

pub loop-number-preserved : goal.loop-number-preserved
loop-number-preserved c =
    let is : c.part-item.result ≡ get_or c.args.cut.now.parts c.loop-number.number c.part-item.result = c.part-item.is ∙ ap (λ s. get_or s c.loop-number.number c.part-item.result) c.as_slice-part-items.ensures in
    lines_more part_line c.args.cut.now.parts c.loop-number.number c.part-item.result _ c.loop-number.text.items (omega (arith, c.loop-number-test.true, ap length c.as_slice-part-items.ensures)) is c.loop-number.invariant c.in_ok-push_part.ensures

pub returns : goal.returns
returns c =
    let parts = c.args.cut.now.parts in
    let line : ℕ × CutPart → List ℕ = (λ both. part_line both.0 both.1) in
    let all : c.loop-number.number ≡ length c.args.cut.now.parts = omega (arith, c.loop-number.auto.number-end, c.loop-number-test.false, ap length c.as_slice-part-items.ensures) in
    c.in_ok-push_totals.ensures ∙ (ap (λ l. l ++ total_line c.args.cut.now.needed c.placed.result) (c.loop-number.invariant ∙ ap (flat_map line) (numbered_all parts c.loop-number.number all))
    ∙ ap (λ n. flat_map line (numbered c.args.cut.now.parts) ++ total_line c.args.cut.now.needed n) (c.placed.ensures ∙ ap all_assignments c.as_slice.ensures))
