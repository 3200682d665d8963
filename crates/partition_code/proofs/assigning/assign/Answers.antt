use Rattle.std.proofs.Common.{◌≡◌, Some, [], ◌∷◌, get_or, sym, subst, ◌∙◌}
use Rattle.code_emit.specs.Emits.{sources_table}
use Rattle.partition_code.specs.Sequences.{driver_in, Turned, Assigns, StandElsewhere}
use Rattle.partition_code.proofs.Turns.{turned, assigned, elsewhere, driver_is}
use Rattle.partition_code.specs.Segmented.{AreSegments}
use Rattle.partition_code.proofs.Segmenting.{one_segment}
use Rattle.partition_code.proofs.assigning.assign.Goals as goal

pub returns-clause-table : goal.returns-clause-table
returns-clause-table c =
    let S = c.args.sources.now in
    let drivers = c.args.drivers.now in
    let x = c.args.leaf in
    let got : get_or drivers x c.in-Some-Some.field-0.now ≡ Some c.in-Some-Some.driver = sym c.in-Some-Some.ensures.lookup.1 ∙ c.in-Some-Some.field-0-is in
    let at : driver_in drivers x ≡ Some c.in-Some-Some.driver = driver_is drivers x c.in-Some-Some.field-0.now c.in-Some-Some.driver (sources_table S) got c.requires.in_turn in
    subst (λ ls. Turned drivers x S (record { leaves = ls; memories = S.memories })) (sym c.set.ensures) (turned drivers x S c.in_ok-location.location c.in-Some-Some.driver c.requires.within at c.in_ok-location.ensures.shape)

pub returns-clause-assigns : goal.returns-clause-assigns
returns-clause-assigns c =
    let S = c.args.sources.now in
    let drivers = c.args.drivers.now in
    let x = c.args.leaf in
    let old = c.args.draft.now in
    let new = c.emit.new.draft in
    let got : get_or drivers x c.in-Some-Some.field-0.now ≡ Some c.in-Some-Some.driver = sym c.in-Some-Some.ensures.lookup.1 ∙ c.in-Some-Some.field-0-is in
    let at : driver_in drivers x ≡ Some c.in-Some-Some.driver = driver_is drivers x c.in-Some-Some.field-0.now c.in-Some-Some.driver (sources_table S) got c.requires.in_turn in
    subst (λ ls. Assigns drivers (x ∷ []) S old (record { leaves = ls; memories = S.memories }) new) (sym c.set.ensures)
    (assigned drivers x S old new c.in_ok-location.location c.in-Some-Some.driver c.requires.within at c.in_ok-location.ensures.emits)

pub returns-clause-others : goal.returns-clause-others
returns-clause-others c =
    let S = c.args.sources.now in
    let x = c.args.leaf in
    subst (λ ls. StandElsewhere (x ∷ []) S (record { leaves = ls; memories = S.memories })) (sym c.set.ensures) (elsewhere x S c.in_ok-location.location)

pub returns-clause-segments : goal.returns-clause-segments
returns-clause-segments c =
    let S = c.args.sources.now in
    let drivers = c.args.drivers.now in
    let x = c.args.leaf in
    let old = c.args.draft.now in
    let new = c.emit.new.draft in
    let got : get_or drivers x c.in-Some-Some.field-0.now ≡ Some c.in-Some-Some.driver = sym c.in-Some-Some.ensures.lookup.1 ∙ c.in-Some-Some.field-0-is in
    let at : driver_in drivers x ≡ Some c.in-Some-Some.driver = driver_is drivers x c.in-Some-Some.field-0.now c.in-Some-Some.driver (sources_table S) got c.requires.in_turn in
    subst (λ ls. AreSegments drivers (x ∷ []) S old (record { leaves = ls; memories = S.memories }) new) (sym c.set.ensures)
    (one_segment drivers x S old new c.in_ok-location.location c.in-Some-Some.driver c.requires.within at c.in_ok-location.ensures.spans)
