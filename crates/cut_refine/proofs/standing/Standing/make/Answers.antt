use Rattle.std.proofs.Common.{◌<◌, length, sym, subst, ap, arith}
use Rattle.std.specs.List.{All}
use Rattle.std.proofs.lemmas.List.Elements.{Contains-get_or}
use Rattle.cut_refine.specs.Standing.{Leaves}
use Rattle.cut_refine.proofs.Whole.{costs_stay, stands_now}
use Rattle.cut_refine.proofs.standing.Standing.make.Goals as goal

pub count_shared-requires-clause-within : goal.count_shared-requires-clause-within
count_shared-requires-clause-within c =
    let walked = c.in_ok-walk.ensures in
    subst (All (λ x. x < length c.as_slice.result.now)) (sym c.as_slice-cone.ensures.value)
    (λ k d lt. omega (arith, walked.below _ (Contains-get_or c.walk.new.self.found.items k d lt), ap length c.as_slice.ensures.value, c.requires.stands.is.masks_long))

pub carry-requires-clause-masks : goal.carry-requires-clause-masks
carry-requires-clause-masks c =
    let walked = c.in_ok-walk.ensures in
    subst (All (λ x. x < length c.args.self.now.masks.items)) (sym c.as_slice-cone.ensures.value)
    (λ k d lt. omega (arith, walked.below _ (Contains-get_or c.walk.new.self.found.items k d lt), c.requires.stands.is.masks_long))

pub carry-requires-clause-counts : goal.carry-requires-clause-counts
carry-requires-clause-counts c =
    let walked = c.in_ok-walk.ensures in
    subst (All (λ x. x < length c.args.look.now.full.counts.items)) (sym c.as_slice-cone.ensures.value)
    (λ k d lt. omega (arith, walked.below _ (Contains-get_or c.walk.new.self.found.items k d lt), c.requires.look.full.counts.long))

pub returns-clause-stands : goal.returns-clause-stands
returns-clause-stands c =
    let walked = c.in_ok-walk.ensures in
    let leaves = subst (λ s. Leaves c.args.look.now.full.part s c.args.look.now.full.counts.items c.args.look.now.best c.args.self.now c.carry.new.self) c.as_slice-cone.ensures.value c.carry.ensures in
    stands_now c.args.rows.now c.args.self.now c.carry.new.self c.args.look.now c.requires.stands c.requires.look c.requires.lowers c.walk.new.self.found.items walked.listed walked.below leaves

pub returns-clause-count : goal.returns-clause-count
returns-clause-count c =
    let walked = c.in_ok-walk.ensures in
    let leaves = subst (λ s. Leaves c.args.look.now.full.part s c.args.look.now.full.counts.items c.args.look.now.best c.args.self.now c.carry.new.self) c.as_slice-cone.ensures.value c.carry.ensures in
    costs_stay c.args.rows.now c.args.self.now c.carry.new.self c.args.look.now c.requires.stands c.requires.look c.requires.lowers c.walk.new.self.found.items walked.listed walked.below leaves
