use Rattle.std.proofs.Common.{sym, ◌∙◌, ◌<◌, arith}
use Rattle.expand_whens.proofs.Choices.{all_driven}
use Rattle.expand_whens.proofs.driver.drivers.Goals as goal

pub walk_block-requires : goal.walk_block-requires
walk_block-requires c = c.loop.invariant.covered ∙ sym c.loop.invariant.ways

pub returns : goal.returns
returns c = all_driven _ _ _ _ _ _ _ (rw c.new-asked.ensures.items at c.in_ok-walk_block.ensures.walks) (rw c.new-asked.ensures.items at c.in_ok-walk_block.ensures.shapes)
    (λ x h. let below : x < c.loop.index = omega (arith, h, c.loop-test.false) in c.loop.invariant.open_ones x below)
    c.loop.invariant.empty c.in_ok-drivers.ensures.counted c.in_ok-drivers.ensures.each
