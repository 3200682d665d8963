use Rattle.std.proofs.Common.{map, zip}
use Rattle.part_fits.specs.Widths.{wider_of}
use Rattle.part_fits.proofs.Seeing.{chosen_seen, read_at, wide_seen}
use Rattle.part_fits.proofs.choices.Choices.choose.Goals as goal

pub returns-then-is_as_wide-clause-seen : goal.returns-then-is_as_wide-clause-seen
returns-then-is_as_wide-clause-seen c = λ typ other firsts seconds first second.
    let all = c.args.self.now.seen.items in
    let wide = rw (c.as_slice.ensures, c.as_slice-2.ensures) at (c.is_as_wide.ensures.0 c.if-is_as_wide.true) in
    wide_seen all c.args.first c.index.result.now c.index-2.result.now typ other firsts seconds wide
    (read_at all c.args.first c.index.result.now typ firsts c.requires.first c.index.ensures first)
    (read_at all c.args.second c.index-2.result.now other seconds c.requires.second c.index-2.ensures second) first

pub returns-clause-seen : goal.returns-clause-seen
returns-clause-seen c = λ typ other firsts seconds first second.
    let all = c.args.self.now.seen.items in
    c.push.ensures.seen typ (map wider_of (zip firsts seconds))
    (chosen_seen c.index.result.now c.index-2.result.now c.in_ok-seen.seen typ other firsts seconds c.in_ok-seen.ensures
    (read_at all c.args.first c.index.result.now typ firsts c.requires.first c.index.ensures first)
    (read_at all c.args.second c.index-2.result.now other seconds c.requires.second c.index-2.ensures second))
