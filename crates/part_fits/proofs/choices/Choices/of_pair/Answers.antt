use Rattle.std.proofs.Common.{◌≡◌, ℕ, rules, refl, sym, ◌∙◌}
use Rattle.std.specs.Prelude.{Some, None}
use Rattle.std.specs.Map.{lookup}
use Rattle.part_fits.specs.Seen.{same_pair}
use Rattle.part_fits.proofs.Ordering.{pairs_found, pairs_after}
use Rattle.part_fits.proofs.Seeing.{held_pair, choice_kept}
use Rattle.part_fits.proofs.choices.Choices.of_pair.Goals as goal

pub returns-in-Some-clause-seen : goal.returns-in-Some-clause-seen
returns-in-Some-clause-seen c = λ ws known typ other firsts seconds h first second.
    let found : lookup (same_pair (c.args.first, c.args.second)) c.args.self.now.pairs.entries ≡ Some c.in-Some.number.now
    = sym (pairs_found (c.args.first, c.args.second) c.args.self.now.pairs.entries) ∙ (search rules) in
    choice_kept c.args.self.now.seen.items (c.args.first, c.args.second) c.in-Some.number.now typ other firsts seconds (h.pairs (c.args.first, c.args.second) c.in-Some.number.now found) first second

pub returns-clause-seen : goal.returns-clause-seen
returns-clause-seen c = λ ws known typ other firsts seconds h first second. c.in_ok-number.ensures.seen typ other firsts seconds first second

pub returns-clause-held : goal.returns-clause-held
returns-clause-held c = λ ws known typ other firsts seconds h first second.
    let pair : ℕ × ℕ = (c.args.first, c.args.second) in
    held_pair ws known c.choose.new.self _ pair c.in_ok-number.number (pairs_after pair c.in_ok-number.number c.choose.new.self.pairs.entries _ c.in_ok-insert.ensures.updates.0) refl refl
    (record {
      typ = typ;
      other = other;
      firsts = firsts;
      seconds = seconds;
      first = c.in_ok-number.ensures.keeps c.args.first typ firsts first;
      second = c.in_ok-number.ensures.keeps c.args.second other seconds second;
      chosen = c.in_ok-number.ensures.seen typ other firsts seconds first second;
    })
    (c.in_ok-number.ensures.held ws known h)
