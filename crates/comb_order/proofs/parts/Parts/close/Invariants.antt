use Rattle.std.proofs.Common.{length, vec_len}
use Rattle.comb_order.specs.Parts.{IsWithin}
use Rattle.comb_order.proofs.parts.Parts.close.Given as goal

abbrev pub invariant-taking : goal.invariant-taking
invariant-taking l = IsWithin (length l.fn.self.lows.items) l.self

abbrev pub decreases-taking : goal.decreases-taking
decreases-taking l = vec_len l.self.waiting
