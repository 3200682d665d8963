use Rattle.std.proofs.Common.{take}
use Rattle.reset_search.specs.Rows.{AreRows}
use Rattle.reset_search.proofs.rows.rows_of.Given as goal

abbrev pub invariant-loop-feed : goal.invariant-loop-feed
invariant-loop-feed l = AreRows (take l.feed-index l.feeds) l.made.rows.entries
