use Rattle.std.proofs.Common.{rules, refl, get_or, ap₂, ◌∙◌, ◌++◌, ◌∷◌, [], nat_eq, if◌then◌else◌}
use Rattle.reset_search.specs.declared.spot.Spot.TheVariants.{Cast}
use Rattle.reset_search.specs.Feeds.{feed}
use Rattle.reset_search.specs.Rows.{targets}
use Rattle.reset_search.proofs.Rowing.{rows_more}
use Rattle.reset_search.proofs.rows.rows_of.Goals as goal

pub loop-feed-preserved : goal.loop-feed-preserved
loop-feed-preserved c =
    rows_more c.args.feeds.now c.loop-feed.feed-index (get_or c.args.feeds.now c.loop-feed.feed-index (feed Cast Cast)) (feed Cast Cast) c.loop-feed.made.rows.entries c.add.new.self.rows.entries
    (search rules) refl c.loop-feed.invariant
    (λ k. c.in_ok-add.ensures k ∙ ap₂ (λ f t. targets c.loop-feed.made.rows.entries k ++ (if nat_eq f k then t ∷ [] else [])) c.number.ensures c.number-in-loop-feed.ensures)
