use Rattle.std.proofs.Common.{◌≡◌}
use Rattle.register_table.specs.Shown.{ComesFrom}
use Rattle.crew_workers.specs.Standing.{after_publications}
use Rattle.crew_workers.proofs.calls.publish_each.Given as goal

abbrev pub invariant-loop-publication : goal.invariant-loop-publication
invariant-loop-publication g l = record {
  table_is : ComesFrom l.post l.table;
  view_is : l.post.view ≡ after_publications l.initial.post.view l.publication-index;
}
