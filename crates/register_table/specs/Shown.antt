-- What clauses see of a table, a post and a closed table.
use Rattle.std.specs.Prelude.{◌≡◌, ℕ, List, drop}
use Rattle.std.specs.Mem.Slots.{slots_items}
use Rattle.phase_core.specs.declared.model.Script.{Script}
use Rattle.phase_core.specs.Sound.{view}
use Rattle.register_table.specs.declared.plan.Plan.{Ghosts}
use Rattle.register_table.specs.declared.table.RegisterTable.{RegisterTable}
use Rattle.register_table.specs.declared.table.Post.{Post}
use Rattle.register_table.specs.declared.table.Closed.{Closed}

module _ {N : Type 0} {p : Ghosts N} where
  -- the post is one of this table
  abbrev pub ComesFrom : Post N p → RegisterTable N p → Type 0
  ComesFrom post table = post.seat.table_id ≡ table.table.shared.table_id

  -- both posts are of one table
  abbrev pub SameTable : Post N p → Post N p → Type 0
  SameTable post other = post.seat.table_id ≡ other.seat.table_id

  -- the post is one of this table, for the workers from low to high, with these counts
  pub record Stands (table : RegisterTable N p) (post : Post N p) (low high arrivals passed done : ℕ) : Type 0 where
    pub table_is : ComesFrom post table
    pub view_is : post.view ≡ view low high arrivals passed done

  -- the number of data words
  abbrev pub word_count : RegisterTable N p → ℕ
  word_count table = table.size.words

-- the script of the table that was closed
abbrev pub closed_script : Closed → Script
closed_script c = c.last.value.me.0.script

-- its data words when it was closed
abbrev pub closed_words : Closed → List ℕ
closed_words c = drop 1 (slots_items c.end.value.words)
