-- How many words a table has.
use Rattle.std.proofs.Common.{◌≡◌, ℕ, length, sym, ◌∙◌}
use Rattle.phase_core.specs.Script.{values}
use Rattle.phase_core.proofs.Values.{length-values}
use Rattle.register_table.specs.declared.plan.Plan.{Ghosts}
use Rattle.register_table.specs.declared.table.RegisterTable.{RegisterTable}
use Rattle.register_table.specs.Shown.{word_count}

module _ {N : Type 0} {p : Ghosts N} where
  -- as many as the script has at the beginning of any cycle
  pub word_count_is : (table : RegisterTable N p) (c : ℕ) → word_count table ≡ length (values p.script c)
  word_count_is table c = table.size.words_are ∙ sym (length-values p.script c)
