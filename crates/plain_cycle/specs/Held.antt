-- What is held of declarations: the name, what it makes, and the statements of its block.
use Rattle.std.specs.Prelude.{ℕ, List, map}
use Rattle.fir_tree.specs.declared.stmt.Stmt.{Stmt}
use Rattle.fir_tree.specs.declared.stmt.Arm.{Arm}
use Rattle.fir_meaning.specs.Components as tree
use Rattle.fir_meaning.specs.Components.{told, declared_in_block}
use Rattle.plain_cycle.specs.declared.declarations.Sort.{Sort}
use Rattle.plain_cycle.specs.declared.declarations.Sort.TheVariants as sort
use Rattle.plain_cycle.specs.declared.declarations.Declaration.{Declaration}

-- A declaration without its place and the statements behind it.
pub record Kept : Type 0 where
  pub name : ℕ
  pub sort : tree.Sort
  pub block : List Stmt

abbrev pub kept : ℕ → tree.Sort → List Stmt → Kept
kept name sort block = record { name = name; sort = sort; block = block }

abbrev pub kept_of : tree.Declaration → Kept
kept_of d = kept d.name d.sort d.block

abbrev pub held_sort : Sort → tree.Sort
held_sort sort.Input = tree.An_input
held_sort sort.Output = tree.An_output
held_sort sort.Wire = tree.A_wire
held_sort (sort.Register clock) = tree.A_register clock.now
held_sort (sort.ResetRegister clock reset init) = tree.A_reset_register clock.now reset.now init.now
held_sort (sort.Memory memory) = tree.A_memory memory.now
held_sort (sort.Instance target) = tree.An_instance target
held_sort (sort.Node expr) = tree.A_node expr.now

abbrev pub held : Declaration → Kept
held d = kept d.name (held_sort d.sort) d.block.now

-- what is kept of the declarations in an arm
abbrev pub declared_in_arm : Arm → List Kept
declared_in_arm arm = map kept_of (declared_in_block (map told arm.body))
