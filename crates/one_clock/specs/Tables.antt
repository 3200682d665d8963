-- What is known of the clocks of modules, by the numbers of their names.
use Rattle.std.specs.Prelude.{◌≡◌, ℕ, List, map, nat_eq, Some}
use Rattle.std.specs.Map.{lookup}
use Rattle.indexmap.specs.IndexMap.{insert_entry}
use Rattle.fir_tree.specs.declared.circuit.Module.{Module}
use Rattle.fir_tree.specs.declared.scope.Fitted.{Fitted}
use Rattle.fir_meaning.specs.Components.{TypedModule, type_in}
use Rattle.fir_meaning.specs.Mentions.{Scope}
use Rattle.circuit_laws.specs.WellFormed.{IsKnownModule}
use Rattle.drive_check.specs.Keys.{leaf_of_key}
use Rattle.clock_check.specs.Edges.{edges_of, module_edges}
use Rattle.clock_check.specs.Hung.{hung_of, module_hung}
use Rattle.clock_check.specs.Makes.{makes_of, module_makes}
use Rattle.one_clock.specs.declared.module_clocks.ModuleClocks.{ModuleClocks}
use Rattle.one_clock.specs.Modules.{module_inputs}

abbrev pub Table : Type 0
Table = List (ℕ × ModuleClocks)

-- it is known of this module, where its components have these types by name
pub record HasClocks (types : Scope) (holder : Module) (clocks : ModuleClocks) : Type 0 where
  pub inputs : map leaf_of_key clocks.inputs.items ≡ module_inputs types holder
  pub links : edges_of clocks.links.items ≡ module_edges types holder
  pub hung : hung_of clocks.hung.items ≡ module_hung types holder
  pub instances : makes_of clocks.instances.items ≡ module_makes holder
  pub targets : (name : ℕ) → lookup (nat_eq name) clocks.targets.entries ≡ lookup (nat_eq name) (module_makes holder)

-- what is known of one more module
pub record Keeps (types : Scope) (holder : Module) (old new : Table) : Type 0 where
  pub clocks : ModuleClocks
  pub entries : new ≡ insert_entry nat_eq old holder.name.id clocks
  pub has : HasClocks types holder clocks

-- what the table has of a module
pub record Holds (table : Table) (types : Scope) (holder : Module) (name : ℕ) : Type 0 where
  pub clocks : ModuleClocks
  pub at : lookup (nat_eq name) table ≡ Some clocks
  pub has : HasClocks types holder clocks

-- it has all modules that main reaches
abbrev pub IsTable : Fitted → Table → Type 0
IsTable fitted table = (m : TypedModule) (its : IsKnownModule fitted m) → Holds table (type_in m) its.holder m.name
