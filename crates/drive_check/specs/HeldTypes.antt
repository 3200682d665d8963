-- The types of a module's components, by the numbers that are held.
use Rattle.std.specs.Prelude.{option_and_then, slice_get, nat_eq}
use Rattle.std.specs.Map.{lookup}
use Rattle.fir_meaning.specs.Mentions.{Scope}
use Rattle.drive_check.specs.declared.module_types.ModuleTypes.{ModuleTypes}
use Rattle.drive_check.specs.Typing.{type_or_none}

abbrev pub types_in : ModuleTypes → Scope
types_in types id = type_or_none (option_and_then (slice_get types.declared.now) (lookup (nat_eq id) types.numbers.entries))
