-- What a use of a name means (FIRRTL specification 3.0, "Namespaces" and "Scoping").
use Rattle.std.specs.Prelude.{◌≡◌, ℕ, slice_get, Some}
use Rattle.fir_tree.specs.declared.circuit.Module.{Module}
use Rattle.fir_names.specs.Extents.{Use, declared_in}
use Rattle.fir_names.specs.Scopes.{texts, Names}

-- The use sees a declaration of its name, the module's declaration with this number, and no other one of that name.
pub record MeansOne (holder : Module) (use' : Use) : Type 0 where
  pub number : ℕ
  pub seen : Names use' number
  pub declared : slice_get (texts (declared_in holder)) number ≡ Some use'.name.id
  pub only : (other : ℕ) → Names use' other → other ≡ number
