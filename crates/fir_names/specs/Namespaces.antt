-- What a name stands beside (FIRRTL specification 3.0, "Namespaces"), and the faults that tell of it.
use Rattle.place_text.specs.declared.place.Place.{Place}
use Rattle.fir_names.specs.declared.fault.NameFault.{NameFault}
use Rattle.fir_names.specs.declared.fault.NameFault.TheVariants.{ModuleTwice, ModuleUnknown, NameTwice, NameUnknown}
use Rattle.fir_names.specs.declared.namespace.Namespace.{Namespace}
use Rattle.fir_names.specs.declared.namespace.Namespace.TheVariants.{OfCircuit, OfModule}

-- the fault of a name that one before it has as well
abbrev pub twice : Namespace → Place → NameFault
twice OfCircuit = ModuleTwice
twice OfModule = NameTwice

-- the fault of a name that nothing has
abbrev pub unknown : Namespace → Place → NameFault
unknown OfCircuit = ModuleUnknown
unknown OfModule = NameUnknown
