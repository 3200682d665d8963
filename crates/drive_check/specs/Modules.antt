-- What the walks through all modules find.
use Rattle.std.specs.Prelude.{Bool, true, false, List, [], ◌∷◌, ◌++◌, map, length, drop, get_or, flat_map, if◌then◌else◌}
use Rattle.fir_types.specs.declared.fir_type.FirType.{FirType}
use Rattle.fir_types.specs.declared.port.Port.{Port}
use Rattle.fir_tree.specs.declared.circuit.Module.{Module}
use Rattle.fir_tree.specs.declared.scope.Fitted.{Fitted}
use Rattle.fir_meaning.specs.Components.{An_input, An_output}
use Rattle.fir_meaning.specs.Mentions.{Scope}
use Rattle.drive_check.specs.declared.fault.DriveFault.{DriveFault}
use Rattle.drive_check.specs.Sites.{names_of}
use Rattle.drive_check.specs.Typing.{typed}
use Rattle.drive_check.specs.Walks.{Certain, Walked, any_certain, faults_from, undriven, walked}

-- the faults of a port, where these leaves are certain in the body
abbrev pub port_faults : Scope → Certain → Port → List DriveFault
port_faults types certain port = undriven types certain port.name (if port.output then An_output else An_input)

abbrev pub body_walked : Scope → Module → List Walked
body_walked types holder = map (walked types) holder.body

-- those of a module whose components have these types by name
abbrev pub faults_in : Scope → Module → List DriveFault
faults_in types holder = faults_from (body_walked types holder) ++ flat_map (port_faults types (any_certain (body_walked types holder))) holder.ports

-- those of a module, whose declarations have the first of these types
abbrev pub module_faults : Module → List FirType → List DriveFault
module_faults holder declared = faults_in (typed (names_of holder) declared) holder

abbrev pub where_reached : Bool → List DriveFault → List DriveFault
where_reached true faults = faults
where_reached false faults = []

-- those of the modules that are reached
abbrev pub modules_faults : List Module → List FirType → List Bool → List DriveFault
modules_faults [] declared reached = []
modules_faults (holder ∷ modules) declared reached =
    where_reached (get_or reached 0 false) (module_faults holder declared) ++ modules_faults modules (drop (length (names_of holder)) declared) (drop 1 reached)

abbrev pub faults_of : Fitted → List DriveFault
faults_of fitted = modules_faults fitted.checked.resolved.modules fitted.declared fitted.checked.scope.reached
