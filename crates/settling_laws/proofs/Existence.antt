-- Well formed circuits settle by sweeps.
use Rattle.std.proofs.Common.{◌≡◌, ℕ, Bool, true, false, List, length, Some, true≢false, refl}
use Rattle.std.specs.Prelude.{Contains}
use Rattle.fir_tree.specs.declared.scope.Fitted.{Fitted}
use Rattle.fir_meaning.specs.Components.{TypedModule, Component, FlatLeaf, Sort, An_input, An_output, A_wire, A_register, A_reset_register, A_memory, An_instance, A_node, flow_of, is_clock, component_named, module_at, target_of, design_of}
use Rattle.fir_meaning.specs.Values.{Valuation, seen_through}
use Rattle.fir_meaning.specs.Certain.{must_be_driven, IsInitialized}
use Rattle.fir_meaning.specs.States.{State, Inputs, Settled, HasOneSettled, is_source, is_register, IsLeafOf}
use Rattle.fir_meaning.specs.Loops.{HasNoLoop, HasLeaves}
use Rattle.fir_meaning.proofs.Initialized.{initialized_drives}
use Rattle.fir_meaning.proofs.Settling.{at, settled_agree}
use Rattle.fir_meaning.proofs.Ports.{component_found}
use Rattle.circuit_laws.specs.WellFormed.{IsWellFormed, IsKnownModule}
use Rattle.circuit_laws.proofs.Reached.{known_module}
use Rattle.circuit_laws.proofs.TypedModules.{module_values}
use Rattle.settling_laws.specs.Sweeps.{swept}
use Rattle.settling_laws.proofs.Sound.{IsSound, driven_parts}
use Rattle.settling_laws.proofs.Steady.{steady}
use Rattle.settling_laws.proofs.Fixed.{fixed_settles}

must_be : (sort : Sort) (flip : Bool) → is_source (flow_of sort flip) ≡ false → is_register sort ≡ false → must_be_driven sort (flow_of sort flip) ≡ true
must_be An_input true source register = refl
must_be An_input false source register = absurd (true≢false source)
must_be An_output true source register = absurd (true≢false source)
must_be An_output false source register = refl
must_be A_wire flip source register = refl
must_be (A_register clock) flip source register = absurd (true≢false register)
must_be (A_reset_register clock reset init) flip source register = absurd (true≢false register)
must_be (A_memory memory) true source register = refl
must_be (A_memory memory) false source register = absurd (true≢false source)
must_be (An_instance target) true source register = refl
must_be (An_instance target) false source register = absurd (true≢false source)
must_be (A_node expr) flip source register = absurd (true≢false source)

module _ (fitted : Fitted) (well : IsWellFormed fitted) (initialized : IsInitialized (design_of fitted)) where
  known : (path : List ℕ) (m : TypedModule) → module_at (design_of fitted) path ≡ Some m → IsKnownModule fitted m
  known = known_module fitted well

  among : (m : TypedModule) (c : Component) → component_named m c.declaration.name ≡ Some c → Contains m.components c
  among m c e = (component_found m c.declaration.name c e).1

  sound : IsSound (design_of fitted)
  sound = record {
    has = well.bundles;
    ways = λ path m c reached declared j k a b. (known path m reached).typed.ways c j k a b (among m c declared);
    registers = λ path m c leaf stands register. (known path m stands.reached).typed.held c leaf (among m c stands.declared) register stands.listed;
    read_data = λ path m c leaf memory stands sort turned. (known path m stands.reached).typed.read_data c memory leaf (among m c stands.declared) sort stands.listed turned;
    nodes = λ path m c e rho reached declared sort.
        let it = known path m reached in
        module_values it.holder m it.typed e _ (it.typed.nodes c e (among m c declared) sort) (λ x way. seen_through rho path x (target_of m x) way);
    driven = λ path m c leaf stands d rho.
        let parts = driven_parts (is_source (flow_of c.declaration.sort leaf.flip)) (is_register c.declaration.sort) (is_clock leaf) d in
        initialized_drives fitted initialized path m c leaf stands (must_be c.declaration.sort leaf.flip parts.0 parts.1) rho;
  }

  module _ (all : List FlatLeaf) (none : HasNoLoop (design_of fitted)) (leaves_of : HasLeaves (design_of fitted) all) (s : State) (given : Inputs) where
    pub swept_settled : Settled (design_of fitted) s given (swept (design_of fitted) s given (length all))
    swept_settled = fixed_settles (design_of fitted) sound s given (swept (design_of fitted) s given (length all)) (steady (design_of fitted) sound none all leaves_of s given)

    pub one_settled : HasOneSettled (design_of fitted) s given
    one_settled = record {
      one = (swept (design_of fitted) s given (length all), swept_settled);
      only = λ rho other one two x l. settled_agree (design_of fitted) all well.bundles none leaves_of s given rho other one two x l;
    }

    pub settled_is_swept : (rho : Valuation) → Settled (design_of fitted) s given rho → (x : FlatLeaf) → IsLeafOf (design_of fitted) x → at rho x ≡ at (swept (design_of fitted) s given (length all)) x
    settled_is_swept rho h x l = settled_agree (design_of fitted) all well.bundles none leaves_of s given rho (swept (design_of fitted) s given (length all)) h swept_settled x l
