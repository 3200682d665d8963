-- The fitted circuits of a text differ in nothing that the last stages judge.
use Rattle.std.proofs.Common.{◌≡◌, ℕ, List, Option, sym, ap, ◌∙◌, subst, slice_get, Some, true}
use Rattle.std.specs.Prelude.{Bool}
use Rattle.place_text.specs.declared.place.Place.{Place}
use Rattle.place_text.specs.First.{IsFirst, HasNone}
use Rattle.fir_types.specs.declared.fir_type.FirType.{FirType}
use Rattle.fir_tree.specs.declared.circuit.Circuit.{Circuit}
use Rattle.fir_tree.specs.declared.circuit.Module.{Module}
use Rattle.fir_tree.specs.declared.scope.Fitted.{Fitted}
use Rattle.fir_meaning.specs.Components.{Design, TypedModule, with_types, modules_of, design_of}
use Rattle.fir_meaning.specs.Certain.{IsInitialized}
use Rattle.fir_meaning.specs.ClockRoot.{HasOneClock}
use Rattle.fir_meaning.specs.Loops.{HasNoLoop}
use Rattle.circuit_laws.specs.WellFormed.{IsWellFormed}
use Rattle.circuit_laws.proofs.Reached.{reached_is_standing}
use Rattle.circuit_laws.proofs.Typed.{named_itself}
use Rattle.drive_check.specs.Initialized.{IsReached, IsUndriven, IsFault as IsDriveFault, not_initialized}
use Rattle.drive_check.specs.declared.fault.DriveFault.{DriveFault}
use Rattle.drive_check.proofs.Deciding.{covered_has_none}
use Rattle.clock_check.specs.Clocked.{IsOther, register, port, IsFault as IsClockFault, clock_other}
use Rattle.clock_check.specs.declared.fault.ClockFault.{ClockFault}
use Rattle.comb_order.specs.declared.fault.OrderFault.{OrderFault}
use Rattle.net_laws.specs.FirstLoops.{IsLoopFault, first_loop}
use Rattle.net_laws.proofs.FlatOrders.{no_first}
use Rattle.sim_engine.specs.Stages.{IsFirstOfDrives, IsFirstOfClocks, IsFirstOfLoops}

-- fitted circuits that agree in what the last stages judge
pub record AreAlike (first second : Fitted) : Type 0 where
  pub circuit : first.checked.resolved ≡ second.checked.resolved
  pub declared : first.declared ≡ second.declared
  pub reached : first.checked.scope.reached ≡ second.checked.scope.reached

turned : (first second : Fitted) → AreAlike first second → AreAlike second first
turned first second same = record { circuit = sym same.circuit; declared = sym same.declared; reached = sym same.reached }

modules_alike : (first second : Fitted) → AreAlike first second → modules_of first ≡ modules_of second
modules_alike first second same =
    ap (λ (c : Circuit). with_types c.modules first.declared) same.circuit ∙ ap (λ (types : List FirType). with_types second.checked.resolved.modules types) same.declared

-- they have one design
pub same_design : (first second : Fitted) → AreAlike first second → design_of first ≡ design_of second
same_design first second same =
    ap (λ (c : Circuit). record { main = c.main.id; modules = modules_of first }) same.circuit
    ∙ ap (λ (modules : List TypedModule). record { main = second.checked.resolved.main.id; modules = modules }) (modules_alike first second same)

-- a fault is the first among the same faults
first_among : {F : Type 0} {place : F → Option Place} {rank : F → ℕ} {here there' : F → Type 0} → ((fault : F) → here fault → there' fault) → ((fault : F) → there' fault → here fault)
    → (given : F) → IsFirst place rank here given → IsFirst place rank there' given
first_among to from given f = record { is = to given f.is; first = λ other h. f.first other (from other h) }

-- they have the same faults of driven leaves, of clocks and of loops
same_reach : (first second : Fitted) → AreAlike first second → (holder : Module) (m : TypedModule) → IsReached first holder m → IsReached second holder m
same_reach first second same holder m r = record {
  number = r.number;
  reached = subst (λ (flags : List Bool). slice_get flags r.number ≡ Some true) same.reached r.reached;
  holds = subst (λ (c : Circuit). slice_get c.modules r.number ≡ Some holder) same.circuit r.holds;
  typed = subst (λ (ms : List TypedModule). slice_get ms r.number ≡ Some m) (modules_alike first second same) r.typed;
}

same_undriven : (first second : Fitted) → AreAlike first second → (place : Place) → IsUndriven first place → IsUndriven second place
same_undriven first second same place u = record {
  holder = u.holder;
  m = u.m;
  c = u.c;
  name = u.name;
  leaf = u.leaf;
  reached = same_reach first second same u.holder u.m u.reached;
  declares = u.declares;
  listed = u.listed;
  must = u.must;
  open' = u.open';
  at = u.at;
}

same_drives : (first second : Fitted) → AreAlike first second → (fault : DriveFault) → IsDriveFault first fault → IsDriveFault second fault
same_drives first second same fault (not_initialized place u) = not_initialized place (same_undriven first second same place u)

same_clocks : (first second : Fitted) → AreAlike first second → (fault : ClockFault) → IsClockFault first fault → IsClockFault second fault
same_clocks first second same fault (clock_other place other) = clock_other place (subst (λ (d : Design). IsOther d place) (same_design first second same) other)

pub first_drives : (first second : Fitted) → AreAlike first second → (given : DriveFault) → IsFirstOfDrives first given → IsFirstOfDrives second given
first_drives first second same given f = first_among (same_drives first second same) (same_drives second first (turned first second same)) given f

pub first_clocks : (first second : Fitted) → AreAlike first second → (given : ClockFault) → IsFirstOfClocks first given → IsFirstOfClocks second given
first_clocks first second same given f = first_among (same_clocks first second same) (same_clocks second first (turned first second same)) given f

pub first_loops : (first second : Fitted) → AreAlike first second → (given : OrderFault) → IsFirstOfLoops first given → IsFirstOfLoops second given
first_loops first second same given f =
    let design = same_design first second same in
    first_among (λ fault h. subst (λ (d : Design). IsLoopFault d fault) design h) (λ fault h. subst (λ (d : Design). IsLoopFault d fault) (sym design) h) given f

-- where the stage is passed there is no fault
pub driven_has_none : (fitted : Fitted) → IsWellFormed fitted → IsInitialized (design_of fitted) → HasNone (IsDriveFault fitted)
driven_has_none fitted well = covered_has_none fitted (reached_is_standing fitted well) (named_itself fitted well.names)

clocked_has_none : (design : Design) → HasOneClock design → (place : Place) → IsOther design place → ⊥
clocked_has_none design one place (register path m c clock at is not_clocked) = not_clocked (one.registers path m c clock at.reached at.declared is)
clocked_has_none design one place (port path m c memory p at is among not_rooted) = not_rooted (one.ports path m c memory p at.reached at.declared is among)

pub one_clock_has_none : (fitted : Fitted) → HasOneClock (design_of fitted) → (fault : ClockFault) → IsClockFault fitted fault → ⊥
one_clock_has_none fitted one fault (clock_other place other) = clocked_has_none (design_of fitted) one place other

pub no_loop_has_none : (design : Design) → HasNoLoop design → (fault : OrderFault) → IsLoopFault design fault → ⊥
no_loop_has_none design none fault (first_loop place first) = no_first design place none first
