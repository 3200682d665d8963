-- Leaves of the run, by the port that they are entered through.
use Rattle.std.proofs.Common.{◌≡◌, ℕ, List, [], ◌∷◌, ◌++◌, map, drop, Option, Some, None, refl, ap, sym}
use Rattle.std.specs.Prelude.{Result, Ok, Err, IfOk}
use Rattle.fir_meaning.specs.Components.{flat_through}
use Rattle.fir_meaning.proofs.Tracking.{none_some}
use Rattle.fir_names.proofs.Graphs.{some_same}
use Rattle.drive_check.specs.declared.leaf_set.Step.{Step}
use Rattle.drive_check.specs.declared.leaf_set.Step.TheVariants as own
use Rattle.drive_check.specs.Keys.{step_of}
use Rattle.clock_check.specs.Enters.{port_into}

pub if_ok : {T E : Type 0} {P Q : T → Type 0} (r : Result T E) → ((x : T) → P x → Q x) → IfOk r P → IfOk r Q
if_ok (Ok x) f h = f x h
if_ok (Err e) f h = h

pub enters : (path : List ℕ) (i : ℕ) (o : Option ℕ) (way : List Step) (port : ℕ) → Some port ≡ port_into o (map step_of way)
    → record { path = path ++ i ∷ []; component = port; way = map step_of (drop 1 way) } ≡ flat_through path i o (map step_of way)
enters path i None way port e = absurd (none_some (sym e))
enters path i (Some target) [] port e = absurd (none_some (sym e))
enters path i (Some target) (own.Field x ∷ way) port e = ap (λ p. record { path = path ++ i ∷ []; component = p; way = map step_of way }) (some_same e)
enters path i (Some target) (own.Element n ∷ way) port e = absurd (none_some (sym e))

pub stays : (path : List ℕ) (i : ℕ) (o : Option ℕ) (way : List Step) → None ≡ port_into o (map step_of way)
    → record { path = path; component = i; way = map step_of way } ≡ flat_through path i o (map step_of way)
stays path i None way e = refl
stays path i (Some target) [] e = refl
stays path i (Some target) (own.Field x ∷ way) e = absurd (none_some e)
stays path i (Some target) (own.Element n ∷ way) e = refl
