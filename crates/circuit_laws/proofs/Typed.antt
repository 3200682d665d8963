-- Components of a design and declarations of its modules.
use Rattle.std.proofs.Common.{◌≡◌, ℕ, zero, suc, ◌==◌, Bool, true, false, cond, List, [], ◌∷◌, map, zip, drop, length, Some, slice_get, refl, sym, ap, subst, arith}
use Rattle.std.specs.Prelude.{Contains, find}
use Rattle.std.proofs.lemmas.Bool.{eqb-true, eqb-false}
use Rattle.fir_types.specs.declared.fir_type.FirType.{FirType}
use Rattle.fir_tree.specs.declared.circuit.Module.{Module}
use Rattle.fir_tree.specs.declared.scope.Fitted.{Fitted}
use Rattle.fir_meaning.specs.Components.{Declaration, Component, TypedModule, declarations_of, with_types, modules_of, component_named}
use Rattle.place_text.specs.First.{HasNone}
use Rattle.fir_names.specs.Faults.{IsFault}
use Rattle.fir_names.proofs.Graphs.{some_same}
use Rattle.circuit_laws.specs.Designs.{component_of, IsOf}
use Rattle.circuit_laws.proofs.Scoping.{declared_once}
use Rattle.fir_names.proofs.Members.{Contains-first, Contains-later}

in_get : (cs : List Component) (c : Component) → Contains cs c → (k : ℕ) × (slice_get cs k ≡ Some c)
in_get [] c (k, below, is) = absurd (omega arith)
in_get (x ∷ cs) c (zero, below, is) = (0, ap Some is)
in_get (x ∷ cs) c (suc k, below, is) = let rest = in_get cs c (k, omega arith, is) in (suc rest.0, rest.1)

zipped : (ds : List Declaration) (types : List FirType) (k : ℕ) (c : Component) → slice_get (map component_of (zip ds types)) k ≡ Some c → slice_get ds k ≡ Some c.declaration
zipped [] types k c e = cc
zipped (d ∷ ds) [] k c e = cc
zipped (d ∷ ds) (t ∷ types) zero c e = ap (λ (x : Component). Some x.declaration) (some_same e)
zipped (d ∷ ds) (t ∷ types) (suc k) c e = zipped ds types k c e

pub module_of : (modules : List Module) (types : List FirType) (m : TypedModule) → Contains (with_types modules types) m → (holder : Module) × Contains modules holder × IsOf m holder
module_of [] types m (k, below, is) = absurd (omega arith)
module_of (x ∷ modules) types m (zero, below, is) = (x, Contains-first modules, record { types = types; is = ap (λ (t : TypedModule). t.components) (sym is) })
module_of (x ∷ modules) types m (suc k, below, is) =
    let rest = module_of modules (drop (length (declarations_of x)) types) m (k, omega arith, is) in
    (rest.0, Contains-later x modules rest.1, rest.2)

pub component_declared : (m : TypedModule) (holder : Module) → IsOf m holder → (c : Component) → Contains m.components c → (k : ℕ) × (slice_get (declarations_of holder) k ≡ Some c.declaration)
component_declared m holder of c among =
    let at = in_get m.components c among in
    (at.0, zipped (declarations_of holder) of.types at.0 c (subst (λ l. slice_get l at.0 ≡ Some c) of.is at.1))

find_at : (cs : List Component) (c : Component) (k : ℕ) → slice_get cs k ≡ Some c
    → ((j : ℕ) (x : Component) → slice_get cs j ≡ Some x → x.declaration.name ≡ c.declaration.name → j ≡ k) → find (λ x. x.declaration.name == c.declaration.name) cs ≡ Some c
find_at [] c k e h = cc
find_at (x ∷ cs) c zero e h = by (x.declaration.name == c.declaration.name) refl where
  by : (b : Bool) → (x.declaration.name == c.declaration.name) ≡ b → cond b (Some x) (find (λ y. y.declaration.name == c.declaration.name) cs) ≡ Some c
  by true q = e
  by false q = absurd (eqb-false x.declaration.name c.declaration.name q (ap (λ (y : Component). y.declaration.name) (some_same e)))
find_at (x ∷ cs) c (suc k) e h = by (x.declaration.name == c.declaration.name) refl (find_at cs c k e (λ j y f s. back j (h (suc j) y f s))) where
  back : (j : ℕ) → suc j ≡ suc k → j ≡ k
  back j z = omega (arith, z)

  zero_suc : 0 ≡ suc k → ⊥
  zero_suc z = omega (arith, z)

  by : (b : Bool) → (x.declaration.name == c.declaration.name) ≡ b → find (λ y. y.declaration.name == c.declaration.name) cs ≡ Some c
      → cond b (Some x) (find (λ y. y.declaration.name == c.declaration.name) cs) ≡ Some c
  by true q rest = absurd (zero_suc (h 0 x refl (eqb-true x.declaration.name c.declaration.name q)))
  by false q rest = rest

pub named_itself : (fitted : Fitted) → HasNone (IsFault fitted.checked.resolved) → (m : TypedModule) → Contains (modules_of fitted) m → (c : Component) → Contains m.components c
    → component_named m c.declaration.name ≡ Some c
named_itself fitted none m at c among =
    let of = module_of fitted.checked.resolved.modules fitted.declared m at in
    let k = in_get m.components c among in
    let there' : slice_get (declarations_of of.0) k.0 ≡ Some c.declaration = zipped (declarations_of of.0) of.2.types k.0 c (subst (λ l. slice_get l k.0 ≡ Some c) of.2.is k.1) in
    find_at m.components c k.0 k.1 (λ j x f s. declared_once fitted.checked.resolved none of.0 of.1 j k.0 x.declaration c.declaration
    (zipped (declarations_of of.0) of.2.types j x (subst (λ l. slice_get l j ≡ Some x) of.2.is f)) there' s)

pub declared_somewhere : (fitted : Fitted) (m : TypedModule) → Contains (modules_of fitted) m → (holder : Module) × Contains fitted.checked.resolved.modules holder
    × ((c : Component) → Contains m.components c → (k : ℕ) × (slice_get (declarations_of holder) k ≡ Some c.declaration))
declared_somewhere fitted m at =
    let of = module_of fitted.checked.resolved.modules fitted.declared m at in
    (of.0, of.1, λ c among. component_declared m of.0 of.2 c among)
