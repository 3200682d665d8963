-- Modules of a design by number, by name and by path.
use Rattle.std.proofs.Common.{◌≡◌, ℕ, zero, suc, ◌==◌, ◌<◌, Bool, true, false, cond, List, [], ◌∷◌, ◌++◌, map, zip, drop, length, Option, Some, None, slice_get, refl, sym, ap, ◌∙◌, subst, arith}
use Rattle.std.specs.Prelude.{◌↔◌, Contains, find, option_and_then}
use Rattle.std.proofs.lemmas.Bool.{eqb-true, eqb-false, eq-eqb}
use Rattle.std.proofs.lemmas.Option.{slice_get_within}
use Rattle.fir_types.specs.declared.fir_type.FirType.{FirType}
use Rattle.fir_tree.specs.declared.circuit.Circuit.{Circuit}
use Rattle.fir_tree.specs.declared.circuit.Module.{Module}
use Rattle.fir_tree.specs.declared.scope.Fitted.{Fitted}
use Rattle.fir_meaning.specs.Components.{Declaration, Component, TypedModule, Design, declarations_of, with_types, modules_of, design_of, module_named, component_named, target_in, target_of, module_within, module_at}
use Rattle.fir_meaning.specs.WellTyped.{HasTypes}
use Rattle.fir_names.specs.Scopes.{texts, module_names, FirstOf, Means, Reaches, itself, through, IsScope}
use Rattle.place_text.specs.First.{HasNone}
use Rattle.fir_names.specs.Faults.{IsFault, module_twice}
use Rattle.fir_names.proofs.Graphs.{some_same}
use Rattle.circuit_laws.specs.Designs.{IsOf}
use Rattle.circuit_laws.specs.WellFormed.{IsWellFormed, IsKnownModule}
use Rattle.circuit_laws.proofs.Scoping.{distinct_behind, distinct_texts, ids_apart}
use Rattle.circuit_laws.proofs.Typed.{named_itself, component_declared}
use Rattle.circuit_laws.proofs.Pieces.{found_in}
use Rattle.circuit_laws.proofs.Typing.{and_then_some}
use Rattle.circuit_laws.proofs.Instances.{instance_declared, declared_instance}

-- Numbers

-- the module with a number is that of the circuit
pub record IsNumbered (modules : List Module) (k : ℕ) (m : TypedModule) : Type 0 where
  pub holder : Module
  pub here : slice_get modules k ≡ Some holder
  pub name : m.name ≡ holder.name.id
  pub of : IsOf m holder

pub numbered : (modules : List Module) (types : List FirType) (k : ℕ) (m : TypedModule) → slice_get (with_types modules types) k ≡ Some m → IsNumbered modules k m
numbered [] types k m e = cc
numbered (x ∷ modules) types zero m e = record {
  holder = x;
  here = refl;
  name = ap (λ (n : TypedModule). n.name) (sym (some_same e));
  of = record { types = types; is = ap (λ (n : TypedModule). n.components) (sym (some_same e)) };
}
numbered (x ∷ modules) types (suc k) m e =
    let r = numbered modules (drop (length (declarations_of x)) types) k m e in
    record { holder = r.holder; here = r.here; name = r.name; of = r.of }

pub has_number : (modules : List Module) (types : List FirType) (k : ℕ) (holder : Module) → slice_get modules k ≡ Some holder
    → (m : TypedModule) × (slice_get (with_types modules types) k ≡ Some m)
has_number [] types k holder e = cc
has_number (x ∷ modules) types zero holder e =
    (record { name = x.name.id; components = map (λ both. record { declaration = both.0; typ = both.1 }) (zip (declarations_of x) types) }, refl)
has_number (x ∷ modules) types (suc k) holder e = has_number modules (drop (length (declarations_of x)) types) k holder e

pub names_with : (modules : List Module) (types : List FirType) → map (λ m. m.name) (with_types modules types) ≡ texts (map (λ m. m.name) modules)
names_with [] types = refl
names_with (x ∷ modules) types = ap (λ l. x.name.id ∷ l) (names_with modules (drop (length (declarations_of x)) types))

-- Names

pub first_found : (ms : List TypedModule) (name k : ℕ) (m : TypedModule) → FirstOf (map (λ m. m.name) ms) name k → slice_get ms k ≡ Some m → find (λ m. m.name == name) ms ≡ Some m
first_found [] name k m f e = cc
first_found (x ∷ ms) name zero m f e =
    ap (λ b. cond b (Some x) (find (λ m. m.name == name) ms)) (eq-eqb x.name name (some_same f.has)) ∙ e
first_found (x ∷ ms) name (suc k) m f e = by (x.name == name) refl (first_found ms name k m rest e) where
  rest : FirstOf (map (λ m. m.name) ms) name k
  rest = record { has = f.has; first = λ earlier below is. f.first (suc earlier) (omega arith) is }

  by : (b : Bool) → (x.name == name) ≡ b → find (λ m. m.name == name) ms ≡ Some m → cond b (Some x) (find (λ m. m.name == name) ms) ≡ Some m
  by true q r = absurd (f.first 0 (omega arith) (ap Some (eqb-true x.name name q)))
  by false q r = r

pub found_first : (ms : List TypedModule) (name : ℕ) (m : TypedModule) → find (λ m. m.name == name) ms ≡ Some m → (k : ℕ) × FirstOf (map (λ m. m.name) ms) name k × (slice_get ms k ≡ Some m)
found_first [] name m e = cc
found_first (x ∷ ms) name m e = by (x.name == name) refl (found_first ms name m) where
  by : (b : Bool) → (x.name == name) ≡ b
      → (find (λ m. m.name == name) ms ≡ Some m → (k : ℕ) × FirstOf (map (λ m. m.name) ms) name k × (slice_get ms k ≡ Some m))
      → (k : ℕ) × FirstOf (map (λ m. m.name) (x ∷ ms)) name k × (slice_get (x ∷ ms) k ≡ Some m)
  by true q rest = (
    0,
    record { has = ap Some (eqb-true x.name name q); first = λ earlier below is. absurd (omega arith) },
    subst (λ b. cond b (Some x) (find (λ m. m.name == name) ms) ≡ Some m) q e,
  )
  by false q rest =
      let r = rest (subst (λ b. cond b (Some x) (find (λ m. m.name == name) ms) ≡ Some m) q e) in (
        suc r.0,
        record {
          has = r.1.has;
          first = λ earlier. elim earlier as (λ j. j < suc r.0 → slice_get (map (λ m. m.name) (x ∷ ms)) j ≡ Some name → ⊥) [
            | zero ↦ λ below is. eqb-false x.name name q (some_same is)
            | suc j ↦ λ below is. r.1.first j (omega arith) is
          ];
        },
        r.2,
      )

module _ (fitted : Fitted) where
  abbrev circuit : Circuit
  circuit = fitted.checked.resolved

  abbrev design : Design
  design = design_of fitted

  names_are : map (λ m. m.name) (modules_of fitted) ≡ texts (module_names circuit)
  names_are = names_with circuit.modules fitted.declared

  pub module_meant : (name k : ℕ) (m : TypedModule) → Means circuit name k → slice_get (modules_of fitted) k ≡ Some m → module_named design name ≡ Some m
  module_meant name k m means e = first_found (modules_of fitted) name k m (subst (λ l. FirstOf l name k) (sym names_are) means) e

  pub meant_module : (name : ℕ) (m : TypedModule) → module_named design name ≡ Some m → (k : ℕ) × Means circuit name k × (slice_get (modules_of fitted) k ≡ Some m)
  meant_module name m e = let r = found_first (modules_of fitted) name m e in (r.0, subst (λ l. FirstOf l name r.0) names_are r.1, r.2)

  name_at : (k : ℕ) (m : TypedModule) → slice_get (modules_of fitted) k ≡ Some m → slice_get (texts (module_names circuit)) k ≡ Some m.name
  name_at k m e = subst (λ l. slice_get l k ≡ Some m.name) names_are (mapped_at (modules_of fitted) k e) where
    mapped_at : (ms : List TypedModule) (k : ℕ) → slice_get ms k ≡ Some m → slice_get (map (λ m. m.name) ms) k ≡ Some m.name
    mapped_at [] k e = cc
    mapped_at (x ∷ ms) zero e = ap (λ (n : TypedModule). Some n.name) (some_same e)
    mapped_at (x ∷ ms) (suc k) e = mapped_at ms k e

  -- no two modules have one name
  pub one_number : HasNone (IsFault circuit) → (j k : ℕ) (m n : TypedModule) → slice_get (modules_of fitted) j ≡ Some m → slice_get (modules_of fitted) k ≡ Some n → m.name ≡ n.name → j ≡ k
  one_number none j k m n e f same =
      ids_apart (texts (module_names circuit)) (distinct_texts (module_names circuit) (distinct_behind [] (module_names circuit) (λ name t. none _ (module_twice name t)))) j k n.name
      (name_at j m e ∙ ap Some same) (name_at k n f)

  -- each module is the one of its name
  pub named_module : HasNone (IsFault circuit) → (k : ℕ) (m : TypedModule) → slice_get (modules_of fitted) k ≡ Some m → module_named design m.name ≡ Some m
  named_module none k m e = module_meant m.name k m (record {
    has = name_at k m e;
    first = λ earlier below is.
        let at = earlier_module earlier is in
        absurd (omega (arith, below, one_number none earlier k at.0 m at.1 e at.2));
  }) e
    where
      earlier_in : (modules : List Module) (types : List FirType) (j : ℕ) → slice_get (texts (map (λ m. m.name) modules)) j ≡ Some m.name
          → (n : TypedModule) × (slice_get (with_types modules types) j ≡ Some n) × (n.name ≡ m.name)
      earlier_in [] types j is = cc
      earlier_in (x ∷ modules) types zero is =
          (record { name = x.name.id; components = map (λ both. record { declaration = both.0; typ = both.1 }) (zip (declarations_of x) types) }, refl, some_same is)
      earlier_in (x ∷ modules) types (suc j) is = earlier_in modules (drop (length (declarations_of x)) types) j is

      earlier_module : (j : ℕ) → slice_get (texts (module_names circuit)) j ≡ Some m.name → (n : TypedModule) × (slice_get (modules_of fitted) j ≡ Some n) × (n.name ≡ m.name)
      earlier_module j is = earlier_in circuit.modules fitted.declared j is

  -- Paths

  some_again : (o : Option TypedModule) → option_and_then (λ n. Some n) o ≡ o
  some_again None = refl
  some_again (Some n) = refl

  within_more : (p : List ℕ) (m n : TypedModule) (i : ℕ) → module_within design m p ≡ Some n
      → module_within design m (p ++ i ∷ []) ≡ option_and_then (module_named design) (target_of n i)
  within_more [] m n i e = some_again (option_and_then (module_named design) (target_of m i)) ∙ ap (λ x. option_and_then (module_named design) (target_of x i)) (some_same e)
  within_more (j ∷ p) m n i e =
      let next = and_then_some (λ x. module_within design x p) (option_and_then (module_named design) (target_of m j)) n e in
      ap (option_and_then (λ x. module_within design x (p ++ i ∷ []))) next.1 ∙ within_more p next.0 n i next.2

  at_more : (p : List ℕ) (n : TypedModule) (i : ℕ) → module_at design p ≡ Some n → module_at design (p ++ i ∷ []) ≡ option_and_then (module_named design) (target_of n i)
  at_more p n i e =
      let main = and_then_some (λ m. module_within design m p) (module_named design design.main) n e in
      ap (option_and_then (λ m. module_within design m (p ++ i ∷ []))) main.1 ∙ within_more p main.0 n i main.2

  module _ (scope : IsScope circuit fitted.checked.scope) (names : HasNone (IsFault circuit))
      (types : (k : ℕ) (holder : Module) (m : TypedModule) → slice_get circuit.modules k ≡ Some holder → slice_get (modules_of fitted) k ≡ Some m
      → slice_get fitted.checked.scope.reached k ≡ Some true → HasTypes holder m) where
    abbrev main_number : ℕ
    main_number = scope.main

    get_mapped : (cs : List Component) (k : ℕ) (d : Declaration) → slice_get (map (λ c. c.declaration) cs) k ≡ Some d → (c : Component) × Contains cs c × (c.declaration ≡ d)
    get_mapped [] k d e = cc
    get_mapped (c ∷ cs) zero d e = (c, (0, omega arith, refl), some_same e)
    get_mapped (c ∷ cs) (suc k) d e = let r = get_mapped cs k d e in (r.0, (suc r.1.0, omega (arith, r.1.1), r.1.2), r.2)

    contained : (ms : List TypedModule) (k : ℕ) (m : TypedModule) → slice_get ms k ≡ Some m → Contains ms m
    contained [] k m e = cc
    contained (x ∷ ms) zero m e = (0, omega arith, some_same e)
    contained (x ∷ ms) (suc k) m e = let r = contained ms k m e in (suc r.0, omega (arith, r.1), r.2)

    -- what main reaches is marked
    marked : (k : ℕ) (holder : Module) → slice_get circuit.modules k ≡ Some holder → Reaches circuit main_number k → slice_get fitted.checked.scope.reached k ≡ Some true
    marked k holder e r = (scope.reached k (slice_get_within circuit.modules k holder e)).1 r

    record IsAt (k : ℕ) : Type 0 where
      path : List ℕ
      m : TypedModule
      at : module_at design path ≡ Some m
      number : slice_get (modules_of fitted) k ≡ Some m

    number_of_main : (m : TypedModule) → slice_get (modules_of fitted) main_number ≡ Some m → IsAt main_number
    number_of_main m e = record {
      path = [];
      m = m;
      at = ap (option_and_then (λ n. Some n)) (module_meant circuit.main.id main_number m scope.is_main e);
      number = e;
    }

    first_has : (modules : List Module) (k x : ℕ) → slice_get (texts (map (λ m. m.name) modules)) k ≡ Some x → (holder : Module) × (slice_get modules k ≡ Some holder)
    first_has [] k x e = cc
    first_has (h ∷ modules) zero x e = (h, refl)
    first_has (h ∷ modules) (suc k) x e = first_has modules k x e

    stands_at : (k : ℕ) → Reaches circuit main_number k → IsAt k
    stands_at k itself =
        let holder = first_has circuit.modules main_number circuit.main.id scope.is_main.has in
        let m = has_number circuit.modules fitted.declared main_number holder.0 holder.1 in
        number_of_main m.0 m.1
    stands_at k (through middle to target r i) =
        let before : IsAt middle = stands_at middle r in
        let typed : HasTypes i.holder before.m = types middle i.holder before.m i.here before.number (marked middle i.holder i.here r) in
        let made = instance_declared i.holder target i.stands in
        let c = get_mapped before.m.components made.0 made.1 (ap (λ l. slice_get l made.0) typed.components ∙ made.2) in
        let found : component_named before.m c.0.declaration.name ≡ Some c.0 = named_itself fitted names before.m (contained (modules_of fitted) middle before.m before.number) c.0 c.1 in
        let holder = first_has circuit.modules k target.id i.means.has in
        let n = has_number circuit.modules fitted.declared k holder.0 holder.1 in
        let makes : target_of before.m c.0.declaration.name ≡ Some target.id
        = ap (option_and_then (λ c. target_in c.declaration.sort)) found ∙ ap (λ (d : Declaration). target_in d.sort) c.2 ∙ made.3 in
        record {
          path = before.path ++ c.0.declaration.name ∷ [];
          m = n.0;
          at = at_more before.path before.m c.0.declaration.name before.at ∙ ap (option_and_then (module_named design)) makes ∙ module_meant target.id k n.0 i.means n.1;
          number = n.1;
        }

    record IsReached (m : TypedModule) : Type 0 where
      k : ℕ
      number : slice_get (modules_of fitted) k ≡ Some m
      reaches : Reaches circuit main_number k

    reached_within : (p : List ℕ) (j : ℕ) (m n : TypedModule) → slice_get (modules_of fitted) j ≡ Some m → Reaches circuit main_number j → module_within design m p ≡ Some n → IsReached n
    reached_within [] j m n e r w = record { k = j; number = e ∙ w; reaches = r }
    reached_within (i ∷ p) j m n e r w =
        let next = and_then_some (λ x. module_within design x p) (option_and_then (module_named design) (target_of m i)) n w in
        let target = and_then_some (module_named design) (target_of m i) next.0 next.1 in
        let c = and_then_some (λ (c : Component). target_in c.declaration.sort) (component_named m i) target.0 target.1 in
        let among = found_in (λ (x : Component). x.declaration.name == i) m.components c.0 c.1 in
        let at = numbered circuit.modules fitted.declared j m e in
        let declared = component_declared m at.holder at.of c.0 (among.0) in
        let name = declared_instance at.holder declared.0 target.0 c.0.declaration declared.1 c.2 in
        let means = meant_module target.0 next.0 target.2 in
        reached_within p means.0 next.0 n means.2
        (through j means.0 name.0 r (record { holder = at.holder; here = at.here; stands = name.1; means = subst (λ t. Means circuit t means.0) (sym name.2) means.1 })) next.2

    reached_by : (path : List ℕ) (m : TypedModule) → module_at design path ≡ Some m → IsReached m
    reached_by path m e =
        let main = and_then_some (λ x. module_within design x path) (module_named design design.main) m e in
        let means = meant_module circuit.main.id main.0 main.1 in
        reached_within path means.0 main.0 m means.2 (subst (λ k. Reaches circuit main_number k) (same_main means.0 main.0 means.2 means.1) itself) main.2
      where
        same_main : (k : ℕ) (n : TypedModule) → slice_get (modules_of fitted) k ≡ Some n → Means circuit circuit.main.id k → main_number ≡ k
        same_main k n e means =
            ids_apart (texts (module_names circuit)) (distinct_texts (module_names circuit) (distinct_behind [] (module_names circuit) (λ name t. names _ (module_twice name t)))) main_number k circuit.main.id
            scope.is_main.has means.has

    pub standing_as_reached : (k : ℕ) (m : TypedModule) → slice_get (modules_of fitted) k ≡ Some m
        → (slice_get fitted.checked.scope.reached k ≡ Some true) ↔ ((path : List ℕ) × (module_at design path ≡ Some m))
    standing_as_reached k m e = (
      λ r.
          let at = numbered circuit.modules fitted.declared k m e in
          let a : IsAt k = stands_at k ((scope.reached k (slice_get_within circuit.modules k at.holder at.here)).0 r) in
          (a.path, a.at ∙ sym a.number ∙ e),
      λ p.
          let r : IsReached m = reached_by p.0 m p.1 in
          let same : r.k ≡ k = one_number names r.k k m m r.number e refl in
          let at = numbered circuit.modules fitted.declared k m e in
          marked k at.holder at.here (subst (λ j. Reaches circuit main_number j) same r.reaches),
    )

    -- the module at a path
    pub module_there : (path : List ℕ) (m : TypedModule) → module_at design path ≡ Some m → IsKnownModule fitted m
    module_there path m e =
        let r : IsReached m = reached_by path m e in
        let at = numbered circuit.modules fitted.declared r.k m r.number in
        let flag = marked r.k at.holder at.here r.reaches in
        record { k = r.k; holder = at.holder; here = at.here; number = r.number; reached = flag; typed = types r.k at.holder m at.here r.number flag }

  module _ (well : IsWellFormed fitted) where
    pub reached_is_standing : (k : ℕ) (m : TypedModule) → slice_get (modules_of fitted) k ≡ Some m
        → (slice_get fitted.checked.scope.reached k ≡ Some true) ↔ ((path : List ℕ) × (module_at design path ≡ Some m))
    reached_is_standing = standing_as_reached well.scope well.names well.types

    pub known_module : (path : List ℕ) (m : TypedModule) → module_at design path ≡ Some m → IsKnownModule fitted m
    known_module = module_there well.scope well.names well.types
