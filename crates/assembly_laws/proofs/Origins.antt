-- Where the driver of a flat leaf comes from: from the leaf of a component of a module, or from nowhere.
use Rattle.std.proofs.Common.{◌≡◌, ℕ, ◌&&◌, Bool, true, false, List, [], ◌∷◌, ◌++◌, Option, Some, None, refl, sym, ap, ap₂, ◌∙◌, subst, true≢false, if◌then◌else◌, slice_index}
use Rattle.std.specs.List.{slice_get}
use Rattle.fir_types.specs.declared.leaf.TypeLeaf.{TypeLeaf}
use Rattle.fir_meaning.specs.Components.{TypedModule, Component, An_instance, flat, is_clock, flow_of}
use Rattle.fir_meaning.specs.States.{Stands, is_port, is_register, is_source, leaf_of}
use Rattle.fir_meaning.proofs.Settling.{one_leaf}
use Rattle.fir_meaning.proofs.Ports.{port_outside}
use Rattle.ground_net.specs.declared.circuit.DrivenModule.{DrivenModule}
use Rattle.ground_net.specs.declared.circuit.GroundLeaf.{GroundLeaf}
use Rattle.ground_net.specs.declared.circuit.GroundRole.TheVariants.{Input, Clock, Register, Plain}
use Rattle.ground_net.specs.declared.ground.Ground.{Ground}
use Rattle.net_of_circuit.specs.FlatOrder.{Standing, flat_of}
use Rattle.net_of_circuit.specs.Numbers.{module_leaves, role_of}
use Rattle.flatten_instances.specs.FlatOrder.{Spot}
use Rattle.flatten_instances.specs.Flat.{IsFlatDriver, IsLeafAt, is_input, by_its_module, by_its_holder, given}
use Rattle.ground_net.specs.Reads.{lone_driver}
use Rattle.lowering_laws.proofs.Heights.{some_same, none_some}
use Rattle.lowering_laws.proofs.Matching.{at_main, behind}
use Rattle.lowering_laws.proofs.Whole.{Setting, design, spots, Way, lists, leaf_at, driver_at}
use Rattle.lowering_laws.proofs.Drivers.{all, known_of, flat_driver, DriverOf, numbered_at, own_driver, own_flat, set_driver}

pub input_parts : (a b c : Bool) → is_input (if a then Clock else if b then Register else if c then Input else Plain) ≡ true → (a ≡ false) × (b ≡ false) × (c ≡ true)
input_parts true b c e = absurd (true≢false (sym e))
input_parts false true c e = absurd (true≢false (sym e))
input_parts false false true e = (refl, refl, refl)
input_parts false false false e = absurd (true≢false (sym e))

pub both_true : (a b : Bool) → (a && b) ≡ true → (a ≡ true) × (b ≡ true)
both_true true b e = (refl, e)
both_true false b e = absurd (true≢false (sym e))

module _ (z : Setting) where
  -- The flat leaf is that of a component, whose statements drive it.
  pub record Origin (x : ℕ) (y : Standing) : Type 0 where
    pub path : List ℕ
    pub m : TypedModule
    pub c : Component
    pub leaf : TypeLeaf
    pub stands : Stands (design z) path m c leaf
    pub same : flat m path (leaf_of c leaf) ≡ flat_of y
    pub of : DriverOf z m path c leaf (flat_driver z x)

  -- its number in the flat circuit
  pub number_same : (x : ℕ) (y : Standing) → slice_get (all z) x ≡ Some y → (o : Origin x y) → slice_index o.of.numbers o.of.y ≡ x
  number_same x y e o =
      let entry = numbered_at z o.of.leads o.of.numbers o.of.are o.of.y (o.c, o.leaf) o.of.at in
      let L = lists z in
      L.once (slice_index o.of.numbers o.of.y) x entry.0 y entry.1 e (entry.2 ∙ o.same)

  pub own_origin : (x : ℕ) (y : Standing) → slice_get (all z) x ≡ Some y → is_input (role_of (y.0.c, y.1)) ≡ false → Origin x y
  own_origin x y e plain =
      let L = lists z in
      let s = L.stands x y e in
      record { path = y.0.path; m = y.0.m; c = y.0.c; leaf = y.1; stands = s.0; same = own_flat z y.0.path y.0.m y.0.c y.1 s.0.declared s.1; of = own_driver z x y e plain }

  -- the input of an instance is a leaf of the instance, which statements may set
  pub record Outside (x : ℕ) (y : Standing) : Type 0 where
    pub origin : Origin x y
    pub target : ℕ
    pub sort : origin.c.declaration.sort ≡ An_instance target
    pub turned : origin.leaf.flip ≡ true
    pub clock : is_clock origin.leaf ≡ false

  pub outside : (x : ℕ) (y : Standing) → slice_get (all z) x ≡ Some y → is_input (role_of (y.0.c, y.1)) ≡ true → (front : List ℕ) (i : ℕ) → y.0.path ≡ front ++ i ∷ [] → Outside x y
  outside x y e role front i path_is =
      let L = lists z in
      let stands = (L.stands x y e).0 in
      let parts = input_parts (is_clock y.1) (is_register y.0.c.declaration.sort) (is_port y.0.c.declaration.sort && is_source (flow_of y.0.c.declaration.sort y.1.flip)) role in
      let both = both_true _ _ parts.2 in
      let inner : Stands (design z) (front ++ i ∷ []) y.0.m y.0.c y.1 = subst (λ p. Stands (design z) p y.0.m y.0.c y.1) path_is stands in
      let out = port_outside (design z) z.well.bundles front i y.0.m y.0.c y.1 inner both.0 in
      let m : TypedModule = out.0 in
      let c : Component = out.1 in
      let leaf : TypeLeaf = out.2 in
      let target : ℕ = out.3 in
      let outer = out.4 in
      let sort : c.declaration.sort ≡ An_instance target = out.6 in
      let turned : leaf.flip ≡ true = out.7 ∙ both.1 in
      let clock : is_clock leaf ≡ false = out.9 ∙ parts.0 in
      let source : is_source (flow_of c.declaration.sort leaf.flip) ≡ false = ap₂ (λ s b. is_source (flow_of s b)) sort turned in
      let same : flat m front (leaf_of c leaf) ≡ flat_of y =
      one_leaf front m y.0.m c y.0.c leaf y.1 target outer.declared sort stands.declared both.0 out.8
      ∙ (ap (λ j. flat y.0.m (front ++ j ∷ []) (leaf_of y.0.c y.1)) out.5 ∙ (ap (λ p. flat y.0.m p (leaf_of y.0.c y.1)) (sym path_is) ∙ own_flat z y.0.path y.0.m y.0.c y.1 stands.declared (L.stands x y e).1)) in
      record {
        origin = record { path = front; m = m; c = c; leaf = leaf; stands = outer; same = same; of = set_driver z front m c leaf outer source clock x y e same };
        target = target;
        sort = sort;
        turned = turned;
        clock = clock;
      }

  -- where the path of an entry leads behind an instance
  pub path_behind : (path names : List ℕ) (n : ℕ) (m : TypedModule) (d : DrivenModule) (j : ℕ) (rest : List ℕ) → Way z path n m d names → path ≡ j ∷ rest → (front : List ℕ) × (i : ℕ) × (names ≡ front ++ i ∷ [])
  path_behind path names n m d j rest (at_main main d' at known) e = absurd cc
  path_behind path names n m d j rest (behind {names = outer} i at target c gi inner child leads part there placed named at' known) e = (outer, c.declaration.name, refl)

  -- the path of main's entries is empty
  pub path_main : (path names : List ℕ) (n : ℕ) (m : TypedModule) (d : DrivenModule) → Way z path n m d names → path ≡ [] → names ≡ []
  path_main path names n m d (at_main main d' at known) e = refl
  path_main path names n m d (behind i at target c gi inner child leads part there placed named at' known) e = absurd cc

  -- An input of main has no driver.
  pub main_input : (x : ℕ) (y : Standing) (e : slice_get (all z) x ≡ Some y) → is_input (role_of (y.0.c, y.1)) ≡ true → (leaf_at z x y e).s.path ≡ [] → flat_driver z x ≡ None
  main_input x y e role main =
      let at = leaf_at z x y e in
      let o = driver_at z x y e in
      ap lone_driver o.1 ∙ by at.s at.at.d at.at.leads at.at.number main o.0 (o.2 at.s at.there)
    where
      input_is : (s : Spot) (d : DrivenModule) → Way z s.path s.within y.0.m d y.0.path → slice_get (module_leaves y.0.m) s.number ≡ Some (y.0.c, y.1) → (gl : GroundLeaf) → IsLeafAt z.driven s gl → is_input gl.role ≡ true
      input_is s d leads at gl there =
          let known = known_of z leads in
          let same : there.m ≡ d = some_same (sym there.found ∙ known.driven_there) in
          let here : slice_get known.g.leaves s.number ≡ Some gl = ap (λ l. slice_get l s.number) (sym (ap (λ (w : DrivenModule). w.leaves) same ∙ known.driven_is.leaves)) ∙ there.there in
          ap is_input (known.ground_is.leaves_are s.number (y.0.c, y.1) gl at here).role ∙ role

      by : (s : Spot) (d : DrivenModule) → Way z s.path s.within y.0.m d y.0.path → slice_get (module_leaves y.0.m) s.number ≡ Some (y.0.c, y.1) → s.path ≡ [] → (o : Option Ground) → IsFlatDriver z.driven (spots z) s o → o ≡ None
      by s d leads at main o (by_its_module gl there numbers plainly are) = absurd (true≢false (sym (input_is s d leads at gl there) ∙ plainly))
      by s d leads at main o (by_its_holder gl path numbers i n holder gi there input way at' found inst are) = absurd (no_path (sym main ∙ way)) where
        no_path : {a : ℕ} {q : List ℕ} → [] ≡ a ∷ q → ⊥
        no_path e = cc
      by s d leads at main o (given gl there input way) = refl

  -- A flat leaf with a driver has it from a component's.
  pub origin : (x : ℕ) (y : Standing) → slice_get (all z) x ≡ Some y → (driver : Ground) → flat_driver z x ≡ Some driver → Origin x y
  origin x y e driver has = by (is_input (role_of (y.0.c, y.1))) refl where
    under_path : (path : List ℕ) → (leaf_at z x y e).s.path ≡ path → is_input (role_of (y.0.c, y.1)) ≡ true → Origin x y
    under_path [] q role = none_some (sym (main_input x y e role q) ∙ has)
    under_path (j ∷ rest) q role =
        let at = leaf_at z x y e in
        let p = path_behind at.s.path y.0.path at.s.within y.0.m at.at.d j rest at.at.leads q in
        (outside x y e role p.0 p.1 p.2).origin

    by : (b : Bool) → is_input (role_of (y.0.c, y.1)) ≡ b → Origin x y
    by false q = own_origin x y e q
    by true q = under_path (leaf_at z x y e).s.path refl q
