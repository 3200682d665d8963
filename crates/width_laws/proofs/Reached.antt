-- In a module that main reaches each place of each declared type has a number.
use Rattle.std.proofs.Common.{◌≡◌, ℕ, zero, suc, ◌+◌, ◌==◌, ◌<◌, Bool, true, false, cond, List, [], ◌∷◌, ◌++◌, map, zip, length, drop, get_or, Some, refl, sym, ap, ap₂, ◌∙◌, subst, arith, slice_get, ⊎_elim, append_assoc, append-nil}
use Rattle.std.proofs.lemmas.List.Elements.{Contains-append_cases}
use Rattle.std.specs.Prelude.{find, option_map, Contains, ◌&&◌}
use Rattle.std.specs.List.{AllZip, flat_map, list_all}
use Rattle.std.proofs.lemmas.Bool.{eqb-true, eq-eqb, le-leb}
use Rattle.std.proofs.lemmas.List.{length-map}
use Rattle.std.proofs.lemmas.Option.{get_or_from_slice_get}
use Rattle.fir_types.specs.declared.fir_type.FirType.{FirType}
use Rattle.fir_types.specs.declared.name.Name.{Name}
use Rattle.fir_types.specs.declared.port.Port.{Port}
use Rattle.prim_ops.specs.declared.widths.Width.{Width}
use Rattle.prim_ops.specs.declared.widths.Width.TheVariants.{Bits, Over}
use Rattle.fir_tree.specs.declared.circuit.Circuit.{Circuit}
use Rattle.fir_tree.specs.declared.circuit.Module.{Module}
use Rattle.fir_tree.specs.declared.scope.Fitted.{Fitted}
use Rattle.fir_meaning.specs.Components.{Declaration, Component, TypedModule, target_in, declarations_of, with_types, modules_of}
use Rattle.fir_names.specs.Extents.{instances_in}
use Rattle.fir_names.specs.Scopes.{texts, FirstOf, Means, Reaches, through, IsScope}
use Rattle.fir_names.proofs.Graphs.{some_same}
use Rattle.circuit_laws.proofs.Instances.{declared_instance}
use Rattle.width_rules.specs.declared.slot.Slot.{Slot}
use Rattle.width_rules.specs.Places.{Spot, spots, size, slots_from, open_spots}
use Rattle.width_rules.specs.Solutions.{IsWidth}
use Rattle.width_rules.specs.Sources.{formula_of, component_or_none}
use Rattle.width_rules.specs.Circuits.{ports_from, open_ports, modules_from, all_open, instance_in, instance_component, rules_in}
use Rattle.width_rules.proofs.Monotone.{width_is_width}
use Rattle.type_filling.specs.Filling.{filled, number}
use Rattle.width_fit.specs.Fitting.{IsFit}
use Rattle.width_fit.specs.Written.{place_widths}
use Rattle.width_fit.specs.Judging as judging
use Rattle.width_fit.specs.Judging.{Solved, slot_width, component_faults, ports_faults, told_from, told_of, where_reached}
use Rattle.width_laws.specs.Declared.{Typed, IsFilled, declared_in}
use Rattle.width_laws.specs.Numbered.{is_number, HasNumbers}
use Rattle.width_laws.proofs.Slots.{instance_counted}
use Rattle.width_laws.proofs.Numbers.{IsNumber, AreNumbers, left_empty, right_empty, numbers_append, faultless_numbers}
use Rattle.width_laws.proofs.Filled.{places_filled, numbers_fill}
use Rattle.width_laws.proofs.Resets.{filled_free}
use Rattle.width_laws.proofs.Statements.{IsSound, IsNumbered, IsInstance}
use Rattle.width_laws.proofs.Modules.{surveyed, ModuleTells, module_tells}
use Rattle.fir_names.proofs.Members.{Contains-none, Contains-one, Contains-get, Contains-flat_map}

-- Lists

none_contained : {X : Type 0} (xs : List X) → ((x : X) → ¬ (Contains xs x)) → xs ≡ []
none_contained [] h = refl
none_contained (x ∷ xs) h = absurd (h x (0, omega arith, refl))

zip_length : {A B : Type 0} (S : A → B → Type 0) (xs : List A) (ys : List B) → AllZip S xs ys → length xs ≡ length ys
zip_length S [] [] h = refl
zip_length S [] (y ∷ ys) h = absurd h
zip_length S (x ∷ xs) [] h = absurd h
zip_length S (x ∷ xs) (y ∷ ys) h = ap suc (zip_length S xs ys h.1)

zip_in : (S : Name → ℕ → Type 0) (ns : List Name) (ks : List ℕ) → AllZip S ns ks → (n : Name) → Contains ns n → (k : ℕ) × S n k
zip_in S [] ks z n i = absurd (Contains-none i)
zip_in S (m ∷ ns) [] z n i = absurd z
zip_in S (m ∷ ns) (k ∷ ks) z n i = ⊎_elim (λ l. (k, subst (λ x. S x k) (sym (Contains-one l)) z.0)) (λ r. zip_in S ns ks z.1 n r) (Contains-append_cases (m ∷ []) ns _ i)

drop_front : (ts more : List FirType) (n : ℕ) → length ts ≡ n → drop n (ts ++ more) ≡ more
drop_front [] more zero e = refl
drop_front [] more (suc n) e = absurd (omega (arith, e))
drop_front (t ∷ ts) more zero e = absurd (omega (arith, e))
drop_front (t ∷ ts) more (suc n) e = drop_front ts more n (omega (arith, e))

abbrev component_of : Declaration × FirType → Component
component_of both = record { declaration = both.0; typ = both.1 }

-- a declaration with its number and its type
record IsAt (S : Declaration → FirType → Type 0) (ds : List Declaration) (c : Component) : Type 0 where
  pub number_of : ℕ
  pub here_is : slice_get ds number_of ≡ Some c.declaration
  pub holds : S c.declaration c.typ

component_at : (S : Declaration → FirType → Type 0) (ds : List Declaration) (ts more : List FirType) → AllZip S ds ts → (c : Component) → Contains (map component_of (zip ds (ts ++ more))) c → IsAt S ds c
component_at S [] ts more z c i = absurd (Contains-none i)
component_at S (d ∷ ds) [] more z c i = absurd z
component_at S (d ∷ ds) (t ∷ ts) more z c i =
    ⊎_elim (λ l. subst (IsAt S (d ∷ ds)) (sym (Contains-one l)) (record { number_of = 0; here_is = refl; holds = z.0 }))
    (λ r. let rest = component_at S ds ts more z.1 c r in record { number_of = suc rest.number_of; here_is = rest.here_is; holds = rest.holds })
    (Contains-append_cases (component_of (d, t) ∷ []) (map component_of (zip ds (ts ++ more))) _ i)

-- Numbers

small_number : (w : Width) → IsNumber w → IsWidth w → is_number (number w) ≡ true
small_number (Bits n) h b = le-leb n 128 b
small_number Over h b = absurd h

module _ (ws : List Width) (bounded : (k : ℕ) → IsWidth (get_or ws k (Bits 0))) where
  all_small : (slots : List Slot) → AreNumbers ws slots → list_all is_number (map number (map (slot_width ws) slots)) ≡ true
  all_small [] h = refl
  all_small (s ∷ slots) h = ap₂ (λ a b. a && b) (small_number (slot_width ws s) h.0 (width_is_width ws bounded (formula_of s))) (all_small slots h.1)

  slots_fill : (typ : FirType) (slots : List Slot) → length slots ≡ size typ → AreNumbers ws slots → HasNumbers (filled typ (map (slot_width ws) slots))
  slots_fill typ slots e h = record {
    numbers =
        let counted : length (map (slot_width ws) slots) ≡ size typ = length-map slots (slot_width ws) ∙ e in
        numbers_fill (place_widths typ) (map (slot_width ws) slots) (place_widths (filled typ (map (slot_width ws) slots))) (counted ∙ sym (length-map (spots typ) (λ (spot : Spot). spot.width)))
        (places_filled typ (map (slot_width ws) slots) counted) (all_small slots h);
    resets = filled_free typ (map (slot_width ws) slots);
  }

module _ (all : Solved) (modules : List Module) where
  -- The ports of a module

  port_numbers : (k : ℕ) (ports : List Port) → ports_faults all ports (ports_from k ports) ≡ [] → AreNumbers all.widths (flat_map (λ (slots : List Slot). slots) (ports_from k ports))
  port_numbers k [] none = tt
  port_numbers k (p ∷ ports) none =
      let slots : List Slot = slots_from k (spots p.typ) in
      numbers_append all.widths slots _ (faultless_numbers all p.name.place slots (left_empty (component_faults all p.name.place slots) _ none))
      (port_numbers (k + open_spots (spots p.typ)) ports (right_empty (component_faults all p.name.place slots) _ none))

  flag_later : (bs : List Bool) (i : ℕ) → get_or bs (suc i) false ≡ true → get_or (drop 1 bs) i false ≡ true
  flag_later [] i e = cc
  flag_later (b ∷ bs) i e = e

  abbrev tells : List Module → ℕ → ℕ → List Bool → judging.Told
  tells rest k n reached = told_from all (modules_from 0 modules) n (modules_from k rest) reached

  own_faultless : (m : Module) (rest : List Module) (k n : ℕ) (reached : List Bool) → (tells (m ∷ rest) k n reached).faults ≡ [] → get_or reached 0 false ≡ true → (surveyed all modules m k n).faults ≡ []
  own_faultless m rest k n reached none flag = ap (λ c. where_reached c (surveyed all modules m k n).faults) (sym flag) ∙ left_empty (where_reached (get_or reached 0 false) (surveyed all modules m k n).faults) _ none

  -- the module of a name, as instances see it
  record IsTarget (rest : List Module) (k name j : ℕ) : Type 0 where
    pub from : ℕ
    pub holder : Module
    pub instance_is : instance_in (modules_from k rest) name ≡ instance_component (record { holder = holder; ports = ports_from from holder.ports })
    pub faultless : (n : ℕ) (reached : List Bool) → (tells rest k n reached).faults ≡ [] → get_or reached j false ≡ true → ports_faults all holder.ports (ports_from from holder.ports) ≡ []

  target_is : (rest : List Module) (k name j : ℕ) → FirstOf (texts (map (λ m. m.name) rest)) name j → IsTarget rest k name j
  target_is [] k name j f = absurd (let e = f.has in cc)
  target_is (m ∷ rest) k name zero f = record {
    from = k;
    holder = m;
    instance_is = ap (λ b. component_or_none (option_map instance_component (cond b (Some (record { holder = m; ports = ports_from k m.ports })) (find (λ x. x.holder.name.id == name) (modules_from (k + open_ports m.ports) rest)))))
        (eq-eqb m.name.id name (some_same f.has));
    faultless = λ n reached none flag. left_empty (ports_faults all m.ports (ports_from k m.ports)) _ (own_faultless m rest k n reached none flag);
  }
  target_is (m ∷ rest) k name (suc j) f = by (m.name.id == name) refl (target_is rest (k + open_ports m.ports) name j) where
    later : FirstOf (texts (map (λ m. m.name) rest)) name j
    later = record { has = f.has; first = λ earlier below is. f.first (suc earlier) (omega (arith, below)) is }

    by : (b : Bool) → (m.name.id == name) ≡ b → (FirstOf (texts (map (λ m. m.name) rest)) name j → IsTarget rest (k + open_ports m.ports) name j) → IsTarget (m ∷ rest) k name (suc j)
    by true q others = absurd (f.first 0 (omega arith) (ap Some (eqb-true m.name.id name q)))
    by false q others =
        let r : IsTarget rest (k + open_ports m.ports) name j = others later in
        record {
          from = r.from;
          holder = r.holder;
          instance_is = ap (λ b. component_or_none (option_map instance_component (cond b (Some (record { holder = m; ports = ports_from k m.ports })) (find (λ x. x.holder.name.id == name) (modules_from (k + open_ports m.ports) rest))))) q ∙ r.instance_is;
          faultless = λ n reached none flag. r.faultless (n + (surveyed all modules m k n).count) (drop 1 reached)
              (right_empty (where_reached (get_or reached 0 false) (surveyed all modules m k n).faults) _ none) (flag_later reached j flag);
        }

  -- a module of the design
  record IsReached (holder : Module) (m : TypedModule) : Type 0 where
    pub types : List FirType
    pub more : List FirType
    pub components_are : m.components ≡ map component_of (zip (declarations_of holder) (types ++ more))
    pub sound : AllZip (IsSound all modules) (declarations_of holder) types

  counted : (m : Module) (k n : ℕ) → length (surveyed all modules m k n).declared ≡ length (declarations_of m)
  counted m k n =
      let t : ModuleTells all modules m k n = module_tells all modules m k n in
      sym (zip_length (λ (d : Typed) (typ : FirType). IsFilled d typ) (declared_in modules m []).types (surveyed all modules m k n).declared t.types)
      ∙ sym (length-map (declared_in modules m []).types (λ (d : Typed). d.name)) ∙ ap length t.names ∙ length-map (declarations_of m) (λ (d : Declaration). d.name)

  reached_at : (rest : List Module) (k n : ℕ) (reached : List Bool) (more : List FirType) → (tells rest k n reached).faults ≡ [] → (j : ℕ) (holder : Module) (m : TypedModule)
      → slice_get rest j ≡ Some holder → slice_get (with_types rest ((tells rest k n reached).declared ++ more)) j ≡ Some m → get_or reached j false ≡ true → IsReached holder m
  reached_at [] k n reached more none j holder m e at flag = cc
  reached_at (h ∷ rest) k n reached more none zero holder m e at flag =
      let own = surveyed all modules h k n in
      let others = (tells rest (k + open_ports h.ports) (n + own.count) (drop 1 reached)).declared in
      subst (λ x. IsReached x m) (some_same e) (record {
        types = own.declared;
        more = others ++ more;
        components_are = ap (λ (x : TypedModule). x.components) (sym (some_same at)) ∙ ap (λ l. map component_of (zip (declarations_of h) l)) (append_assoc own.declared others more);
        sound = (module_tells all modules h k n).sound (own_faultless h rest k n reached none flag);
      })
  reached_at (h ∷ rest) k n reached more none (suc j) holder m e at flag =
      let own = surveyed all modules h k n in
      let others = (tells rest (k + open_ports h.ports) (n + own.count) (drop 1 reached)).declared in
      let is : drop (length (declarations_of h)) ((own.declared ++ others) ++ more) ≡ others ++ more
      = ap (drop (length (declarations_of h))) (append_assoc own.declared others more) ∙ drop_front own.declared (others ++ more) (length (declarations_of h)) (counted h k n) in
      reached_at rest (k + open_ports h.ports) (n + own.count) (drop 1 reached) more (right_empty (where_reached (get_or reached 0 false) own.faults) _ none) j holder m e
      (ap (λ l. slice_get (with_types rest l) j) (sym is) ∙ at) (flag_later reached j flag)

module _ (fitted : Fitted) (scope : IsScope fitted.checked.resolved fitted.checked.scope) (fit : IsFit fitted.checked fitted) where
  abbrev circuit : Circuit
  circuit = fitted.checked.resolved

  abbrev all_of : Solved
  all_of = record { widths = fit.widths; rules = (rules_in fitted.checked.resolved).rules }

  no_fault : (told_of fitted.checked fit.widths).faults ≡ []
  no_fault = none_contained (told_of fitted.checked fit.widths).faults fit.none

  within : {X : Type 0} (xs : List X) (k : ℕ) (x : X) → slice_get xs k ≡ Some x → k < length xs
  within [] k x e = cc
  within (y ∷ xs) zero x e = omega arith
  within (y ∷ xs) (suc k) x e = let h = within xs k x e in omega (arith, h)

  -- where a module is reached, so are those of its instances
  target_reached : (k : ℕ) (holder : Module) → slice_get circuit.modules k ≡ Some holder → slice_get fitted.checked.scope.reached k ≡ Some true → (name : Name) → Contains (instances_in holder) name
      → (j : ℕ) × Means circuit name.id j × (get_or fitted.checked.scope.reached j false ≡ true)
  target_reached k holder e flag name i =
      let means = zip_in (λ target number. Means circuit target.id number) (flat_map instances_in circuit.modules) fitted.checked.scope.targets scope.targets name
      (Contains-flat_map instances_in circuit.modules holder name (Contains-get circuit.modules k holder e) i) in
      let j : ℕ = means.0 in
      let long : length (texts (map (λ (m : Module). m.name) circuit.modules)) ≡ length circuit.modules
      = length-map (map (λ (m : Module). m.name) circuit.modules) (λ (name : Name). name.id) ∙ length-map circuit.modules (λ (m : Module). m.name) in
      let below : j < length circuit.modules = subst (λ n. j < n) long (within (texts (map (λ (m : Module). m.name) circuit.modules)) j name.id means.1.has) in
      let from : Reaches circuit scope.main k = (scope.reached k (within circuit.modules k holder e)).0 flag in
      let to : Reaches circuit scope.main j = through k j name from (record { holder = holder; here = e; stands = i; means = means.1 }) in
      (j, means.1, get_or_from_slice_get fitted.checked.scope.reached j true false ((scope.reached j below).1 to))

  holder_at : (ms : List Module) (types : List FirType) (k : ℕ) (m : TypedModule) → slice_get (with_types ms types) k ≡ Some m → (holder : Module) × (slice_get ms k ≡ Some holder)
  holder_at [] types k m e = cc
  holder_at (h ∷ ms) types zero m e = (h, refl)
  holder_at (h ∷ ms) types (suc k) m e = holder_at ms (drop (length (declarations_of h)) types) k m e

  pub places_have_numbers : (k : ℕ) (m : TypedModule) → slice_get (modules_of fitted) k ≡ Some m → slice_get fitted.checked.scope.reached k ≡ Some true → (c : Component) → Contains m.components c → HasNumbers c.typ
  places_have_numbers k m at flag c among =
      let found = holder_at circuit.modules fitted.declared k m at in
      let holder : Module = found.0 in
      let told = (told_of fitted.checked fit.widths).declared in
      let r : IsReached all_of circuit.modules holder m
      = reached_at all_of circuit.modules circuit.modules 0 (all_open circuit.modules) fitted.checked.scope.reached [] no_fault k holder m found.1
      (ap (λ l. slice_get (with_types circuit.modules l) k) (append-nil told ∙ sym fit.fitted_is.declared) ∙ at) (get_or_from_slice_get fitted.checked.scope.reached k true false flag) in
      let one : IsAt (IsSound all_of circuit.modules) (declarations_of holder) c
      = component_at (IsSound all_of circuit.modules) (declarations_of holder) r.types r.more r.sound c (subst (λ list. Contains list c) r.components_are among) in
      ⊎_elim (λ (i : IsInstance fit.widths (modules_from 0 circuit.modules) c.declaration c.typ).
      let made = declared_instance holder one.number_of i.target c.declaration one.here_is (ap target_in i.sort_is) in
      let reach = target_reached k holder found.1 flag made.0 made.1 in
      let t : IsTarget all_of circuit.modules circuit.modules 0 i.target reach.0
      = target_is all_of circuit.modules circuit.modules 0 i.target reach.0 (subst (λ x. Means circuit x reach.0) made.2 reach.1) in
      let sized = instance_in (modules_from 0 circuit.modules) i.target in
      let numbers : AreNumbers fit.widths sized.slots = subst (λ s. AreNumbers fit.widths s.slots) (sym t.instance_is)
      (port_numbers all_of circuit.modules t.from t.holder.ports (t.faultless (all_open circuit.modules) fitted.checked.scope.reached no_fault reach.2)) in
      subst HasNumbers (sym i.filled_is) (slots_fill fit.widths fit.least.assignment.bounded sized.part.typ sized.slots (instance_counted 0 circuit.modules i.target) numbers))
      (λ (n : IsNumbered fit.widths c.typ). subst HasNumbers (sym n.filled_is) (slots_fill fit.widths fit.least.assignment.bounded n.typ n.slots n.counted n.numbers))
      one.holds
