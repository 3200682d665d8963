-- What driven leaves have is fitted to them, so that the rows of a run that watches main's sinks are a trace.
use Rattle.std.proofs.Common.{◌≡◌, ℕ, ◌&&◌, not, Bool, true, false, List, [], ◌∷◌, ◌++◌, map, filter, ℤ, Option, Some, None, slice_get, option_and_then, if◌then◌else◌, refl, sym, ap, ap₂, ◌∙◌, subst, arith, true≢false}
use Rattle.std.specs.Prelude.{Contains}
use Rattle.std.specs.List.{flat_map}
use Rattle.std.proofs.lemmas.List.{map-append}
use Rattle.std.proofs.lemmas.List.Concat.{flat_map-cons}
use Rattle.bit_words.specs.declared.value.Value.{Value}
use Rattle.bit_words.specs.Values.{integer_of}
use Rattle.fir_types.specs.declared.fir_type.FirType.{FirType}
use Rattle.fir_types.specs.declared.leaf.TypeLeaf.{TypeLeaf}
use Rattle.fir_types.specs.declared.leaf.PathStep.{PathStep}
use Rattle.fir_types.specs.declared.leaf.PathStep.TheVariants as step
use Rattle.fir_types.specs.Leaves.{leaves}
use Rattle.fir_tree.specs.declared.scope.Fitted.{Fitted}
use Rattle.fir_meaning.specs.Components.{Design, TypedModule, Component, Leaf, Sort, An_input, An_output, A_wire, A_register, A_reset_register, A_memory, An_instance, A_node, design_of, module_at, module_named, component_named, target_in, type_in, type_or_empty, flow_of, is_clock}
use Rattle.fir_meaning.specs.Values.{Valuation, scene_of, seen_through}
use Rattle.fir_meaning.specs.States as trace
use Rattle.fir_meaning.specs.States.{State, Inputs, Settled, Stands, Trace, next, row, watched, watched_of, watched_of_component, seen, leaf_of, is_port, is_source, is_register, is_driven}
use Rattle.fir_meaning.specs.WellTyped.{known_in}
use Rattle.fir_meaning.proofs.Ports.{component_found, one_later, from_map, from_flat_map}
use Rattle.fir_meaning.proofs.Settling.{port_target}
use Rattle.fir_meaning.proofs.Tracking.{some_same}
use Rattle.circuit_laws.specs.WellFormed.{IsWellFormed, IsKnownModule}
use Rattle.circuit_laws.proofs.Pieces.{mapped_some}
use Rattle.circuit_laws.proofs.Reached.{known_module}
use Rattle.drive_check.proofs.Telling.{contains_get}
use Rattle.settling_laws.specs.Runs.{Watched, value_of, row_of, Runs, ended, cycle}
use Rattle.plain_run.specs.Leaves.{leaf_of_main, sinks_of_port, sinks_of, sinks}
use Rattle.settling_laws.proofs.Typing.{block_typed_there}
use Rattle.settling_laws.proofs.Driven.{IsFit, block_fits, from_filter}

both_true : (p q : Bool) → (p && q) ≡ true → (p ≡ true) × (q ≡ true)
both_true true q e = (refl, e)
both_true false q e = absurd (true≢false (sym e))

port_holds_nothing : (sort : Sort) → is_port sort ≡ true → is_register sort ≡ false
port_holds_nothing An_input e = refl
port_holds_nothing An_output e = refl
port_holds_nothing A_wire e = refl
port_holds_nothing (A_register clock) e = absurd (true≢false (sym e))
port_holds_nothing (A_reset_register clock reset init) e = absurd (true≢false (sym e))
port_holds_nothing (A_memory memory) e = refl
port_holds_nothing (An_instance target) e = refl
port_holds_nothing (A_node expr) e = refl

through_none : (rho : Valuation) (path : List ℕ) (i : ℕ) (way : List PathStep) → seen_through rho path i None way ≡ rho path i way
through_none rho path i [] = refl
through_none rho path i (step.Field x ∷ way) = refl
through_none rho path i (step.Element n ∷ way) = refl

-- The lists of both sides

map_map : {A B C : Type 0} (f : B → C) (g : A → B) (xs : List A) → map f (map g xs) ≡ map (λ x. f (g x)) xs
map_map f g [] = refl
map_map f g (x ∷ xs) = ap (λ l. f (g x) ∷ l) (map_map f g xs)

abbrev integer_at : Valuation → Watched → ℤ
integer_at rho w = rho w.at.path w.at.component w.at.way

abbrev integer_of_leaf : Valuation → Leaf → ℤ
integer_of_leaf rho leaf = rho [] leaf.component leaf.way

leaves_alike : (rho : Valuation) (c : Component) (ls : List TypeLeaf) → map (integer_at rho) (map (leaf_of_main c.declaration.name) ls) ≡ map (integer_of_leaf rho) (map (leaf_of c) ls)
leaves_alike rho c [] = refl
leaves_alike rho c (l ∷ ls) = ap (λ r. rho [] c.declaration.name l.path ∷ r) (leaves_alike rho c ls)

component_alike : (rho : Valuation) (c : Component) → map (integer_at rho) (sinks_of_port c) ≡ map (integer_of_leaf rho) (watched_of_component c)
component_alike rho c = by (is_port c.declaration.sort)
  where
    by : (b : Bool) → map (integer_at rho) (if b then map (leaf_of_main c.declaration.name) (filter (λ leaf. not (is_source (flow_of c.declaration.sort leaf.flip)) && not (is_clock leaf)) (leaves c.typ)) else [])
        ≡ map (integer_of_leaf rho) (if b then map (leaf_of c) (filter (λ leaf. not (is_source (flow_of c.declaration.sort leaf.flip)) && not (is_clock leaf)) (leaves c.typ)) else [])
    by true = leaves_alike rho c (filter (λ leaf. not (is_source (flow_of c.declaration.sort leaf.flip)) && not (is_clock leaf)) (leaves c.typ))
    by false = refl

components_alike : (rho : Valuation) (cs : List Component) → map (integer_at rho) (flat_map sinks_of_port cs) ≡ map (integer_of_leaf rho) (flat_map watched_of_component cs)
components_alike rho [] = refl
components_alike rho (c ∷ cs) =
    ap (map (integer_at rho)) (flat_map-cons sinks_of_port c cs) ∙ (map-append (integer_at rho) (sinks_of_port c) (flat_map sinks_of_port cs)
    ∙ (ap₂ (λ x y. x ++ y) (component_alike rho c) (components_alike rho cs)
    ∙ sym (ap (map (integer_of_leaf rho)) (flat_map-cons watched_of_component c cs) ∙ map-append (integer_of_leaf rho) (watched_of_component c) (flat_map watched_of_component cs))))

all_alike : (rho : Valuation) (o : Option TypedModule) → map (integer_at rho) (sinks_of o) ≡ map (integer_of_leaf rho) (watched_of o)
all_alike rho (Some m) = components_alike rho m.components
all_alike rho None = refl

each_is : (rho : Valuation) (ws : List Watched) → ((w : Watched) → Contains ws w → integer_of (value_of rho w) ≡ integer_at rho w) → map integer_of (row_of ws rho) ≡ map (integer_at rho) ws
each_is rho [] h = refl
each_is rho (w ∷ ws) h = ap₂ (λ x xs. x ∷ xs) (h w (0, omega arith, refl)) (each_is rho ws (λ v c. h v (one_later w ws v c)))

module _ (fitted : Fitted) (well : IsWellFormed fitted) where
  abbrev design : Design
  design = design_of fitted

  -- A driven leaf.
  module _ (path : List ℕ) (m : TypedModule) (c : Component) (part : TypeLeaf) (stands : Stands design path m c part) where
    its : IsKnownModule fitted m
    its = known_module fitted well path m stands.reached

    fits_known : (name : ℕ) (typ : FirType) → known_in m name ≡ Some typ → type_in m name ≡ typ
    fits_known name typ e = let c = mapped_some (λ (x : Component). x.typ) (component_named m name) typ e in ap type_or_empty c.1 ∙ c.2

    one_leaf : (big : TypeLeaf) → Contains (leaves (type_in m c.declaration.name)) big → big.path ≡ part.path → big.typ ≡ part.typ
    one_leaf big among same =
        let own : Contains (leaves c.typ) big = subst (λ t. Contains (leaves t) big) (ap type_or_empty stands.declared) among in
        let a = contains_get (leaves c.typ) big own in
        let b = contains_get (leaves c.typ) part stands.listed in
        let k : a.0 ≡ b.0 = its.typed.ways c a.0 b.0 big part (component_found m c.declaration.name c stands.declared).1 a.1 b.1 same in
        ap (λ (l : TypeLeaf). l.typ) (some_same big part (sym a.1 ∙ (ap (slice_get (leaves c.typ)) k ∙ b.1)))

    driven_fits : (s : State) (given : Inputs) (rho : Valuation) → Settled design s given rho → is_driven c part ≡ true → IsFit part (seen m path rho c part)
    driven_fits s given rho settled driven =
        block_fits (known_in m) (scene_of m path rho) fits_known (leaf_of c part) part one_leaf c.declaration.block (block_typed_there fitted well path m c stands.reached stands.declared) (seen m path rho c part)
        (settled.driven path m c part stands driven)

  module _ (s : State) (given : Inputs) (rho : Valuation) (settled : Settled design s given rho) where
    sink_fits : (m : TypedModule) → module_named design design.main ≡ Some m → (w : Watched) → Contains (sinks_of (Some m)) w → integer_of (value_of rho w) ≡ integer_at rho w
    sink_fits m main w c = by (is_port x.declaration.sort) refl (from.2)
      where
        from : (x : Component) × Contains m.components x × Contains (sinks_of_port x) w
        from = from_flat_map sinks_of_port m.components w c

        x : Component
        x = from.0

        test : TypeLeaf → Bool
        test leaf = not (is_source (flow_of x.declaration.sort leaf.flip)) && not (is_clock leaf)

        reached : module_at design [] ≡ Some m
        reached = ap (option_and_then (λ (n : TypedModule). Some n)) main

        by : (b : Bool) → is_port x.declaration.sort ≡ b → Contains (if b then map (leaf_of_main x.declaration.name) (filter (λ leaf. not (is_source (flow_of x.declaration.sort leaf.flip)) && not (is_clock leaf)) (leaves x.typ)) else []) w
            → integer_of (value_of rho w) ≡ integer_at rho w
        by true port among =
            let l = from_map (leaf_of_main x.declaration.name) (filter (λ leaf. not (is_source (flow_of x.declaration.sort leaf.flip)) && not (is_clock leaf)) (leaves x.typ)) w among in
            let leaf = l.0 in
            let inside = from_filter (λ leaf. not (is_source (flow_of x.declaration.sort leaf.flip)) && not (is_clock leaf)) (leaves x.typ) leaf l.1 in
            let own : component_named m x.declaration.name ≡ Some x = well.bundles.names [] m x reached from.1 in
            let both = both_true (not (is_source (flow_of x.declaration.sort leaf.flip))) (not (is_clock leaf)) inside.1 in
            let driven : is_driven x leaf ≡ true = ap₂ (λ p q. p && q) both.0 (ap₂ (λ p q. not p && q) (port_holds_nothing x.declaration.sort port) both.1) in
            let fits = driven_fits [] m x leaf (record { reached = reached; declared = own; listed = inside.0 }) s given rho settled driven in
            let shown : seen m [] rho x leaf ≡ rho [] x.declaration.name leaf.path =
            ap (λ o. seen_through rho [] x.declaration.name o leaf.path) (ap (option_and_then (λ (y : Component). target_in y.declaration.sort)) own ∙ port_target x.declaration.sort port)
            ∙ through_none rho [] x.declaration.name leaf.path in
            subst (λ (v : Watched). integer_of (value_of rho v) ≡ integer_at rho v) l.2 (subst (IsFit leaf) shown fits)
        by false port (k, below, is) = absurd (omega arith)

    row_is : map integer_of (row_of (sinks design) rho) ≡ row design rho
    row_is = by (module_named design design.main) refl ∙ sym (map_map (λ leaf. rho leaf.path leaf.component leaf.way) trace.main_leaf (watched design))
      where
        by : (o : Option TypedModule) → module_named design design.main ≡ o → map integer_of (row_of (sinks_of o) rho) ≡ map (integer_of_leaf rho) (watched_of o)
        by (Some m) main = each_is rho (sinks_of (Some m)) (sink_fits m main) ∙ all_alike rho (Some m)
        by None main = refl

  -- The integers of a run's rows are a trace.
  pub runs_trace : (s : State) (given : List Inputs) → {rows : List (List Value)} → Runs design (sinks design) s given rows → Trace design s given (map (map integer_of) rows)
  runs_trace s [] ended = trace.ended
  runs_trace s (g ∷ given) (cycle {rows = more} rho settled rest) =
      subst (λ r. Trace design s (g ∷ given) (r ∷ map (map integer_of) more)) (sym (row_is s g rho settled)) (trace.cycle rho settled (runs_trace (next design s rho) given rest))
