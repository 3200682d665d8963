-- A well formed circuit without a loop has one list of rows.
use Rattle.std.proofs.Common.{◌≡◌, ℕ, zero, suc, ◌++◌, List, [], ◌∷◌, map, Some, None, option_and_then, refl, sym, ap, ap₂, ◌∙◌, subst, arith, ⊎_elim}
use Rattle.std.specs.Prelude.{Contains, slice_get}
use Rattle.std.proofs.lemmas.List.Elements.{Contains-append_cases}
use Rattle.bit_words.specs.declared.value.Value.{Value}
use Rattle.fir_types.specs.Leaves.{leaves}
use Rattle.fir_tree.specs.declared.scope.Fitted.{Fitted}
use Rattle.fir_meaning.specs.Components.{Design, TypedModule, Component, FlatLeaf, design_of, module_named, module_at, component_named, target_in, flat_through}
use Rattle.fir_meaning.specs.Values.{Valuation, fitted_to}
use Rattle.fir_meaning.specs.States.{State, SameState, Inputs, IsLeafOf}
use Rattle.fir_meaning.specs.Loops.{HasNoLoop}
use Rattle.fir_meaning.proofs.Ports.{one_later, from_map, from_flat_map, from_filter_map, at_snoc, inside, target_is, target_sort}
use Rattle.fir_meaning.proofs.Settling.{at, flat_none, settled_same, state_itself}
use Rattle.fir_meaning.proofs.Nexts.{next_same}
use Rattle.fir_names.proofs.Graphs.{some_same}
use Rattle.circuit_laws.specs.WellFormed.{IsWellFormed}
use Rattle.drive_check.proofs.Telling.{get_contains, none_in}
use Rattle.net_of_circuit.specs.FlatOrder.{Placed, InFlatOrder, no_more, one_more, an_instance, all_leaves}
use Rattle.settling_laws.proofs.Listing.{has_leaves}
use Rattle.settling_laws.proofs.Reading.{takes_leaves}
use Rattle.settling_laws.specs.Runs.{Watched, row_of, Runs, ended, cycle}
use Rattle.plain_run.specs.Leaves.{IsFlatOrder, watched_leaf, run_leaves, watched_by}
use Rattle.plain_run.specs.Watching.{RunsWatched}

-- a module at a path has one flat order
abbrev pub AreOne : Type 0
AreOne = (design : Design) (path : List ℕ) (m : TypedModule) (components : List Component) (a b : List Placed) → InFlatOrder design path m components a → InFlatOrder design path m components b → a ≡ b

-- The flat order of a run is one.
pub one_flat_order : AreOne → (design : Design) (a b : List Placed) → IsFlatOrder design a → IsFlatOrder design b → a ≡ b
one_flat_order once design a b h g =
    let same : h.main ≡ g.main = some_same (sym h.found ∙ g.found) in
    once design [] h.main h.main.components a b h.order (subst (λ (m : TypedModule). InFlatOrder design [] m m.components b) (sym same) g.order)

row_same : (ws : List Watched) (rho other : Valuation) → ((w : Watched) → Contains ws w → at rho w.at ≡ at other w.at) → row_of ws rho ≡ row_of ws other
row_same [] rho other h = refl
row_same (w ∷ ws) rho other h = ap₂ (λ x xs. x ∷ xs) (ap (fitted_to w.leaf) (h w (0, omega arith, refl))) (row_same ws rho other (λ v c. h v (one_later w ws v c)))

module _ (fitted : Fitted) (well : IsWellFormed fitted) where
  abbrev design : Design
  design = design_of fitted

  -- Each component of the flat order stands in the run.
  placed_stand : (path : List ℕ) (m : TypedModule) (cs : List Component) {placed : List Placed} → InFlatOrder design path m cs placed → module_at design path ≡ Some m
      → ((c : Component) → Contains cs c → Contains m.components c) → (p : Placed) → Contains placed p
      → (module_at design p.path ≡ Some p.m) × (component_named p.m p.c.declaration.name ≡ Some p.c) × (target_in p.c.declaration.sort ≡ None)
  placed_stand path m [] no_more reached all p among = absurd (none_in p among)
  placed_stand path m (c ∷ cs) (one_more none f) reached all p (zero, below, is) =
      subst (λ (q : Placed). (module_at design q.path ≡ Some q.m) × (component_named q.m q.c.declaration.name ≡ Some q.c) × (target_in q.c.declaration.sort ≡ None)) is
      (reached, well.bundles.names path m c reached (all c (0, omega arith, refl)), none)
  placed_stand path m (c ∷ cs) (one_more none f) reached all p (suc k, below, is) = placed_stand path m cs f reached (λ d h. all d (one_later c cs d h)) p (k, omega arith, is)
  placed_stand path m (c ∷ cs) (an_instance {own = own} {rest = rest} target n t found inner f) reached all p among =
      let declared : component_named m c.declaration.name ≡ Some c = well.bundles.names path m c reached (all c (0, omega arith, refl)) in
      let behind : module_at design (path ++ c.declaration.name ∷ []) ≡ Some n =
      at_snoc design path c.declaration.name
      ∙ (ap (option_and_then (λ x. inside design x c.declaration.name)) reached
      ∙ (ap (option_and_then (module_named design)) (target_is m c target declared (target_sort c.declaration.sort target t)) ∙ found)) in
      ⊎_elim
      (λ here. placed_stand (path ++ c.declaration.name ∷ []) n n.components inner behind (λ d h. h) p here)
      (λ there. placed_stand path m cs f reached (λ d h. all d (one_later c cs d h)) p there)
      (Contains-append_cases own rest p among)

  -- What is watched is a leaf of the run.
  watched_is : (placed : List Placed) → IsFlatOrder design placed → (numbers : List ℕ) (w : Watched) → Contains (watched_by placed numbers) w → IsLeafOf design w.at
  watched_is placed order numbers w among =
      let from = from_filter_map (slice_get (run_leaves placed)) numbers w among in
      let y = from_map watched_leaf (all_leaves placed) w (get_contains (run_leaves placed) from.0 w from.2) in
      let p = from_flat_map (λ (p : Placed). map (λ leaf. (p, leaf)) (leaves p.c.typ)) placed y.0 y.1 in
      let l = from_map (λ leaf. (p.0, leaf)) (leaves p.0.c.typ) y.0 p.2 in
      let main : module_at design [] ≡ Some order.main = ap (option_and_then (λ (n : TypedModule). Some n)) order.found in
      let stands = placed_stand [] order.main order.main.components order.order main (λ c h. h) p.0 p.1 in
      subst (λ (v : Watched). IsLeafOf design v.at) (ap watched_leaf l.2 ∙ y.2) (record {
        path = p.0.path;
        m = p.0.m;
        c = p.0.c;
        leaf = l.0;
        stands = record { reached = stands.0; declared = stands.1; listed = l.1 };
        is = ap (λ o. flat_through p.0.path p.0.c.declaration.name o l.0.path) (ap (option_and_then (λ (x : Component). target_in x.declaration.sort)) stands.1 ∙ stands.2)
            ∙ flat_none p.0.path p.0.c.declaration.name l.0.path;
      })

  module _ (none : HasNoLoop design) (placed : List Placed) (order : IsFlatOrder design placed) (watch : List ℕ) where
    runs_same : {s t : State} {given : List Inputs} {rows other : List (List Value)} → SameState design s t → Runs design (watched_by placed watch) s given rows
        → Runs design (watched_by placed watch) t given other → rows ≡ other
    runs_same kept ended ended = refl
    runs_same {s} {t} kept (cycle {given = g} rho one rest) (cycle other two later) =
        let all = has_leaves fitted well in
        let every : (x : FlatLeaf) → IsLeafOf design x → at rho x ≡ at other x = settled_same design all.0 well.bundles none all.1 s t g rho other one two kept in
        ap₂ (λ x xs. x ∷ xs) (row_same (watched_by placed watch) rho other (λ w c. every w.at (watched_is placed order watch w c)))
        (runs_same (next_same design well.bundles (takes_leaves fitted well) s t rho other kept every) rest later)

  pub rows_once : AreOne → HasNoLoop design → (watch : List ℕ) (s : State) (given : List Inputs) (rows other : List (List Value)) → RunsWatched design watch s given rows → RunsWatched design watch s given other → rows ≡ other
  rows_once once none watch s given rows other one two =
      let same = one_flat_order once design one.placed two.placed one.order two.order in
      runs_same none one.placed one.order watch (state_itself design s) one.run (subst (λ l. Runs design (watched_by l watch) s given other) (sym same) two.run)
