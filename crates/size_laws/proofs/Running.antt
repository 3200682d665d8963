-- The components in flat order have, together, what is measured.
use Rattle.std.proofs.Common.{◌≡◌, ℕ, zero, suc, ◌+◌, ◌≤◌, Bool, true, false, List, [], ◌∷◌, ◌++◌, map, drop, length, refl, sym, ap, ap₂, ◌∙◌, arith, ◌==◌, Some, None}
use Rattle.std.specs.Prelude.{slice_get, find, cond, zip}
use Rattle.std.specs.List.{AllZip, flat_map}
use Rattle.std.proofs.lemmas.List.Concat.{flat_map-cons}
use Rattle.fir_types.specs.declared.fir_type.FirType.{FirType}
use Rattle.fir_tree.specs.declared.circuit.Circuit.{Circuit}
use Rattle.fir_tree.specs.declared.circuit.Module.{Module}
use Rattle.fir_tree.specs.declared.scope.Fitted.{Fitted}
use Rattle.fir_tree.specs.LeafNames.{Texts}
use Rattle.fir_meaning.specs.Components.{Design, TypedModule, Component, Sort, An_input, An_output, A_wire, A_register, A_reset_register, A_memory, An_instance, A_node, declarations_of, with_types, design_of, module_named, target_in}
use Rattle.net_of_circuit.specs.FlatOrder.{Placed, InFlatOrder, no_more, one_more, an_instance}
use Rattle.size_check.specs.declared.sums.Sums.{Sums}
use Rattle.size_check.specs.declared.calls.Call.{Call}
use Rattle.size_check.specs.Measures.{nothing, plus, together}
use Rattle.size_check.specs.Typings.{named}
use Rattle.size_check.specs.Standings.{standings, standings_of, of_call, of_found, behind, before, measured}
use Rattle.size_laws.specs.Pieces.{pieces_of, IsMeasured, AreMeasured}
use Rattle.size_laws.proofs.Sums.{unsized, sums_same, plus_later, mapped-append, prefixed, prefixed_nothing, prefixed_plus, prefixed_twice, prefixed_none}
use Rattle.size_laws.proofs.Owning.{sums_of, own_sized}
use Rattle.size_laws.proofs.Calling.{call_of, own_called}
use Rattle.size_laws.proofs.Same.{component_sums, component_call, AreCounted, all_same, calls_same}
use Rattle.size_laws.proofs.Standing.{found, letters, found-append, before_last, found_behind, found_next}

some_same : {A : Type 0} {x y : A} → Some x ≡ Some y → x ≡ y
some_same e = cc

pub call_some : (name target : ℕ) (sort : Sort) → target_in sort ≡ Some target → call_of name sort ≡ record { name = name; target = target } ∷ []
call_some name target An_input e = cc
call_some name target An_output e = cc
call_some name target A_wire e = cc
call_some name target (A_register clock) e = cc
call_some name target (A_reset_register clock reset init) e = cc
call_some name target (A_memory memory) e = cc
call_some name target (An_instance t) e = ap (λ k. record { name = name; target = k } ∷ []) (some_same e)
call_some name target (A_node expr) e = cc

pub call_none : (name : ℕ) (sort : Sort) → target_in sort ≡ None → call_of name sort ≡ []
call_none name An_input e = refl
call_none name An_output e = refl
call_none name A_wire e = refl
call_none name (A_register clock) e = refl
call_none name (A_reset_register clock reset init) e = refl
call_none name (A_memory memory) e = refl
call_none name (An_instance t) e = cc
call_none name (A_node expr) e = refl

instance_nothing : (texts : Texts) (name : ℕ) (typ : FirType) (target : ℕ) (sort : Sort) → target_in sort ≡ Some target → sums_of texts name typ sort ≡ nothing
instance_nothing texts name typ target An_input e = cc
instance_nothing texts name typ target An_output e = cc
instance_nothing texts name typ target A_wire e = cc
instance_nothing texts name typ target (A_register clock) e = cc
instance_nothing texts name typ target (A_reset_register clock reset init) e = cc
instance_nothing texts name typ target (A_memory memory) e = cc
instance_nothing texts name typ target (An_instance t) e = refl
instance_nothing texts name typ target (A_node expr) e = cc

abbrev pub at_place : Texts → Placed → Sums
at_place texts p = prefixed (before texts p.path) (component_sums texts p.c)

abbrev pub placed_sums : Texts → List Placed → Sums
placed_sums texts placed = together (map (at_place texts) placed)

-- the module of the text that a module of a design is
abbrev pub IsHeld : List Module → Design → Type 0
IsHeld modules design = (name : ℕ) (n : TypedModule) → module_named design name ≡ Some n → (holder : Module) × (named modules name ≡ Some holder) × AllZip IsMeasured (pieces_of modules holder) n.components

module _ (counted : AreCounted) (texts : Texts) (design : Design) (modules : List Module) (held : IsHeld modules design) where
  abbrev comps : List Component → Sums
  comps cs = together (map (component_sums texts) cs)

  abbrev inner : ℕ → List Component → Sums
  inner d cs = found texts modules (flat_map (of_call modules (standings modules d)) (flat_map component_call cs))

  whole : (d : ℕ) (holder : Module) (n : TypedModule) → AllZip IsMeasured (pieces_of modules holder) n.components
      → found texts modules (standings modules (suc d) holder) ≡ plus (comps n.components) (inner d n.components)
  whole d holder n same =
      found_next texts modules d holder
      ∙ ap₂ plus (own_sized texts modules holder ∙ ap together (all_same counted texts (pieces_of modules holder) n.components same))
      (ap (λ calls. found texts modules (flat_map (of_call modules (standings modules d)) calls)) (own_called modules holder ∙ calls_same (pieces_of modules holder) n.components same))

  -- from some depth of paths on
  abbrev Runs : List ℕ → List Component → List Placed → Type 0
  Runs path cs placed = (D : ℕ) × ((d : ℕ) → D ≤ d → placed_sums texts placed ≡ prefixed (before texts path) (plus (comps cs) (inner d cs)))

  no_call : (d : ℕ) (c : Component) (cs : List Component) → target_in c.declaration.sort ≡ None → inner d (c ∷ cs) ≡ inner d cs
  no_call d c cs e =
      ap (λ calls. found texts modules (flat_map (of_call modules (standings modules d)) calls))
      (flat_map-cons component_call c cs ∙ ap (λ l. l ++ flat_map component_call cs) (call_none c.declaration.name c.declaration.sort e))

  one_call : (d : ℕ) (c : Component) (cs : List Component) (target : ℕ) (holder : Module) → target_in c.declaration.sort ≡ Some target → named modules target ≡ Some holder
      → inner d (c ∷ cs) ≡ plus (prefixed (letters texts c.declaration.name) (found texts modules (standings modules d holder))) (inner d cs)
  one_call d c cs target holder e h =
      let call : Call = record { name = c.declaration.name; target = target } in
      let from = of_call modules (standings modules d) in
      let rest = flat_map component_call cs in
      ap (λ calls. found texts modules (flat_map from calls)) (flat_map-cons component_call c cs ∙ ap (λ l. l ++ rest) (call_some c.declaration.name target c.declaration.sort e))
      ∙ ap (found texts modules) (flat_map-cons from call rest)
      ∙ found-append texts modules (from call) (flat_map from rest)
      ∙ ap (λ s. plus s (inner d cs))
      (ap (λ m. found texts modules (map (behind c.declaration.name) (of_found (standings modules d) m))) h ∙ found_behind texts modules c.declaration.name (standings modules d holder))

  later : (a x t b : Sums) → a ≡ nothing → plus x (plus t b) ≡ plus (plus a t) (plus x b)
  later a x t b e = across x t b ∙ ap (λ z. plus (plus z t) (plus x b)) (sym e)
    where
      across : (x t b : Sums) → plus x (plus t b) ≡ plus (plus nothing t) (plus x b)
      across x t b = sums_same (omega arith) (omega arith) (omega arith) (omega arith) (omega arith)

  -- an instance, and what stands behind it
  at_instance : (path : List ℕ) (c : Component) (cs : List Component) (own rest : List Placed) (target : ℕ) (n : TypedModule) → target_in c.declaration.sort ≡ Some target → module_named design target ≡ Some n
      → Runs (path ++ c.declaration.name ∷ []) n.components own → Runs path cs rest → (d : ℕ)
      → (first : ℕ) (second : ℕ) → first ≤ d → second ≤ suc d
      → placed_sums texts own ≡ prefixed (before texts (path ++ c.declaration.name ∷ [])) (plus (comps n.components) (inner d n.components))
      → placed_sums texts rest ≡ prefixed (before texts path) (plus (comps cs) (inner (suc d) cs))
      → placed_sums texts (own ++ rest) ≡ prefixed (before texts path) (plus (comps (c ∷ cs)) (inner (suc d) (c ∷ cs)))
  at_instance path c cs own rest target n e f r q d first second l m a b =
      let h = held target n f in
      let k = before texts path in
      let x = prefixed (letters texts c.declaration.name) (found texts modules (standings modules (suc d) h.0)) in
      let inside : placed_sums texts own ≡ prefixed k x =
      a ∙ ap (prefixed (before texts (path ++ c.declaration.name ∷ []))) (sym (whole d h.0 n h.2))
      ∙ ap (λ j. prefixed j (found texts modules (standings modules (suc d) h.0))) (before_last texts path c.declaration.name)
      ∙ sym (prefixed_twice k (letters texts c.declaration.name) (found texts modules (standings modules (suc d) h.0))) in
      mapped-append (at_place texts) own rest ∙ ap₂ plus inside b ∙ sym (prefixed_plus k x (plus (comps cs) (inner (suc d) cs)))
      ∙ ap (prefixed k) (later (component_sums texts c) x (comps cs) (inner (suc d) cs) (instance_nothing texts c.declaration.name c.typ target c.declaration.sort e)
      ∙ ap (plus (comps (c ∷ cs))) (sym (one_call (suc d) c cs target h.0 e h.1)))

  run : {path : List ℕ} {m : TypedModule} {cs : List Component} {placed : List Placed} → InFlatOrder design path m cs placed → Runs path cs placed
  run (no_more {path = path}) = (0, λ d h. sym (prefixed_nothing (before texts path)))
  run (one_more {path = path} {m = m} {c = c} {cs = cs} {rest = rest} e later_ones) =
      let r = run later_ones in
      let k = before texts path in (
        r.0,
        λ d h. ap (plus (prefixed k (component_sums texts c))) (r.1 d h) ∙ sym (prefixed_plus k (component_sums texts c) (plus (comps cs) (inner d cs)))
            ∙ ap (prefixed k) (sym (plus_later (component_sums texts c) (comps cs) (inner d cs)) ∙ ap (plus (comps (c ∷ cs))) (sym (no_call d c cs e))),
      )
  run (an_instance {path = path} {m = m} {c = c} {cs = cs} {own = own} {rest = rest} target n e f inside later_ones) =
      let r = run inside in
      let q = run later_ones in
      (suc (r.0 + q.0), λ d h. deep r q d h)
    where
      deep : (r : Runs (path ++ c.declaration.name ∷ []) n.components own) (q : Runs path cs rest) (d : ℕ) → suc (r.0 + q.0) ≤ d
          → placed_sums texts (own ++ rest) ≡ prefixed (before texts path) (plus (comps (c ∷ cs)) (inner d (c ∷ cs)))
      deep r q zero h = absurd (omega (arith, h))
      deep r q (suc d) h =
          let first : r.0 ≤ d = omega (arith, h) in
          let second : q.0 ≤ suc d = omega (arith, h) in
          at_instance path c cs own rest target n e f r q d r.0 q.0 first second (r.1 d first) (q.1 (suc d) second)

  pub from_main : (main : TypedModule) (placed : List Placed) → module_named design design.main ≡ Some main → InFlatOrder design [] main main.components placed
      → (D : ℕ) × ((d : ℕ) → D ≤ d → placed_sums texts placed ≡ found texts modules (of_found (standings modules (suc d)) (named modules design.main)))
  from_main main placed e order =
      let h = held design.main main e in
      let r = run order in (
        r.0,
        λ d l. r.1 d l ∙ prefixed_none (plus (comps main.components) (inner d main.components)) ∙ sym (whole d h.0 main h.2)
            ∙ sym (ap (λ o. found texts modules (of_found (standings modules (suc d)) o)) h.1),
      )

-- Modules

pub record There (modules : List Module) (typed : List TypedModule) (name : ℕ) (n : TypedModule) : Type 0 where
  pub holder : Module
  pub k : ℕ
  pub first : named modules name ≡ Some holder
  pub here : slice_get modules k ≡ Some holder
  pub number : slice_get typed k ≡ Some n

find_there : (modules : List Module) (types : List FirType) (name : ℕ) (n : TypedModule) → find (λ m. m.name == name) (with_types modules types) ≡ Some n → There modules (with_types modules types) name n
find_there [] types name n e = cc
find_there (m ∷ ms) types name n e = by (λ g. find_there ms (drop (length (declarations_of m)) types) name n g) (m.name.id == name) refl e
  where
    rest : List FirType
    rest = drop (length (declarations_of m)) types

    by : (find (λ t. t.name == name) (with_types ms rest) ≡ Some n → There ms (with_types ms rest) name n) → (b : Bool) → (m.name.id == name) ≡ b
        → cond b (Some (record { name = m.name.id; components = map (λ both. record { declaration = both.0; typ = both.1 }) (zip (declarations_of m) types) })) (find (λ t. t.name == name) (with_types ms rest)) ≡ Some n
        → There (m ∷ ms) (with_types (m ∷ ms) types) name n
    by deep true t g = record { holder = m; k = 0; first = ap (λ b. cond b (Some m) (find (λ x. x.name.id == name) ms)) t; here = refl; number = g }
    by deep false t g =
        let d = deep g in
        record { holder = d.holder; k = suc d.k; first = ap (λ b. cond b (Some m) (find (λ x. x.name.id == name) ms)) t ∙ d.first; here = d.here; number = d.number }

pub held_by : (fitted : Fitted) → AreMeasured fitted → IsHeld fitted.checked.resolved.modules (design_of fitted)
held_by fitted same name n e =
    let t = find_there fitted.checked.resolved.modules fitted.declared name n e in
    (t.holder, t.first, same t.k t.holder n t.here t.number)

-- the law of the size stage that all paths are measured
abbrev pub AllPaths : Type 0
AllPaths = (circuit : Circuit) → (measured circuit).depth ≤ 32 → (more : ℕ) → standings_of circuit (more + 33) ≡ standings_of circuit 33

pub measured_placed : AreCounted → AllPaths → (fitted : Fitted) → AreMeasured fitted → (measured fitted.checked.resolved).depth ≤ 32 → (main : TypedModule) (placed : List Placed)
    → module_named (design_of fitted) (design_of fitted).main ≡ Some main → InFlatOrder (design_of fitted) [] main main.components placed
    → placed_sums fitted.checked.resolved.names placed ≡ unsized (measured fitted.checked.resolved).sums
measured_placed counted paths fitted same small main placed e order =
    let circuit = fitted.checked.resolved in
    let r = from_main counted circuit.names (design_of fitted) circuit.modules (held_by fitted same) main placed e order in
    let enough : r.0 ≤ r.0 + 32 = omega arith in
    let deep : suc (r.0 + 32) ≡ r.0 + 33 = omega arith in
    r.1 (r.0 + 32) enough ∙ ap (λ d. found circuit.names circuit.modules (standings_of circuit d)) deep
    ∙ ap (found circuit.names circuit.modules) (paths circuit small r.0)
