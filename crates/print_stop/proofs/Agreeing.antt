-- Two logs of the same items from the same state are the same.
use Rattle.std.proofs.Common.{◌≡◌, ℕ, List, [], ◌∷◌, ◌++◌, map, Option, Some, None, ℤ, refl, sym, ap, ap₂, ◌∙◌, subst, ◌+◌}
use Rattle.std.specs.List.{AllZip}
use Rattle.bit_words.specs.declared.value.Value.{Value}
use Rattle.fir_tree.specs.declared.expr.Expr.{Expr}
use Rattle.fir_meaning.specs.Components.{Design, TypedModule, FlatLeaf, HasBundles, module_at}
use Rattle.fir_meaning.specs.Values.{Valuation, scene_of, value}
use Rattle.fir_meaning.specs.States.{State, Inputs, Settled, SameState, IsLeafOf, next}
use Rattle.fir_meaning.specs.Loops.{HasNoLoop, HasLeaves, TakesLeaves}
use Rattle.fir_meaning.proofs.Settling.{at, settled_same}
use Rattle.fir_meaning.proofs.Nexts.{next_same}
use Rattle.print_stop.specs.Printed.{printed, stopped_line}
use Rattle.print_stop.specs.Printing.{PathItem, Enabled, scene_at, Prints, prints, keeps_still, is_stop, Stops, InCycle, no_item, a_stop, no_stop, Logs, ends, stops, goes_on}
use Rattle.print_stop.specs.Sound.{IsArgumentNode, IsSound, leaf_at}
use Rattle.print_stop.proofs.Leaves.{same_some, same_values, the_module, wire_is_leaf, enabled_by_wire, node_is_leaf, node_integers}

same_singles : (vs ws : List Value) → map (λ (v : Value). v ∷ []) vs ≡ map (λ (v : Value). v ∷ []) ws → vs ≡ ws
same_singles [] [] e = refl
same_singles [] (w ∷ ws) e = cc
same_singles (v ∷ vs) [] e = cc
same_singles (v ∷ vs) (w ∷ ws) e = ap₂ (λ (x : Value) (xs : List Value). x ∷ xs) (ap (first v) e) (same_singles vs ws (ap rest e))
  where
    rest : List (List Value) → List (List Value)
    rest [] = []
    rest (x ∷ xs) = xs

    first : Value → List (List Value) → Value
    first other [] = other
    first other ([] ∷ xs) = other
    first other ((x ∷ y) ∷ xs) = x

module _ (design : Design) (given : Inputs) where
  -- a valuation that agrees with another on all leaves
  record Alike (s t : State) (rho other : Valuation) : Type 0 where
    left : Settled design s given rho
    right : Settled design t given other
    every : (x : FlatLeaf) → IsLeafOf design x → at rho x ≡ at other x

  turned : {s t : State} {rho other : Valuation} → Alike s t rho other → Alike t s other rho
  turned a = record { left = a.right; right = a.left; every = λ x l. sym (a.every x l) }

  module _ {s t : State} {rho other : Valuation} (alike : Alike s t rho other) where
    module _ {item : PathItem} {nodes : List ℕ} (sound : IsSound design item nodes) where
      enabled_too : Enabled (scene_at sound.m item rho) item.wire item.behind → Enabled (scene_at sound.m item other) item.wire item.behind
      enabled_too e = (enabled_by_wire sound t given other alike.right).0 (sym (alike.every (leaf_at item.path item.wire) (wire_is_leaf sound)) ∙ (enabled_by_wire sound s given rho alike.left).1 e)

      enabled_at : (m : TypedModule) → module_at design item.path ≡ Some m → Enabled (scene_at m item rho) item.wire item.behind → Enabled (scene_at sound.m item other) item.wire item.behind
      enabled_at m there e = enabled_too (subst (λ (k : TypedModule). Enabled (scene_at k item rho) item.wire item.behind) (the_module sound m there) e)

      values_too : (names : List ℕ) (es : List Expr) → AllZip (IsArgumentNode sound.m) names es → map (λ e. value e (scene_at sound.m item rho)) es ≡ map (λ e. value e (scene_at sound.m item other)) es
      values_too [] [] all = refl
      values_too [] (e ∷ es) all = absurd all
      values_too (n ∷ names) [] all = absurd all
      values_too (n ∷ names) (e ∷ es) all =
          let first : value e (scene_at sound.m item rho) ≡ value e (scene_at sound.m item other) = same_values _ _ _ (all.0.shape _) (all.0.shape _)
          (node_integers item.path sound.stands all.0 s given rho alike.left ∙ ap (λ (k : ℤ). k ∷ []) (alike.every (leaf_at item.path n) (node_is_leaf item.path sound.stands all.0))
          ∙ sym (node_integers item.path sound.stands all.0 t given other alike.right)) in
          ap₂ (λ (x : List Value) (xs : List (List Value)). x ∷ xs) first (values_too names es all.1)

      stops_too : (code : ℕ) → Stops design rho item code → Stops design other item code
      stops_too code h = record { m = sound.m; stands = sound.stands; stop = h.stop; enabled = enabled_at h.m h.stands h.enabled }

      values_at : (m : TypedModule) (r : Valuation) (vs : List Value) → module_at design item.path ≡ Some m → map (λ e. value e (scene_at m item r)) item.arguments ≡ map (λ v. v ∷ []) vs
          → map (λ e. value e (scene_at sound.m item r)) item.arguments ≡ map (λ v. v ∷ []) vs
      values_at m r vs there e = subst (λ (k : TypedModule). map (λ x. value x (scene_at k item r)) item.arguments ≡ map (λ v. v ∷ []) vs) (the_module sound m there) e

  none_some : (o : Option ℕ) (n : ℕ) → o ≡ None → o ≡ Some n → ⊥
  none_some o n e f = let g : ◌≡◌ {A = Option ℕ} None (Some n) = sym e ∙ f in cc

  module _ {s t : State} {rho other : Valuation} (alike : Alike s t rho other) where
    prints_same : {item : PathItem} {nodes : List ℕ} → IsSound design item nodes → {b c : List ℕ} → Prints design rho item b → Prints design other item c → b ≡ c
    prints_same {item} {nodes} sound (prints m vs there none enabled are) (prints m' ws there' none' enabled' are') =
        ap (printed item.pieces) (same_singles vs ws (sym (values_at alike sound m rho vs there are) ∙ values_too alike sound nodes item.arguments sound.arguments ∙ values_at alike sound m' other ws there' are'))
    prints_same {item} sound (prints m vs there none enabled are) (keeps_still m' there' not) =
        absurd (not (subst (λ (k : TypedModule). Enabled (scene_at k item other) item.wire item.behind) (sym (the_module sound m' there')) (enabled_at alike sound m there enabled)))
    prints_same {item} sound (prints m vs there none enabled are) (is_stop code is) = absurd (none_some item.stop code none is)
    prints_same {item} sound (keeps_still m there not) (prints m' ws there' none' enabled' are') =
        absurd (not (subst (λ (k : TypedModule). Enabled (scene_at k item rho) item.wire item.behind) (sym (the_module sound m there)) (enabled_at (turned alike) sound m' there' enabled')))
    prints_same sound (keeps_still m there not) (keeps_still m' there' not') = refl
    prints_same sound (keeps_still m there not) (is_stop code is) = refl
    prints_same {item} sound (is_stop code is) (prints m' ws there' none' enabled' are') = absurd (none_some item.stop code none' is)
    prints_same sound (is_stop code is) (keeps_still m' there' not') = refl
    prints_same sound (is_stop code is) (is_stop code' is') = refl

    cycle_same : (items : List PathItem) (nodes : List (List ℕ)) → AllZip (IsSound design) items nodes → {b c : List ℕ} {o p : Option ℕ} → InCycle design rho items b o → InCycle design other items c p → (b ≡ c) × (o ≡ p)
    cycle_same [] nodes all no_item no_item = (refl, refl)
    cycle_same (item ∷ items) [] all x y = absurd all
    cycle_same (item ∷ items) (ns ∷ nodes) all (a_stop {code} h later) (a_stop {code = code'} h' later') = ((cycle_same items nodes all.1 later later').0, sym h.stop ∙ h'.stop)
    cycle_same (item ∷ items) (ns ∷ nodes) all (a_stop {code} h later) (no_stop none p later') = absurd (none code (stops_too alike all.0 code h))
    cycle_same (item ∷ items) (ns ∷ nodes) all (no_stop none p later) (a_stop {code} h later') = absurd (none code (stops_too (turned alike) all.0 code h))
    cycle_same (item ∷ items) (ns ∷ nodes) all (no_stop none p later) (no_stop none' p' later') =
        let rest = cycle_same items nodes all.1 later later' in
        (ap₂ (λ (x y : List ℕ). x ++ y) (prints_same all.0 p p') rest.0, rest.1)

module _ (design : Design) (all : List FlatLeaf) (has : HasBundles design) (none : HasNoLoop design) (leaves_of : HasLeaves design all) (takes : TakesLeaves design)
    (items : List PathItem) (nodes : List (List ℕ)) (sound : AllZip (IsSound design) items nodes) where
  pub logs_same : {cycle : ℕ} {s t : State} {given : List Inputs} {b c l k : List ℕ} → SameState design s t → Logs design items cycle s given b l → Logs design items cycle t given c k → (b ≡ c) × (l ≡ k)
  logs_same kept ends ends = (refl, refl)
  logs_same {cycle} {s} {t} kept (stops {given} {code} rho settled within) (stops {code = code'} other settled' within') =
      let every = settled_same design all has none leaves_of s t given rho other settled settled' kept in
      let alike : Alike design given s t rho other = record { left = settled; right = settled'; every = every } in
      let both = cycle_same design given alike items nodes sound within within' in
      (both.0, ap (stopped_line cycle) (same_some code code' both.1))
  logs_same {cycle} {s} {t} kept (stops {given} {code} rho settled within) (goes_on other settled' within' later) =
      let every = settled_same design all has none leaves_of s t given rho other settled settled' kept in
      let alike : Alike design given s t rho other = record { left = settled; right = settled'; every = every } in
      let both = cycle_same design given alike items nodes sound within within' in
      let clash : ◌≡◌ {A = Option ℕ} (Some code) None = both.1 in cc
  logs_same {cycle} {s} {t} kept (goes_on {given} rho settled within later) (stops {code = code'} other settled' within') =
      let every = settled_same design all has none leaves_of s t given rho other settled settled' kept in
      let alike : Alike design given s t rho other = record { left = settled; right = settled'; every = every } in
      let both = cycle_same design given alike items nodes sound within within' in
      let clash : ◌≡◌ {A = Option ℕ} None (Some code') = both.1 in cc
  logs_same {cycle} {s} {t} kept (goes_on {given} rho settled within later) (goes_on other settled' within' later') =
      let every = settled_same design all has none leaves_of s t given rho other settled settled' kept in
      let alike : Alike design given s t rho other = record { left = settled; right = settled'; every = every } in
      let both = cycle_same design given alike items nodes sound within within' in
      let rest = logs_same (next_same design has takes s t rho other kept every) later later' in
      (ap₂ (λ (x y : List ℕ). x ++ y) both.0 rest.0, rest.1)
