-- A circuit whose items are sound has one log.
use Rattle.std.proofs.Common.{◌≡◌, ℕ, suc, List, [], ◌∷◌, ◌++◌, map, length, Some, arith, refl, sym, ap, ◌∙◌, subst}
use Rattle.std.specs.Prelude.{Contains, option_and_then}
use Rattle.std.specs.List.{AllZip}
use Rattle.fir_tree.specs.LeafNames.{Texts}
use Rattle.fir_tree.specs.declared.print.PrintItem.{PrintItem}
use Rattle.fir_tree.specs.declared.scope.Fitted.{Fitted}
use Rattle.fir_meaning.specs.Components.{Design, TypedModule, Component, HasBundles, design_of, module_at, module_named, module_within, component_named, target_in, target_of}
use Rattle.fir_meaning.specs.Loops.{HasNoLoop}
use Rattle.fir_meaning.specs.States.{Inputs}
use Rattle.fir_meaning.proofs.Ports.{at_snoc, inside}
use Rattle.circuit_laws.specs.WellFormed.{IsWellFormed}
use Rattle.settling_laws.proofs.Listing.{has_leaves}
use Rattle.settling_laws.proofs.Reading.{takes_leaves}
use Rattle.print_stop.specs.Printing.{PathItem}
use Rattle.print_stop.specs.RunItems.{InInstances, no_more, no_instance, an_instance, AreItems, item_of, prints_of, own_items}
use Rattle.print_stop.specs.Logs.{IsLogOf}
use Rattle.print_stop.specs.Sound.{IsSound}
use Rattle.print_stop.proofs.Once.{logs_once}
use Rattle.found_items.specs.Finding.{HasItems, nodes_of}

among_first : {A : Type 0} (x : A) (xs : List A) → Contains (x ∷ xs) x
among_first x xs = (0, omega arith, refl)

among_later : {A : Type 0} (z : A) (xs : List A) (x : A) → Contains xs x → Contains (z ∷ xs) x
among_later z xs x (k, below, is) = (suc k, omega (arith, below), is)

zip_append : {A B : Type 0} (P : A → B → Type 0) (xs : List A) (ys : List B) (us : List A) (vs : List B) → AllZip P xs ys → AllZip P us vs → AllZip P (xs ++ us) (ys ++ vs)
zip_append P [] [] us vs all rest = rest
zip_append P [] (z ∷ ys) us vs all rest = absurd all
zip_append P (z ∷ xs) [] us vs all rest = absurd all
zip_append P (z ∷ xs) (w ∷ ys) us vs all rest = (all.0, zip_append P xs ys us vs all.1 rest)

module _ (texts : Texts) (design : Design) (prints : List PrintItem) (has : HasItems texts design prints) (bundles : HasBundles design) where
  abbrev Sounds : List PathItem → Type 0
  Sounds items = (nodes : List (List ℕ)) × AllZip (IsSound design) items nodes

  own_sound : (path : List ℕ) (m : TypedModule) → module_at design path ≡ Some m → (own : List PrintItem) → ((print : PrintItem) → Contains own print → Contains (prints_of design prints m) print)
      → AllZip (IsSound design) (map (item_of texts (length (prints_of design prints m)) path m) own) (map (nodes_of texts) own)
  own_sound path m stands [] within = tt
  own_sound path m stands (p ∷ own) within = (has.sound path m p stands (within p (among_first p own)), own_sound path m stands own (λ q i. within q (among_later p own q i)))

  -- the items of instances
  below_sound : (path : List ℕ) (m : TypedModule) → module_at design path ≡ Some m → {cs : List Component} {items : List PathItem} → InInstances texts design prints path cs items → ((c : Component) → Contains cs c → Contains m.components c) → Sounds items
  below_sound path m stands no_more within = ([], tt)
  below_sound path m stands (no_instance {c} {cs} none rest) within = below_sound path m stands rest (λ d i. within d (among_later c cs d i))
  below_sound path m stands (an_instance {c} {cs} {own} {rest = others} target n sort found inner rest) within =
      let named : component_named m c.declaration.name ≡ Some c = bundles.names path m c stands (within c (among_first c cs)) in
      let makes : target_of m c.declaration.name ≡ Some target = ap (option_and_then (λ (x : Component). target_in x.declaration.sort)) named ∙ sort in
      let there : module_at design (path ++ c.declaration.name ∷ []) ≡ Some n =
      at_snoc design path c.declaration.name ∙ ap (option_and_then (λ x. inside design x c.declaration.name)) stands ∙ ap (option_and_then (module_named design)) makes ∙ found in
      let first = own_sound (path ++ c.declaration.name ∷ []) n there (prints_of design prints n) (λ p i. i) in
      let middle = below_sound (path ++ c.declaration.name ∷ []) n there inner (λ d i. i) in
      let last = below_sound path m stands rest (λ d i. within d (among_later c cs d i)) in (
        (map (nodes_of texts) (prints_of design prints n) ++ middle.0) ++ last.0,
        zip_append (IsSound design) (own_items texts design prints (path ++ c.declaration.name ∷ []) n ++ own) (map (nodes_of texts) (prints_of design prints n) ++ middle.0) others last.0
            (zip_append (IsSound design) (own_items texts design prints (path ++ c.declaration.name ∷ []) n) (map (nodes_of texts) (prints_of design prints n)) own middle.0 first middle.1) last.1,
      )

  pub all_sound : (items : List PathItem) → AreItems texts design prints items → Sounds items
  all_sound items are =
      let stands : module_at design [] ≡ Some are.main = ap (option_and_then (λ x. module_within design x [])) are.found in
      let first = own_sound [] are.main stands (prints_of design prints are.main) (λ p i. i) in
      let rest = below_sound [] are.main stands are.instances (λ d i. i) in (
        map (nodes_of texts) (prints_of design prints are.main) ++ rest.0,
        subst (λ l. AllZip (IsSound design) l (map (nodes_of texts) (prints_of design prints are.main) ++ rest.0)) (sym are.are)
            (zip_append (IsSound design) (own_items texts design prints [] are.main) (map (nodes_of texts) (prints_of design prints are.main)) are.rest rest.0 first rest.1),
      )

pub one_log : (texts : Texts) (fitted : Fitted) (prints : List PrintItem) → IsWellFormed fitted → HasNoLoop (design_of fitted) → HasItems texts (design_of fitted) prints
    → (given : List Inputs) (bytes other : List ℕ) → IsLogOf texts (design_of fitted) prints given bytes → IsLogOf texts (design_of fitted) prints given other → bytes ≡ other
one_log texts fitted prints well none has given bytes other a b =
    let leaves = has_leaves fitted well in
    logs_once texts (design_of fitted) prints leaves.0 well.bundles none leaves.1 (takes_leaves fitted well) (all_sound texts (design_of fitted) prints has well.bundles) given bytes other a b
