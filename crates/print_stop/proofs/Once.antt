-- A circuit has one list of items, and one log.
use Rattle.std.proofs.Common.{◌≡◌, ℕ, List, [], ◌∷◌, ◌++◌, Option, Some, None, refl, sym, ap, ap₂, ◌∙◌, subst}
use Rattle.std.specs.List.{AllZip}
use Rattle.fir_tree.specs.declared.print.PrintItem.{PrintItem}
use Rattle.fir_tree.specs.LeafNames.{Texts}
use Rattle.fir_meaning.specs.Components.{Design, TypedModule, Component, FlatLeaf, HasBundles, module_named, target_in}
use Rattle.fir_meaning.specs.States.{Inputs, first_state}
use Rattle.fir_meaning.specs.Loops.{HasNoLoop, HasLeaves, TakesLeaves}
use Rattle.fir_meaning.proofs.Settling.{state_itself}
use Rattle.print_stop.specs.Printing.{PathItem, Logs, with_feed}
use Rattle.print_stop.specs.RunItems.{own_items, InInstances, no_more, no_instance, an_instance, AreItems}
use Rattle.print_stop.specs.Logs.{IsLogOf}
use Rattle.print_stop.specs.Sound.{IsSound}
use Rattle.print_stop.proofs.Leaves.{same_some}
use Rattle.print_stop.proofs.Agreeing.{logs_same}

none_some : (o : Option ℕ) (n : ℕ) → o ≡ None → o ≡ Some n → ⊥
none_some o n e f = let clash : ◌≡◌ {A = Option ℕ} None (Some n) = sym e ∙ f in cc

module _ (texts : Texts) (design : Design) (prints : List PrintItem) where
  instances_same : {path : List ℕ} {cs : List Component} {xs ys : List PathItem} → InInstances texts design prints path cs xs → InInstances texts design prints path cs ys → xs ≡ ys
  instances_same no_more no_more = refl
  instances_same (no_instance none rest) (no_instance none' rest') = instances_same rest rest'
  instances_same (no_instance {c} none rest) (an_instance target n is found own rest') = absurd (none_some (target_in c.declaration.sort) target none is)
  instances_same (an_instance {c} target n is found own rest) (no_instance none rest') = absurd (none_some (target_in c.declaration.sort) target none is)
  instances_same {path} (an_instance {c} {own = xs} target n is found own rest) (an_instance {own = ys} target' n' is' found' own' rest') =
      let same : target ≡ target' = same_some target target' (sym is ∙ is') in
      let module_is : n' ≡ n = same_some n' n (sym found' ∙ sym (ap (module_named design) same) ∙ found) in
      let there : InInstances texts design prints (path ++ c.declaration.name ∷ []) n.components ys = subst (λ (k : TypedModule). InInstances texts design prints (path ++ c.declaration.name ∷ []) k.components ys) module_is own' in
      let inner : xs ≡ ys = instances_same own there in
      ap₂ (λ (a b : List PathItem). a ++ b)
      (ap₂ (λ (k : TypedModule) (a : List PathItem). own_items texts design prints (path ++ c.declaration.name ∷ []) k ++ a) (sym module_is) inner) (instances_same rest rest')

  pub items_same : (xs ys : List PathItem) → AreItems texts design prints xs → AreItems texts design prints ys → xs ≡ ys
  items_same xs ys a b =
      let main : b.main ≡ a.main = same_some b.main a.main (sym b.found ∙ a.found) in
      let there = subst (λ (k : TypedModule). InInstances texts design prints [] k.components b.rest) main b.instances in
      a.are ∙ ap₂ (λ (k : TypedModule) (r : List PathItem). own_items texts design prints [] k ++ r) (sym main) (instances_same a.instances there) ∙ sym b.are

  pub logs_once : (all : List FlatLeaf) → HasBundles design → HasNoLoop design → HasLeaves design all → TakesLeaves design
      → ((items : List PathItem) → AreItems texts design prints items → (nodes : List (List ℕ)) × AllZip (IsSound design) items nodes)
      → (given : List Inputs) (bytes other : List ℕ) → IsLogOf texts design prints given bytes → IsLogOf texts design prints given other → bytes ≡ other
  logs_once all has none leaves_of takes sound given bytes other a b =
      let same : b.items ≡ a.items = items_same b.items a.items b.are a.are in
      let there = subst (λ (is : List PathItem). Logs design is 0 first_state given b.printed b.line) same b.logs in
      let nodes = sound a.items a.are in
      let both = logs_same design all has none leaves_of takes a.items nodes.0 nodes.1 (state_itself design first_state) a.logs there in
      a.is ∙ ap₂ (λ (p l : List ℕ). with_feed p ++ l) both.0 both.1 ∙ sym b.is
