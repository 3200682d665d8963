-- The items of a module whose components have been walked.
use Rattle.std.proofs.Common.{◌≡◌, ℕ, zero, suc, ◌+◌, ◌<◌, ◌==◌, true, false, true≢false, is_some, List, [], ◌∷◌, ◌++◌, map, drop, length, Option, Some, None, refl, sym, ap, ap₂, ◌∙◌, subst, arith, append-nil}
use Rattle.std.specs.Prelude.{slice_get, Contains, nat_eq, All}
use Rattle.std.specs.Map.{lookup}
use Rattle.std.specs.List.{AllZip, range_with_len}
use Rattle.std.proofs.lemmas.Grind.{common_steps}
use Rattle.std.proofs.lemmas.Option.{same_Some}
use Rattle.std.proofs.lemmas.List.Elements.{All-nil, All-cons}
use Rattle.fir_types.specs.declared.fir_type.FirType.{FirType, the_lemmas as type_lemmas}
use Rattle.fir_types.specs.declared.fir_type.Shape.TheVariants as shape
use Rattle.fir_types.specs.declared.leaf.TypeLeaf.{TypeLeaf}
use Rattle.fir_types.specs.Leaves.{leaves}
use Rattle.fir_tree.specs.LeafNames.{Texts}
use Rattle.fir_tree.specs.declared.expr.Expr.{Expr}
use Rattle.fir_tree.specs.declared.print.PrintItem.{PrintItem}
use Rattle.fir_tree.specs.declared.scope.Fitted.{Fitted}
use Rattle.item_lines.specs.Formats.{shows}
use Rattle.item_lines.specs.Items.{wire_name, argument_name, number_in}
use Rattle.fir_meaning.specs.Components.{Design, TypedModule, Component, design_of, module_at, component_named, target_in}
use Rattle.net_of_circuit.specs.FlatOrder.{Placed, InFlatOrder, no_more, one_more, an_instance, Standing, all_leaves}
use Rattle.circuit_laws.proofs.Pieces.{found_in}
use Rattle.print_stop.specs.RunItems.{item_of, prints_of, own_items}
use Rattle.print_stop.specs.RunItems as items
use Rattle.print_stop.specs.Sound.{IsArgumentNode, IsSound}
use Rattle.found_items.specs.declared.found.ItemAt.{ItemAt}
use Rattle.found_items.specs.declared.walk.Walk.{Walk}
use Rattle.found_items.specs.Finding.{item_texts, HasItems, IsLeafNumber, IsFound}
use Rattle.found_items.specs.Walking.{Going, Visited, HasFirsts, FirstLeaf, HasNames, IsItemAt, AreFound, CanFind}
use Rattle.found_items.proofs.Lists.{among_at, place_of, among_first, among_later, none_among, zip_append}

-- a component of one leaf, which stands in its module
pub record IsOneLeaf (m : TypedModule) (name : ℕ) : Type 0 where
  pub c : Component
  pub named : c.declaration.name ≡ name
  pub declared : component_named m c.declaration.name ≡ Some c
  pub own : target_in c.declaration.sort ≡ None
  pub leaf : TypeLeaf
  pub first : slice_get (leaves c.typ) 0 ≡ Some leaf
  pub bare : leaf.path ≡ []

bit_leaf : (typ : FirType) (w : Option ℕ) → typ.shape ≡ shape.Unsigned w → leaves typ ≡ record { path = []; flip = false; typ = typ } ∷ []
bit_leaf typ w is = grind (arith, common_steps, type_lemmas)

argument_leaf : (m : TypedModule) (name : ℕ) (e : Expr) → IsArgumentNode m name e → IsOneLeaf m name
argument_leaf m name e h = record {
  c = h.node;
  named = h.named;
  declared = h.declared;
  own = ap target_in h.sort;
  leaf = h.leaf;
  first = ap (λ ls. slice_get ls 0) h.only;
  bare = h.path;
}

module _ (texts : Texts) (m : TypedModule) (number : ℕ) where
  argument_leaves : (js : List ℕ) (es : List Expr) → AllZip (IsArgumentNode m) (map (λ j. number_in texts (argument_name number j)) js) es
      → (text : List ℕ) → Contains (map (argument_name number) js) text → IsOneLeaf m (number_in texts text)
  argument_leaves [] es all text i = absurd (none_among text i)
  argument_leaves (j ∷ js) [] all text i = absurd all
  argument_leaves (j ∷ js) (e ∷ es) all text i = by (place_of (argument_name number j ∷ map (argument_name number) js) text i) (argument_leaves js es all.1 text)
    where
      by : (k : ℕ) × (slice_get (argument_name number j ∷ map (argument_name number) js) k ≡ Some text) → (Contains (map (argument_name number) js) text → IsOneLeaf m (number_in texts text)) → IsOneLeaf m (number_in texts text)
      by (zero, e') later = subst (λ (t : List ℕ). IsOneLeaf m (number_in texts t)) (same_Some (argument_name number j) text e') (argument_leaf m (number_in texts (argument_name number j)) e all.0)
      by (suc k, e') later = later (among_at (map (argument_name number) js) k text e')

module _ (texts : Texts) (design : Design) (prints : List PrintItem) (has : HasItems texts design prints) (path : List ℕ) (m : TypedModule) (stands : module_at design path ≡ Some m) where
  -- each name of an item is that of such a component
  pub item_leaf : (print : PrintItem) → Contains (prints_of design prints m) print → (text : List ℕ) → Contains (item_texts print) text → IsOneLeaf m (number_in texts text)
  item_leaf print among text i = by (place_of (item_texts print) text i)
    where
      sound : IsSound design (item_of texts (length (prints_of design prints m)) path m print) (map (λ j. number_in texts (argument_name print.number j)) (range_with_len 0 (shows print.pieces)))
      sound = has.sound path m print stands among

      same : sound.m ≡ m
      same = same_Some sound.m m (sym sound.stands ∙ stands)

      wire_leaf : IsOneLeaf sound.m (number_in texts (wire_name print.number))
      wire_leaf =
          let only = bit_leaf sound.wire.typ (Some 1) sound.is.one_bit in
          record {
            c = sound.wire;
            named = sound.named;
            declared = sound.is.declared;
            own = ap target_in sound.is.sort;
            leaf = record { path = []; flip = false; typ = sound.wire.typ };
            first = ap (λ ls. slice_get ls 0) only;
            bare = refl;
          }

      by : (k : ℕ) × (slice_get (item_texts print) k ≡ Some text) → IsOneLeaf m (number_in texts text)
      by (zero, e) = subst (λ (t : List ℕ). IsOneLeaf m (number_in texts t)) (same_Some (wire_name print.number) text e) (subst (λ (x : TypedModule). IsOneLeaf x (number_in texts (wire_name print.number))) same wire_leaf)
      by (suc k, e) = subst (λ (x : TypedModule). IsOneLeaf x (number_in texts text)) same
          (argument_leaves texts sound.m print.number (range_with_len 0 (shows print.pieces)) _ sound.arguments text (among_at (map (argument_name print.number) (range_with_len 0 (shows print.pieces))) k text e))

  module _ (all : List Standing) (firsts : List (ℕ × ℕ)) (of : HasFirsts all path m m.components firsts) where
    pub leaf_number : (name : ℕ) → IsOneLeaf m name → (x : ℕ) × (lookup (nat_eq name) firsts ≡ Some x) × IsLeafNumber all path name x
    leaf_number name one = by (lookup (nat_eq name) firsts) refl (subst (λ (n : ℕ). FirstLeaf all path m one.c (lookup (nat_eq n) firsts)) one.named (of one.c (found_in (λ (c : Component). c.declaration.name == one.c.declaration.name) m.components one.c one.declared).0 one.own))
      where
        by : (o : Option ℕ) → lookup (nat_eq name) firsts ≡ o → FirstLeaf all path m one.c o → (x : ℕ) × (lookup (nat_eq name) firsts ≡ Some x) × IsLeafNumber all path name x
        by None e h = absurd h
        by (Some x) e h = (
          x,
          e,
          record {
            leaf = (record { path = path; m = m; c = one.c }, one.leaf);
            there = h.is one.leaf one.first;
            is = ap₂ (λ n w. record { path = path; component = n; way = w }) one.named one.bare;
          },
        )

    leaf_numbers : (ts : List (List ℕ)) (xs : List ℕ) → ((text : List ℕ) → Contains ts text → IsOneLeaf m (number_in texts text)) → AllZip (λ text x. lookup (nat_eq (number_in texts text)) firsts ≡ Some x) ts xs
        → AllZip (λ text x. IsLeafNumber all path (number_in texts text) x) ts xs
    leaf_numbers [] [] one zip = tt
    leaf_numbers [] (x ∷ xs) one zip = absurd zip
    leaf_numbers (t ∷ ts) [] one zip = absurd zip
    leaf_numbers (t ∷ ts) (x ∷ xs) one zip =
        let r = leaf_number (number_in texts t) (one t (among_first t ts)) in
        (subst (IsLeafNumber all path (number_in texts t)) (same_Some r.0 x (sym r.1 ∙ zip.0)) r.2, leaf_numbers ts xs (λ text i. one text (among_later t ts text i)) zip.1)

    is_found : (number : ℕ) (print : PrintItem) (found : ItemAt) → slice_get prints number ≡ Some print → Contains (prints_of design prints m) print → IsItemAt texts prints firsts number found
        → IsFound texts design prints all (item_of texts (length (prints_of design prints m)) path m print) found
    is_found number print found there among h =
        let same : h.print ≡ print = same_Some h.print print (sym h.there ∙ there) in
        record {
          print = print;
          there = ap (slice_get prints) h.item ∙ there;
          of = record { stop = refl; pieces = refl };
          wire = refl;
          sound = has.sound path m print stands among;
          leaves = leaf_numbers (item_texts print) found.leaves (item_leaf print among) (subst (λ (p : PrintItem). AreFound texts firsts p found.leaves) same h.leaves);
        }

    own_found : (numbers : List ℕ) (own : List PrintItem) (founds : List ItemAt) → ((print : PrintItem) → Contains own print → Contains (prints_of design prints m) print)
        → AllZip (λ number print. slice_get prints number ≡ Some print) numbers own → AllZip (IsItemAt texts prints firsts) numbers founds
        → AllZip (IsFound texts design prints all) (map (item_of texts (length (prints_of design prints m)) path m) own) founds
    own_found [] [] [] within are h = tt
    own_found [] [] (f ∷ founds) within are h = absurd h
    own_found [] (p ∷ own) founds within are h = absurd are
    own_found (n ∷ numbers) [] founds within are h = absurd are
    own_found (n ∷ numbers) (p ∷ own) [] within are h = absurd h
    own_found (n ∷ numbers) (p ∷ own) (f ∷ founds) within are h =
        (is_found n p f are.0 (within p (among_first p own)) h.0, own_found numbers own founds (λ print i. within print (among_later p own print i)) are.1 h.1)

    pub all_own : (numbers : List ℕ) (founds : List ItemAt) → AllZip (λ number print. slice_get prints number ≡ Some print) numbers (prints_of design prints m) → AllZip (IsItemAt texts prints firsts) numbers founds
        → AllZip (IsFound texts design prints all) (own_items texts design prints path m) founds
    all_own numbers founds are h = own_found numbers (prints_of design prints m) founds (λ print i. i) are h

  module _ (firsts : List (ℕ × ℕ)) (names : HasNames m.components firsts) where
    has_number : (name : ℕ) → IsOneLeaf m name → (x : ℕ) × (lookup (nat_eq name) firsts ≡ Some x)
    has_number name one = by (lookup (nat_eq name) firsts) refl
        (subst (λ (n : ℕ). is_some (lookup (nat_eq n) firsts) ≡ true) one.named (names one.c (found_in (λ (c : Component). c.declaration.name == one.c.declaration.name) m.components one.c one.declared).0 one.own).0)
      where
        by : (o : Option ℕ) → lookup (nat_eq name) firsts ≡ o → is_some o ≡ true → (x : ℕ) × (lookup (nat_eq name) firsts ≡ Some x)
        by None e h = absurd (true≢false (sym h))
        by (Some x) e h = (x, e)

    is_small : (name : ℕ) → IsOneLeaf m name → name < 4294967296
    is_small name one = subst (λ (n : ℕ). n < 4294967296) one.named (names one.c (found_in (λ (c : Component). c.declaration.name == one.c.declaration.name) m.components one.c one.declared).0 one.own).1

    can_find : (print : PrintItem) → Contains (prints_of design prints m) print → CanFind texts firsts print
    can_find print among = record {
      number = λ text i. has_number (number_in texts text) (item_leaf print among text i);
      small = λ text i. is_small (number_in texts text) (item_leaf print among text i);
    }

    abbrev Can : ℕ → Type 0
    Can number = (print : PrintItem) × (slice_get prints number ≡ Some print) × CanFind texts firsts print

    pub all_can : (numbers : List ℕ) (own : List PrintItem) → ((print : PrintItem) → Contains own print → Contains (prints_of design prints m) print) → AllZip (λ number print. slice_get prints number ≡ Some print) numbers own
        → All Can numbers
    all_can [] own within are = All-nil Can
    all_can (n ∷ numbers) [] within are = absurd are
    all_can (n ∷ numbers) (p ∷ own) within are =
        All-cons Can n numbers (p, are.0, can_find p (within p (among_first p own))) (all_can numbers own (λ print i. within print (among_later p own print i)) are.1)

-- behind the last component

pub nothing_left : {design : Design} {path : List ℕ} {m : TypedModule} {cs : List Component} {placed : List Placed} → cs ≡ [] → InFlatOrder design path m cs placed → placed ≡ []
nothing_left e no_more = refl
nothing_left e (one_more h f) = absurd cc
nothing_left e (an_instance target n h found own f) = absurd cc

module _ (fitted : Fitted) (all : List Standing) (path : List ℕ) (m : TypedModule) (placed : List Placed) (first done : ℕ) (walk : Walk) (going : Going fitted all path m placed first done walk) (none : drop done m.components ≡ []) where
  pub all_counted : walk.next ≡ first + length (all_leaves placed)
  all_counted = going.counted ∙ ap (λ ps. first + length (all_leaves ps)) (sym (going.split ∙ ap (λ ps. going.front ++ ps) (nothing_left none going.order) ∙ append-nil going.front))

  pub visited : (own founds : List ItemAt) → AllZip (IsFound fitted.checked.resolved.names (design_of fitted) fitted.checked.resolved.prints all) (own_items fitted.checked.resolved.names (design_of fitted) fitted.checked.resolved.prints path m) own
      → founds ≡ own ++ walk.below.items → Visited fitted all path m founds
  visited own founds are e = record {
    rest = going.inner;
    instances = subst (λ l. items.InInstances fitted.checked.resolved.names (design_of fitted) fitted.checked.resolved.prints path m.components l) (append-nil going.inner)
        (going.instances [] (subst (λ cs. items.InInstances fitted.checked.resolved.names (design_of fitted) fitted.checked.resolved.prints path cs []) (sym none) items.no_more));
    are = subst (AllZip (IsFound fitted.checked.resolved.names (design_of fitted) fitted.checked.resolved.prints all) _) (sym e) (zip_append _ _ own going.inner walk.below.items are going.found);
  }
