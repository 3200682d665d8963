-- There are items with their leaves.
use Rattle.std.proofs.Common.{◌≡◌, ℕ, zero, suc, List, [], ◌∷◌, ◌++◌, Bool, true, false, map, length, Some, cond, refl, ap, ap₂, ◌∙◌, subst, arith}
use Rattle.std.specs.Prelude.{Contains, slice_get, option_and_then}
use Rattle.std.specs.List.{AllZip, filter}
use Rattle.std.proofs.lemmas.Option.{same_Some, slice_get-get_or}
use Rattle.fir_types.specs.declared.leaf.TypeLeaf.{TypeLeaf}
use Rattle.fir_types.specs.Leaves.{leaves}
use Rattle.fir_tree.specs.LeafNames.{Texts}
use Rattle.fir_tree.specs.declared.print.PrintItem.{PrintItem}
use Rattle.item_lines.specs.Items.{number_in}
use Rattle.fir_meaning.specs.Components.{Design, TypedModule, Component, module_at, module_named, module_within, component_named, target_in, target_of}
use Rattle.fir_meaning.proofs.Ports.{at_snoc, inside}
use Rattle.net_of_circuit.specs.FlatOrder.{Placed, InFlatOrder, no_more, one_more, an_instance, Standing, all_leaves}
use Rattle.net_laws.specs.Serves.{Serves}
use Rattle.print_stop.specs.Printing.{PathItem}
use Rattle.print_stop.specs.RunItems.{InInstances, AreItems, item_of, prints_of, own_items}
use Rattle.print_stop.specs.RunItems as items
use Rattle.ground_net.specs.declared.net.Net.{Net}
use Rattle.found_items.specs.declared.found.ItemAt.{ItemAt}
use Rattle.found_items.specs.Finding.{HasItems, IsFound, IsLeafNumber, item_texts}
use Rattle.found_items.proofs.Ending.{IsOneLeaf, item_leaf}

among_first : {A : Type 0} (x : A) (xs : List A) → Contains (x ∷ xs) x
among_first x xs = (0, omega arith, refl)

among_later : {A : Type 0} (z : A) (xs : List A) (x : A) → Contains xs x → Contains (z ∷ xs) x
among_later z xs x (k, below, is) = (suc k, omega (arith, below), is)

place_of : {A : Type 0} (xs : List A) (x : A) → Contains xs x → (k : ℕ) × (slice_get xs k ≡ Some x)
place_of xs x (k, below, is) = (k, slice_get-get_or xs k x below ∙ ap Some is)

zip_append : {A B : Type 0} (P : A → B → Type 0) (xs : List A) (ys : List B) (us : List A) (vs : List B) → AllZip P xs ys → AllZip P us vs → AllZip P (xs ++ us) (ys ++ vs)
zip_append P [] [] us vs all rest = rest
zip_append P [] (z ∷ ys) us vs all rest = absurd all
zip_append P (z ∷ xs) [] us vs all rest = absurd all
zip_append P (z ∷ xs) (w ∷ ys) us vs all rest = (all.0, zip_append P xs ys us vs all.1 rest)

-- what a filter keeps is of the list
kept_among : (f : PrintItem → Bool) (xs : List PrintItem) (p : PrintItem) → Contains (filter f xs) p → Contains xs p
kept_among f [] p i = i
kept_among f (x ∷ xs) p i = by (f x) i (kept_among f xs p)
  where
    by : (b : Bool) → Contains (cond b (x ∷ filter f xs) (filter f xs)) p → (Contains (filter f xs) p → Contains xs p) → Contains (x ∷ xs) p
    by false h later = among_later x xs p (later h)
    by true h later = first (place_of (x ∷ filter f xs) p h) later
      where
        first : (k : ℕ) × (slice_get (x ∷ filter f xs) k ≡ Some p) → (Contains (filter f xs) p → Contains xs p) → Contains (x ∷ xs) p
        first (zero, e) later = subst (Contains (x ∷ xs)) (same_Some x p e) (among_first x xs)
        first (suc k, e) later = among_later x xs p (later (at (filter f xs) k e))
          where
            at : (ys : List PrintItem) (k : ℕ) → slice_get ys k ≡ Some p → Contains ys p
            at [] k e = absurd cc
            at (y ∷ ys) zero e = subst (Contains (y ∷ ys)) (same_Some y p e) (among_first y ys)
            at (y ∷ ys) (suc k) e = among_later y ys p (at ys k e)

module _ (texts : Texts) (design : Design) (net : Net) (serves : Serves texts design net) (prints : List PrintItem) (has : HasItems texts design prints) where
  abbrev all : List Standing
  all = all_leaves serves.of.placed

  module _ (path : List ℕ) (m : TypedModule) (stands : module_at design path ≡ Some m) where
    leaf_at_name : (name : ℕ) → IsOneLeaf m name → (x : ℕ) × IsLeafNumber all path name x
    leaf_at_name name one =
        let listed : Contains (leaves one.c.typ) one.leaf = first_of (leaves one.c.typ) one.leaf one.first in
        let at = serves.lists.own path m one.c one.leaf (record { reached = stands; declared = one.declared; listed = listed }) one.own in
        (at.0, record { leaf = (record { path = path; m = m; c = one.c }, one.leaf); there = at.1; is = ap₂ (λ n w. record { path = path; component = n; way = w }) one.named one.bare })
      where
        first_of : (ls : List TypeLeaf) (l : TypeLeaf) → slice_get ls 0 ≡ Some l → Contains ls l
        first_of [] l e = absurd cc
        first_of (x ∷ ls) l e = subst (Contains (x ∷ ls)) (same_Some x l e) (among_first x ls)

    numbers : (ts : List (List ℕ)) → ((text : List ℕ) → Contains ts text → IsOneLeaf m (number_in texts text)) → (xs : List ℕ) × AllZip (λ text x. IsLeafNumber all path (number_in texts text) x) ts xs
    numbers [] one = ([], tt)
    numbers (t ∷ ts) one =
        let first = leaf_at_name (number_in texts t) (one t (among_first t ts)) in
        let rest = numbers ts (λ text i. one text (among_later t ts text i)) in
        (first.0 ∷ rest.0, (first.1, rest.1))

    own_found : (own : List PrintItem) → ((print : PrintItem) → Contains own print → Contains (prints_of design prints m) print)
        → (found : List ItemAt) × AllZip (IsFound texts design prints all) (map (item_of texts (length (prints_of design prints m)) path m) own) found
    own_found [] within = ([], tt)
    own_found (p ∷ own) within =
        let mine = within p (among_first p own) in
        let at = place_of prints p (kept_among _ prints p mine) in
        let xs = numbers (item_texts p) (item_leaf texts design prints has path m stands p mine) in
        let rest = own_found own (λ q i. within q (among_later p own q i)) in
        let one : ItemAt = record { item = at.0; leaves = xs.0 } in
        (one ∷ rest.0, (record { print = p; there = at.1; of = record { stop = refl; pieces = refl }; wire = refl; sound = has.sound path m p stands mine; leaves = xs.1 }, rest.1))

  record Below (path : List ℕ) (cs : List Component) : Type 0 where
    rest : List PathItem
    instances : InInstances texts design prints path cs rest
    found : List ItemAt
    are : AllZip (IsFound texts design prints all) rest found

  below : (path : List ℕ) (m : TypedModule) → module_at design path ≡ Some m → {cs : List Component} {placed : List Placed} → InFlatOrder design path m cs placed → ((c : Component) → Contains cs c → Contains m.components c) → Below path cs
  below path m stands no_more within = record { rest = []; instances = items.no_more; found = []; are = tt }
  below path m stands (one_more {c = c} {cs = cs} none order) within =
      let r = below path m stands order (λ d i. within d (among_later c cs d i)) in
      record { rest = r.rest; instances = items.no_instance none r.instances; found = r.found; are = r.are }
  below path m stands (an_instance {c = c} {cs = cs} target n sort named inner order) within =
      let itself : component_named m c.declaration.name ≡ Some c = serves.has.names path m c stands (within c (among_first c cs)) in
      let makes : target_of m c.declaration.name ≡ Some target = ap (option_and_then (λ (x : Component). target_in x.declaration.sort)) itself ∙ sort in
      let there : module_at design (path ++ c.declaration.name ∷ []) ≡ Some n =
      at_snoc design path c.declaration.name ∙ ap (option_and_then (λ x. inside design x c.declaration.name)) stands ∙ ap (option_and_then (module_named design)) makes ∙ named in
      let first = own_found (path ++ c.declaration.name ∷ []) n there (prints_of design prints n) (λ p i. i) in
      let middle = below (path ++ c.declaration.name ∷ []) n there inner (λ d i. i) in
      let last = below path m stands order (λ d i. within d (among_later c cs d i)) in
      record {
        rest = (own_items texts design prints (path ++ c.declaration.name ∷ []) n ++ middle.rest) ++ last.rest;
        instances = items.an_instance target n sort named middle.instances last.instances;
        found = (first.0 ++ middle.found) ++ last.found;
        are = zip_append (IsFound texts design prints all) (own_items texts design prints (path ++ c.declaration.name ∷ []) n ++ middle.rest) (first.0 ++ middle.found) last.rest last.found
            (zip_append (IsFound texts design prints all) (own_items texts design prints (path ++ c.declaration.name ∷ []) n) first.0 middle.rest middle.found first.1 middle.are) last.are;
      }

  pub some_found : (found : List ItemAt) × (its : List PathItem) × AreItems texts design prints its × AllZip (IsFound texts design prints all) its found
  some_found =
      let main = serves.of.main in
      let stands : module_at design [] ≡ Some main = ap (option_and_then (λ x. module_within design x [])) serves.of.found in
      let first = own_found [] main stands (prints_of design prints main) (λ p i. i) in
      let rest = below [] main stands serves.of.order (λ d i. i) in (
        first.0 ++ rest.found,
        own_items texts design prints [] main ++ rest.rest,
        record { main = main; found = serves.of.found; rest = rest.rest; instances = rest.instances; are = refl },
        zip_append (IsFound texts design prints all) (own_items texts design prints [] main) first.0 rest.rest rest.found first.1 rest.are,
      )
