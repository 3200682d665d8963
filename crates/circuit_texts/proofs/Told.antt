-- The items that are found, with the leaves of the run at their numbers.
use Rattle.std.proofs.Common.{◌≡◌, ℕ, List, [], ◌∷◌, ◌++◌, map, zip, Some, refl, sym, ap, ap₂, ◌∙◌, subst}
use Rattle.std.specs.Prelude.{slice_get}
use Rattle.std.specs.List.{AllZip, range_with_len}
use Rattle.std.proofs.lemmas.List.{map-append}
use Rattle.std.proofs.lemmas.List.Concat.{flat_map-cons}
use Rattle.std.proofs.lemmas.Option.{same_Some}
use Rattle.fir_tree.specs.LeafNames.{Texts}
use Rattle.fir_tree.specs.declared.print.PrintItem.{PrintItem}
use Rattle.item_lines.specs.Formats.{shows}
use Rattle.item_lines.specs.Items.{argument_name, number_in}
use Rattle.fir_meaning.specs.Components.{Design, FlatLeaf}
use Rattle.net_of_circuit.specs.FlatOrder.{Standing, flat_of}
use Rattle.print_stop.specs.Printing.{PathItem}
use Rattle.print_stop.specs.Sound.{IsSound, IsOfPrint, leaf_at, item_leaves, all_leaves}
use Rattle.found_items.specs.declared.found.ItemAt.{ItemAt}
use Rattle.circuit_texts.specs.Watched.{watch_of, ArePrints}
use Rattle.found_items.specs.Finding.{item_texts, nodes_of, IsLeafNumber, IsFound}

zip_append : {A B : Type 0} (P : A → B → Type 0) (xs : List A) (ys : List B) (us : List A) (vs : List B) → AllZip P xs ys → AllZip P us vs → AllZip P (xs ++ us) (ys ++ vs)
zip_append P [] [] us vs all rest = rest
zip_append P [] (z ∷ ys) us vs all rest = absurd all
zip_append P (z ∷ xs) [] us vs all rest = absurd all
zip_append P (z ∷ xs) (w ∷ ys) us vs all rest = (all.0, zip_append P xs ys us vs all.1 rest)

nodes_are : (texts : Texts) (k : ℕ) (js : List ℕ) → map (number_in texts) (map (argument_name k) js) ≡ map (λ j. number_in texts (argument_name k j)) js
nodes_are texts k [] = refl
nodes_are texts k (j ∷ js) = ap (λ l. number_in texts (argument_name k j) ∷ l) (nodes_are texts k js)

module _ (texts : Texts) (design : Design) (prints : List PrintItem) (all : List Standing) where
  abbrev pub Stands : ℕ → Standing → Type 0
  Stands x y = slice_get all x ≡ Some y

  record Named (path : List ℕ) (names numbers : List ℕ) : Type 0 where
    pub leaves : List Standing
    pub stand : AllZip Stands numbers leaves
    pub are : map flat_of leaves ≡ map (leaf_at path) names

  named : (path : List ℕ) (ts : List (List ℕ)) (xs : List ℕ) → AllZip (λ text x. IsLeafNumber all path (number_in texts text) x) ts xs → Named path (map (number_in texts) ts) xs
  named path [] [] h = record { leaves = []; stand = tt; are = refl }
  named path [] (x ∷ xs) h = absurd h
  named path (t ∷ ts) [] h = absurd h
  named path (t ∷ ts) (x ∷ xs) h =
      let rest = named path ts xs h.1 in
      record { leaves = h.0.leaf ∷ rest.leaves; stand = (h.0.there, rest.stand); are = ap₂ (λ (y : FlatLeaf) (ys : List FlatLeaf). y ∷ ys) h.0.is rest.are }

  pub record Told (items : List PathItem) (found : List ItemAt) : Type 0 where
    pub nodes : List (List ℕ)
    pub sound : AllZip (IsSound design) items nodes
    pub leaves : List Standing
    pub stand : AllZip Stands (watch_of found) leaves
    pub are : map flat_of leaves ≡ all_leaves (zip items nodes)

  pub told : (items : List PathItem) (found : List ItemAt) → AllZip (IsFound texts design prints all) items found → Told items found
  told [] [] h = record { nodes = []; sound = tt; leaves = []; stand = tt; are = refl }
  told [] (f ∷ found) h = absurd h
  told (item ∷ items) [] h = absurd h
  told (item ∷ items) (f ∷ found) h =
      let rest = told items found h.1 in
      let print = h.0.print in
      let own = named item.path (item_texts print) f.leaves h.0.leaves in
      let own_are : map flat_of own.leaves ≡ item_leaves (item, nodes_of texts print) =
      own.are ∙ ap₂ (λ (w : ℕ) (ns : List ℕ). leaf_at item.path w ∷ map (leaf_at item.path) ns) (sym h.0.wire) (nodes_are texts print.number (range_with_len 0 (shows print.pieces))) in
      record {
        nodes = nodes_of texts print ∷ rest.nodes;
        sound = (h.0.sound, rest.sound);
        leaves = own.leaves ++ rest.leaves;
        stand = subst (λ l. AllZip Stands l (own.leaves ++ rest.leaves)) (sym (flat_map-cons (λ (it : ItemAt). it.leaves) f found)) (zip_append Stands f.leaves own.leaves (watch_of found) rest.leaves own.stand rest.stand);
        are = map-append flat_of own.leaves rest.leaves ∙ ap₂ (λ (xs ys : List FlatLeaf). xs ++ ys) own_are rest.are;
      }

  pub of_prints : (items : List PathItem) (found : List ItemAt) (ps : List PrintItem) → AllZip (IsFound texts design prints all) items found → ArePrints prints found ps → AllZip IsOfPrint items ps
  of_prints [] [] [] h q = tt
  of_prints [] [] (p ∷ ps) h q = absurd q
  of_prints [] (f ∷ found) ps h q = absurd h
  of_prints (item ∷ items) [] ps h q = absurd h
  of_prints (item ∷ items) (f ∷ found) [] h q = absurd q
  of_prints (item ∷ items) (f ∷ found) (p ∷ ps) h q = (subst (IsOfPrint item) (same_Some h.0.print p (sym h.0.there ∙ q.0)) h.0.of, of_prints items found ps h.1 q.1)

  pub some_prints : (items : List PathItem) (found : List ItemAt) → AllZip (IsFound texts design prints all) items found → (ps : List PrintItem) × ArePrints prints found ps
  some_prints [] [] h = ([], tt)
  some_prints [] (f ∷ found) h = absurd h
  some_prints (item ∷ items) [] h = absurd h
  some_prints (item ∷ items) (f ∷ found) h = let rest = some_prints items found h.1 in (h.0.print ∷ rest.0, (h.0.there, rest.1))
