-- A circuit has at most one dump, and none where a word names no leaf.
use Rattle.std.proofs.Common.{◌≡◌, ℕ, ◌≤◌, List, [], ◌∷◌, ◌++◌, map, Some, ℤ, refl, sym, ap, ap₂, subst, ◌∙◌, ⊎_elim, arith}
use Rattle.std.specs.Prelude.{slice_get, flat_map, Contains, option_and_then}
use Rattle.std.specs.List.{AllZip}
use Rattle.std.proofs.lemmas.List.Elements.{All-head, All-tail}
use Rattle.std.proofs.lemmas.Bool.{cases_eq, cases_lt}
use native.Mathlib.Bridge.{le_prop}
use Rattle.bit_words.specs.declared.value.Kind.{Kind}
use Rattle.bit_words.specs.declared.value.Value.{Value}
use Rattle.bit_words.specs.Values.{integer_of, bits_of}
use Rattle.bit_words.proofs.Congruence.{bits_back}
use Rattle.fir_tree.specs.declared.scope.Fitted.{Fitted}
use Rattle.fir_tree.specs.LeafNames.{Texts, text_of}
use Rattle.fir_meaning.specs.Components.{Design, Component, FlatLeaf, design_of, flat_through, target_in, kind_of_leaf, width_of_leaf}
use Rattle.fir_meaning.specs.Loops.{HasNoLoop}
use Rattle.fir_meaning.specs.States.{WatchedTrace, IsLeafOf, first_state}
use Rattle.fir_meaning.proofs.Settling.{flat_none, state_itself}
use Rattle.fir_meaning.proofs.Ports.{from_map}
use Rattle.fir_meaning.proofs.Nexts.{watched_rows_same}
use Rattle.ground_net.specs.declared.net.PortLeaf.{PortLeaf}
use Rattle.circuit_laws.specs.WellFormed.{IsWellFormed}
use Rattle.net_of_circuit.specs.FlatOrder.{Standing, flat_of, ListsLeaves}
use Rattle.net_of_circuit.specs.NetOf.{flat_text}
use Rattle.net_laws.proofs.Accepted.{lists_leaves}
use Rattle.settling_laws.proofs.Listing.{has_leaves}
use Rattle.settling_laws.proofs.Reading.{takes_leaves}
use Rattle.stimulus.specs.declared.stimulus.Stimulus.{Stimulus}
use Rattle.vcd_write.specs.Changes.{dump}
use Rattle.vcd_write.specs.Texts.{header_lines, entry_line, ended, widths_of, bits_of_row}
use Rattle.vcd_write.specs.Reading.{IsOfLeaf, AreRows}
use Rattle.circuit_run.specs.Traces.{all_inputs}
use Rattle.circuit_texts.specs.Variables.{AreLeavesOfRun, HasName, IsFirstOfName, IsVariable, AreVariables, NamesNoLeaf}
use Rattle.circuit_texts.specs.VcdTexts.{IsVcdText}
use Rattle.circuit_texts.proofs.Zips.{zip_at, zip_from, zip_join, place_of}
use Rattle.circuit_texts.proofs.Flat.{leaves_once}

some_same : {A : Type 0} {x y : A} → Some x ≡ Some y → x ≡ y
some_same e = cc

-- Variables

abbrev made : List ℕ → Kind → (width : ℕ) → ℕ → width ≤ 128 → PortLeaf
made name kind width leaf narrow = record { name = name; kind = kind; width = width; leaf = leaf; narrow = narrow }

by_width : (name : List ℕ) (kind : Kind) (width other leaf : ℕ) (n : width ≤ 128) (o : other ≤ 128) → width ≡ other → made name kind width leaf n ≡ made name kind other leaf o
by_width name kind width other leaf n o e = subst (λ x. (k : x ≤ 128) → made name kind width leaf n ≡ made name kind x leaf k) e (λ k. ap (made name kind width leaf) (le_prop n k)) o

same_leaf : (p q : PortLeaf) → p.name ≡ q.name → p.kind ≡ q.kind → p.width ≡ q.width → p.leaf ≡ q.leaf → p ≡ q
same_leaf p q name kind width leaf =
    subst (λ x. p ≡ made x q.kind q.width q.leaf q.narrow) name
    (subst (λ x. p ≡ made p.name x q.width q.leaf q.narrow) kind
    (subst (λ x. p ≡ made p.name p.kind q.width x q.narrow) leaf (by_width p.name p.kind p.width q.width p.leaf p.narrow q.narrow width)))

module _ (texts : Texts) (all : List Standing) where
  -- variables of the same numbers are the same, and so are their leaves
  one_var : (v w : PortLeaf) (y z : Standing) → v.leaf ≡ w.leaf → IsVariable texts all v y → IsVariable texts all w z → (v ≡ w) × (y ≡ z)
  one_var v w y z e a b =
      let leaf : y ≡ z = some_same (sym a.there ∙ (ap (slice_get all) e ∙ b.there)) in
      (same_leaf v w (a.name ∙ (ap (λ (s : Standing). flat_text texts (flat_of s)) leaf ∙ sym b.name)) (a.kind ∙ (ap (λ (s : Standing). kind_of_leaf s.1) leaf ∙ sym b.kind)) (a.width ∙ (ap (λ (s : Standing). width_of_leaf s.1) leaf ∙ sym b.width)) e, leaf)

  same_vars : (vs ws : List PortLeaf) (ys zs : List Standing) → AllZip (λ (v w : PortLeaf). v.leaf ≡ w.leaf) vs ws → AllZip (IsVariable texts all) vs ys → AllZip (IsVariable texts all) ws zs → (vs ≡ ws) × (ys ≡ zs)
  same_vars [] [] [] [] e a b = (refl, refl)
  same_vars [] [] [] (z ∷ zs) e a b = absurd b
  same_vars [] [] (y ∷ ys) zs e a b = absurd a
  same_vars [] (w ∷ ws) ys zs e a b = absurd e
  same_vars (v ∷ vs) [] ys zs e a b = absurd e
  same_vars (v ∷ vs) (w ∷ ws) [] zs e a b = absurd a
  same_vars (v ∷ vs) (w ∷ ws) (y ∷ ys) [] e a b = absurd b
  same_vars (v ∷ vs) (w ∷ ws) (y ∷ ys) (z ∷ zs) e a b =
      let one = one_var v w y z e.0 a.0 b.0 in
      let rest = same_vars vs ws ys zs e.1 a.1 b.1 in
      (ap₂ (λ x xs. x ∷ xs) one.0 rest.0, ap₂ (λ x xs. x ∷ xs) one.1 rest.1)

  first_once : (name : List ℕ) (x y : ℕ) → IsFirstOfName texts all name x → IsFirstOfName texts all name y → x ≡ y
  first_once name x y a b = ⊎_elim (λ e. e) (λ n. ⊎_elim (λ less. absurd (b.first x less a.has)) (λ more. absurd (a.first y (omega (arith, n)) b.has)) (cases_lt x y)) (cases_eq x y)

  module _ (once : (x z : ℕ) (y w : Standing) → slice_get all x ≡ Some y → slice_get all z ≡ Some w → flat_of y ≡ flat_of w → x ≡ z) where
    flat_numbers : (vs ws : List PortLeaf) (ys zs : List Standing) → map flat_of ys ≡ map flat_of zs → AllZip (IsVariable texts all) vs ys → AllZip (IsVariable texts all) ws zs → AllZip (λ (v w : PortLeaf). v.leaf ≡ w.leaf) vs ws
    flat_numbers [] [] [] [] e a b = tt
    flat_numbers [] [] [] (z ∷ zs) e a b = absurd b
    flat_numbers [] [] (y ∷ ys) zs e a b = absurd a
    flat_numbers [] (w ∷ ws) [] [] e a b = absurd b
    flat_numbers [] (w ∷ ws) [] (z ∷ zs) e a b = absurd cc
    flat_numbers [] (w ∷ ws) (y ∷ ys) zs e a b = absurd a
    flat_numbers (v ∷ vs) [] [] zs e a b = absurd a
    flat_numbers (v ∷ vs) [] (y ∷ ys) [] e a b = absurd cc
    flat_numbers (v ∷ vs) [] (y ∷ ys) (z ∷ zs) e a b = absurd b
    flat_numbers (v ∷ vs) (w ∷ ws) [] zs e a b = absurd a
    flat_numbers (v ∷ vs) (w ∷ ws) (y ∷ ys) [] e a b = absurd b
    flat_numbers (v ∷ vs) (w ∷ ws) (y ∷ ys) (z ∷ zs) e a b =
        let head : flat_of y ≡ flat_of z = cc in
        let tail : map flat_of ys ≡ map flat_of zs = cc in
        (once v.leaf w.leaf y z a.0.there b.0.there head, flat_numbers vs ws ys zs tail a.1 b.1)

    one_choice : (design : Design) (names : List (List ℕ)) (vs ws : List PortLeaf) (ys zs : List Standing) → AreVariables texts design all names vs ys → AreVariables texts design all names ws zs
        → AllZip (λ (v w : PortLeaf). v.leaf ≡ w.leaf) vs ws
    one_choice design [] vs ws ys zs a b = flat_numbers vs ws ys zs (a.chosen ∙ sym b.chosen) a.each b.each
    one_choice design (name ∷ names) vs ws ys zs a b =
        zip_join (λ word (v : PortLeaf). IsFirstOfName texts all word v.leaf) (λ word (v : PortLeaf). IsFirstOfName texts all word v.leaf) (λ (v w : PortLeaf). v.leaf ≡ w.leaf)
        (λ word v w f g. first_once word v.leaf w.leaf f g) (name ∷ names) vs ws a.chosen b.chosen

-- Rows

bits_by : List PortLeaf → List ℤ → List ℕ
bits_by [] ns = []
bits_by (v ∷ vars) [] = []
bits_by (v ∷ vars) (n ∷ ns) = bits_of v.width n ∷ bits_by vars ns

row_bits : (vars : List PortLeaf) (row : List Value) → AllZip IsOfLeaf vars row → bits_of_row row ≡ bits_by vars (map integer_of row)
unfolding bits_by
row_bits [] [] h = refl
row_bits [] (x ∷ row) h = absurd h
row_bits (v ∷ vars) [] h = absurd h
row_bits (v ∷ vars) (x ∷ row) h = ap₂ (λ b bs. b ∷ bs) (sym (bits_back x.kind x.width x.bits x.within) ∙ ap (λ w. bits_of w (integer_of x)) h.0.width) (row_bits vars row h.1)

rows_bits : (vars : List PortLeaf) (rows : List (List Value)) → AreRows vars rows → map bits_of_row rows ≡ map (bits_by vars) (map (map integer_of) rows)
rows_bits vars [] h = refl
rows_bits vars (row ∷ rows) h = ap₂ (λ b bs. b ∷ bs) (row_bits vars row (All-head (AllZip IsOfLeaf vars) row rows h)) (rows_bits vars rows (All-tail (AllZip IsOfLeaf vars) row rows h))

-- Dumps

leaves_stand : (design : Design) (all : List Standing) (run : AreLeavesOfRun design all) → ListsLeaves design run.placed → (texts : Texts) (vars : List PortLeaf) (leaves : List Standing) → AllZip (IsVariable texts all) vars leaves
    → (x : FlatLeaf) → Contains (map flat_of leaves) x → IsLeafOf design x
leaves_stand design all run lists texts vars leaves are x among =
    let from = from_map flat_of leaves x among in
    let k = place_of leaves from.0 from.1 in
    let var = zip_from (IsVariable texts all) vars leaves k.0 from.0 are k.1 in
    let y : Standing = from.0 in
    let stands = lists.stands var.0.leaf y (subst (λ l. slice_get l var.0.leaf ≡ Some y) run.are var.2.there) in
    record {
      path = y.0.path;
      m = y.0.m;
      c = y.0.c;
      leaf = y.1;
      stands = stands.0;
      is = (ap (λ o. flat_through y.0.path y.0.c.declaration.name o y.1.path) (ap (option_and_then (λ (d : Component). target_in d.declaration.sort)) stands.0.declared ∙ stands.1)
          ∙ flat_none y.0.path y.0.c.declaration.name y.1.path) ∙ from.2;
    }

pub one_dump : (texts : Texts) (fitted : Fitted) → IsWellFormed fitted → HasNoLoop (design_of fitted) → (names : List (List ℕ)) (stimulus : Stimulus) (bytes other : List ℕ)
    → IsVcdText texts (design_of fitted) names stimulus bytes → IsVcdText texts (design_of fitted) names stimulus other → bytes ≡ other
one_dump texts fitted well none names stimulus bytes other a b =
    let design = design_of fitted in
    let lists = lists_leaves fitted well a.of_run.main a.of_run.found a.of_run.placed a.of_run.order in
    let all : b.all ≡ a.all = leaves_once design b.all a.all b.of_run a.of_run in
    let vars = subst (λ l. AreVariables texts design l names b.vars b.leaves) all b.are in
    let once = subst (λ l. (x z : ℕ) (y w : Standing) → slice_get l x ≡ Some y → slice_get l z ≡ Some w → flat_of y ≡ flat_of w → x ≡ z) (sym a.of_run.are) lists.once in
    let same = same_vars texts a.all a.vars b.vars a.leaves b.leaves (one_choice texts a.all once design names a.vars b.vars a.leaves b.leaves a.are vars) a.are.each vars.each in
    let leaves = has_leaves fitted well in
    let trace = subst (λ ls. WatchedTrace design (map flat_of ls) first_state (all_inputs design stimulus) (map (map integer_of) b.rows)) (sym same.1) b.trace in
    let integers : map (map integer_of) a.rows ≡ map (map integer_of) b.rows =
    watched_rows_same design leaves.0 well.bundles none leaves.1 (takes_leaves fitted well) (map flat_of a.leaves) (leaves_stand design a.all a.of_run lists texts a.vars a.leaves a.are.each) (state_itself design first_state) a.trace trace in
    let bits : map bits_of_row a.rows ≡ map bits_of_row b.rows =
    rows_bits a.vars a.rows a.shaped ∙ (ap₂ (λ vs rows. map (bits_by vs) rows) same.0 integers ∙ sym (rows_bits b.vars b.rows b.shaped)) in
    a.is ∙ (ap₂ (λ vs rows. flat_map ended (header_lines (text_of texts design.main) vs ++ map (entry_line (widths_of vs)) (dump rows))) same.0 bits ∙ sym b.is)

pub no_fault : (texts : Texts) (design : Design) (names : List (List ℕ)) (stimulus : Stimulus) (bytes : List ℕ) → IsVcdText texts design names stimulus bytes → NamesNoLeaf texts design names → ⊥
no_fault texts design [] stimulus bytes d n = let k = place_of [] n.name n.among in absurd cc
no_fault texts design (word ∷ names) stimulus bytes d n =
    let k = place_of (word ∷ names) n.name n.among in
    let var = zip_at (λ w (v : PortLeaf). IsFirstOfName texts d.all w v.leaf) (word ∷ names) d.vars k.0 n.name d.are.chosen k.1 in
    n.none var.0.leaf (subst (λ l. HasName texts l n.name var.0.leaf) (leaves_once design d.all n.all d.of_run n.of_run) var.2.has)
