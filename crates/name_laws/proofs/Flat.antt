-- The names of a net's leaves and memories.
use Rattle.std.proofs.Common.{◌≡◌, ℕ, zero, suc, ◌+◌, ◌/◌, ◌%◌, ◌<◌, ◌==◌, nat_lt, Bool, true, false, List, [], ◌∷◌, ◌++◌, codes, Some, slice_get, refl, sym, ap, ◌∙◌, subst, arith, if◌then◌else◌}
use Rattle.std.specs.Prelude.{decimal}
use Rattle.std.specs.List.{All}
use Rattle.std.specs.Fmt.{digits, digits_onto, digit_glyph}
use Rattle.std.proofs.lemmas.Bool.Decides.{nat_tests}
use Rattle.std.proofs.lemmas.List.Elements.{All-nil, All-cons, All-head, All-tail, All-append}
use Rattle.std.proofs.lemmas.Option.{slice_get_within}
use Rattle.fir_types.specs.declared.leaf.PathStep.{PathStep}
use Rattle.fir_types.specs.Leaves.{leaves}
use Rattle.fir_types.specs.declared.leaf.PathStep.TheVariants as step
use Rattle.fir_tree.specs.LeafNames.{Texts, text_of, step_text, way_text, leaf_text}
use Rattle.fir_meaning.specs.Components.{Design, FlatLeaf}
use Rattle.ground_net.specs.declared.net.Net.{Net}
use Rattle.ground_net.specs.declared.net.Leaf.{Leaf}
use Rattle.ground_net.specs.declared.net.NetMemory.{NetMemory}
use Rattle.ground_net.specs.declared.net.ElementLeaf.{ElementLeaf}
use Rattle.ground_net.proofs.Settling.{get_there}
use Rattle.net_of_circuit.specs.FlatOrder.{all_leaves, all_memories, flat_of}
use Rattle.net_of_circuit.specs.NetOf.{IsNetOf, path_text, flat_text}
use Rattle.name_laws.specs.Names.{no_break, IsName, IsUnbroken}
use Rattle.name_laws.proofs.Marks.{unbroken_name}

joined : (xs ys : List ℕ) → IsUnbroken xs → IsUnbroken ys → IsUnbroken (xs ++ ys)
joined xs ys h k = All-append (λ b. no_break b ≡ true) xs ys h k

one_byte : (b : ℕ) → no_break b ≡ true → IsUnbroken (b ∷ [])
one_byte b e = All-cons (λ b. no_break b ≡ true) b [] e (All-nil (λ b. no_break b ≡ true))

-- digits
digit_unbroken : (d : ℕ) → d < 10 → no_break (digit_glyph false d) ≡ true
digit_unbroken d h =
    let small : nat_lt d 10 ≡ true = grind (arith, nat_tests) in
    let is : digit_glyph false d ≡ 48 + d = ap (λ b. if b then 48 + d else 87 + d) small in
    ap no_break is ∙ far d
  where
    far : (d : ℕ) → no_break (48 + d) ≡ true
    far d = grind (arith, nat_tests)

digits_unbroken : (k n : ℕ) (rest : List ℕ) → IsUnbroken rest → IsUnbroken (digits_onto k 10 false n rest)
digits_unbroken zero n rest h = h
digits_unbroken (suc k) n rest h = by (n / 10 == 0) (digits_unbroken k (n / 10) (digit_glyph false (n % 10) ∷ rest) more)
  where
    more : IsUnbroken (digit_glyph false (n % 10) ∷ rest)
    more = All-cons (λ b. no_break b ≡ true) (digit_glyph false (n % 10)) rest (digit_unbroken (n % 10) (omega arith)) h

    by : (b : Bool) → IsUnbroken (digits_onto k 10 false (n / 10) (digit_glyph false (n % 10) ∷ rest))
        → IsUnbroken (if b then digit_glyph false (n % 10) ∷ rest else digits_onto k 10 false (n / 10) (digit_glyph false (n % 10) ∷ rest))
    by true later = more
    by false later = later

decimal_unbroken : (n : ℕ) → IsUnbroken (decimal n)
unfolding digits
decimal_unbroken n = digits_unbroken 64 n [] (All-nil (λ b. no_break b ≡ true))

-- names
pub text_unbroken : (texts : Texts) → All IsName texts → (id : ℕ) → IsUnbroken (text_of texts id)
text_unbroken [] are id = All-nil (λ b. no_break b ≡ true)
text_unbroken (text ∷ texts) are zero = unbroken_name text (All-head IsName text texts are)
text_unbroken (text ∷ texts) are (suc id) = text_unbroken texts (All-tail IsName text texts are) id

module _ (texts : Texts) (are : All IsName texts) where
  step_unbroken : (s : PathStep) → IsUnbroken (step_text texts s)
  step_unbroken (step.Field id) = joined (codes ".") (text_of texts id) (one_byte 46 refl) (text_unbroken texts are id)
  step_unbroken (step.Element n) = joined (codes "[") (decimal n ++ codes "]") (one_byte 91 refl) (joined (decimal n) (codes "]") (decimal_unbroken n) (one_byte 93 refl))

  way_unbroken : (way : List PathStep) → IsUnbroken (way_text texts way)
  way_unbroken [] = All-nil (λ b. no_break b ≡ true)
  way_unbroken (s ∷ way) = joined (step_text texts s) (way_text texts way) (step_unbroken s) (way_unbroken way)

  pub leaf_unbroken : (component : ℕ) (way : List PathStep) → IsUnbroken (leaf_text texts component way)
  leaf_unbroken component way = joined (text_of texts component) (way_text texts way) (text_unbroken texts are component) (way_unbroken way)

  path_unbroken : (path : List ℕ) → IsUnbroken (path_text texts path)
  path_unbroken [] = All-nil (λ b. no_break b ≡ true)
  path_unbroken (i ∷ path) = joined (text_of texts i ++ codes ".") (path_text texts path) (joined (text_of texts i) (codes ".") (text_unbroken texts are i) (one_byte 46 refl)) (path_unbroken path)

  flat_unbroken : (x : FlatLeaf) → IsUnbroken (flat_text texts x)
  flat_unbroken x = joined (path_text texts x.path) (leaf_text texts x.component x.way) (path_unbroken x.path) (leaf_unbroken x.component x.way)

  module _ (design : Design) (net : Net) (of : IsNetOf texts design net) where
    pub leaf_name : (x : ℕ) (leaf : Leaf) → slice_get net.leaves x ≡ Some leaf → IsUnbroken leaf.name
    leaf_name x leaf e =
        let h = slice_get_within net.leaves x leaf e in
        let counted = of.is.counted in
        let there = get_there (all_leaves of.placed) x (omega (arith, h, counted)) in
        subst IsUnbroken (sym (of.is.leaves_are x there.0 leaf there.1 e).name) (flat_unbroken (flat_of there.0))

    module _ (m : ℕ) (memory : NetMemory) (e : slice_get net.memories m ≡ Some memory) where
      pub memory_name : IsUnbroken memory.name
      memory_name =
          let h = slice_get_within net.memories m memory e in
          let counted = of.is.all_memories_there in
          let elements = of.is.all_elements_there in
          let p = get_there (all_memories of.placed) m (omega (arith, h, counted)) in
          let element = get_there of.elements m (omega (arith, h, counted, elements)) in
          let is = of.is.memories m p.0.0 p.0.1 element.0 memory p.1 element.1 e in
          subst IsUnbroken (sym is.name) (joined (path_text texts p.0.0.path) (text_of texts p.0.0.c.declaration.name) (path_unbroken p.0.0.path) (text_unbroken texts are p.0.0.c.declaration.name))

      pub element_way : (k : ℕ) (leaf : ElementLeaf) → slice_get memory.elements k ≡ Some leaf → IsUnbroken leaf.path
      element_way k leaf f =
          let h = slice_get_within net.memories m memory e in
          let counted = of.is.all_memories_there in
          let elements = of.is.all_elements_there in
          let p = get_there (all_memories of.placed) m (omega (arith, h, counted)) in
          let element = get_there of.elements m (omega (arith, h, counted, elements)) in
          let is = of.is.memories m p.0.0 p.0.1 element.0 memory p.1 element.1 e in
          let g = slice_get_within memory.elements k leaf f in
          let many = is.counted in
          let there = get_there (leaves element.0) k (omega (arith, g, many)) in
          subst IsUnbroken (sym (is.elements k there.0 leaf there.1 f).2) (way_unbroken there.0.path)
