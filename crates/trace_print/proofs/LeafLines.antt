-- The lines of leaves behind a front that grows by the steps to them.
use Rattle.std.proofs.Common.{◌≡◌, ℕ, ◌+◌, ◌<◌, Bool, false, List, [], ◌∷◌, ◌++◌, map, length, take, get_or, refl, sym, ap, ap₂, ◌∙◌, subst, arith, append_assoc, add-one, codes, decimal}
use Rattle.std.specs.Fmt.{digits}
use Rattle.std.specs.List.{flat_map}
use Rattle.std.proofs.lemmas.Grind.{common_steps, flat_map-append}
use Rattle.std.proofs.Math.Seq.{take-append_seam}
use Rattle.fir_types.specs.declared.fir_type.FirType.{FirType}
use Rattle.fir_types.specs.declared.fir_type.Shape.TheVariants as shape
use Rattle.fir_types.specs.declared.fir_type.Field.{Field}
use Rattle.fir_types.specs.declared.leaf.TypeLeaf.{TypeLeaf}
use Rattle.fir_types.specs.declared.leaf.PathStep.{PathStep}
use Rattle.fir_types.specs.declared.leaf.PathStep.TheVariants as step
use Rattle.fir_types.specs.Leaves.{leaves, field_leaves, elements, under}
use Rattle.fir_types.proofs.Layers.{leaves-field}
use Rattle.fir_types.proofs.Singles.{leaves-single}
use Rattle.fir_tree.specs.LeafNames.{Texts, step_text}
use Rattle.trace_print.specs.Listing.{shape_line, leaf_line}

-- a name without a text

step_line : (texts : Texts) (front : List ℕ) (s : PathStep) (flip : Bool) (leaf : TypeLeaf) → leaf_line texts front (under (s ∷ []) flip leaf) ≡ leaf_line texts (front ++ step_text texts s) leaf
step_line texts front s flip leaf = ap (λ way. shape_line way leaf.typ.shape) (sym (append_assoc front (step_text texts s) (flat_map (step_text texts) leaf.path)))

-- the lines of the leaves behind a step
step_lines : (texts : Texts) (front : List ℕ) (s : PathStep) (flip : Bool) (ls : List TypeLeaf)
    → flat_map (leaf_line texts front) (map (under (s ∷ []) flip) ls) ≡ flat_map (leaf_line texts (front ++ step_text texts s)) ls
step_lines texts front s flip [] = refl
step_lines texts front s flip (l ∷ ls) = ap₂ (λ line lines. line ++ lines) (step_line texts front s flip l) (step_lines texts front s flip ls)

added : (texts : Texts) (front way : List ℕ) (s : PathStep) (flip : Bool) (ls before : List TypeLeaf) (start text after : List ℕ)
    → text ≡ start ++ flat_map (leaf_line texts front) before → way ≡ front ++ step_text texts s → after ≡ text ++ flat_map (leaf_line texts way) ls
    → after ≡ start ++ flat_map (leaf_line texts front) (before ++ map (under (s ∷ []) flip) ls)
added texts front way s flip ls before start text after h w a =
    let there = subst (λ x. after ≡ text ++ flat_map (leaf_line texts x) ls) w a in
    let lines = step_lines texts front s flip ls in
    let split = flat_map-append (leaf_line texts front) before (map (under (s ∷ []) flip) ls) in
    let assoc = append_assoc start (flat_map (leaf_line texts front) before) (flat_map (leaf_line texts (front ++ step_text texts s)) ls) in
    cc

-- one element more
pub elements_more : (texts : Texts) (ls : List TypeLeaf) (i : ℕ) (front way start text after : List ℕ)
    → text ≡ start ++ flat_map (leaf_line texts front) (elements ls i) → way ≡ front ++ step_text texts (step.Element i) → after ≡ text ++ flat_map (leaf_line texts way) ls
    → after ≡ start ++ flat_map (leaf_line texts front) (elements ls (i + 1))
elements_more texts ls i front way start text after h w a = rw add-one (added texts front way (step.Element i) false ls (elements ls i) start text after h w a)

-- one field more
pub fields_more : (texts : Texts) (fs : List Field) (i : ℕ) (f : Field) (front way start text after : List ℕ) → i < length fs → f ≡ get_or fs i f
    → text ≡ start ++ flat_map (leaf_line texts front) (flat_map field_leaves (take i fs)) → way ≡ front ++ step_text texts (step.Field f.name.id)
    → after ≡ text ++ flat_map (leaf_line texts way) (leaves f.typ)
    → after ≡ start ++ flat_map (leaf_line texts front) (flat_map field_leaves (take (i + 1) fs))
fields_more texts fs i f front way start text after l q h w a =
    let split : flat_map field_leaves (take (i + 1) fs) ≡ flat_map field_leaves (take i fs) ++ field_leaves f = grind (arith, common_steps) in
    let whole = added texts front way (step.Field f.name.id) f.flip (leaves f.typ) (flat_map field_leaves (take i fs)) start text after h w a in
    whole ∙ ap (λ x. start ++ flat_map (leaf_line texts front) x) (ap (λ x. flat_map field_leaves (take i fs) ++ x) (sym (leaves-field f)) ∙ sym split)

-- The type behind this front leads by lengths of 1 to what is inside, whose front goes on from there.
pub record LeadsTo (texts : Texts) (typ : FirType) (front : List ℕ) (inside : FirType) (way : List ℕ) : Type 0 where
  pub same_lines : flat_map (leaf_line texts front) (leaves typ) ≡ flat_map (leaf_line texts way) (leaves inside)
  pub goes_on : (more : List ℕ) × (way ≡ front ++ more)

-- one length further in
pub leads_on : (texts : Texts) (typ inside element : FirType) (front way further : List ℕ) (n : ℕ) → inside.shape ≡ shape.Vector element n → n ≡ 1
    → LeadsTo texts typ front inside way → further ≡ way ++ codes "[0]" → LeadsTo texts typ front element further
unfolding digits
leads_on texts typ inside element front way further n is one led w = record {
  same_lines =
      led.same_lines ∙ ap (flat_map (leaf_line texts way)) (leaves-single inside element n is one) ∙ step_lines texts way (step.Element 0) false (leaves element)
      ∙ ap (λ f. flat_map (leaf_line texts f) (leaves element)) (sym w);
  goes_on = (led.goes_on.0 ++ codes "[0]", w ∙ ap (λ f. f ++ codes "[0]") led.goes_on.1 ∙ append_assoc front led.goes_on.0 (codes "[0]"));
}

-- the front with an element's number
pub at_element : (front walked opened digits numbered way : List ℕ) (i : ℕ) → walked ≡ front → opened ≡ walked ++ 91 ∷ [] → numbered ≡ opened ++ digits → digits ≡ decimal i → way ≡ numbered ++ 93 ∷ []
    → way ≡ front ++ (91 ∷ [] ++ decimal i ++ 93 ∷ [])
at_element front walked opened digits numbered way i w o n d e =
    let a = append_assoc front (91 ∷ []) (decimal i) in
    let b = append_assoc front (91 ∷ [] ++ decimal i) (93 ∷ []) in
    cc

-- the front with a field's name
pub at_field : (front walked dotted name way : List ℕ) → walked ≡ front → dotted ≡ walked ++ 46 ∷ [] → way ≡ dotted ++ name → way ≡ front ++ (46 ∷ [] ++ name)
at_field front walked dotted name way w d e =
    let a = append_assoc front (46 ∷ []) name in
    cc

-- the front cut back
pub cut_back : (front more way walked cut : List ℕ) (n : ℕ) → way ≡ front ++ more → walked ≡ way → n ≡ length front → cut ≡ take n walked → cut ≡ front
cut_back front more way walked cut n e w l c = c ∙ ap₂ take l (w ∙ e) ∙ take-append_seam front more
