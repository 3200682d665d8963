-- A filled type takes as many widths as it has places, and looks at no others; its places have exactly these widths, but for an AsyncReset.
use Rattle.std.proofs.Common.{◌≡◌, ℕ, ◌+◌, ◌≤◌, List, [], ◌∷◌, ◌++◌, map, length, take, drop, Option, Some, None, false, refl, sym, ap, ap₂, ◌∙◌, subst, arith, length-append}
use Rattle.std.specs.List.{flat_map}
use Rattle.std.proofs.lemmas.Grind.{common_steps}
use Rattle.std.proofs.lemmas.List.{drop-drop, drop-take, length-drop, length-map, map-append, take-take}
use Rattle.std.proofs.lemmas.List.Folds.{flat_map-map}
use Rattle.fir_types.specs.declared.fir_type.FirType.{FirType, ind-FirType, the_lemmas}
use Rattle.fir_types.specs.declared.fir_type.Shape.{Shape, fold-Shape}
use Rattle.fir_types.specs.declared.fir_type.Shape.TheOpen.{Shape-F, Field-F, FirType-F}
use Rattle.fir_types.specs.declared.fir_type.Shape.TheFolds.{map-Shape, map-Field, map-FirType}
use Rattle.fir_types.specs.declared.fir_type.Shape.TheViews.{roll-Shape, roll-Field, roll-FirType}
use Rattle.fir_types.specs.declared.fir_type.Field.{Field}
use Rattle.prim_ops.specs.declared.widths.Width.{Width}
use Rattle.width_rules.specs.Places.{Spot, spots, size, turned, one_spot, of_shape, of_field, node_shape, node_spots}
use Rattle.width_rules.specs.Layers.{field_spots, node_field_spots}
use Rattle.type_filling.specs.Filling.{Taking, taking, first_number, behind_first}
use Rattle.type_filling.specs.Layers.{shape_taking, field_taking, fields_taking}
use Rattle.part_fits.specs.Widths.{own_or, filled_widths}

abbrev pub shape_spots : Shape → List Spot
shape_spots = fold-Shape (List Spot) (List Spot) (List Spot) of_shape of_field (λ t. t.shape)

abbrev shape_node : Shape → List Spot
shape_node = fold-Shape (List Spot) (List Spot) (List Spot) node_shape of_field (λ t. t.shape)

-- the widths of these places
abbrev given : List Spot → List (Option ℕ)
given found = map (λ spot. spot.width) found

-- It takes as many widths as it has places, looks at no others, and its places have these widths, or their own.
pub record Fills {X : Type 0} (f : Taking X) (places : X → List Spot) (n : ℕ) (node : List Spot) : Type 0 where
  pub as_many : length node ≡ n
  pub behind : (ws : List Width) → (f ws).1 ≡ drop n ws
  pub own : (ws : List Width) → (f (take n ws)).0 ≡ (f ws).0
  pub given_is : (ws : List Width) → n ≤ length ws → given (places (f ws).0) ≡ filled_widths node ws

abbrev ShapeFills : Shape → Type 0
ShapeFills s = Fills (shape_taking s) shape_spots (length (shape_spots s)) (shape_node s)

abbrev FieldFills : Field → Type 0
FieldFills f = Fills (field_taking f) field_spots (length (field_spots f)) (node_field_spots f)

abbrev pub TypeFills : FirType → Type 0
TypeFills t = Fills (taking t) spots (size t) (node_spots t)

abbrev Parts : Type 0
Parts = Shape-F ((s : Shape) × ShapeFills s) ((f : Field) × FieldFills f) ((t : FirType) × TypeFills t)

behind_is : (ws : List Width) → behind_first ws ≡ drop 1 ws
behind_is [] = refl
behind_is (w ∷ ws) = refl

first_taken : (ws : List Width) → first_number (take 1 ws) ≡ first_number ws
first_taken [] = refl
first_taken (w ∷ ws) = refl

first_is : (ws : List Width) → 1 ≤ length ws → first_number ws ∷ [] ≡ filled_widths (one_spot None) ws
first_is [] h = absurd (omega (arith, h))
first_is (w ∷ ws) h = refl

own_is : (ws : List Width) → 1 ≤ length ws → Some 1 ∷ [] ≡ filled_widths (one_spot (Some 1)) ws
own_is [] h = absurd (omega (arith, h))
own_is (w ∷ ws) h = refl

-- widths of two parts, one behind the other
two_filled : (xs ys : List Spot) (ws : List Width) → length xs ≤ length ws → filled_widths (xs ++ ys) ws ≡ filled_widths xs ws ++ filled_widths ys (drop (length xs) ws)
two_filled [] ys ws h = refl
two_filled (x ∷ xs) ys [] h = absurd (omega (arith, h))
two_filled (x ∷ xs) ys (w ∷ ws) h = ap (λ l. own_or x.width (first_number (w ∷ ws)) ∷ l) (two_filled xs ys ws (omega (arith, h)))

left_enough : (n m : ℕ) (ws : List Width) → n + m ≤ length ws → m ≤ length (drop n ws)
left_enough n m ws h = rw (length-drop n ws) (omega arith)

-- flips keep the widths
given_turned : (flip : _) (found : List Spot) → given (map (turned flip) found) ≡ given found
given_turned flip [] = refl
given_turned flip (spot ∷ found) = ap (λ l. spot.width ∷ l) (given_turned flip found)

filled_turned : (flip : _) (found : List Spot) (ws : List Width) → filled_widths (map (turned flip) found) ws ≡ filled_widths found ws
filled_turned flip [] ws = refl
filled_turned flip (spot ∷ found) [] = refl
filled_turned flip (spot ∷ found) (w ∷ ws) = ap (λ l. own_or spot.width (first_number (w ∷ ws)) ∷ l) (filled_turned flip found ws)

length_turned : (flip : _) (found : List Spot) → length (map (turned flip) found) ≡ length found
length_turned flip found = length-map found (turned flip)

abbrev names : List ((f : Field) × FieldFills f) → List Field
names ps = map (λ e. e.0) ps

abbrev count : List ((f : Field) × FieldFills f) → ℕ
count ps = length (flat_map field_spots (names ps))

count_more : (p : (f : Field) × FieldFills f) (ps : List ((f : Field) × FieldFills f)) → count (p ∷ ps) ≡ length (field_spots p.0) + count ps
count_more p ps = length-append (field_spots p.0) (flat_map field_spots (names ps))

fields_behind : (ps : List ((f : Field) × FieldFills f)) (ws : List Width) → (fields_taking (names ps) ws).1 ≡ drop (count ps) ws
fields_behind [] ws = refl
fields_behind (p ∷ ps) ws = rw (count_more p ps)
    (fields_behind ps (field_taking p.0 ws).1 ∙ (ap (drop (count ps)) (p.1.behind ws) ∙ drop-drop (count ps) (length (field_spots p.0)) ws))

-- two one behind the other
more_own : {X : Type 0} (f : Taking X) (places : X → List Spot) (n m : ℕ) {node : List Spot} → Fills f places n node → (ws : List Width) → (f (take (n + m) ws)).0 ≡ (f ws).0
more_own f places n m {node} h ws =
    let le : n ≤ n + m = omega arith in
    sym (h.own (take (n + m) ws)) ∙ (ap (λ vs. (f vs).0) (take-take n (n + m) ws le) ∙ h.own ws)

more_rest : {X : Type 0} (f : Taking X) (places : X → List Spot) (n m : ℕ) {node : List Spot} → Fills f places n node → (ws : List Width) → (f (take (n + m) ws)).1 ≡ take m (drop n ws)
more_rest f places n m {node} h ws = h.behind (take (n + m) ws) ∙ drop-take n m ws

fields_own : (ps : List ((f : Field) × FieldFills f)) (ws : List Width) → (fields_taking (names ps) (take (count ps) ws)).0 ≡ (fields_taking (names ps) ws).0
fields_own [] ws = refl
fields_own (p ∷ ps) ws = rw (count_more p ps) (
    let n : ℕ = length (field_spots p.0) in
    let m : ℕ = count ps in
    let a : (field_taking p.0 (take (n + m) ws)).0 ≡ (field_taking p.0 ws).0 = more_own (field_taking p.0) field_spots n m p.1 ws in
    let b : (fields_taking (names ps) (field_taking p.0 (take (n + m) ws)).1).0 ≡ (fields_taking (names ps) (field_taking p.0 ws).1).0
    = ap (λ vs. (fields_taking (names ps) vs).0) (more_rest (field_taking p.0) field_spots n m p.1 ws)
    ∙ (fields_own ps (drop n ws) ∙ ap (λ vs. (fields_taking (names ps) vs).0) (sym (p.1.behind ws))) in
    ap₂ (λ f fs. f ∷ fs) a b)

fields_many : (ps : List ((f : Field) × FieldFills f)) → length (flat_map node_field_spots (names ps)) ≡ count ps
fields_many [] = refl
fields_many (p ∷ ps) =
    length-append (node_field_spots p.0) (flat_map node_field_spots (names ps)) ∙ (ap₂ (λ a b. a + b) p.1.as_many (fields_many ps) ∙ sym (count_more p ps))

fields_given : (ps : List ((f : Field) × FieldFills f)) (ws : List Width) → count ps ≤ length ws
    → given (flat_map field_spots (fields_taking (names ps) ws).0) ≡ filled_widths (flat_map node_field_spots (names ps)) ws
fields_given [] ws h = refl
fields_given (p ∷ ps) ws h =
    let n : ℕ = length (field_spots p.0) in
    let m : ℕ = count ps in
    let more : count (p ∷ ps) ≡ n + m = count_more p ps in
    let enough : n + m ≤ length ws = omega (arith, more, h) in
    let here' : List Spot = node_field_spots p.0 in
    let behind' : List Spot = flat_map node_field_spots (names ps) in
    let long : length here' ≡ n = p.1.as_many in
    let one : given (field_spots (field_taking p.0 ws).0) ≡ filled_widths here' ws = p.1.given_is ws (omega (arith, enough)) in
    let others : given (flat_map field_spots (fields_taking (names ps) (field_taking p.0 ws).1).0) ≡ filled_widths behind' (drop n ws)
    = ap (λ vs. given (flat_map field_spots (fields_taking (names ps) vs).0)) (p.1.behind ws) ∙ fields_given ps (drop n ws) (left_enough n m ws enough) in
    map-append (λ (spot : Spot). spot.width) (field_spots (field_taking p.0 ws).0) (flat_map field_spots (fields_taking (names ps) (field_taking p.0 ws).1).0)
    ∙ (ap₂ (λ a b. a ++ b) one others
    ∙ (ap (λ k. filled_widths here' ws ++ filled_widths behind' (drop k ws)) (sym long) ∙ sym (two_filled here' behind' ws (omega (arith, long, enough)))))

field_step : (y : Field-F ((s : Shape) × ShapeFills s) ((f : Field) × FieldFills f) ((t : FirType) × TypeFills t))
    → FieldFills (roll-Field (map-Field _ _ _ Shape Field FirType (λ e. e.0) (λ e. e.0) (λ e. e.0) y))
field_step y = record {
  as_many = let l = length_turned y.flip (spots y.typ.0) in let k = length_turned y.flip (node_spots y.typ.0) in grind (arith, common_steps, the_lemmas, y.typ.1.as_many, l, k);
  behind = λ ws. let l = length_turned y.flip (spots y.typ.0) in grind (arith, common_steps, the_lemmas, y.typ.1.behind ws, l);
  own = λ ws. let l = length_turned y.flip (spots y.typ.0) in grind (arith, common_steps, the_lemmas, y.typ.1.own ws, l);
  given_is = λ ws h.
      let l = length_turned y.flip (spots y.typ.0) in
      let g = given_turned y.flip (spots (taking y.typ.0 ws).0) in
      let k = filled_turned y.flip (node_spots y.typ.0) ws in
      grind (arith, common_steps, the_lemmas, y.typ.1.given_is ws, l, g, k, h);
}

type_step : (y : FirType-F ((s : Shape) × ShapeFills s) ((f : Field) × FieldFills f) ((t : FirType) × TypeFills t))
    → TypeFills (roll-FirType (map-FirType _ _ _ Shape Field FirType (λ e. e.0) (λ e. e.0) (λ e. e.0) y))
type_step y = record {
  as_many = grind (arith, common_steps, the_lemmas, y.shape.1.as_many);
  behind = λ ws. grind (arith, common_steps, the_lemmas, y.shape.1.behind ws);
  own = λ ws. grind (arith, common_steps, the_lemmas, y.shape.1.own ws);
  given_is = λ ws h. grind (arith, common_steps, the_lemmas, y.shape.1.given_is ws, h);
}

shape_step : (y : Parts) → ShapeFills (roll-Shape (map-Shape _ _ _ Shape Field FirType (λ e. e.0) (λ e. e.0) (λ e. e.0) y))
shape_step (Shape-F.Unsigned w) = record { as_many = grind (arith, common_steps, the_lemmas); behind = λ ws. grind (arith, common_steps, the_lemmas, behind_is ws); own = λ ws. grind (arith, common_steps, the_lemmas, first_taken ws); given_is = λ ws h. grind (arith, common_steps, the_lemmas, first_is ws, h) }
shape_step (Shape-F.Signed w) = record { as_many = grind (arith, common_steps, the_lemmas); behind = λ ws. grind (arith, common_steps, the_lemmas, behind_is ws); own = λ ws. grind (arith, common_steps, the_lemmas, first_taken ws); given_is = λ ws h. grind (arith, common_steps, the_lemmas, first_is ws, h) }
shape_step Shape-F.Clock = record { as_many = grind (arith, common_steps, the_lemmas); behind = λ ws. grind (arith, common_steps, the_lemmas); own = λ ws. grind (arith, common_steps, the_lemmas); given_is = λ ws h. grind (arith, common_steps, the_lemmas) }
shape_step Shape-F.Reset = record { as_many = grind (arith, common_steps, the_lemmas); behind = λ ws. grind (arith, common_steps, the_lemmas, behind_is ws); own = λ ws. grind (arith, common_steps, the_lemmas, first_taken ws); given_is = λ ws h. grind (arith, common_steps, the_lemmas, first_is ws, h) }
shape_step Shape-F.AsyncReset = record { as_many = grind (arith, common_steps, the_lemmas); behind = λ ws. grind (arith, common_steps, the_lemmas, behind_is ws); own = λ ws. grind (arith, common_steps, the_lemmas); given_is = λ ws h. grind (arith, common_steps, the_lemmas, own_is ws, h) }
shape_step (Shape-F.Bundle fields) = record {
  as_many = grind (arith, common_steps, the_lemmas, flat_map-map, fields_many fields);
  behind = λ ws. grind (arith, common_steps, the_lemmas, flat_map-map, fields_behind fields ws);
  own = λ ws. grind (arith, common_steps, the_lemmas, flat_map-map, fields_own fields ws);
  given_is = λ ws h. grind (arith, common_steps, the_lemmas, flat_map-map, fields_given fields ws, h);
}
shape_step (Shape-F.Vector element n) = record {
  as_many = grind (arith, common_steps, the_lemmas, element.1.as_many);
  behind = λ ws. grind (arith, common_steps, the_lemmas, element.1.behind ws);
  own = λ ws. grind (arith, common_steps, the_lemmas, element.1.own ws);
  given_is = λ ws h. grind (arith, common_steps, the_lemmas, element.1.given_is ws, h);
}

pub fills : (typ : FirType) → TypeFills typ
fills = ind-FirType ShapeFills FieldFills TypeFills
    (λ x y is. subst (λ z. ShapeFills (roll-Shape z)) is (shape_step y))
    (λ x y is. subst (λ z. FieldFills (roll-Field z)) is (field_step y))
    (λ x y is. subst (λ z. TypeFills (roll-FirType z)) is (type_step y))
