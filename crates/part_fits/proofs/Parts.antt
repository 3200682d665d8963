-- A part of a fitted type is the part with its widths.
use Rattle.std.proofs.Common.{◌≡◌, ℕ, zero, suc, ◌==◌, ◌<◌, Bool, true, false, ◌||◌, cond, if◌then◌else◌, List, [], ◌∷◌, map, take, drop, length, get_or, find, Option, Some, None, refl, sym, ap, ap₂, ◌∙◌, arith}
use Rattle.std.specs.Prelude.{option_map}
use Rattle.std.specs.Option.{unwrap_or}
use Rattle.std.specs.List.{list_any}
use Rattle.std.proofs.lemmas.Grind.{common_steps}
use Rattle.std.proofs.lemmas.List.{drop-map, take-map}
use Rattle.prim_ops.specs.declared.widths.Width.{Width}
use Rattle.fir_types.specs.declared.fir_type.FirType.{FirType, the_lemmas}
use Rattle.fir_types.specs.declared.fir_type.Shape.{Shape}
use Rattle.fir_types.specs.declared.fir_type.Shape.TheOpen.{Shape-F}
use Rattle.fir_types.specs.declared.fir_type.Shape.TheViews.{out-Shape}
use Rattle.fir_types.specs.declared.fir_type.Shape.TheVariants as shape
use Rattle.fir_types.specs.declared.fir_type.Field.{Field}
use Rattle.fir_tree.specs.Parts.{field_or_whole, field_of_layer, element_of_layer}
use Rattle.fir_types.specs.declared.index.FieldPlace.{FieldPlace}
use Rattle.fir_types.specs.Indexes.{first_at}
use Rattle.type_index.specs.Knowing as known
use Rattle.type_index.specs.Knowing.{IsPlaceIn}
use Rattle.width_rules.specs.declared.component.Component.{Component}
use Rattle.width_rules.specs.declared.slot.Slot.{Slot}
use Rattle.width_rules.specs.Places.{size, field_slots, slots_of_layer}
use Rattle.width_rules.specs.Sources.{field_step, element_step}
use Rattle.type_filling.specs.Filling.{filled, taking}
use Rattle.type_filling.specs.Layers.{shape_taking, field_taking, fields_taking}
use Rattle.part_fits.specs.Widths.{slot_width, is_over}
use Rattle.part_fits.specs.Fits.{Fits, StandsBeside}
use Rattle.part_fits.proofs.Filled.{fills}

-- a field takes what its type takes, and keeps its name
taken_name : (f : Field) (ws : List Width) → (field_taking f ws).0.name.id ≡ f.name.id
taken_name f ws = grind (arith, common_steps, the_lemmas)

taken_type : (f : Field) (ws : List Width) → (field_taking f ws).0.typ ≡ filled f.typ ws
taken_type f ws = grind (arith, common_steps, the_lemmas)

taken_rest : (f : Field) (ws : List Width) → (field_taking f ws).1 ≡ (taking f.typ ws).1
taken_rest f ws = grind (arith, common_steps, the_lemmas)

-- the shape of a filled type
filled_shape : (t : FirType) (ws : List Width) → (filled t ws).shape ≡ (shape_taking t.shape ws).0
filled_shape t ws = grind (arith, common_steps, the_lemmas)

abbrev is_named : ℕ → Field → Bool
is_named name f = f.name.id == name

-- a filled bundle has the names of its fields in their order
first_kept : (name : ℕ) (fs : List Field) (ws : List Width) → first_at (fields_taking fs ws).0 name ≡ first_at fs name
first_kept name [] ws = refl
first_kept name (f ∷ fs) ws =
    ap₂ (λ id o. if id == name then Some 0 else option_map suc o) (taken_name f ws) (first_kept name fs (field_taking f ws).1)

-- what stands at the position of the first field of a name is the field that is found
found_at : (name : ℕ) (gs : List Field) (i : ℕ) (g : Field) → first_at gs name ≡ Some i → i < length gs → g ≡ get_or gs i g → find (is_named name) gs ≡ Some g
found_at name [] i g is lt got = absurd cc
found_at name (x ∷ xs) i g is lt got = by (is_named name x) (first_at xs name) refl is (λ j. found_at name xs j g)
  where
    by : (b : Bool) (o : Option ℕ) → first_at xs name ≡ o → cond b (Some 0) (option_map suc o) ≡ Some i
        → ((j : ℕ) → first_at xs name ≡ Some j → j < length xs → g ≡ get_or xs j g → find (is_named name) xs ≡ Some g)
        → cond b (Some x) (find (is_named name) xs) ≡ Some g
    by true o e is tail =
        let z : 0 ≡ i = ap (λ o. unwrap_or o 0) is in
        ap (λ y. Some y) (sym (got ∙ ap (λ n. get_or (x ∷ xs) n g) (sym z)))
    by false (Some j) e is tail =
        let z : suc j ≡ i = ap (λ o. unwrap_or o 0) is in
        tail j e (omega (arith, lt, z)) (got ∙ ap (λ n. get_or (x ∷ xs) n g) (sym z))
    by false None e is tail = absurd cc

module _ (all : List Width) where
  abbrev widths_at : List Slot → List Width
  widths_at slots = map (slot_width all) slots

  -- the first field of a name in a filled bundle is that field with its widths
  field_in : (name : ℕ) (fs : List Field) (slots : List Slot)
      → option_map (λ (f : Field). f.typ) (find (is_named name) (fields_taking fs (widths_at slots)).0)
      ≡ option_map (λ (f : Field). filled f.typ (widths_at (field_slots name fs slots))) (find (is_named name) fs)
  field_in name [] slots = refl
  field_in name (f ∷ fs) slots =
      let ws : List Width = widths_at slots in
      let left : (field_taking f ws).1 ≡ widths_at (drop (size f.typ) slots) = taken_rest f ws ∙ (fills f.typ).behind ws ∙ drop-map (slot_width all) (size f.typ) slots in
      let own : (field_taking f ws).0.typ ≡ filled f.typ (widths_at (take (size f.typ) slots))
      = taken_type f ws ∙ sym ((fills f.typ).own ws) ∙ ap (filled f.typ) (take-map (slot_width all) (size f.typ) slots) in
      rw (taken_name f ws, left) (by (is_named name f) own (field_in name fs (drop (size f.typ) slots)))
    where
      by : (b : Bool) → (field_taking f (widths_at slots)).0.typ ≡ filled f.typ (widths_at (take (size f.typ) slots))
          → option_map (λ (f : Field). f.typ) (find (is_named name) (fields_taking fs (widths_at (drop (size f.typ) slots))).0)
          ≡ option_map (λ (g : Field). filled g.typ (widths_at (field_slots name fs (drop (size f.typ) slots)))) (find (is_named name) fs)
          → option_map (λ (f : Field). f.typ) (if b then Some (field_taking f (widths_at slots)).0 else find (is_named name) (fields_taking fs (widths_at (drop (size f.typ) slots))).0)
          ≡ option_map (λ (g : Field). filled g.typ (widths_at (if b then take (size f.typ) slots else field_slots name fs (drop (size f.typ) slots)))) (if b then Some f else find (is_named name) fs)
      by true own rest = ap Some own
      by false own rest = rest

  -- no width over the limit, in a part either

  abbrev None-over : List Slot → Type 0
  None-over slots = false ≡ list_any is_over (widths_at slots)

  both : (b c : Bool) → false ≡ (b || c) → (false ≡ b) × (false ≡ c)
  both true c h = absurd cc
  both false c h = (refl, h)

  over_taken : (n : ℕ) (slots : List Slot) → None-over slots → None-over (take n slots)
  over_taken zero slots h = refl
  over_taken (suc n) [] h = refl
  over_taken (suc n) (s ∷ slots) h =
      let parts = both (is_over (slot_width all s)) (list_any is_over (widths_at slots)) h in
      ap₂ (λ b c. b || c) parts.0 (over_taken n slots parts.1)

  over_dropped : (n : ℕ) (slots : List Slot) → None-over slots → None-over (drop n slots)
  over_dropped zero slots h = h
  over_dropped (suc n) [] h = refl
  over_dropped (suc n) (s ∷ slots) h = over_dropped n slots (both (is_over (slot_width all s)) (list_any is_over (widths_at slots)) h).1

  over_field : (name : ℕ) (fs : List Field) (slots : List Slot) → None-over slots → None-over (field_slots name fs slots)
  over_field name [] slots h = h
  over_field name (f ∷ fs) slots h = by (is_named name f) (over_taken (size f.typ) slots h) (over_field name fs (drop (size f.typ) slots) (over_dropped (size f.typ) slots h))
    where
      by : (b : Bool) → None-over (take (size f.typ) slots) → None-over (field_slots name fs (drop (size f.typ) slots))
          → None-over (if b then take (size f.typ) slots else field_slots name fs (drop (size f.typ) slots))
      by true h k = h
      by false h k = k

  -- Layers of shapes

  abbrev fields_in : Shape-F Shape Field FirType → Option (List Field)
  fields_in (Shape-F.Bundle fields) = Some fields
  fields_in _ = None

  abbrev element_in : Shape-F Shape Field FirType → Option FirType
  element_in (Shape-F.Vector element length) = Some element
  element_in _ = None

  layer_fields : (s : Shape) (ws : List Width) (y : Shape-F Shape Field FirType) → out-Shape s ≡ y
      → fields_in (out-Shape (shape_taking s ws).0) ≡ option_map (λ fs. (fields_taking fs ws).0) (fields_in y)
  layer_fields s ws (Shape-F.Unsigned w) is = grind (arith, common_steps, the_lemmas)
  layer_fields s ws (Shape-F.Signed w) is = grind (arith, common_steps, the_lemmas)
  layer_fields s ws Shape-F.Clock is = grind (arith, common_steps, the_lemmas)
  layer_fields s ws Shape-F.Reset is = grind (arith, common_steps, the_lemmas)
  layer_fields s ws Shape-F.AsyncReset is = grind (arith, common_steps, the_lemmas)
  layer_fields s ws (Shape-F.Bundle fields) is = grind (arith, common_steps, the_lemmas)
  layer_fields s ws (Shape-F.Vector element n) is = grind (arith, common_steps, the_lemmas)

  layer_element : (s : Shape) (ws : List Width) (y : Shape-F Shape Field FirType) → out-Shape s ≡ y
      → element_in (out-Shape (shape_taking s ws).0) ≡ option_map (λ t. filled t ws) (element_in y)
  layer_element s ws (Shape-F.Unsigned w) is = grind (arith, common_steps, the_lemmas)
  layer_element s ws (Shape-F.Signed w) is = grind (arith, common_steps, the_lemmas)
  layer_element s ws Shape-F.Clock is = grind (arith, common_steps, the_lemmas)
  layer_element s ws Shape-F.Reset is = grind (arith, common_steps, the_lemmas)
  layer_element s ws Shape-F.AsyncReset is = grind (arith, common_steps, the_lemmas)
  layer_element s ws (Shape-F.Bundle fields) is = grind (arith, common_steps, the_lemmas)
  layer_element s ws (Shape-F.Vector element n) is = grind (arith, common_steps, the_lemmas)

  bundle_in : (s : Shape) (fs : List Field) → s ≡ shape.Bundle fs → fields_in (out-Shape s) ≡ Some fs
  bundle_in s fs is = grind (arith, common_steps, the_lemmas)

  vector_in : (s : Shape) (element : FirType) (n : ℕ) → s ≡ shape.Vector element n → element_in (out-Shape s) ≡ Some element
  vector_in s element n is = grind (arith, common_steps, the_lemmas)

  -- the fields of a fitted bundle are those of the bundle with their widths
  fields_fit : (sized : Component) (typ : FirType) (gs : List Field) → typ.shape ≡ shape.Bundle gs → Fits all sized typ false
      → Some gs ≡ option_map (λ fs. (fields_taking fs (widths_at sized.slots)).0) (fields_in (out-Shape sized.part.typ.shape))
  fields_fit sized typ gs is h =
      let ws : List Width = widths_at sized.slots in
      sym (bundle_in typ.shape gs is) ∙ ap (λ (t : FirType). fields_in (out-Shape t.shape)) h.typ_is
      ∙ ap (λ s. fields_in (out-Shape s)) (filled_shape sized.part.typ ws) ∙ layer_fields sized.part.typ.shape ws (out-Shape sized.part.typ.shape) refl

  -- a field of a fitted bundle is the fitted field
  field_fits : (name : ℕ) (sized : Component) (typ : FirType) (gs : List Field) (g : Field) → typ.shape ≡ shape.Bundle gs → find (is_named name) gs ≡ Some g
      → Fits all sized typ false → Fits all (field_step name sized) g.typ false
  field_fits name sized typ gs g is found h =
      by (out-Shape sized.part.typ.shape) (fields_fit sized typ gs is h)
    where
      inner : (fs : List Field) (o : Option Field) → Some g.typ ≡ option_map (λ (f : Field). filled f.typ (widths_at (field_slots name fs sized.slots))) o
          → g.typ ≡ filled (field_or_whole sized.part o).typ (widths_at (field_slots name fs sized.slots))
      inner fs (Some f) e = cc
      inner fs None e = absurd cc

      one : (fs : List Field) → gs ≡ (fields_taking fs (widths_at sized.slots)).0
          → Some g.typ ≡ option_map (λ (f : Field). filled f.typ (widths_at (field_slots name fs sized.slots))) (find (is_named name) fs)
      one fs e = ap (option_map (λ (f : Field). f.typ)) (sym found ∙ ap (find (is_named name)) e) ∙ field_in name fs sized.slots

      same : (fs : List Field) → Some gs ≡ Some (fields_taking fs (widths_at sized.slots)).0 → gs ≡ (fields_taking fs (widths_at sized.slots)).0
      same fs e = cc

      by : (y : Shape-F Shape Field FirType) → Some gs ≡ option_map (λ fs. (fields_taking fs (widths_at sized.slots)).0) (fields_in y)
          → Fits all (record { part = field_of_layer name sized.part y; slots = slots_of_layer name y sized.slots }) g.typ false
      by (Shape-F.Unsigned w) e = absurd cc
      by (Shape-F.Signed w) e = absurd cc
      by Shape-F.Clock e = absurd cc
      by Shape-F.Reset e = absurd cc
      by Shape-F.AsyncReset e = absurd cc
      by (Shape-F.Bundle fs) e = record {
        typ_is = inner fs (find (is_named name) fs) (one fs (same fs e));
        over_is = over_field name fs sized.slots h.over_is;
      }
      by (Shape-F.Vector element n) e = absurd cc

  -- the field at the position of the first of this name is the field that is found
  placed_fits : (name : ℕ) (sized : Component) (fitted : FirType) (gs : List Field) (g : Field) (position : ℕ) → fitted.shape ≡ shape.Bundle gs
      → first_at (known.fields_in (out-Shape sized.part.typ.shape)) name ≡ Some position → position < length gs → g ≡ get_or gs position g → Fits all sized fitted false
      → Fits all (field_step name sized) g.typ false
  placed_fits name sized fitted gs g position is at lt got h =
      field_fits name sized fitted gs g is (by (out-Shape sized.part.typ.shape) (fields_fit sized fitted gs is h) at) h
    where
      same : (fs : List Field) → Some gs ≡ Some (fields_taking fs (widths_at sized.slots)).0 → gs ≡ (fields_taking fs (widths_at sized.slots)).0
      same fs e = cc

      by : (y : Shape-F Shape Field FirType) → Some gs ≡ option_map (λ fs. (fields_taking fs (widths_at sized.slots)).0) (fields_in y) → first_at (known.fields_in y) name ≡ Some position
          → find (is_named name) gs ≡ Some g
      by (Shape-F.Unsigned w) e first = absurd cc
      by (Shape-F.Signed w) e first = absurd cc
      by Shape-F.Clock e first = absurd cc
      by Shape-F.Reset e first = absurd cc
      by Shape-F.AsyncReset e first = absurd cc
      by (Shape-F.Bundle fs) e first =
          found_at name gs position g (ap (λ l. first_at l name) (same fs e) ∙ first_kept name fs (widths_at sized.slots) ∙ first) lt got
      by (Shape-F.Vector element n) e first = absurd cc

  -- a field beside its fitted field
  pub field_beside : (name : ℕ) (sized : Component) (typ fitted : FirType) (f : Field) (gs : List Field) (g : Field) (place : FieldPlace)
      → Some f ≡ find (is_named name) (known.fields_in (out-Shape typ.shape)) → IsPlaceIn (known.fields_in (out-Shape typ.shape)) name place → fitted.shape ≡ shape.Bundle gs
      → place.position < length gs → g ≡ get_or gs place.position g → StandsBeside all sized typ fitted → StandsBeside all (field_step name sized) f.typ g.typ
  field_beside name sized typ fitted f gs g place found at is lt got h = record {
    same = by (out-Shape sized.part.typ.shape) (found ∙ ap (λ (t : FirType). find (is_named name) (known.fields_in (out-Shape t.shape))) h.same);
    fits = placed_fits name sized fitted gs g place.position is (sym (ap (λ (t : FirType). first_at (known.fields_in (out-Shape t.shape)) name) h.same) ∙ at.position) lt got h.fits;
  }
    where
      one : (o : Option Field) → Some f ≡ o → f.typ ≡ (field_or_whole sized.part o).typ
      one (Some k) e = cc
      one None e = absurd cc

      by : (y : Shape-F Shape Field FirType) → Some f ≡ find (is_named name) (known.fields_in y) → f.typ ≡ (field_of_layer name sized.part y).typ
      by (Shape-F.Unsigned w) e = absurd cc
      by (Shape-F.Signed w) e = absurd cc
      by Shape-F.Clock e = absurd cc
      by Shape-F.Reset e = absurd cc
      by Shape-F.AsyncReset e = absurd cc
      by (Shape-F.Bundle fs) e = one (find (is_named name) fs) e
      by (Shape-F.Vector element n) e = absurd cc

  -- the element of a fitted vector is the fitted element
  element_fits : (sized : Component) (typ element : FirType) (n : ℕ) → typ.shape ≡ shape.Vector element n → Fits all sized typ false → Fits all (element_step sized) element false
  element_fits sized typ element n is h =
      let ws : List Width = widths_at sized.slots in
      let there' : Some element ≡ option_map (λ t. filled t ws) (element_in (out-Shape sized.part.typ.shape))
      = sym (vector_in typ.shape element n is) ∙ ap (λ (t : FirType). element_in (out-Shape t.shape)) h.typ_is
      ∙ ap (λ s. element_in (out-Shape s)) (filled_shape sized.part.typ ws) ∙ layer_element sized.part.typ.shape ws (out-Shape sized.part.typ.shape) refl in
      by (out-Shape sized.part.typ.shape) there'
    where
      by : (y : Shape-F Shape Field FirType) → Some element ≡ option_map (λ t. filled t (widths_at sized.slots)) (element_in y)
          → Fits all (record { part = element_of_layer sized.part y; slots = sized.slots }) element false
      by (Shape-F.Unsigned w) e = absurd cc
      by (Shape-F.Signed w) e = absurd cc
      by Shape-F.Clock e = absurd cc
      by Shape-F.Reset e = absurd cc
      by Shape-F.AsyncReset e = absurd cc
      by (Shape-F.Bundle fs) e = absurd cc
      by (Shape-F.Vector inner m) e = record { typ_is = cc; over_is = h.over_is }

  -- an element beside its fitted element
  pub element_beside : (sized : Component) (typ fitted inner element : FirType) (n : ℕ) → Some inner ≡ known.element_in (out-Shape typ.shape) → fitted.shape ≡ shape.Vector element n
      → StandsBeside all sized typ fitted → StandsBeside all (element_step sized) inner element
  element_beside sized typ fitted inner element n found is h = record {
    same = by (out-Shape sized.part.typ.shape) (found ∙ ap (λ (t : FirType). known.element_in (out-Shape t.shape)) h.same);
    fits = element_fits sized fitted element n is h.fits;
  }
    where
      by : (y : Shape-F Shape Field FirType) → Some inner ≡ known.element_in y → inner ≡ (element_of_layer sized.part y).typ
      by (Shape-F.Unsigned w) e = absurd cc
      by (Shape-F.Signed w) e = absurd cc
      by Shape-F.Clock e = absurd cc
      by Shape-F.Reset e = absurd cc
      by Shape-F.AsyncReset e = absurd cc
      by (Shape-F.Bundle fs) e = absurd cc
      by (Shape-F.Vector o m) e = cc
