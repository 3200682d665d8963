-- A memory with widths is the bundle of its ports over its elements with widths.
use Rattle.std.proofs.Common.{◌≡◌, ℕ, zero, suc, ◌+◌, ◌^◌, ◌<◌, ◌≤◌, Bool, true, false, if◌then◌else◌, List, [], ◌∷◌, ◌++◌, map, length, drop, Option, Some, refl, sym, ap, ap₂, ◌∙◌, subst, arith, slice_get, append-nil}
use Rattle.std.specs.Prelude.{nat_le}
use Rattle.std.specs.List.{flat_map, filter_map}
use Rattle.std.proofs.lemmas.Grind.{common_steps}
use Rattle.std.proofs.lemmas.Bool.{le-leb}
use Rattle.std.proofs.lemmas.List.{drop_at, map-append, length-map}
use Rattle.place_text.specs.declared.place.Place.{Place}
use Rattle.fir_types.specs.declared.fir_type.FirType.{FirType, ind-FirType, the_lemmas}
use Rattle.fir_types.specs.declared.fir_type.Shape.{Shape}
use Rattle.fir_types.specs.declared.fir_type.Shape.TheOpen.{Shape-F}
use Rattle.fir_types.specs.declared.fir_type.Shape.TheFolds.{map-Shape}
use Rattle.fir_types.specs.declared.fir_type.Shape.TheViews.{roll-Shape, roll-Field, roll-FirType}
use Rattle.fir_types.specs.declared.fir_type.Shape.TheVariants as shape
use Rattle.fir_types.specs.declared.fir_type.Shape.TheVariants.{rolls-Unsigned, rolls-Signed, rolls-Clock, rolls-Reset, rolls-AsyncReset, rolls-Bundle, rolls-Vector}
use Rattle.fir_types.specs.declared.fir_type.Field.{Field}
use Rattle.fir_types.specs.declared.memory.Memory.{Memory}
use Rattle.fir_types.specs.declared.memory.MemLine.{MemLine}
use Rattle.fir_types.specs.declared.memory.MemLine.TheVariants as line
use Rattle.fir_types.specs.declared.memory.PortMode.{PortMode}
use Rattle.fir_types.specs.declared.memory.PortMode.TheVariants as mode
use Rattle.fir_types.specs.declared.name.Name.{Name}
use Rattle.fir_types.specs.Memories.{element_of, depth_of}
use Rattle.fir_types.specs.Bundles.{memory_of, port_field, port_type, fields_of_mode, mask_of, mask_of_field, plain_field, flipped_field, uint_at, clock_at, address_bits, least_reaching, addr_name, en_name, clk_name, data_name, mask_name, rdata_name, wmode_name, wdata_name, wmask_name}
use Rattle.prim_ops.specs.declared.widths.Width.{Width}
use Rattle.prim_ops.specs.declared.widths.Width.TheVariants.{Bits, Over}
use Rattle.width_rules.specs.declared.slot.Slot.{Slot}
use Rattle.width_rules.specs.declared.slot.Slot.TheVariants as slot
use Rattle.width_rules.specs.Places.{Spot, spots, size}
use Rattle.width_rules.specs.Layers.{field_spots}
use Rattle.width_rules.specs.Circuits.{memory_slots, line_slots, mask_slots}
use Rattle.width_rules.proofs.FormulaLemmas.{width-Fixed}
use Rattle.type_filling.specs.Filling.{filled, first_number}
use Rattle.width_fit.specs.Judging.{slot_width}
use Rattle.fir_meaning.specs.Components.{ports_bundle}
use Rattle.fitted_laws.proofs.Filling.{filled_field, filled_fields, filled-bundle, filled-vector, filled-unsigned, filled-signed, filled-clock, filled-reset, filled-async, filled-place, size-bundle, size-vector, size-fields, size-unsigned, size-clock}
use Rattle.fitted_laws.proofs.Once.{mask-bundle, mask-vector, mask-field}
use Rattle.fitted_laws.proofs.Stored.{line_size}
use Rattle.fitted_laws.proofs.Bundles.{front_filled}

same_type : {a b : FirType} → a.place ≡ b.place → a.shape ≡ b.shape → a ≡ b
same_type p q = λ i. record { place = p i; shape = q i }

same_fields : {f g : Field} → f.flip ≡ g.flip → f.name ≡ g.name → f.typ ≡ g.typ → f ≡ g
same_fields p q r = λ i. record { flip = p i; name = q i; typ = r i }

mask-place : (t : FirType) → (mask_of t).place ≡ t.place
mask-place t = grind (arith, common_steps, the_lemmas)

mask-unsigned : (t : FirType) (w : Option ℕ) → t.shape ≡ shape.Unsigned w → (mask_of t).shape ≡ shape.Unsigned (Some 1)
mask-unsigned t w e = grind (arith, common_steps, the_lemmas)

mask-signed : (t : FirType) (w : Option ℕ) → t.shape ≡ shape.Signed w → (mask_of t).shape ≡ shape.Unsigned (Some 1)
mask-signed t w e = grind (arith, common_steps, the_lemmas)

mask-clock : (t : FirType) → t.shape ≡ shape.Clock → (mask_of t).shape ≡ shape.Unsigned (Some 1)
mask-clock t e = grind (arith, common_steps, the_lemmas)

mask-reset : (t : FirType) → t.shape ≡ shape.Reset → (mask_of t).shape ≡ shape.Unsigned (Some 1)
mask-reset t e = grind (arith, common_steps, the_lemmas)

mask-async : (t : FirType) → t.shape ≡ shape.AsyncReset → (mask_of t).shape ≡ shape.Unsigned (Some 1)
mask-async t e = grind (arith, common_steps, the_lemmas)

-- A mask doesn't see widths

abbrev Unseen : FirType → Type 0
Unseen t = (ws : List Width) → mask_of (filled t ws) ≡ mask_of t

abbrev FieldUnseen : Field → Type 0
FieldUnseen f = Unseen f.typ

abbrev ShapeUnseen : Shape → Type 0
ShapeUnseen s = (place : Place) → Unseen (record { place = place; shape = s })

places_same : (t : FirType) (ws : List Width) → (mask_of (filled t ws)).place ≡ (mask_of t).place
places_same t ws = mask-place (filled t ws) ∙ filled-place t ws ∙ sym (mask-place t)

fields_unseen : (ps : List ((f : Field) × FieldUnseen f)) (ws : List Width) → map mask_of_field (filled_fields (map (λ e. e.0) ps) ws) ≡ map mask_of_field (map (λ e. e.0) ps)
fields_unseen [] ws = refl
fields_unseen (p ∷ ps) ws = ap₂ (λ x xs. x ∷ xs)
    (mask-field (filled_field p.0 ws) ∙ ap (λ t. record { flip = p.0.flip; name = p.0.name; typ = t }) (p.1 ws) ∙ sym (mask-field p.0)) (fields_unseen ps (drop (size p.0.typ) ws))

shape_unseen : (y : Shape-F ((s : Shape) × ShapeUnseen s) ((f : Field) × FieldUnseen f) ((t : FirType) × Unseen t))
    → ShapeUnseen (roll-Shape (map-Shape _ _ _ Shape Field FirType (λ e. e.0) (λ e. e.0) (λ e. e.0) y))
shape_unseen (Shape-F.Unsigned w) = subst ShapeUnseen (sym (rolls-Unsigned w)) (λ place ws.
    let t : FirType = record { place = place; shape = shape.Unsigned w } in
    same_type (places_same t ws) (mask-unsigned (filled t ws) (first_number ws) (filled-unsigned t w refl ws) ∙ sym (mask-unsigned t w refl)))
shape_unseen (Shape-F.Signed w) = subst ShapeUnseen (sym (rolls-Signed w)) (λ place ws.
    let t : FirType = record { place = place; shape = shape.Signed w } in
    same_type (places_same t ws) (mask-signed (filled t ws) (first_number ws) (filled-signed t w refl ws) ∙ sym (mask-signed t w refl)))
shape_unseen Shape-F.Clock = subst ShapeUnseen (sym rolls-Clock) (λ place ws.
    let t : FirType = record { place = place; shape = shape.Clock } in
    same_type (places_same t ws) (mask-clock (filled t ws) (filled-clock t refl ws) ∙ sym (mask-clock t refl)))
shape_unseen Shape-F.Reset = subst ShapeUnseen (sym rolls-Reset) (λ place ws.
    let t : FirType = record { place = place; shape = shape.Reset } in
    same_type (places_same t ws) (mask-unsigned (filled t ws) (first_number ws) (filled-reset t refl ws) ∙ sym (mask-reset t refl)))
shape_unseen Shape-F.AsyncReset = subst ShapeUnseen (sym rolls-AsyncReset) (λ place ws.
    let t : FirType = record { place = place; shape = shape.AsyncReset } in
    same_type (places_same t ws) (mask-async (filled t ws) (filled-async t refl ws) ∙ sym (mask-async t refl)))
shape_unseen (Shape-F.Bundle ps) = subst ShapeUnseen (sym (rolls-Bundle (map (λ e. e.0) ps))) (λ place ws.
    let fs : List Field = map (λ e. e.0) ps in
    let t : FirType = record { place = place; shape = shape.Bundle (map (λ e. e.0) ps) } in
    same_type (places_same t ws) (mask-bundle (filled t ws) (filled_fields fs ws) (filled-bundle t fs refl ws) ∙ ap shape.Bundle (fields_unseen ps ws) ∙ sym (mask-bundle t fs refl)))
shape_unseen (Shape-F.Vector p n) = subst ShapeUnseen (sym (rolls-Vector p.0 n)) (λ place ws.
    let t : FirType = record { place = place; shape = shape.Vector p.0 n } in
    same_type (places_same t ws) (mask-vector (filled t ws) (filled p.0 ws) n (filled-vector t p.0 n refl ws) ∙ ap (λ x. shape.Vector x n) (p.1 ws) ∙ sym (mask-vector t p.0 n refl)))

mask_unseen : (t : FirType) → Unseen t
mask_unseen = ind-FirType ShapeUnseen FieldUnseen Unseen
    (λ x y is. subst (λ z. ShapeUnseen (roll-Shape z)) is (shape_unseen y))
    (λ x y is. subst (λ z. FieldUnseen (roll-Field z)) is y.typ.1)
    (λ x y is. subst (λ z. Unseen (roll-FirType z)) is (y.shape.1 y.place))

-- A mask with ones for widths is the mask

abbrev Ones : ℕ → List Width → Type 0
Ones n ws = (k : ℕ) → k < n → slice_get ws k ≡ Some (Bits 1)

get-drop : (n k : ℕ) (ws : List Width) → slice_get (drop n ws) k ≡ slice_get ws (n + k)
get-drop zero k ws = ap (slice_get ws) (omega arith)
get-drop (suc n) k [] = refl
get-drop (suc n) k (w ∷ ws) = get-drop n k ws ∙ ap (slice_get (w ∷ ws)) (let e : suc (n + k) ≡ suc n + k = omega arith in e)

ones_drop : (n m : ℕ) (ws : List Width) → Ones (n + m) ws → Ones m (drop n ws)
ones_drop n m ws h k below = get-drop n k ws ∙ h (n + k) (omega (arith, below))

ones_first : (ws : List Width) → Ones 1 ws → first_number ws ≡ Some 1
ones_first [] h = absurd (let e = h 0 (omega arith) in cc)
ones_first (w ∷ ws) h = one w (h 0 (omega arith)) where
  one : (w : Width) → Some w ≡ Some (Bits 1) → first_number (w ∷ []) ≡ Some 1
  one (Bits n) e = cc
  one Over e = cc

abbrev OnesFill : FirType → Type 0
OnesFill t = (ws : List Width) → Ones (size (mask_of t)) ws → filled (mask_of t) ws ≡ mask_of t

abbrev FieldOnes : Field → Type 0
FieldOnes f = OnesFill f.typ

abbrev ShapeOnes : Shape → Type 0
ShapeOnes s = (place : Place) → OnesFill (record { place = place; shape = s })

ground_ones : (t : FirType) → (mask_of t).shape ≡ shape.Unsigned (Some 1) → OnesFill t
ground_ones t e ws h =
    let one : Ones 1 ws = subst (λ n. Ones n ws) (size-unsigned (mask_of t) (Some 1) e) h in
    same_type (filled-place (mask_of t) ws) (filled-unsigned (mask_of t) (Some 1) e ws ∙ ap shape.Unsigned (ones_first ws one) ∙ sym e)

fields_ones : (ps : List ((f : Field) × FieldOnes f)) (ws : List Width) → Ones (length (flat_map field_spots (map mask_of_field (map (λ e. e.0) ps)))) ws
    → filled_fields (map mask_of_field (map (λ e. e.0) ps)) ws ≡ map mask_of_field (map (λ e. e.0) ps)
fields_ones [] ws h = refl
fields_ones (p ∷ ps) ws h =
    let g : Field = mask_of_field p.0 in
    let typ : g.typ ≡ mask_of p.0.typ = ap (λ (f : Field). f.typ) (mask-field p.0) in
    let others : ℕ = length (flat_map field_spots (map mask_of_field (map (λ e. e.0) ps))) in
    let all : Ones (size g.typ + others) ws = subst (λ n. Ones n ws) (size-fields g (map mask_of_field (map (λ e. e.0) ps))) h in
    let own : filled g.typ ws ≡ g.typ = subst (λ t. filled t ws ≡ t) (sym typ) (p.1 ws (λ k below. all k (let b : k < size g.typ = subst (λ t. k < size t) (sym typ) below in omega (arith, b)))) in
    ap₂ (λ x xs. x ∷ xs) (same_fields refl refl own) (fields_ones ps (drop (size g.typ) ws) (ones_drop (size g.typ) others ws all))

shape_ones : (y : Shape-F ((s : Shape) × ShapeOnes s) ((f : Field) × FieldOnes f) ((t : FirType) × OnesFill t))
    → ShapeOnes (roll-Shape (map-Shape _ _ _ Shape Field FirType (λ e. e.0) (λ e. e.0) (λ e. e.0) y))
shape_ones (Shape-F.Unsigned w) = subst ShapeOnes (sym (rolls-Unsigned w)) (λ place. ground_ones (record { place = place; shape = shape.Unsigned w }) (mask-unsigned (record { place = place; shape = shape.Unsigned w }) w refl))
shape_ones (Shape-F.Signed w) = subst ShapeOnes (sym (rolls-Signed w)) (λ place. ground_ones (record { place = place; shape = shape.Signed w }) (mask-signed (record { place = place; shape = shape.Signed w }) w refl))
shape_ones Shape-F.Clock = subst ShapeOnes (sym rolls-Clock) (λ place. ground_ones (record { place = place; shape = shape.Clock }) (mask-clock (record { place = place; shape = shape.Clock }) refl))
shape_ones Shape-F.Reset = subst ShapeOnes (sym rolls-Reset) (λ place. ground_ones (record { place = place; shape = shape.Reset }) (mask-reset (record { place = place; shape = shape.Reset }) refl))
shape_ones Shape-F.AsyncReset = subst ShapeOnes (sym rolls-AsyncReset) (λ place. ground_ones (record { place = place; shape = shape.AsyncReset }) (mask-async (record { place = place; shape = shape.AsyncReset }) refl))
shape_ones (Shape-F.Bundle ps) = subst ShapeOnes (sym (rolls-Bundle (map (λ e. e.0) ps))) (λ place ws h.
    let fs : List Field = map (λ e. e.0) ps in
    let t : FirType = record { place = place; shape = shape.Bundle (map (λ e. e.0) ps) } in
    let e : (mask_of t).shape ≡ shape.Bundle (map mask_of_field fs) = mask-bundle t fs refl in
    same_type (filled-place (mask_of t) ws) (filled-bundle (mask_of t) (map mask_of_field fs) e ws
    ∙ ap shape.Bundle (fields_ones ps ws (subst (λ n. Ones n ws) (size-bundle (mask_of t) (map mask_of_field fs) e) h)) ∙ sym e))
shape_ones (Shape-F.Vector p n) = subst ShapeOnes (sym (rolls-Vector p.0 n)) (λ place ws h.
    let t : FirType = record { place = place; shape = shape.Vector p.0 n } in
    let e : (mask_of t).shape ≡ shape.Vector (mask_of p.0) n = mask-vector t p.0 n refl in
    same_type (filled-place (mask_of t) ws) (filled-vector (mask_of t) (mask_of p.0) n e ws
    ∙ ap (λ x. shape.Vector x n) (p.1 ws (subst (λ m. Ones m ws) (size-vector (mask_of t) (mask_of p.0) n e) h)) ∙ sym e))

mask_ones : (t : FirType) → OnesFill t
mask_ones = ind-FirType ShapeOnes FieldOnes OnesFill
    (λ x y is. subst (λ z. ShapeOnes (roll-Shape z)) is (shape_ones y))
    (λ x y is. subst (λ z. FieldOnes (roll-Field z)) is y.typ.1)
    (λ x y is. subst (λ z. OnesFill (roll-FirType z)) is (y.shape.1 y.place))

-- Ports

bits_bound : (depth from more : ℕ) → least_reaching depth from more ≤ from + more
unfolding least_reaching
bits_bound depth from zero = omega arith
bits_bound depth from (suc more) = by (nat_le depth (2 ^ from)) (bits_bound depth (suc from) more) where
  by : (b : Bool) → least_reaching depth (suc from) more ≤ suc from + more → (if b then from else least_reaching depth (suc from) more) ≤ from + suc more
  by true h = omega arith
  by false h = omega (arith, h)

address_small : (depth : ℕ) → address_bits depth ≤ 128
unfolding address_bits
address_small depth = let h : least_reaching depth 1 127 ≤ 1 + 127 = bits_bound depth 1 127 in omega (arith, h)

next_field : (f : Field) (fs : List Field) (ws rest : List Width) (t : FirType) → filled f.typ ws ≡ t → drop (size f.typ) ws ≡ rest
    → filled_fields (f ∷ fs) ws ≡ record { flip = f.flip; name = f.name; typ = t } ∷ filled_fields fs rest
next_field f fs ws rest t a b = ap₂ (λ x xs. record { flip = f.flip; name = f.name; typ = x } ∷ xs) a (ap (filled_fields fs) b)

uint_filled : (place : Place) (w : ℕ) (ws : List Width) → filled (uint_at place w) (Bits w ∷ ws) ≡ uint_at place w
uint_filled place w ws = same_type (filled-place (uint_at place w) (Bits w ∷ ws)) (filled-unsigned (uint_at place w) (Some w) refl (Bits w ∷ ws))

uint_rest : (place : Place) (w : ℕ) (v : Width) (ws : List Width) → drop (size (uint_at place w)) (v ∷ ws) ≡ ws
uint_rest place w v ws = ap (λ n. drop n (v ∷ ws)) (size-unsigned (uint_at place w) (Some w) refl)

clock_filled : (place : Place) (ws : List Width) → filled (clock_at place) ws ≡ clock_at place
clock_filled place ws = same_type (filled-place (clock_at place) ws) (filled-clock (clock_at place) refl ws)

clock_rest : (place : Place) (ws : List Width) → drop (size (clock_at place)) ws ≡ ws
clock_rest place ws = ap (λ n. drop n ws) (size-clock (clock_at place) refl)

module _ (ws : List Width) (memory : Memory) (element : List Slot) (long : length element ≡ size (element_of memory)) where
  abbrev e : FirType
  e = element_of memory

  abbrev d : ℕ
  d = depth_of memory

  abbrev es : List Width
  es = map (slot_width ws) element

  abbrev pub e' : FirType
  e' = filled (element_of memory) (map (slot_width ws) element)

  abbrev ones : List Width
  ones = map (slot_width ws) (mask_slots memory)

  es_long : length es ≡ size e
  es_long = length-map element (slot_width ws) ∙ long

  ones_long : length ones ≡ size (mask_of e)
  ones_long = length-map (mask_slots memory) (slot_width ws) ∙ length-map (spots (mask_of e)) (λ (spot : Spot). slot.Fixed 1)

  one_is : slot_width ws (slot.Fixed 1) ≡ Bits 1
  one_is = width-Fixed 1 ws

  address_is : slot_width ws (slot.Fixed (address_bits d)) ≡ Bits (address_bits d)
  address_is = width-Fixed (address_bits d) ws ∙ ap (λ b. if b then Bits (address_bits d) else Over) (le-leb (address_bits d) 128 (address_small d))

  all_ones : (ss : List Spot) (more : List Width) → Ones (length ss) (map (slot_width ws) (map (λ (spot : Spot). slot.Fixed 1) ss) ++ more)
  all_ones [] more k below = absurd (omega (arith, below))
  all_ones (s ∷ ss) more zero below = ap Some one_is
  all_ones (s ∷ ss) more (suc k) below = all_ones ss more k (omega (arith, below))

  mask_filled : (more : List Width) → filled (mask_of e) (ones ++ more) ≡ mask_of e'
  mask_filled more = mask_ones e (ones ++ more) (all_ones (spots (mask_of e)) more) ∙ sym (mask_unseen e es)

  mask_rest : (more : List Width) → drop (size (mask_of e)) (ones ++ more) ≡ more
  mask_rest more = drop_at ones more (size (mask_of e)) ones_long

  element_filled : (more : List Width) → filled e (es ++ more) ≡ e'
  element_filled more = front_filled e es more es_long

  element_rest : (more : List Width) → drop (size e) (es ++ more) ≡ more
  element_rest more = drop_at es more (size e) es_long

  -- behind the fields that each port has
  mode_filled : (place : Place) (m : PortMode) (at : Place) (name : Name) (vs : List Width)
      → map (slot_width ws) (line_slots memory element (line.MemPort at m name)) ≡ slot_width ws (slot.Fixed (address_bits d)) ∷ (slot_width ws (slot.Fixed 1) ∷ vs)
      → filled_fields (fields_of_mode place e m) vs ≡ fields_of_mode place e' m
  mode_filled place mode.Reader at name vs is =
      let v : vs ≡ es ++ [] = ap (drop 2) (sym is) ∙ sym (append-nil es) in
      ap (filled_fields (fields_of_mode place e mode.Reader)) v ∙ next_field (flipped_field place data_name e) [] (es ++ []) [] e' (element_filled []) (element_rest [])
  mode_filled place mode.Writer at name vs is =
      let v : vs ≡ es ++ (ones ++ []) = ap (drop 2) (sym is) ∙ map-append (slot_width ws) element (mask_slots memory) ∙ ap (λ l. es ++ l) (sym (append-nil ones)) in
      ap (filled_fields (fields_of_mode place e mode.Writer)) v
      ∙ next_field (plain_field place data_name e) (plain_field place mask_name (mask_of e) ∷ []) (es ++ (ones ++ [])) (ones ++ []) e' (element_filled (ones ++ [])) (element_rest (ones ++ []))
      ∙ ap (λ l. plain_field place data_name e' ∷ l) (next_field (plain_field place mask_name (mask_of e)) [] (ones ++ []) [] (mask_of e') (mask_filled []) (mask_rest []))
  mode_filled place mode.ReadWriter at name vs is =
      let v : vs ≡ es ++ (Bits 1 ∷ (es ++ (ones ++ [])))
      = ap (drop 2) (sym is) ∙ map-append (slot_width ws) element (slot.Fixed 1 ∷ (element ++ mask_slots memory))
      ∙ ap₂ (λ b l. es ++ (b ∷ l)) one_is (map-append (slot_width ws) element (mask_slots memory) ∙ ap (λ l. es ++ l) (sym (append-nil ones))) in
      let masks : List Field = plain_field place wmask_name (mask_of e) ∷ [] in
      let data' : List Field = plain_field place wdata_name e ∷ masks in
      let modes : List Field = plain_field place wmode_name (uint_at place 1) ∷ data' in
      ap (filled_fields (fields_of_mode place e mode.ReadWriter)) v
      ∙ next_field (flipped_field place rdata_name e) modes (es ++ (Bits 1 ∷ (es ++ (ones ++ [])))) (Bits 1 ∷ (es ++ (ones ++ []))) e' (element_filled _) (element_rest _)
      ∙ ap (λ l. flipped_field place rdata_name e' ∷ l)
      (next_field (plain_field place wmode_name (uint_at place 1)) data' (Bits 1 ∷ (es ++ (ones ++ []))) (es ++ (ones ++ [])) (uint_at place 1) (uint_filled place 1 _) (uint_rest place 1 (Bits 1) _)
      ∙ ap (λ l. plain_field place wmode_name (uint_at place 1) ∷ l)
      (next_field (plain_field place wdata_name e) masks (es ++ (ones ++ [])) (ones ++ []) e' (element_filled (ones ++ [])) (element_rest (ones ++ []))
      ∙ ap (λ l. plain_field place wdata_name e' ∷ l) (next_field (plain_field place wmask_name (mask_of e)) [] (ones ++ []) [] (mask_of e') (mask_filled []) (mask_rest []))))

  front_two : (m : PortMode) (at : Place) (name : Name)
      → (vs : List Width) × (map (slot_width ws) (line_slots memory element (line.MemPort at m name)) ≡ slot_width ws (slot.Fixed (address_bits d)) ∷ (slot_width ws (slot.Fixed 1) ∷ vs))
  front_two mode.Reader at name = (es, refl)
  front_two mode.Writer at name = (map (slot_width ws) (element ++ mask_slots memory), refl)
  front_two mode.ReadWriter at name = (map (slot_width ws) (element ++ (slot.Fixed 1 ∷ (element ++ mask_slots memory))), refl)

  port_filled : (m : PortMode) (at : Place) (name : Name) → filled (port_type e d m name.place) (map (slot_width ws) (line_slots memory element (line.MemPort at m name))) ≡ port_type e' d m name.place
  port_filled m at name =
      let place : Place = name.place in
      let two = front_two m at name in
      let all : List Width = map (slot_width ws) (line_slots memory element (line.MemPort at m name)) in
      let is : all ≡ Bits (address_bits d) ∷ (Bits 1 ∷ two.0) = two.1 ∙ ap₂ (λ a b. a ∷ (b ∷ two.0)) address_is one_is in
      let clks : List Field = plain_field place clk_name (clock_at place) ∷ fields_of_mode place e m in
      let ens : List Field = plain_field place en_name (uint_at place 1) ∷ clks in
      let fs : List Field = plain_field place addr_name (uint_at place (address_bits d)) ∷ ens in
      same_type (filled-place (port_type e d m place) all)
      (filled-bundle (port_type e d m place) fs refl all
      ∙ ap shape.Bundle (ap (filled_fields fs) is
      ∙ next_field (plain_field place addr_name (uint_at place (address_bits d))) ens (Bits (address_bits d) ∷ (Bits 1 ∷ two.0)) (Bits 1 ∷ two.0) (uint_at place (address_bits d)) (uint_filled place (address_bits d) _) (uint_rest place (address_bits d) (Bits (address_bits d)) _)
      ∙ ap (λ l. plain_field place addr_name (uint_at place (address_bits d)) ∷ l)
      (next_field (plain_field place en_name (uint_at place 1)) clks (Bits 1 ∷ two.0) two.0 (uint_at place 1) (uint_filled place 1 _) (uint_rest place 1 (Bits 1) _)
      ∙ ap (λ l. plain_field place en_name (uint_at place 1) ∷ l)
      (next_field (plain_field place clk_name (clock_at place)) (fields_of_mode place e m) two.0 two.0 (clock_at place) (clock_filled place two.0) (clock_rest place two.0)
      ∙ ap (λ l. plain_field place clk_name (clock_at place) ∷ l) (mode_filled place m at name two.0 two.1)))))

  lines_filled : (lines : List MemLine) → filled_fields (filter_map (port_field e d) lines) (map (slot_width ws) (flat_map (line_slots memory element) lines)) ≡ filter_map (port_field e' d) lines
  lines_filled [] = refl
  lines_filled (line.MemPort at m name ∷ lines) =
      let own : List Width = map (slot_width ws) (line_slots memory element (line.MemPort at m name)) in
      let others : List Width = map (slot_width ws) (flat_map (line_slots memory element) lines) in
      let own_long : length own ≡ size (port_type e d m name.place) = length-map (line_slots memory element (line.MemPort at m name)) (slot_width ws) ∙ line_size memory element at m name long in
      ap (filled_fields (filter_map (port_field e d) (line.MemPort at m name ∷ lines))) (map-append (slot_width ws) (line_slots memory element (line.MemPort at m name)) (flat_map (line_slots memory element) lines))
      ∙ next_field (record { flip = true; name = name; typ = port_type e d m name.place }) (filter_map (port_field e d) lines) (own ++ others) others (port_type e' d m name.place)
      (front_filled (port_type e d m name.place) own others own_long ∙ port_filled m at name) (drop_at own others (size (port_type e d m name.place)) own_long)
      ∙ ap (λ l. record { flip = true; name = name; typ = port_type e' d m name.place } ∷ l) (lines_filled lines)
  lines_filled (line.Element at typ ∷ lines) = lines_filled lines
  lines_filled (line.Depth at n ∷ lines) = lines_filled lines
  lines_filled (line.ReadLatency at n ∷ lines) = lines_filled lines
  lines_filled (line.WriteLatency at n ∷ lines) = lines_filled lines
  lines_filled (line.ReadUnder at u ∷ lines) = lines_filled lines

  -- a memory with widths
  pub memory_filled : filled (memory_of memory) (map (slot_width ws) (memory_slots memory element)) ≡ ports_bundle memory e'
  memory_filled =
      let all : List Width = map (slot_width ws) (memory_slots memory element) in
      same_type (filled-place (memory_of memory) all) (filled-bundle (memory_of memory) (filter_map (port_field e d) memory.lines) refl all ∙ ap shape.Bundle (lines_filled memory.lines))
