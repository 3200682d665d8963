-- The steps of references: what the type check finds, what the rules measure, and what the filled type has there.
use Rattle.std.proofs.Common.{◌≡◌, ℕ, ◌+◌, ◌==◌, Bool, true, false, not, cond, if◌then◌else◌, List, [], ◌∷◌, ◌++◌, map, length, take, drop, Option, Some, None, refl, sym, ap, ap₂, ◌∙◌, subst, arith, ⊎_elim}
use Rattle.std.proofs.lemmas.List.Elements.{Contains-append_cases}
use Rattle.std.specs.Prelude.{Contains, ⊤, find, option_map}
use Rattle.std.specs.List.{flat_map}
use Rattle.std.proofs.lemmas.Grind.{common_steps}
use Rattle.std.proofs.lemmas.List.{take-map, drop-map, length-take, length-drop}
use Rattle.fir_types.specs.declared.fir_type.FirType.{FirType, the_lemmas}
use Rattle.fir_types.specs.declared.fir_type.Shape.{Shape}
use Rattle.fir_types.specs.declared.fir_type.Shape.TheOpen.{Shape-F}
use Rattle.fir_types.specs.declared.fir_type.Shape.TheViews.{out-Shape}
use Rattle.fir_types.specs.declared.fir_type.Shape.TheVariants as shape
use Rattle.fir_types.specs.declared.fir_type.Shape.TheVariants.{outs-Unsigned, outs-Signed, outs-Clock, outs-Reset, outs-AsyncReset, outs-Bundle, outs-Vector}
use Rattle.fir_types.specs.declared.fir_type.Field.{Field, fold-Field}
use Rattle.fir_types.specs.declared.name.Name.{Name}
use Rattle.prim_ops.specs.declared.widths.Width.{Width}
use Rattle.fir_tree.specs.declared.part.Part.{Part}
use Rattle.fir_tree.specs.declared.part.Flow.{Flow}
use Rattle.fir_tree.specs.declared.part.Flow.TheVariants.{Source, Sink, Duplex}
use Rattle.fir_tree.specs.Parts.{part_of, flow_through, field_part, element_part, field_of_layer, field_or_whole, element_of_layer}
use Rattle.fir_tree.specs.Parts.{turned as turned_flow}
use Rattle.fir_tree.proofs.Shapes.{ShapeCase, shape_uint, shape_sint, shape_clock, shape_reset, shape_async, shape_bundle, shape_vector, case_of}
use Rattle.type_check.specs.declared.fault.TypeFault.{TypeFault}
use Rattle.type_check.specs.Texts.{twice_in, twice_in_shape, field_faults, seconds_behind, FieldFaults}
use Rattle.type_check.specs.Expressions as typing_check
use Rattle.type_check.specs.Expressions.{Judgement, field_found, element_found, indexed}
use Rattle.width_rules.specs.declared.component.Component.{Component}
use Rattle.width_rules.specs.declared.slot.Slot.{Slot}
use Rattle.width_rules.specs.declared.rule.Formula.{Formula}
use Rattle.width_rules.specs.Places.{Spot, spots, size, turned, node_spots, field_slots, slots_of_field, slots_of_layer}
use Rattle.width_rules.specs.Layers.{field_spots, node_field_spots}
use Rattle.width_rules.specs.Sources as sources
use Rattle.width_rules.specs.Sources.{formula_of}
use Rattle.width_rules.proofs.Spots.{spots-bundle, spots-vector, spots-field, node-bundle, node-vector}
use Rattle.type_filling.specs.Filling.{filled}
use Rattle.width_fit.specs.Judging.{slot_width}
use Rattle.fir_meaning.specs.Values.{field_of_shape, element_of_shape, length_of_shape, vector_length}
use Rattle.fir_names.proofs.Graphs.{some_same}
use Rattle.circuit_laws.proofs.Pieces.{found_in}
use Rattle.fitted_laws.proofs.Asyncs.{OneSlots, field_one, fields_one}
use Rattle.fitted_laws.proofs.Filling.{filled_fields, filled-bundle, filled-vector, field_widths, field_of_filled, size-bundle, size-vector, size-fields, size-field}
use Rattle.fir_names.proofs.Members.{Contains-none, Contains-one}

-- Lists without items

pub left_empty : {X : Type 0} (xs ys : List X) → xs ++ ys ≡ [] → xs ≡ []
left_empty [] ys e = refl
left_empty (x ∷ xs) ys e = cc

pub right_empty : {X : Type 0} (xs ys : List X) → xs ++ ys ≡ [] → ys ≡ []
right_empty [] ys e = e
right_empty (x ∷ xs) ys e = cc

pub all_empty : {X Y : Type 0} (f : X → List Y) (xs : List X) (x : X) → flat_map f xs ≡ [] → Contains xs x → f x ≡ []
all_empty f [] x e i = absurd (Contains-none i)
all_empty f (y ∷ xs) x e i = ⊎_elim (λ l. subst (λ z. f z ≡ []) (sym (Contains-one l)) (left_empty (f y) (flat_map f xs) e))
    (λ r. all_empty f xs x (right_empty (f y) (flat_map f xs) e) r) (Contains-append_cases (y ∷ []) xs _ i)

-- Places

-- what holds of each place, by its flow and its formula
abbrev pub Placed : (Flow → Formula → Type 0) → Flow → List Spot → List Formula → Type 0
Placed Q flow (s ∷ ss) (f ∷ fs) = Q (flow_through s.flip flow) f × Placed Q flow ss fs
Placed Q flow [] fs = ⊤
Placed Q flow (s ∷ ss) [] = ⊤

turned_twice : (flow : Flow) → turned_flow (turned_flow flow) ≡ flow
turned_twice Source = refl
turned_twice Sink = refl
turned_twice Duplex = refl

through_turned : (b s : Bool) (flow : Flow) → flow_through (if b then not s else s) flow ≡ flow_through s (flow_through b flow)
through_turned true true flow = sym (turned_twice flow)
through_turned true false flow = refl
through_turned false s flow = refl

pub placed_turned : (Q : Flow → Formula → Type 0) (b : Bool) (flow : Flow) (ss : List Spot) (fs : List Formula) → Placed Q flow (map (turned b) ss) fs → Placed Q (flow_through b flow) ss fs
placed_turned Q b flow [] fs h = tt
placed_turned Q b flow (s ∷ ss) [] h = tt
placed_turned Q b flow (s ∷ ss) (f ∷ fs) h = (subst (λ x. Q x f) (through_turned b s.flip flow) h.0, placed_turned Q b flow ss fs h.1)

pub placed_front : (Q : Flow → Formula → Type 0) (flow : Flow) (xs ys : List Spot) (fs : List Formula) → Placed Q flow (xs ++ ys) fs → Placed Q flow xs (take (length xs) fs)
placed_front Q flow [] ys fs h = tt
placed_front Q flow (x ∷ xs) ys [] h = tt
placed_front Q flow (x ∷ xs) ys (f ∷ fs) h = (h.0, placed_front Q flow xs ys fs h.1)

pub placed_rest : (Q : Flow → Formula → Type 0) (flow : Flow) (xs ys : List Spot) (fs : List Formula) → Placed Q flow (xs ++ ys) fs → Placed Q flow ys (drop (length xs) fs)
placed_rest Q flow [] ys fs h = h
placed_rest Q flow (x ∷ xs) ys [] h = none ys where
  none : (ys : List Spot) → Placed Q flow ys []
  none [] = tt
  none (y ∷ ys) = tt
placed_rest Q flow (x ∷ xs) ys (f ∷ fs) h = placed_rest Q flow xs ys fs h.1

-- A component of the rules that stands: it has a slot for each place, no bundle in it has two fields of one name, something holds of
-- its places, and its AsyncResets have width 1.
pub record IsGood (Q : Flow → Formula → Type 0) (sized : Component) : Type 0 where
  pub counted : length sized.slots ≡ size sized.part.typ
  pub once : twice_in sized.part.typ ≡ []
  pub placed : Placed Q sized.part.flow (spots sized.part.typ) (map formula_of sized.slots)
  pub ones : OneSlots (node_spots sized.part.typ) sized.slots

-- Fields

abbrev field_twice : Field → FieldFaults
field_twice = fold-Field (List TypeFault) FieldFaults (List TypeFault) twice_in_shape field_faults (λ t. t.shape)

field_twice_is : (f : Field) → field_twice f ≡ (f.name, twice_in f.typ)
field_twice_is f = grind (arith, common_steps, the_lemmas)

twice-bundle : (t : FirType) (fs : List Field) → t.shape ≡ shape.Bundle fs
    → twice_in t ≡ seconds_behind [] (map (λ f. f.0) (map field_twice fs)) ++ flat_map (λ f. f.1) (map field_twice fs)
twice-bundle t fs e = grind (arith, common_steps, the_lemmas)

pub twice-vector : (t e : FirType) (n : ℕ) → t.shape ≡ shape.Vector e n → twice_in t ≡ twice_in e
twice-vector t e n h = grind (arith, common_steps, the_lemmas)

names_twice : (fs : List Field) → map (λ f. f.0) (map field_twice fs) ≡ map (λ f. f.name) fs
names_twice [] = refl
names_twice (f ∷ fs) = ap₂ (λ x xs. x ∷ xs) (ap (λ (p : FieldFaults). p.0) (field_twice_is f)) (names_twice fs)

types_twice : (fs : List Field) → flat_map (λ f. f.1) (map field_twice fs) ≡ flat_map (λ f. twice_in f.typ) fs
types_twice [] = refl
types_twice (f ∷ fs) = ap₂ (λ x xs. x ++ xs) (ap (λ (p : FieldFaults). p.1) (field_twice_is f)) (types_twice fs)

pub twice_of_bundle : (t : FirType) (fs : List Field) → t.shape ≡ shape.Bundle fs
    → twice_in t ≡ seconds_behind [] (map (λ f. f.name) fs) ++ flat_map (λ f. twice_in f.typ) fs
twice_of_bundle t fs e = twice-bundle t fs e ∙ ap₂ (λ a b. seconds_behind [] a ++ b) (names_twice fs) (types_twice fs)

slots_counted : (name : ℕ) (fs : List Field) (f : Field) (slots : List Slot) → find (λ f. f.name.id == name) fs ≡ Some f → length slots ≡ length (flat_map field_spots fs)
    → length (field_slots name fs slots) ≡ size f.typ
slots_counted name [] f slots e l = cc
slots_counted name (g ∷ fs) f slots e l = by (g.name.id == name) refl (slots_counted name fs f (drop (size g.typ) slots)) where
  more : length slots ≡ size g.typ + length (flat_map field_spots fs)
  more = l ∙ size-fields g fs

  by : (b : Bool) → (g.name.id == name) ≡ b
      → (find (λ f. f.name.id == name) fs ≡ Some f → length (drop (size g.typ) slots) ≡ length (flat_map field_spots fs) → length (field_slots name fs (drop (size g.typ) slots)) ≡ size f.typ)
      → length (if b then take (size g.typ) slots else field_slots name fs (drop (size g.typ) slots)) ≡ size f.typ
  by true q rest =
      let same : g ≡ f = some_same (subst (λ c. cond c (Some g) (find (λ f. f.name.id == name) fs) ≡ Some f) q e) in
      let n : length (take (size g.typ) slots) ≡ size g.typ = omega (arith, length-take (size g.typ) slots, more) in
      n ∙ ap (λ (x : Field). size x.typ) same
  by false q rest =
      let n : length (drop (size g.typ) slots) ≡ length (flat_map field_spots fs) = omega (arith, length-drop (size g.typ) slots, more) in
      rest (subst (λ c. cond c (Some g) (find (λ f. f.name.id == name) fs) ≡ Some f) q e) n

slots_placed : (Q : Flow → Formula → Type 0) (flow : Flow) (name : ℕ) (fs : List Field) (f : Field) (slots : List Slot) → find (λ f. f.name.id == name) fs ≡ Some f
    → Placed Q flow (flat_map field_spots fs) (map formula_of slots) → Placed Q (flow_through f.flip flow) (spots f.typ) (map formula_of (field_slots name fs slots))
slots_placed Q flow name [] f slots e h = cc
slots_placed Q flow name (g ∷ fs) f slots e h = by (g.name.id == name) refl (slots_placed Q flow name fs f (drop (size g.typ) slots)) where
  own : Placed Q flow (field_spots g) (map formula_of (take (size g.typ) slots))
  own = subst (λ fs. Placed Q flow (field_spots g) fs) (take-map formula_of (size g.typ) slots)
      (subst (λ n. Placed Q flow (field_spots g) (take n (map formula_of slots))) (size-field g) (placed_front Q flow (field_spots g) (flat_map field_spots fs) (map formula_of slots) h))

  others : Placed Q flow (flat_map field_spots fs) (map formula_of (drop (size g.typ) slots))
  others = subst (λ xs. Placed Q flow (flat_map field_spots fs) xs) (drop-map formula_of (size g.typ) slots)
      (subst (λ n. Placed Q flow (flat_map field_spots fs) (drop n (map formula_of slots))) (size-field g) (placed_rest Q flow (field_spots g) (flat_map field_spots fs) (map formula_of slots) h))

  by : (b : Bool) → (g.name.id == name) ≡ b
      → (find (λ f. f.name.id == name) fs ≡ Some f → Placed Q flow (flat_map field_spots fs) (map formula_of (drop (size g.typ) slots))
      → Placed Q (flow_through f.flip flow) (spots f.typ) (map formula_of (field_slots name fs (drop (size g.typ) slots))))
      → Placed Q (flow_through f.flip flow) (spots f.typ) (map formula_of (if b then take (size g.typ) slots else field_slots name fs (drop (size g.typ) slots)))
  by true q rest =
      let same : g ≡ f = some_same (subst (λ c. cond c (Some g) (find (λ f. f.name.id == name) fs) ≡ Some f) q e) in
      subst (λ (x : Field). Placed Q (flow_through x.flip flow) (spots x.typ) (map formula_of (take (size g.typ) slots))) same
      (placed_turned Q g.flip flow (spots g.typ) (map formula_of (take (size g.typ) slots)) (subst (λ ss. Placed Q flow ss (map formula_of (take (size g.typ) slots))) (spots-field g) own))
  by false q rest = rest (subst (λ c. cond c (Some g) (find (λ f. f.name.id == name) fs) ≡ Some f) q e) others

slots_ones : (name : ℕ) (fs : List Field) (f : Field) (slots : List Slot) → find (λ f. f.name.id == name) fs ≡ Some f
    → OneSlots (flat_map node_field_spots fs) slots → OneSlots (node_spots f.typ) (field_slots name fs slots)
slots_ones name [] f slots e h = cc
slots_ones name (g ∷ fs) f slots e h = by (g.name.id == name) refl (slots_ones name fs f (drop (size g.typ) slots)) where
  by : (b : Bool) → (g.name.id == name) ≡ b
      → (find (λ f. f.name.id == name) fs ≡ Some f → OneSlots (flat_map node_field_spots fs) (drop (size g.typ) slots) → OneSlots (node_spots f.typ) (field_slots name fs (drop (size g.typ) slots)))
      → OneSlots (node_spots f.typ) (if b then take (size g.typ) slots else field_slots name fs (drop (size g.typ) slots))
  by true q rest =
      let same : g ≡ f = some_same (subst (λ c. cond c (Some g) (find (λ f. f.name.id == name) fs) ≡ Some f) q e) in
      subst (λ (x : Field). OneSlots (node_spots x.typ) (take (size g.typ) slots)) same (field_one g fs slots h)
  by false q rest = rest (subst (λ c. cond c (Some g) (find (λ f. f.name.id == name) fs) ≡ Some f) q e) (fields_one g fs slots h)

pub slots_widths : (ws : List Width) (name : ℕ) (fs : List Field) (slots : List Slot) → map (slot_width ws) (field_slots name fs slots) ≡ field_widths name fs (map (slot_width ws) slots)
slots_widths ws name [] slots = refl
slots_widths ws name (f ∷ fs) slots = by (f.name.id == name) (slots_widths ws name fs (drop (size f.typ) slots)) where
  by : (b : Bool) → map (slot_width ws) (field_slots name fs (drop (size f.typ) slots)) ≡ field_widths name fs (map (slot_width ws) (drop (size f.typ) slots))
      → map (slot_width ws) (if b then take (size f.typ) slots else field_slots name fs (drop (size f.typ) slots))
      ≡ (if b then take (size f.typ) (map (slot_width ws) slots) else field_widths name fs (drop (size f.typ) (map (slot_width ws) slots)))
  by true rest = sym (take-map (slot_width ws) (size f.typ) slots)
  by false rest = rest ∙ ap (field_widths name fs) (sym (drop-map (slot_width ws) (size f.typ) slots))

-- what a step finds, and what stands there
pub record IsStep (Q : Flow → Formula → Type 0) (ws : List Width) (sized : Component) (judged : Judgement) (onward : Component) (next : Part) (to : FirType → Option FirType) : Type 0 where
  pub found : judged.part ≡ Some next
  pub part_is : onward.part ≡ next
  pub good : IsGood Q onward
  pub typed : to (filled sized.part.typ (map (slot_width ws) sized.slots)) ≡ Some (filled next.typ (map (slot_width ws) onward.slots))

module _ (Q : Flow → Formula → Type 0) (ws : List Width) where
  field_by : (sized : Component) (name : Name) (fields : List Field) → sized.part.typ.shape ≡ shape.Bundle fields → IsGood Q sized
      → (o : Option Field) → find (λ f. f.name.id == name.id) fields ≡ o → (field_found name sized.part o).faults ≡ []
      → (next : Part) × IsStep Q ws sized (typing_check.field_step name sized.part (out-Shape sized.part.typ.shape)) (sources.field_step name.id sized) next (λ t. field_of_shape name.id (out-Shape t.shape))
  field_by sized name fields is good None q e = cc
  field_by sized name fields is good (Some f) q e =
      let base : Part = sized.part in
      let out : out-Shape base.typ.shape ≡ Shape-F.Bundle fields = ap out-Shape is ∙ outs-Bundle fields in
      let next : Part = part_of f.typ (flow_through f.flip base.flow) in
      let part_is : field_part name.id base ≡ next = ap (field_of_layer name.id base) out ∙ ap (field_or_whole base) q in
      let slots_are : slots_of_field name.id base.typ sized.slots ≡ field_slots name.id fields sized.slots = ap (λ s. slots_of_layer name.id s sized.slots) out in
      let among = found_in (λ (x : Field). x.name.id == name.id) fields f q in
      let widths : List Width = map (slot_width ws) sized.slots in
      let out_filled : out-Shape (filled base.typ widths).shape ≡ Shape-F.Bundle (filled_fields fields widths) = ap out-Shape (filled-bundle base.typ fields is widths) ∙ outs-Bundle (filled_fields fields widths) in (
        next,
        record {
          found = ap (λ s. (typing_check.field_step name base s).part) out ∙ ap (λ o. (field_found name base o).part) q;
          part_is = part_is;
          good = record {
            counted = ap length slots_are ∙ slots_counted name.id fields f sized.slots q (good.counted ∙ size-bundle base.typ fields is) ∙ ap (λ (p : Part). size p.typ) (sym part_is);
            once = ap (λ (p : Part). twice_in p.typ) part_is
                ∙ all_empty (λ (x : Field). twice_in x.typ) fields f (right_empty _ _ (sym (twice_of_bundle base.typ fields is) ∙ good.once)) among.0;
            placed = subst (λ (p : Part). Placed Q p.flow (spots p.typ) (map formula_of (slots_of_field name.id base.typ sized.slots))) (sym part_is)
                (subst (λ ss. Placed Q (flow_through f.flip base.flow) (spots f.typ) (map formula_of ss)) (sym slots_are)
                (slots_placed Q base.flow name.id fields f sized.slots q (subst (λ ss. Placed Q base.flow ss (map formula_of sized.slots)) (spots-bundle base.typ fields is) good.placed)));
            ones = subst (λ (p : Part). OneSlots (node_spots p.typ) (slots_of_field name.id base.typ sized.slots)) (sym part_is)
                (subst (OneSlots (node_spots f.typ)) (sym slots_are)
                (slots_ones name.id fields f sized.slots q (subst (λ ss. OneSlots ss sized.slots) (node-bundle base.typ fields is) good.ones)));
          };
          typed = ap (field_of_shape name.id) out_filled ∙ field_of_filled name.id fields widths ∙ ap (option_map (λ (g : Field). filled g.typ (field_widths name.id fields widths))) q
              ∙ ap (λ vs. Some (filled f.typ vs)) (sym (slots_widths ws name.id fields sized.slots) ∙ ap (map (slot_width ws)) (sym slots_are));
        },
      )

  pub field_step : (sized : Component) (name : Name) → IsGood Q sized → (typing_check.field_step name sized.part (out-Shape sized.part.typ.shape)).faults ≡ []
      → (next : Part) × IsStep Q ws sized (typing_check.field_step name sized.part (out-Shape sized.part.typ.shape)) (sources.field_step name.id sized) next (λ t. field_of_shape name.id (out-Shape t.shape))
  field_step sized name good e = by (case_of sized.part.typ.shape) where
    step : Shape-F Shape Field FirType → Judgement
    step s = typing_check.field_step name sized.part s

    by : ShapeCase sized.part.typ.shape
        → (next : Part) × IsStep Q ws sized (typing_check.field_step name sized.part (out-Shape sized.part.typ.shape)) (sources.field_step name.id sized) next (λ t. field_of_shape name.id (out-Shape t.shape))
    by (shape_bundle fields is) = field_by sized name fields is good (find (λ f. f.name.id == name.id) fields) refl
        (sym (ap (λ s. (typing_check.field_step name sized.part s).faults) (ap out-Shape is ∙ outs-Bundle fields)) ∙ e)
    by (shape_uint w is) = absurd (let f = sym (ap (λ s. (typing_check.field_step name sized.part s).faults) (ap out-Shape is ∙ outs-Unsigned w)) ∙ e in cc)
    by (shape_sint w is) = absurd (let f = sym (ap (λ s. (typing_check.field_step name sized.part s).faults) (ap out-Shape is ∙ outs-Signed w)) ∙ e in cc)
    by (shape_clock is) = absurd (let f = sym (ap (λ s. (typing_check.field_step name sized.part s).faults) (ap out-Shape is ∙ outs-Clock)) ∙ e in cc)
    by (shape_reset is) = absurd (let f = sym (ap (λ s. (typing_check.field_step name sized.part s).faults) (ap out-Shape is ∙ outs-Reset)) ∙ e in cc)
    by (shape_async is) = absurd (let f = sym (ap (λ s. (typing_check.field_step name sized.part s).faults) (ap out-Shape is ∙ outs-AsyncReset)) ∙ e in cc)
    by (shape_vector element n is) = absurd (let f = sym (ap (λ s. (typing_check.field_step name sized.part s).faults) (ap out-Shape is ∙ outs-Vector element n)) ∙ e in cc)

  -- Elements

  -- a vector, and the component of an element of it
  pub record IsVector (sized : Component) : Type 0 where
    pub element : FirType
    pub length' : ℕ
    pub is : sized.part.typ.shape ≡ shape.Vector element length'
    pub out : out-Shape sized.part.typ.shape ≡ Shape-F.Vector element length'
    pub part_is : element_part sized.part ≡ part_of element sized.part.flow
    pub good : IsGood Q (sources.element_step sized)
    pub counted : vector_length (filled sized.part.typ (map (slot_width ws) sized.slots)) ≡ length'
    pub typed : element_of_shape (out-Shape (filled sized.part.typ (map (slot_width ws) sized.slots)).shape) ≡ Some (filled element (map (slot_width ws) sized.slots))

  vector_there : (sized : Component) (element : FirType) (n : ℕ) → sized.part.typ.shape ≡ shape.Vector element n → IsGood Q sized → IsVector sized
  vector_there sized element n is good =
      let base : Part = sized.part in
      let out : out-Shape base.typ.shape ≡ Shape-F.Vector element n = ap out-Shape is ∙ outs-Vector element n in
      let part_is : element_part base ≡ part_of element base.flow = ap (element_of_layer base) out in
      let widths : List Width = map (slot_width ws) sized.slots in
      let out_filled : out-Shape (filled base.typ widths).shape ≡ Shape-F.Vector (filled element widths) n = ap out-Shape (filled-vector base.typ element n is widths) ∙ outs-Vector (filled element widths) n in
      record {
        element = element;
        length' = n;
        is = is;
        out = out;
        part_is = part_is;
        good = record {
          counted = good.counted ∙ size-vector base.typ element n is ∙ ap (λ (p : Part). size p.typ) (sym part_is);
          once = ap (λ (p : Part). twice_in p.typ) part_is ∙ sym (twice-vector base.typ element n is) ∙ good.once;
          placed = subst (λ (p : Part). Placed Q p.flow (spots p.typ) (map formula_of sized.slots)) (sym part_is)
              (subst (λ ss. Placed Q base.flow ss (map formula_of sized.slots)) (spots-vector base.typ element n is) good.placed);
          ones = subst (λ (p : Part). OneSlots (node_spots p.typ) sized.slots) (sym part_is) (subst (λ ss. OneSlots ss sized.slots) (node-vector base.typ element n is) good.ones);
        };
        counted = ap length_of_shape out_filled;
        typed = ap element_of_shape out_filled;
      }

  pub vector_of : (sized : Component) → IsGood Q sized → (fault : Shape-F Shape Field FirType → Judgement) → (fault (out-Shape sized.part.typ.shape)).faults ≡ []
      → ((w : Option ℕ) → (fault (Shape-F.Unsigned w)).faults ≡ [] → ⊥) → ((w : Option ℕ) → (fault (Shape-F.Signed w)).faults ≡ [] → ⊥) → ((fault Shape-F.Clock).faults ≡ [] → ⊥)
      → ((fault Shape-F.Reset).faults ≡ [] → ⊥) → ((fault Shape-F.AsyncReset).faults ≡ [] → ⊥) → ((fs : List Field) → (fault (Shape-F.Bundle fs)).faults ≡ [] → ⊥) → IsVector sized
  vector_of sized good fault e u s c r a b = by (case_of sized.part.typ.shape) where
    by : ShapeCase sized.part.typ.shape → IsVector sized
    by (shape_vector element n is) = vector_there sized element n is good
    by (shape_uint w is) = absurd (u w (sym (ap (λ x. (fault x).faults) (ap out-Shape is ∙ outs-Unsigned w)) ∙ e))
    by (shape_sint w is) = absurd (s w (sym (ap (λ x. (fault x).faults) (ap out-Shape is ∙ outs-Signed w)) ∙ e))
    by (shape_clock is) = absurd (c (sym (ap (λ x. (fault x).faults) (ap out-Shape is ∙ outs-Clock)) ∙ e))
    by (shape_reset is) = absurd (r (sym (ap (λ x. (fault x).faults) (ap out-Shape is ∙ outs-Reset)) ∙ e))
    by (shape_async is) = absurd (a (sym (ap (λ x. (fault x).faults) (ap out-Shape is ∙ outs-AsyncReset)) ∙ e))
    by (shape_bundle fields is) = absurd (b fields (sym (ap (λ x. (fault x).faults) (ap out-Shape is ∙ outs-Bundle fields)) ∙ e))
