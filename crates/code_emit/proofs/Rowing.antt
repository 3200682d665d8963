-- Rows of the table of operations.
use Rattle.std.proofs.Common.{◌≡◌, ℕ, ◌≤◌, nat_le, ◌==◌, ◌&&◌, true, List, [], ◌∷◌, map, length, Option, Some, None, option_and_then, refl, sym, ap, ap₂, ◌∙◌, subst, arith, if◌then◌else◌, true≢false}
use Rattle.std.specs.Prelude.{IsSome}
use Rattle.std.proofs.lemmas.Grind.{common_steps}
use Rattle.std.proofs.lemmas.Bool.Decides.{nat_tests}
use Rattle.std.proofs.lemmas.List.{length-map}
use Rattle.bit_words.specs.declared.value.Kind.{Kind}
use Rattle.prim_ops.specs.declared.operation.PrimOp.{PrimOp}
use Rattle.prim_ops.specs.declared.widths.Width.{Width}
use Rattle.prim_ops.specs.declared.widths.Width.TheVariants.{Bits, Over}
use Rattle.prim_ops.specs.Operations.{arity_of}
use Rattle.prim_ops.specs.Kinds.{row_kind}
use Rattle.prim_ops.specs.Widths.{width_number, row_width}
use Rattle.prim_ops.proofs.Formulas.{in_bits}
use Rattle.ground_net.proofs.Layers.{maps}
use Rattle.ground_net.specs.Shapes.{Shape, shaped, params_fit, is_row, width_of_row, shape_of_row}
use Rattle.ground_net.proofs.Shaping.{and_then, if_some, both_true}
use Rattle.flat_code.specs.declared.instr.Location.{Location}
use Rattle.flat_code.specs.Meaning.{location_shape}
use Rattle.flat_code.specs.Fine.{location_shapes}
use Rattle.code_emit.specs.Rows.{IsRow}

abbrev pub kinds_at : List Location → List Kind
kinds_at ss = map (λ (s : Location). s.kind) ss

abbrev pub widths_at : List Location → List ℕ
widths_at ss = map (λ (s : Location). s.width) ss

abbrev pub bits_at : List Location → List Width
bits_at ss = map (λ (s : Location). Bits s.width) ss

pub some_of : {A : Type 0} (o : Option A) → IsSome o → (x : A) × (o ≡ Some x)
some_of (Some x) h = (x, refl)
some_of None h = absurd (true≢false (sym h))

number_same : (a b : ℕ) → (a == b) ≡ true → a ≡ b
number_same a b h = grind (arith, common_steps, nat_tests, h)

small : (w : ℕ) → nat_le w 128 ≡ true → w ≤ 128
small w h = grind (arith, common_steps, nat_tests, h)

le_true : (w : ℕ) → w ≤ 128 → nat_le w 128 ≡ true
le_true w h = grind (arith, common_steps, nat_tests, h)

-- what the table says of locations
pub record Row (prim : PrimOp) (params : List ℕ) (ss : List Location) : Type 0 where
  pub is_row : IsRow prim (kinds_at ss) (bits_at ss) params
  pub shape : (kind : Kind) (width : ℕ) → row_kind prim (kinds_at ss) ≡ Some kind → row_width prim (kinds_at ss) (bits_at ss) params ≡ Bits width
      → shape_of_row prim params (location_shapes ss) ≡ Some (shaped kind width)

pub row_of : (prim : PrimOp) (params : List ℕ) (locations : List Location) → IsSome (shape_of_row prim params (location_shapes locations)) → Row prim params locations
row_of prim params locations h =
    let ss : List Shape = location_shapes locations in
    let found = some_of (shape_of_row prim params ss) h in
    let test = if_some (is_row prim ss params (width_of_row prim ss params)) (option_and_then (λ kind. Some (shaped kind (width_of_row prim ss params))) (row_kind prim (map (λ s. s.kind) ss))) found.0 found.1 in
    let parts = both_true ((length ss == (arity_of prim).0) && (length params == (arity_of prim).1)) (params_fit prim ss params && nat_le (width_of_row prim ss params) 128) test.0 in
    let counts = both_true (length ss == (arity_of prim).0) (length params == (arity_of prim).1) parts.0 in
    let fits = both_true (params_fit prim ss params) (nat_le (width_of_row prim ss params) 128) parts.1 in
    let kind = and_then (λ kind. Some (shaped kind (width_of_row prim ss params))) (row_kind prim (map (λ s. s.kind) ss)) found.0 test.1 in
    let ks : map (λ s. s.kind) ss ≡ kinds_at locations = maps (λ (s : Shape). s.kind) location_shape locations in
    let ws : map (λ s. s.width) ss ≡ widths_at locations = maps (λ (s : Shape). s.width) location_shape locations in
    let width : width_of_row prim ss params ≡ width_number prim (kinds_at locations) (widths_at locations) params = ap₂ (λ a b. width_number prim a b params) ks ws in
    let narrow : width_number prim (kinds_at locations) (widths_at locations) params ≤ 128 = subst (λ w. w ≤ 128) width (small (width_of_row prim ss params) fits.1) in
    let counted : length ss ≡ (arity_of prim).0 = number_same (length ss) (arity_of prim).0 counts.0 in
    let bits : row_width prim (kinds_at locations) (bits_at locations) params ≡ Bits (width_number prim (kinds_at locations) (widths_at locations) params)
    = ap (λ ws. row_width prim (kinds_at locations) ws params) (sym (maps (λ w. Bits w) (λ (s : Location). s.width) locations))
    ∙ (in_bits prim (kinds_at locations) (widths_at locations) params
    ∙ ap (λ b. if b then Bits (width_number prim (kinds_at locations) (widths_at locations) params) else Over) (le_true (width_number prim (kinds_at locations) (widths_at locations) params) narrow)) in
    let is_kind : row_kind prim (kinds_at locations) ≡ Some kind.0 = ap (row_kind prim) (sym ks) ∙ kind.1 in
    record {
      is_row = record {
        operands = length-map locations (λ (s : Location). s.kind) ∙ (sym (length-map locations location_shape) ∙ counted);
        widths_too = length-map locations (λ (s : Location). Bits s.width) ∙ (sym (length-map locations location_shape) ∙ counted);
        parameters = number_same (length params) (arity_of prim).1 counts.1;
        kind = is_some (row_kind prim (kinds_at locations)) kind.0 is_kind;
        width = width_number prim (kinds_at locations) (widths_at locations) params;
        narrow = narrow;
        is_width = bits;
      };
      shape = λ k w e f.
          let same_kind : kind.0 ≡ k = cc in
          let same_width : width_number prim (kinds_at locations) (widths_at locations) params ≡ w = bits_same (sym bits ∙ f) in
          found.1 ∙ (sym kind.2 ∙ ap₂ (λ a b. Some (shaped a b)) same_kind (width ∙ same_width));
    }
  where
    is_some : {A : Type 0} (o : Option A) (x : A) → o ≡ Some x → IsSome o
    is_some o x e = subst (λ p. IsSome p) (sym e) refl

    bits_same : {a b : ℕ} → Bits a ≡ Bits b → a ≡ b
    bits_same e = cc

-- operations take one operand or two
pub few_operands : (prim : PrimOp) (params : List ℕ) (ss : List Location) → IsSome (shape_of_row prim params (location_shapes ss)) → ((x : Location) → ss ≡ x ∷ [] → ⊥) → ((x y : Location) → ss ≡ x ∷ y ∷ [] → ⊥) → ⊥
few_operands prim params [] h one two = none_fit prim [] (row_of prim params [] h).is_row.kind
  where
    none_fit : (prim : PrimOp) (ks : List Kind) → IsSome (row_kind prim []) → ⊥
    none_fit prim ks e = absurd (true≢false (sym e))
few_operands prim params (x ∷ []) h one two = one x refl
few_operands prim params (x ∷ y ∷ []) h one two = two x y refl
few_operands prim params (x ∷ y ∷ z ∷ ss) h one two = absurd (true≢false (sym (row_of prim params (x ∷ y ∷ z ∷ ss) h).is_row.kind))
