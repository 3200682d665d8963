-- Rows of the table of operations.
use Rattle.std.proofs.Common.{◌≡◌, ℕ, ◌≤◌, nat_le, ◌==◌, ◌&&◌, true, List, map, length, Option, Some, None, option_and_then, refl, sym, ap, ap₂, ◌∙◌, subst, arith, if◌then◌else◌, true≢false}
use Rattle.std.specs.Prelude.{IsSome}
use Rattle.std.proofs.lemmas.Grind.{common_steps}
use Rattle.std.proofs.lemmas.Bool.Decides.{nat_tests}
use Rattle.std.proofs.lemmas.List.{length-map}
use Rattle.bit_words.specs.declared.value.Kind.{Kind}
use Rattle.prim_ops.specs.declared.operation.PrimOp.{PrimOp}
use Rattle.prim_ops.specs.declared.widths.Width.TheVariants.{Bits}
use Rattle.prim_ops.specs.Operations.{arity_of}
use Rattle.prim_ops.specs.Kinds.{row_kind}
use Rattle.prim_ops.specs.Widths.{width_number, row_width}
use Rattle.prim_ops.proofs.Formulas.{in_bits}
use Rattle.ground_net.proofs.Layers.{maps}
use Rattle.ground_net.specs.Shapes.{Shape, shaped, params_fit, is_row, width_of_row, shape_of_row}
use Rattle.ground_net.proofs.Shaping.{and_then, if_some, both_true}
use Rattle.ground_exprs.specs.declared.source.Source.{Source}
use Rattle.ground_exprs.specs.Sources.{told}

abbrev pub kinds_in : List Source → List Kind
kinds_in operands = map (λ (o : Source). o.kind) operands

abbrev pub widths_in : List Source → List ℕ
widths_in operands = map (λ (o : Source). o.width) operands

-- The operands and the parameters make a row.
pub record Row (prim : PrimOp) (params : List ℕ) (operands : List Source) : Type 0 where
  pub operands_fit : length operands ≡ (arity_of prim).0
  pub params_fit : length params ≡ (arity_of prim).1
  pub kind : Kind
  pub is_kind : row_kind prim (kinds_in operands) ≡ Some kind
  pub narrow : width_number prim (kinds_in operands) (widths_in operands) params ≤ 128
  pub shape : shape_of_row prim params (map told operands) ≡ Some (shaped kind (width_number prim (kinds_in operands) (widths_in operands) params))

some_of : {A : Type 0} (o : Option A) → IsSome o → (x : A) × (o ≡ Some x)
some_of (Some x) h = (x, refl)
some_of None h = absurd (true≢false (sym h))

number_same : (a b : ℕ) → (a == b) ≡ true → a ≡ b
number_same a b h = grind (arith, common_steps, nat_tests, h)

small : (w : ℕ) → nat_le w 128 ≡ true → w ≤ 128
small w h = grind (arith, common_steps, nat_tests, h)

pub row_of : (prim : PrimOp) (params : List ℕ) (operands : List Source) → IsSome (shape_of_row prim params (map told operands)) → Row prim params operands
row_of prim params operands h =
    let ss : List Shape = map told operands in
    let found = some_of (shape_of_row prim params ss) h in
    let test = if_some (is_row prim ss params (width_of_row prim ss params)) (option_and_then (λ kind. Some (shaped kind (width_of_row prim ss params))) (row_kind prim (map (λ s. s.kind) ss))) found.0 found.1 in
    let parts = both_true ((length ss == (arity_of prim).0) && (length params == (arity_of prim).1)) (params_fit prim ss params && nat_le (width_of_row prim ss params) 128) test.0 in
    let counts = both_true (length ss == (arity_of prim).0) (length params == (arity_of prim).1) parts.0 in
    let fits = both_true (params_fit prim ss params) (nat_le (width_of_row prim ss params) 128) parts.1 in
    let kind = and_then (λ kind. Some (shaped kind (width_of_row prim ss params))) (row_kind prim (map (λ s. s.kind) ss)) found.0 test.1 in
    let ks : map (λ s. s.kind) ss ≡ kinds_in operands = maps (λ (s : Shape). s.kind) told operands in
    let ws : map (λ s. s.width) ss ≡ widths_in operands = maps (λ (s : Shape). s.width) told operands in
    let width : width_of_row prim ss params ≡ width_number prim (kinds_in operands) (widths_in operands) params = ap₂ (λ a b. width_number prim a b params) ks ws in
    record {
      operands_fit = sym (length-map operands told) ∙ number_same (length ss) (arity_of prim).0 counts.0;
      params_fit = number_same (length params) (arity_of prim).1 counts.1;
      kind = kind.0;
      is_kind = ap (row_kind prim) (sym ks) ∙ kind.1;
      narrow = subst (λ w. w ≤ 128) width (small (width_of_row prim ss params) fits.1);
      shape = found.1 ∙ (sym kind.2 ∙ ap (λ w. Some (shaped kind.0 w)) width);
    }

-- the width that the table gives
pub row_bits : (prim : PrimOp) (params : List ℕ) (operands : List Source) → Row prim params operands
    → row_width prim (kinds_in operands) (map (λ (o : Source). Bits o.width) operands) params ≡ Bits (width_number prim (kinds_in operands) (widths_in operands) params)
row_bits prim params operands row =
    let test : nat_le (width_number prim (kinds_in operands) (widths_in operands) params) 128 ≡ true = le_true (width_number prim (kinds_in operands) (widths_in operands) params) row.narrow in
    ap (λ ws. row_width prim (kinds_in operands) ws params) (sym (maps (λ w. Bits w) (λ (o : Source). o.width) operands))
    ∙ (in_bits prim (kinds_in operands) (widths_in operands) params
    ∙ ap (λ b. if b then Bits (width_number prim (kinds_in operands) (widths_in operands) params) else Rattle.prim_ops.specs.declared.widths.Width.TheVariants.Over) test)
  where
    le_true : (w : ℕ) → w ≤ 128 → nat_le w 128 ≡ true
    le_true w h = grind (arith, common_steps, nat_tests, h)
