-- Parts of components: dynamic indices, flipped fields, instances.
use Rattle.std.proofs.Common.{◌≡◌, ℕ, true, List, [], ◌∷◌, refl, Some, None, arith, ℤ, pos, negsuc, map, ap, ◌∙◌, ◌==◌, if◌then◌else◌}
use Rattle.std.proofs.lemmas.Grind.{common_steps}
use Rattle.bit_words.specs.Values.{integer_of}
use Rattle.fir_types.specs.declared.fir_type.FirType.{the_lemmas as type_lemmas}
use Rattle.fir_types.specs.declared.leaf.PathStep.{PathStep}
use Rattle.fir_types.specs.Bundles.{nowhere, least_reaching}
use Rattle.fir_types.specs.declared.leaf.PathStep.TheVariants as step
use Rattle.fir_tree.specs.declared.expr.Expr.{Expr, the_lemmas as expr_lemmas}
use Rattle.fir_tree.specs.declared.expr.Form.{Form}
use Rattle.fir_tree.specs.declared.expr.Form.TheVariants as form
use Rattle.fir_tree.specs.declared.stmt.Stmt.{Stmt, the_lemmas as stmt_lemmas}
use Rattle.prim_ops.specs.declared.operation.PrimOp.TheVariants.{Div, Rem}
use Rattle.fir_meaning.specs.Components.{TypedModule, An_input, An_output, An_instance, flow_of, Source, Sink, flat}
use Rattle.fir_meaning.specs.Values.{Scene, Valuation, value, lone, spot_of, scene_of, least_width}
use Rattle.bit_words.specs.declared.value.Kind.TheVariants.{Unsigned, Signed}
use Rattle.fir_meaning.specs.Drives.{drives}
use Rattle.fir_meaning.proofs.Equations.{value-indexed, spot-indexed}
use Rattle.fir_meaning.proofs.Samples.{place, name, uint, sint, vector, bundle, plain, flipped, ref, part, dot, index, literal, op, expr, connect, leaf}

-- `v : UInt<4>[5]` is 20, with the element 4 at 9 and the others at 1, and `i : UInt<3>` is 21.
abbrev element : List PathStep → ℤ
element (step.Element n ∷ []) = if n == 4 then pos 9 else pos 1
element _ = pos 0

abbrev indexed : ℕ → Scene
indexed i = record { types = λ c. if c == 20 then vector (uint 4) 5 else uint 3; integers = λ c way. if c == 21 then pos i else element way }

abbrev v_of_i : Expr
v_of_i = part 20 (index (ref 21) ∷ [])

picked : map integer_of (value v_of_i (indexed 4)) ≡ pos 9 ∷ []
picked = ap (map integer_of) (value-indexed place place place (name 20) (form.Ref (name 21) []) (indexed 4)) ∙ grind (arith, common_steps, expr_lemmas, type_lemmas)

-- Out of range the read is 0, and not the last element.
read_past : map integer_of (value v_of_i (indexed 5)) ≡ pos 0 ∷ []
read_past = ap (map integer_of) (value-indexed place place place (name 20) (form.Ref (name 21) []) (indexed 5)) ∙ grind (arith, common_steps, expr_lemmas, type_lemmas)

-- `connect v[i], UInt<4>(7)` sets the element that i gives, and no other; past the end it sets nothing.
abbrev set_one : List Stmt
set_one = connect v_of_i (literal 4 7) ∷ []

spot_within : spot_of (indexed 4) v_of_i ≡ Some (record { component = 20; typ = uint 4; way = Some (step.Element 4 ∷ []) })
spot_within = spot-indexed place place place (name 20) (form.Ref (name 21) []) (indexed 4) ∙ grind (arith, common_steps, expr_lemmas, type_lemmas)

spot_past : spot_of (indexed 5) v_of_i ≡ Some (record { component = 20; typ = uint 4; way = None })
spot_past = spot-indexed place place place (name 20) (form.Ref (name 21) []) (indexed 5) ∙ grind (arith, common_steps, expr_lemmas, type_lemmas)

set_picked : drives (indexed 4) (leaf 20 (step.Element 4 ∷ [])) set_one ≡ Some (pos 7)
set_picked = grind (arith, common_steps, stmt_lemmas, expr_lemmas, type_lemmas, spot_within)

set_no_other : drives (indexed 4) (leaf 20 (step.Element 3 ∷ [])) set_one ≡ None
set_no_other = grind (arith, common_steps, stmt_lemmas, expr_lemmas, type_lemmas, spot_within)

set_nothing_past : drives (indexed 5) (leaf 20 (step.Element 4 ∷ [])) set_one ≡ None
set_nothing_past = grind (arith, common_steps, stmt_lemmas, expr_lemmas, type_lemmas, spot_past)

-- An index within an index: of `v[v[i]]` each is judged in its own vector. At i = 4 the inner one is 9, which is past the end of v;
-- at i = 0 it is 1, which is an element.
inner_9 : integer_of (lone (value v_of_i (indexed 4))) ≡ pos 9
inner_9 = ap (λ vs. integer_of (lone vs)) (value-indexed place place place (name 20) (form.Ref (name 21) []) (indexed 4)) ∙ grind (arith, common_steps, expr_lemmas, type_lemmas)

inner_1 : integer_of (lone (value v_of_i (indexed 0))) ≡ pos 1
inner_1 = ap (λ vs. integer_of (lone vs)) (value-indexed place place place (name 20) (form.Ref (name 21) []) (indexed 0)) ∙ grind (arith, common_steps, expr_lemmas, type_lemmas)

abbrev inner_form : Form
inner_form = form.Ref (name 20) (index (ref 21) ∷ [])

nested_past : map integer_of (value (part 20 (index v_of_i ∷ [])) (indexed 4)) ≡ pos 0 ∷ []
nested_past = ap (map integer_of) (value-indexed place place place (name 20) inner_form (indexed 4)) ∙ grind (arith, common_steps, type_lemmas, inner_9)

nested_within : map integer_of (value (part 20 (index v_of_i ∷ [])) (indexed 0)) ≡ pos 1 ∷ []
nested_within = ap (map integer_of) (value-indexed place place place (name 20) inner_form (indexed 0)) ∙ grind (arith, common_steps, type_lemmas, inner_1)

-- `a : { x : UInt<4>, flip y : UInt<4> }` is 20 and b, of the same type, is 21; x is 30 and y is 31. a.x is 3 and b.y is 5.
abbrev two_ways : Scene
two_ways = record { types = λ c. bundle (plain 30 (uint 4) ∷ flipped 31 (uint 4) ∷ []); integers = λ c way. if c == 20 then pos 3 else pos 5 }

abbrev joins : List Stmt
joins = connect (ref 21) (ref 20) ∷ []

-- `connect b, a` takes b.x from a.x, and a.y from b.y: flipped fields go from left to right.
right_to_left : drives two_ways (leaf 21 (step.Field 30 ∷ [])) joins ≡ Some (pos 3)
right_to_left = grind (arith, common_steps, stmt_lemmas, expr_lemmas, type_lemmas)

left_to_right : drives two_ways (leaf 20 (step.Field 31 ∷ [])) joins ≡ Some (pos 5)
left_to_right = grind (arith, common_steps, stmt_lemmas, expr_lemmas, type_lemmas)

not_back : drives two_ways (leaf 21 (step.Field 31 ∷ [])) joins ≡ None
not_back = grind (arith, common_steps, stmt_lemmas, expr_lemmas, type_lemmas)

-- An output's flipped field is a source, an input's a sink.
flipped_output : flow_of An_output true ≡ Source
flipped_output = refl

flipped_input : flow_of An_input true ≡ Sink
flipped_input = refl

-- An instance c (40) of the module C (41), whose input `in` is 42 and whose output `out` is 43. In the valuation `out` is 6 there.
abbrev caller : TypedModule
caller = record {
  name = 44;
  components = record {
    declaration = record { name = 40; place = nowhere; sort = An_instance 41; block = []; behind = [] };
    typ = bundle (flipped 42 (uint 4) ∷ plain 43 (uint 4) ∷ []);
  } ∷ [];
}

abbrev below : Valuation
below [] c way = pos 0
below (i ∷ path) c way = if i == 40 then (if c == 43 then pos 6 else pos 0) else pos 0

-- c.out is the leaf `out` of the module at the path of c, and so is c.in for `connect c.in, c.out`.
reads_output : map integer_of (value (part 40 (dot 43 ∷ [])) (scene_of caller [] below)) ≡ pos 6 ∷ []
reads_output = grind (arith, common_steps, expr_lemmas, type_lemmas)

drives_input : drives (scene_of caller [] below) (leaf 40 (step.Field 42 ∷ [])) (connect (part 40 (dot 42 ∷ [])) (part 40 (dot 43 ∷ [])) ∷ []) ≡ Some (pos 6)
drives_input = grind (arith, common_steps, stmt_lemmas, expr_lemmas, type_lemmas)

input_leaf : flat caller [] (leaf 40 (step.Field 42 ∷ [])) ≡ record { path = 40 ∷ []; component = 42; way = [] }
input_leaf = refl

-- a : SInt<4> is -7 and b is 2: the quotient goes toward zero, and the remainder has the numerator's sign.
abbrev signed : Scene
signed = record { types = λ c. sint 4; integers = λ c way. if c == 20 then negsuc 6 else pos 2 }

quotient : map integer_of (value (op Div (ref 20 ∷ ref 21 ∷ []) []) signed) ≡ negsuc 2 ∷ []
quotient = grind (arith, common_steps, expr_lemmas, type_lemmas)

remainder : map integer_of (value (op Rem (ref 20 ∷ ref 21 ∷ []) []) signed) ≡ negsuc 0 ∷ []
remainder = grind (arith, common_steps, expr_lemmas, type_lemmas)

-- A mux has the greater width, and the second operand where its condition is 1.
chosen : map (λ v. v.width) (value (expr (form.Mux (literal 1 1 ∷ literal 3 5 ∷ literal 8 9 ∷ []))) signed) ≡ 8 ∷ []
chosen = grind (arith, common_steps, expr_lemmas, type_lemmas)

first_chosen : map integer_of (value (expr (form.Mux (literal 1 1 ∷ literal 3 5 ∷ literal 8 9 ∷ []))) signed) ≡ pos 5 ∷ []
first_chosen = grind (arith, common_steps, expr_lemmas, type_lemmas)

second_chosen : map integer_of (value (expr (form.Mux (literal 1 0 ∷ literal 3 5 ∷ literal 8 9 ∷ []))) signed) ≡ pos 9 ∷ []
second_chosen = grind (arith, common_steps, expr_lemmas, type_lemmas)

-- `UInt(0)` and `SInt(0)` have 1 bit, `SInt(-1)` has 1, `SInt(1)` has 2 and `UInt(8)` has 4.
width_of_zero : least_width Unsigned (pos 0) ≡ 1
unfolding least_reaching
width_of_zero = refl

width_of_signed_zero : least_width Signed (pos 0) ≡ 1
unfolding least_reaching
width_of_signed_zero = refl

width_of_minus_one : least_width Signed (negsuc 0) ≡ 1
unfolding least_reaching
width_of_minus_one = refl

width_of_signed_one : least_width Signed (pos 1) ≡ 2
unfolding least_reaching
width_of_signed_one = refl

width_of_8 : least_width Unsigned (pos 8) ≡ 4
unfolding least_reaching
width_of_8 = refl
