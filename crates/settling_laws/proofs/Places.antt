-- Leaves by their ways, and what stands beside them.
use Rattle.std.proofs.Common.{◌≡◌, ℕ, zero, suc, ◌==◌, ◌&&◌, Bool, true, false, cond, List, [], ◌∷◌, map, length, slice_get, find, Option, Some, None, option_map, ℤ, pos, refl, sym, ap, ap₂, ◌∙◌, subst, arith, true≢false, if◌then◌else◌, ⊎_elim}
use Rattle.std.specs.Prelude.{Contains}
use Rattle.std.proofs.lemmas.Grind.{common_steps}
use Rattle.bit_words.specs.declared.value.Kind.{Kind}
use Rattle.bit_words.specs.declared.value.Kind.TheVariants.{Unsigned, Signed}
use Rattle.bit_words.specs.declared.value.Value.{Value}
use Rattle.bit_words.specs.Values.{integer_of, InRange}
use Rattle.fir_types.specs.declared.fir_type.FirType.{FirType}
use Rattle.fir_types.specs.declared.fir_type.Field.{Field}
use Rattle.fir_types.specs.declared.fir_type.Shape.{Shape as FirShape}
use Rattle.fir_types.specs.declared.fir_type.Shape.TheOpen.{Shape-F}
use Rattle.fir_types.specs.declared.fir_type.Shape.TheViews.{out-Shape}
use Rattle.fir_types.specs.declared.leaf.TypeLeaf.{TypeLeaf}
use Rattle.fir_types.specs.declared.leaf.PathStep.{PathStep}
use Rattle.fir_types.specs.declared.leaf.PathStep.TheVariants as step
use Rattle.prim_ops.specs.Shapes.{Shape, shape_of_value}
use Rattle.prim_ops.proofs.Fittings.{value_in_range}
use Rattle.fir_meaning.specs.Components.{is_clock, is_clock_shape, width_of_leaf, width_of_shape}
use Rattle.fir_meaning.specs.Drives.{same_step, same_way}
use Rattle.fir_meaning.specs.States.{or_else}
use Rattle.fir_meaning.proofs.Tracking.{none_some, some_same}
use Rattle.fir_meaning.proofs.Covering.{true_or_false}
use Rattle.fir_meaning.proofs.Ports.{same_number, one_later}
use Rattle.settling_laws.specs.Sweeps.{integer_beside}

both_true : (a b : Bool) → (a && b) ≡ true → (a ≡ true) × (b ≡ true)
both_true true b e = (refl, e)
both_true false b e = absurd (true≢false (sym e))

number_itself : (a : ℕ) → (a == a) ≡ true
number_itself a = grind (arith, common_steps)

step_is : (a b : PathStep) → same_step a b ≡ true → a ≡ b
step_is (step.Field m) (step.Field n) e = ap step.Field (same_number m n e)
step_is (step.Element m) (step.Element n) e = ap step.Element (same_number m n e)
step_is (step.Field m) (step.Element n) e = absurd (true≢false (sym e))
step_is (step.Element m) (step.Field n) e = absurd (true≢false (sym e))

step_itself : (a : PathStep) → same_step a a ≡ true
step_itself (step.Field m) = number_itself m
step_itself (step.Element m) = number_itself m

way_is : (a b : List PathStep) → same_way a b ≡ true → a ≡ b
way_is [] [] e = refl
way_is [] (x ∷ b) e = absurd (true≢false (sym e))
way_is (x ∷ a) [] e = absurd (true≢false (sym e))
way_is (x ∷ a) (y ∷ b) e = let t = both_true _ _ e in ap₂ (λ u v. u ∷ v) (step_is x y t.0) (way_is a b t.1)

way_itself : (a : List PathStep) → same_way a a ≡ true
way_itself [] = refl
way_itself (x ∷ a) = ap₂ (λ u v. u && v) (step_itself x) (way_itself a)

other_way : (a b : List PathStep) → ¬ (a ≡ b) → same_way a b ≡ false
other_way a b differ = ⊎_elim (λ t. absurd (differ (way_is a b t))) (λ f. f) (true_or_false (same_way a b))

-- No other leaf has the way of this one.
abbrev pub IsOnce : List TypeLeaf → ℕ → TypeLeaf → Type 0
IsOnce ls k leaf = (j : ℕ) (a : TypeLeaf) → slice_get ls j ≡ Some a → a.path ≡ leaf.path → j ≡ k

pub at_way : (ls : List TypeLeaf) (k : ℕ) (leaf : TypeLeaf) → slice_get ls k ≡ Some leaf → IsOnce ls k leaf → find (λ l. same_way l.path leaf.path) ls ≡ Some leaf
at_way [] k leaf e once = absurd (none_some e)
at_way (l ∷ ls) zero leaf e once =
    let here : l ≡ leaf = some_same l leaf e in
    ap (λ b. cond b (Some l) (find (λ x. same_way x.path leaf.path) ls)) (ap (λ x. same_way x.path leaf.path) here ∙ way_itself leaf.path) ∙ ap Some here
at_way (l ∷ ls) (suc k) leaf e once =
    ap (λ b. cond b (Some l) (find (λ x. same_way x.path leaf.path) ls)) (other_way l.path leaf.path (λ same. let bad : 0 ≡ suc k = once 0 l refl same in omega arith))
    ∙ at_way ls k leaf e (λ j a f same. let later : suc j ≡ suc k = once (suc j) a f same in omega arith)

-- the integer of a value, and 0 where there is none
abbrev pub integer_or_zero : Option Value → ℤ
integer_or_zero o = or_else (pos 0) (option_map integer_of o)

pub beside_at : (ls : List TypeLeaf) (vs : List Value) (k : ℕ) (leaf : TypeLeaf) → slice_get ls k ≡ Some leaf → IsOnce ls k leaf
    → integer_beside leaf.path ls vs ≡ integer_or_zero (slice_get vs k)
beside_at [] vs k leaf e once = absurd (none_some e)
beside_at (l ∷ ls) [] zero leaf e once = refl
beside_at (l ∷ ls) [] (suc k) leaf e once = refl
beside_at (l ∷ ls) (v ∷ vs) zero leaf e once =
    let here : l ≡ leaf = some_same l leaf e in
    ap (λ b. if b then integer_of v else integer_beside leaf.path ls vs) (ap (λ x. same_way x.path leaf.path) here ∙ way_itself leaf.path)
beside_at (l ∷ ls) (v ∷ vs) (suc k) leaf e once =
    ap (λ b. if b then integer_of v else integer_beside leaf.path ls vs) (other_way l.path leaf.path (λ same. let bad : 0 ≡ suc k = once 0 l refl same in omega arith))
    ∙ beside_at ls vs k leaf e (λ j a f same. let later : suc j ≡ suc k = once (suc j) a f same in omega arith)

pub in_list : {A : Type 0} (xs : List A) (k : ℕ) (x : A) → slice_get xs k ≡ Some x → Contains xs x
in_list [] k x e = absurd (none_some e)
in_list (y ∷ ys) zero x e = (0, omega arith, some_same y x e)
in_list (y ∷ ys) (suc k) x e = one_later y ys x (in_list ys k x e)

-- what stands beside each leaf, all together
pub map_each : (h : TypeLeaf → ℤ) (ls : List TypeLeaf) (vs : List Value) → length ls ≡ length vs
    → ((k : ℕ) (leaf : TypeLeaf) → slice_get ls k ≡ Some leaf → h leaf ≡ integer_or_zero (slice_get vs k)) → map h ls ≡ map integer_of vs
map_each h [] [] same each = refl
map_each h [] (v ∷ vs) same each = absurd (omega arith)
map_each h (l ∷ ls) [] same each = absurd (omega arith)
map_each h (l ∷ ls) (v ∷ vs) same each = ap₂ (λ x xs. x ∷ xs) (each 0 l refl) (map_each h ls vs (omega arith) (λ k leaf e. each (suc k) leaf e))

-- a Clock has no bits
pub clock_width : (leaf : TypeLeaf) → is_clock leaf ≡ true → width_of_leaf leaf ≡ 0
clock_width leaf e = clock_shape (out-Shape leaf.typ.shape) e where
  clock_shape : (s : Shape-F FirShape Field FirType) → is_clock_shape s ≡ true → width_of_shape s ≡ 0
  clock_shape (Shape-F.Unsigned w) e = absurd (true≢false (sym e))
  clock_shape (Shape-F.Signed w) e = absurd (true≢false (sym e))
  clock_shape Shape-F.Clock e = refl
  clock_shape Shape-F.Reset e = absurd (true≢false (sym e))
  clock_shape Shape-F.AsyncReset e = absurd (true≢false (sym e))
  clock_shape (Shape-F.Bundle fs) e = absurd (true≢false (sym e))
  clock_shape (Shape-F.Vector t n) e = absurd (true≢false (sym e))

only_zero : (kind : Kind) (n : ℤ) → InRange kind 0 n → n ≡ pos 0
only_zero Unsigned n h = h
only_zero Signed n h = h

-- a value without bits is 0
pub nothing : (o : Option Value) (shape : Shape) → option_map shape_of_value o ≡ Some shape → shape.width ≡ 0 → integer_or_zero o ≡ pos 0
nothing None shape e w = absurd (none_some e)
nothing (Some v) shape e w =
    only_zero v.kind (integer_of v) (subst (λ width. InRange v.kind width (integer_of v)) (ap (λ x. x.width) (some_same _ shape e) ∙ w) (value_in_range v))
