-- A connect of the whole of a wire of one bit leaves the lowest bit of its source in the wire's leaf, and one that leads elsewhere leaves it.
use Rattle.std.proofs.Common.{◌≡◌, ℕ, zero, suc, ◌+◌, ◌-◌, ◌*◌, ◌%◌, ◌^◌, ◌<◌, ◌==◌, Bool, true, false, ◌&&◌, not, List, [], ◌∷◌, ◌++◌, map, filter, Option, Some, None, ℤ, refl, sym, ap, ◌∙◌, subst, arith, if◌then◌else◌, eqb, eqb→eq, eq-eqb, ltb}
use Rattle.std.specs.Prelude.{pos, negsuc}
use Rattle.std.proofs.lemmas.Grind.{common_steps}
use Rattle.bit_words.specs.declared.value.Kind.{Kind}
use Rattle.bit_words.specs.declared.value.Kind.TheVariants.{Unsigned, Signed}
use Rattle.bit_words.specs.declared.value.Value.{Value}
use Rattle.bit_words.specs.Values.{integer, integer_of, bits_of}
use Rattle.fir_types.specs.declared.leaf.TypeLeaf.{TypeLeaf}
use Rattle.fir_types.specs.declared.leaf.PathStep.{PathStep}
use Rattle.fir_types.specs.Leaves.{leaves}
use Rattle.fir_tree.specs.declared.expr.Expr.{Expr}
use Rattle.fir_tree.specs.declared.expr.Form.{Form}
use Rattle.fir_tree.specs.declared.expr.Suffix.{Suffix}
use Rattle.fir_tree.specs.declared.expr.Form.TheOpen.{Form-F}
use Rattle.fir_tree.specs.declared.expr.Form.TheViews.{out-Form}
use Rattle.fir_meaning.specs.Components.{Leaf, kind_of_leaf, width_of_leaf}
use Rattle.fir_meaning.specs.Values.{Scene, Spot, value, spot_of, spot_of_form, whole, beside, lone, fitted, fitted_to}
use Rattle.fir_meaning.specs.Drives.{Setting, setting, left_in, set_at, set_along, of_orientation, is_turned, set_by_connect, set_by_invalidate, same_leaf, same_way}
use Rattle.print_stop.specs.Printing.{leads_to, is_odd}
use Rattle.print_stop.specs.Wires.{is_bare_form, is_whole, IsBit, or_zero}
use Rattle.print_stop.proofs.Follows.{IsWire}

-- the lowest bit of an integer
odd_rest : (p b : ℕ) → b < 2 * p → 2 - 1 - (2 * p - 1 - b) % 2 ≡ b % 2
odd_rest p b small = omega arith

lowest : (kind : Kind) (w b : ℕ) → b < 2 ^ w → bits_of 1 (integer kind w b) ≡ b % 2
lowest Unsigned w b small = refl
lowest Signed w b small = by (ltb (2 * b) (2 ^ w)) w small refl
  where
    by : (t : Bool) (v : ℕ) → b < 2 ^ v → ltb (2 * b) (2 ^ v) ≡ t → bits_of 1 (if t then pos b else negsuc (2 ^ v - 1 - b)) ≡ b % 2
    by true v h e = refl
    by false zero h e = let none : b ≡ 0 = omega arith in let test : ltb (2 * b) (2 ^ 0) ≡ true = rw none refl in cc
    by false (suc v) h e = let double : 2 ^ (suc v) ≡ 2 * 2 ^ v = grind arith in rw double (odd_rest (2 ^ v) b (rw double at h))

-- what a connect sets the leaf to
pub bit_of : Scene → TypeLeaf → Expr → ℤ
bit_of scene leaf e = integer_of (fitted_to leaf (integer_of (lone (value e scene))))

one_bit_of : (leaf : TypeLeaf) (v : Value) → kind_of_leaf leaf ≡ Unsigned → width_of_leaf leaf ≡ 1 → integer_of (fitted_to leaf (integer_of v)) ≡ pos (v.bits % 2)
one_bit_of leaf v kind width = rw (kind, width) (ap pos (lowest v.kind v.width v.bits v.within))

pub bit_at : (scene : Scene) (leaf : TypeLeaf) (e : Expr) (v : Value) → value e scene ≡ v ∷ [] → kind_of_leaf leaf ≡ Unsigned → width_of_leaf leaf ≡ 1 → bit_of scene leaf e ≡ pos (v.bits % 2)
unfolding bit_of
bit_at scene leaf e v is kind width = ap (λ (vs : List Value). integer_of (fitted_to leaf (integer_of (lone vs)))) is ∙ one_bit_of leaf v kind width

pub bit_is_odd : (scene : Scene) (leaf : TypeLeaf) (e : Expr) → kind_of_leaf leaf ≡ Unsigned → width_of_leaf leaf ≡ 1 → (bit_of scene leaf e ≡ pos 1 → is_odd (value e scene) ≡ true) × (is_odd (value e scene) ≡ true → bit_of scene leaf e ≡ pos 1)
unfolding bit_of
bit_is_odd scene leaf e kind width = by (value e scene)
  where
    by : (vs : List Value) → (integer_of (fitted_to leaf (integer_of (lone vs))) ≡ pos 1 → is_odd vs ≡ true) × (is_odd vs ≡ true → integer_of (fitted_to leaf (integer_of (lone vs))) ≡ pos 1)
    by [] = let none = one_bit_of leaf (lone []) kind width in ((λ one. let clash : pos 0 ≡ pos 1 = sym none ∙ one in cc), λ odd. cc)
    by (v ∷ vs) =
        let is = one_bit_of leaf v kind width in
        ((λ one. let here : pos (v.bits % 2) ≡ pos 1 = sym is ∙ one in let n : v.bits % 2 ≡ 1 = cc in eq-eqb (v.bits % 2) 1 n), λ odd. is ∙ ap pos (eqb→eq (v.bits % 2) 1 (rw odd tt)))

module _ (scene : Scene) (wire : ℕ) where
  abbrev bit_leaf : Leaf
  bit_leaf = record { component = wire; way = [] }

  left_append : (last : Option ℤ) (xs ys : List Setting) → left_in bit_leaf last (xs ++ ys) ≡ left_in bit_leaf (left_in bit_leaf last xs) ys
  left_append last [] ys = refl
  left_append last (x ∷ xs) ys = left_append (if same_leaf x.leaf bit_leaf then Some x.integer else last) xs ys

  one_elsewhere : (component : ℕ) (way : List PathStep) (x : TypeLeaf × Value) (last : Option ℤ) → (component == wire) ≡ false
      → (if same_leaf (setting component way x).leaf bit_leaf then Some (setting component way x).integer else last) ≡ last
  one_elsewhere component way x last other = by (component == wire) other
    where
      by : (b : Bool) → b ≡ false → (if b && same_way (way ++ x.0.path) [] then Some (setting component way x).integer else last) ≡ last
      by true e = cc
      by false e = refl

  settings_elsewhere : (component : ℕ) (way : List PathStep) (xs : List (TypeLeaf × Value)) (last : Option ℤ) → (component == wire) ≡ false → left_in bit_leaf last (map (setting component way) xs) ≡ last
  settings_elsewhere component way [] last other = refl
  settings_elsewhere component way (x ∷ xs) last other =
      ap (λ (o : Option ℤ). left_in bit_leaf o (map (setting component way) xs)) (one_elsewhere component way x last other) ∙ settings_elsewhere component way xs last other

  elsewhere : (flip : Bool) (spot : Option Spot) (values : List Value) (last : Option ℤ) → leads_to wire spot ≡ false → left_in bit_leaf last (set_at flip spot values) ≡ last
  elsewhere flip None values last other = refl
  elsewhere flip (Some spot) values last other = by spot.way
    where
      by : (way : Option (List PathStep)) → left_in bit_leaf last (set_along flip spot way values) ≡ last
      by None = refl
      by (Some way) = settings_elsewhere spot.component way (of_orientation flip (beside (lone []) (leaves spot.typ) values)) last other

  -- a reference that leads to the wire is the whole of it
  spot_whole : (e : Expr) → is_whole scene wire e ≡ true → leads_to wire (spot_of scene e) ≡ true → spot_of scene e ≡ Some (whole scene wire)
  spot_whole e f leads = by (out-Form e.form) leads f
    where
      by : (form : Form-F Form Suffix Expr) → leads_to wire (spot_of_form scene form) ≡ true → (if leads_to wire (spot_of_form scene form) then is_bare_form form else true) ≡ true
          → spot_of_form scene form ≡ Some (whole scene wire)
      by (Form-F.Ref name []) l g = ap (λ (n : ℕ). Some (whole scene n)) (eqb→eq name.id wire (rw l tt))
      by (Form-F.Ref name (s ∷ suffixes)) l g = let no : false ≡ true = rw l at g in cc
      by (Form-F.Literal kind width number) l g = cc
      by (Form-F.Prim prim operands params) l g = cc
      by (Form-F.Mux operands) l g = cc

  module _ (bit : IsBit scene wire) where
    at_wire : (values : List Value) (last : Option ℤ) → left_in bit_leaf last (set_at false (Some (whole scene wire)) values) ≡ Some (integer_of (fitted_to bit.leaf (integer_of (lone values))))
    at_wire values last = ap (λ (ls : List TypeLeaf). left_in bit_leaf last (map (setting wire []) (of_orientation false (beside (lone []) ls values)))) bit.only ∙ by values
      where
        same_wire : eqb wire wire ≡ true
        same_wire = eq-eqb wire wire refl

        by : (vs : List Value) → left_in bit_leaf last (map (setting wire []) (of_orientation false (beside (lone []) (bit.leaf ∷ []) vs))) ≡ Some (integer_of (fitted_to bit.leaf (integer_of (lone vs))))
        by [] = rw (bit.flip, bit.path, same_wire) refl
        by (v ∷ vs) = rw (bit.flip, bit.path, same_wire) refl

    at_flipped : (values : List Value) (last : Option ℤ) → left_in bit_leaf last (set_at true (Some (whole scene wire)) values) ≡ last
    at_flipped values last = ap (λ (ls : List TypeLeaf). left_in bit_leaf last (map (setting wire []) (of_orientation true (beside (lone []) ls values)))) bit.only ∙ by values
      where
        by : (vs : List Value) → left_in bit_leaf last (map (setting wire []) (of_orientation true (beside (lone []) (bit.leaf ∷ []) vs))) ≡ last
        by [] = rw bit.flip refl
        by (v ∷ vs) = rw bit.flip refl

    flipped_nowhere : (e : Expr) (values : List Value) (last : Option ℤ) → is_whole scene wire e ≡ true → left_in bit_leaf last (set_at true (spot_of scene e) values) ≡ last
    flipped_nowhere e values last f = by (leads_to wire (spot_of scene e)) refl
      where
        by : (b : Bool) → leads_to wire (spot_of scene e) ≡ b → left_in bit_leaf last (set_at true (spot_of scene e) values) ≡ last
        by true leads = ap (λ (spot : Option Spot). left_in bit_leaf last (set_at true spot values)) (spot_whole e f leads) ∙ at_flipped values last
        by false leads = elsewhere true (spot_of scene e) values last leads

    plain_at : (e : Expr) (values : List Value) (last : Option ℤ) → is_whole scene wire e ≡ true
        → or_zero (left_in bit_leaf last (set_at false (spot_of scene e) values)) ≡ (if leads_to wire (spot_of scene e) then integer_of (fitted_to bit.leaf (integer_of (lone values))) else or_zero last)
    plain_at e values last f = by (leads_to wire (spot_of scene e)) refl
      where
        by : (b : Bool) → leads_to wire (spot_of scene e) ≡ b
            → or_zero (left_in bit_leaf last (set_at false (spot_of scene e) values)) ≡ (if b then integer_of (fitted_to bit.leaf (integer_of (lone values))) else or_zero last)
        by true leads = ap (λ (spot : Option Spot). or_zero (left_in bit_leaf last (set_at false spot values))) (spot_whole e f leads) ∙ ap or_zero (at_wire values last)
        by false leads = ap or_zero (elsewhere false (spot_of scene e) values last leads)

    pub is_wire : IsWire scene bit_leaf wire (bit_of scene bit.leaf)
    unfolding bit_of
    is_wire = record {
      connects = λ left right last f g. ap or_zero (left_append last (set_at false (spot_of scene left) (value right scene)) (set_at true (spot_of scene right) (value left scene)))
          ∙ ap or_zero (flipped_nowhere right (value left scene) (left_in bit_leaf last (set_at false (spot_of scene left) (value right scene))) g) ∙ plain_at left (value right scene) last f;
      invalidates = λ target last f. ap or_zero (left_append last (set_at false (spot_of scene target) []) (set_at true (spot_of scene target) []))
          ∙ ap or_zero (flipped_nowhere target [] (left_in bit_leaf last (set_at false (spot_of scene target) [])) f) ∙ plain_at target [] last f
          ∙ ap (λ (n : ℤ). if leads_to wire (spot_of scene target) then n else or_zero last) (one_bit_of bit.leaf (lone []) bit.kind bit.width);
    }
