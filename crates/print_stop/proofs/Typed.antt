-- Where statements are well typed, no reference names a part of a UInt<1>, and the heads of items leave 0 in their wires.
use Rattle.std.proofs.Common.{◌≡◌, ℕ, Bool, true, false, ◌&&◌, List, [], ◌∷◌, map, fold, Option, Some, None, is_some, option_map, nat_lt, refl, sym, ap, ◌∙◌, subst, arith, eqb→eq, if◌then◌else◌}
use Rattle.std.specs.List.{list_all}
use Rattle.std.proofs.lemmas.Grind.{common_steps}
use Rattle.bit_words.specs.declared.value.Kind.TheVariants.{Unsigned}
use Rattle.fir_types.specs.declared.fir_type.FirType.{FirType, the_lemmas as type_lemmas}
use Rattle.fir_types.specs.declared.fir_type.Shape.TheVariants as shape
use Rattle.fir_types.specs.declared.fir_type.Shape.TheViews.{out-Shape}
use Rattle.fir_types.specs.Leaves.{leaves}
use Rattle.fir_tree.specs.declared.expr.Expr.{Expr, the_lemmas as expr_lemmas}
use Rattle.fir_tree.specs.declared.expr.Form.{Form, fold-Form}
use Rattle.fir_tree.specs.declared.expr.Suffix.{Suffix}
use Rattle.fir_tree.specs.declared.expr.Form.TheOpen.{Form-F, Suffix-F}
use Rattle.fir_tree.specs.declared.expr.Form.TheFolds.{map-Form, map-Suffix}
use Rattle.fir_tree.specs.declared.expr.Form.TheViews.{out-Form, out-Suffix}
use Rattle.fir_tree.specs.declared.stmt.Stmt.{Stmt, fold-Stmt, ind-Stmt, the_lemmas as stmt_lemmas}
use Rattle.fir_tree.specs.declared.stmt.Arm.{Arm, fold-Arm}
use Rattle.fir_tree.specs.declared.stmt.Stmt.TheOpen.{Stmt-F, Arm-F}
use Rattle.fir_tree.specs.declared.stmt.Stmt.TheFolds.{map-Stmt, map-Arm}
use Rattle.fir_tree.specs.declared.stmt.Stmt.TheViews.{roll-Stmt, roll-Arm}
use Rattle.fir_meaning.specs.Components.{kind_of_shape, width_of_shape, width_or_none, is_clock_shape}
use Rattle.fir_meaning.specs.Values as values
use Rattle.fir_meaning.specs.Values.{Scene, Spot, InScene, value, suffix_step, whole, follow, spot_of_form, field_of_shape, element_of_shape, vector_length}
use Rattle.fir_meaning.specs.WellTyped as kinds
use Rattle.fir_meaning.specs.WellTyped.{Known, InKnown, Onward, typed, typed_step, type_behind, leaf_shape, is_typed, is_one_unsigned, is_typed_stmt, are_typed}
use Rattle.print_stop.specs.Printing.{leads_to}
use Rattle.print_stop.specs.Wires.{is_bare_form, is_whole, wholes, whole_stmt, whole_arm, whole_in, IsBit}

abbrev form_typed : Form → InKnown
form_typed = fold-Form InKnown Onward InKnown kinds.of_form kinds.of_suffix kinds.of_expr

abbrev form_value : Form → InScene
form_value = fold-Form InScene (Scene → Spot → Spot) InScene values.of_form values.of_suffix values.of_expr

typed_out : (e : Expr) → typed e ≡ kinds.of_form (map-Form Form Suffix Expr InKnown Onward InKnown form_typed typed_step typed (out-Form e.form))
typed_out e = grind (arith, common_steps, expr_lemmas)

step_out : (s : Suffix) → typed_step s ≡ kinds.of_suffix (map-Suffix Form Suffix Expr InKnown Onward InKnown form_typed typed_step typed (out-Suffix s))
step_out s = grind (arith, common_steps, expr_lemmas)

spot_out : (s : Suffix) → suffix_step s ≡ values.of_suffix (map-Suffix Form Suffix Expr InScene (Scene → Spot → Spot) InScene form_value suffix_step value (out-Suffix s))
spot_out s = grind (arith, common_steps, expr_lemmas)

both : {a b : Bool} → (a && b) ≡ true → (a ≡ true) × (b ≡ true)
both {a} {b} e = by a b e
  where
    by : (a b : Bool) → (a && b) ≡ true → (a ≡ true) × (b ≡ true)
    by true true e = (refl, refl)
    by true false e = cc
    by false b e = cc

-- a reference stays with its component
same_component : (s : Suffix) (scene : Scene) (spot : Spot) → (suffix_step s scene spot).component ≡ spot.component
same_component s scene spot = ap (λ (f : Scene → Spot → Spot). (f scene spot).component) (spot_out s) ∙ by (out-Suffix s)
  where
    by : (z : Suffix-F Form Suffix Expr) → (values.of_suffix (map-Suffix Form Suffix Expr InScene (Scene → Spot → Spot) InScene form_value suffix_step value z) scene spot).component ≡ spot.component
    by (Suffix-F.Field name) = refl
    by (Suffix-F.At bracket place n) = refl
    by (Suffix-F.Index bracket index) = refl

followed : (ss : List Suffix) (scene : Scene) (spot : Spot) → (fold (λ at next. next scene at) spot (map suffix_step ss)).component ≡ spot.component
followed [] scene spot = refl
followed (s ∷ ss) scene spot = followed ss scene (suffix_step s scene spot) ∙ same_component s scene spot

behind_none : (known : Known) (steps : List Onward) → type_behind known steps None ≡ None
behind_none known [] = refl
behind_none known (s ∷ ss) = behind_none known ss

-- a UInt has no parts

fieldless : (name : ℕ) (typ : FirType) (w : Option ℕ) → typ.shape ≡ shape.Unsigned w → field_of_shape name (out-Shape typ.shape) ≡ None
fieldless name typ w is = grind (arith, common_steps, type_lemmas)

elementless : (typ : FirType) (w : Option ℕ) → typ.shape ≡ shape.Unsigned w → element_of_shape (out-Shape typ.shape) ≡ None
elementless typ w is = grind (arith, common_steps, type_lemmas)

either : (b : Bool) (o : Option FirType) → o ≡ None → (if b then o else None) ≡ None
either true o is = is
either false o is = refl

no_part : (known : Known) (typ : FirType) (w : Option ℕ) (s : Suffix) → typ.shape ≡ shape.Unsigned w → typed_step s known typ ≡ None
no_part known typ w s is = ap (λ (f : Onward). f known typ) (step_out s) ∙ by (out-Suffix s)
  where
    by : (z : Suffix-F Form Suffix Expr) → kinds.of_suffix (map-Suffix Form Suffix Expr InKnown Onward InKnown form_typed typed_step typed z) known typ ≡ None
    by (Suffix-F.Field name) = fieldless name.id typ w is
    by (Suffix-F.At bracket place n) = either (nat_lt n (vector_length typ)) (element_of_shape (out-Shape typ.shape)) (elementless typ w is)
    by (Suffix-F.Index bracket index) = either (is_one_unsigned (typed index known)) (element_of_shape (out-Shape typ.shape)) (elementless typ w is)

module _ (known : Known) (scene : Scene) (wire : ℕ) (typ : FirType) (w : Option ℕ) (there : known wire ≡ Some typ) (is : typ.shape ≡ shape.Unsigned w) where
  nothing_behind : (s : Suffix) (ss : List Suffix) → type_behind known (map typed_step (s ∷ ss)) (known wire) ≡ None
  nothing_behind s ss = ap (λ (o : Option FirType). type_behind known (map typed_step (s ∷ ss)) o) there ∙ ap (λ (o : Option FirType). type_behind known (map typed_step ss) o) (no_part known typ w s is)
      ∙ behind_none known (map typed_step ss)

  form_whole : (f : Form-F Form Suffix Expr) → is_some (kinds.of_form (map-Form Form Suffix Expr InKnown Onward InKnown form_typed typed_step typed f) known) ≡ true
      → (if leads_to wire (spot_of_form scene f) then is_bare_form f else true) ≡ true
  form_whole (Form-F.Ref name []) t = by (leads_to wire (spot_of_form scene (Form-F.Ref name [])))
    where
      by : (b : Bool) → (if b then true else true) ≡ true
      by true = refl
      by false = refl
  form_whole (Form-F.Ref name (s ∷ ss)) t = by (leads_to wire (spot_of_form scene (Form-F.Ref name (s ∷ ss)))) refl
    where
      named : leads_to wire (spot_of_form scene (Form-F.Ref name (s ∷ ss))) ≡ true → name.id ≡ wire
      named e = sym (followed (s ∷ ss) scene (whole scene name.id)) ∙ eqb→eq (follow scene name.id (map suffix_step (s ∷ ss))).component wire (rw e tt)

      by : (b : Bool) → leads_to wire (spot_of_form scene (Form-F.Ref name (s ∷ ss))) ≡ b → (if b then false else true) ≡ true
      by true e =
          let none : type_behind known (map typed_step (s ∷ ss)) (known name.id) ≡ None = ap (λ (n : ℕ). type_behind known (map typed_step (s ∷ ss)) (known n)) (named e) ∙ nothing_behind s ss in
          let clash : true ≡ false = sym t ∙ ap (λ (o : Option FirType). is_some (option_map (λ (part : FirType). map leaf_shape (leaves part)) o)) none in
          cc
      by false e = refl
  form_whole (Form-F.Literal kind width n) t = refl
  form_whole (Form-F.Prim prim operands params) t = refl
  form_whole (Form-F.Mux operands) t = refl

  whole_reference : (e : Expr) → is_typed known e ≡ true → is_whole scene wire e ≡ true
  whole_reference e t = form_whole (out-Form e.form) (subst (λ (f : InKnown). is_some (f known) ≡ true) (typed_out e) t)

  -- statements, by their layers

  abbrev stmt_whole : Stmt → Bool
  stmt_whole = fold-Stmt Bool Bool (whole_stmt scene wire) whole_arm

  abbrev arm_whole : Arm → Bool
  arm_whole = fold-Arm Bool Bool (whole_stmt scene wire) whole_arm

  abbrev arm_typed : Arm → Bool
  arm_typed = fold-Arm Bool Bool (kinds.of_stmt known) (kinds.of_arm known)

  record Names (s : Stmt) : Type 0 where
    whole : is_typed_stmt known s ≡ true → stmt_whole s ≡ true

  record ArmNames (a : Arm) : Type 0 where
    whole : arm_typed a ≡ true → arm_whole a ≡ true

  typed_roll : (y : Stmt-F Stmt Arm) → is_typed_stmt known (roll-Stmt y) ≡ kinds.of_stmt known (map-Stmt Stmt Arm Bool Bool (is_typed_stmt known) arm_typed y)
  typed_roll y = grind (arith, common_steps, stmt_lemmas)

  arm_typed_roll : (y : Arm-F Stmt Arm) → arm_typed (roll-Arm y) ≡ kinds.of_arm known (map-Arm Stmt Arm Bool Bool (is_typed_stmt known) arm_typed y)
  arm_typed_roll y = grind (arith, common_steps, stmt_lemmas)

  whole_roll : (y : Stmt-F Stmt Arm) → stmt_whole (roll-Stmt y) ≡ whole_stmt scene wire (map-Stmt Stmt Arm Bool Bool stmt_whole arm_whole y)
  whole_roll y = grind (arith, common_steps, stmt_lemmas)

  arm_whole_roll : (y : Arm-F Stmt Arm) → arm_whole (roll-Arm y) ≡ whole_arm (map-Arm Stmt Arm Bool Bool stmt_whole arm_whole y)
  arm_whole_roll y = grind (arith, common_steps, stmt_lemmas)

  joined : {a b : Bool} → a ≡ true → b ≡ true → (a && b) ≡ true
  joined e f = rw (e, f) refl

  block_whole : (ps : List ((s : Stmt) × Names s)) → list_all (λ (b : Bool). b) (map (is_typed_stmt known) (map (λ p. p.0) ps)) ≡ true → wholes (map stmt_whole (map (λ p. p.0) ps)) ≡ true
  block_whole [] t = refl
  block_whole (p ∷ ps) t = let two = both t in joined (p.1.whole two.0) (block_whole ps two.1)

  arms_whole : (ps : List ((a : Arm) × ArmNames a)) → list_all (λ (b : Bool). b) (map arm_typed (map (λ p. p.0) ps)) ≡ true → wholes (map arm_whole (map (λ p. p.0) ps)) ≡ true
  arms_whole [] t = refl
  arms_whole (p ∷ ps) t = let two = both t in joined (p.1.whole two.0) (arms_whole ps two.1)

  stmt_at : (y : Stmt-F Stmt Arm)
      → (kinds.of_stmt known (map-Stmt Stmt Arm Bool Bool (is_typed_stmt known) arm_typed y) ≡ true → whole_stmt scene wire (map-Stmt Stmt Arm Bool Bool stmt_whole arm_whole y) ≡ true) → Names (roll-Stmt y)
  stmt_at y h = record { whole = λ t. whole_roll y ∙ h (sym (typed_roll y) ∙ t) }

  stmt_case : (y : Stmt-F ((s : Stmt) × Names s) ((a : Arm) × ArmNames a)) → Names (roll-Stmt (map-Stmt _ _ Stmt Arm (λ p. p.0) (λ p. p.0) y))
  stmt_case (Stmt-F.Wire name type) = stmt_at (Stmt-F.Wire name type) (λ t. refl)
  stmt_case (Stmt-F.Reg name type clock) = stmt_at (Stmt-F.Reg name type clock) (λ t. refl)
  stmt_case (Stmt-F.RegReset name type clock reset init) = stmt_at (Stmt-F.RegReset name type clock reset init) (λ t. refl)
  stmt_case (Stmt-F.Mem memory) = stmt_at (Stmt-F.Mem memory) (λ t. refl)
  stmt_case (Stmt-F.Inst name target) = stmt_at (Stmt-F.Inst name target) (λ t. refl)
  stmt_case (Stmt-F.Node name e) = stmt_at (Stmt-F.Node name e) (λ t. refl)
  stmt_case (Stmt-F.Skip place) = stmt_at (Stmt-F.Skip place) (λ t. refl)
  stmt_case (Stmt-F.Connect left right) = stmt_at (Stmt-F.Connect left right) (λ t. let one = both t in let two = both one.1 in joined (whole_reference left one.0) (whole_reference right two.0))
  stmt_case (Stmt-F.Invalidate target) = stmt_at (Stmt-F.Invalidate target) (whole_reference target)
  stmt_case (Stmt-F.When arms other) = stmt_at (Stmt-F.When (map (λ p. p.0) arms) (map (λ p. p.0) other)) (λ t. let two = both t in joined (arms_whole arms two.0) (block_whole other two.1))

  arm_case : (y : Arm-F ((s : Stmt) × Names s) ((a : Arm) × ArmNames a)) → ArmNames (roll-Arm (map-Arm _ _ Stmt Arm (λ p. p.0) (λ p. p.0) y))
  arm_case y =
      let layer : Arm-F Stmt Arm = record { condition = y.condition; body = map (λ p. p.0) y.body } in
      record { whole = λ t. let two = both (sym (arm_typed_roll layer) ∙ t) in arm_whole_roll layer ∙ block_whole y.body two.1 }

  names : (s : Stmt) → Names s
  names = ind-Stmt Names ArmNames (λ x y is. subst (λ z. Names (roll-Stmt z)) is (stmt_case y)) (λ x y is. subst (λ z. ArmNames (roll-Arm z)) is (arm_case y))

  pub typed_whole : (block : List Stmt) → are_typed known block ≡ true → whole_in scene wire block ≡ true
  typed_whole [] t = refl
  typed_whole (s ∷ block) t = let two = both t in joined ((names s).whole two.0) (typed_whole block two.1)

-- a UInt of one bit

pub one_leaf : (typ : FirType) (w : Option ℕ) → typ.shape ≡ shape.Unsigned w → leaves typ ≡ record { path = []; flip = false; typ = typ } ∷ []
one_leaf typ w is = grind (arith, common_steps, type_lemmas)

pub unsigned_kind : (typ : FirType) (w : Option ℕ) → typ.shape ≡ shape.Unsigned w → kind_of_shape (out-Shape typ.shape) ≡ Unsigned
unsigned_kind typ w is = grind (arith, common_steps, type_lemmas)

pub unsigned_width : (typ : FirType) (w : Option ℕ) → typ.shape ≡ shape.Unsigned w → width_of_shape (out-Shape typ.shape) ≡ width_or_none w
unsigned_width typ w is = grind (arith, common_steps, type_lemmas)

pub no_clock : (typ : FirType) (w : Option ℕ) → typ.shape ≡ shape.Unsigned w → is_clock_shape (out-Shape typ.shape) ≡ false
no_clock typ w is = grind (arith, common_steps, type_lemmas)

abbrev pub unsigned_bit : (scene : Scene) (wire : ℕ) (typ : FirType) → scene.types wire ≡ typ → typ.shape ≡ shape.Unsigned (Some 1) → IsBit scene wire
unsigned_bit scene wire typ same is = record {
  leaf = record { path = []; flip = false; typ = typ };
  only = ap leaves same ∙ one_leaf typ (Some 1) is;
  path = refl;
  flip = refl;
  kind = unsigned_kind typ (Some 1) is;
  width = unsigned_width typ (Some 1) is;
}
