-- What stands as one UInt in a well typed module.
use Rattle.std.proofs.Common.{◌≡◌, ℕ, Bool, true, false, if◌then◌else◌, ◌&&◌, List, [], ◌∷◌, map, Option, Some, None, refl, sym, ap, ap₂, ◌∙◌, subst, arith, ⊎_elim}
use Rattle.std.specs.Prelude.{Contains, is_some, option_map, option_and_then}
use Rattle.std.specs.List.{list_all}
use Rattle.std.proofs.lemmas.Grind.{common_steps}
use Rattle.bit_words.specs.declared.value.Kind.{Kind}
use Rattle.bit_words.specs.declared.value.Kind.TheVariants.{Unsigned, Signed}
use Rattle.place_text.specs.declared.place.Place.{Place}
use Rattle.prim_ops.specs.declared.operation.PrimOp.{PrimOp}
use Rattle.fir_types.specs.declared.fir_type.FirType.{FirType}
use Rattle.fir_types.specs.declared.fir_type.Shape.TheViews.{out-Shape}
use Rattle.fir_types.specs.declared.name.Name.{Name}
use Rattle.fir_types.specs.Leaves.{leaves}
use Rattle.fir_tree.specs.declared.circuit.Module.{Module}
use Rattle.fir_tree.specs.declared.expr.Expr.{Expr, the_lemmas}
use Rattle.fir_tree.specs.declared.expr.Suffix.{Suffix}
use Rattle.fir_tree.specs.declared.expr.Form.TheVariants as form
use Rattle.fir_tree.specs.declared.expr.Suffix.TheVariants as suffix
use Rattle.fir_tree.specs.declared.stmt.Stmt.{Stmt}
use Rattle.fir_tree.specs.declared.stmt.Stmt.TheVariants as stmt
use Rattle.fir_tree.specs.declared.stmt.Stmt.TheVariants.{rolls-When, rolls-RegReset}
use Rattle.fir_tree.specs.declared.stmt.Stmt.TheOpen.{Stmt-F}
use Rattle.fir_tree.specs.declared.stmt.Stmt.TheFolds.{map-Stmt, fold-roll-Stmt, fold-roll-Arm}
use Rattle.fir_tree.specs.declared.stmt.Stmt.TheViews.{out-Stmt}
use Rattle.fir_tree.specs.declared.stmt.Arm.{Arm, fold-Arm}
use Rattle.prim_ops.specs.Shapes.{Shape, shaped, same_kind, all_of, shape_of_row}
use Rattle.fir_meaning.specs.Components.{TypedModule}
use Rattle.fir_meaning.specs.Values.{element_of_shape}
use Rattle.fir_meaning.specs.WellTyped.{Known, known_in, typed, typed_step, type_behind, leaf_shape, lone_shape, wider_each, chosen_shapes, is_one_unsigned, is_typed, is_condition, of_stmt, of_arm, is_typed_stmt, are_typed, HasTypes}
use Rattle.check_laws.specs.Faults.{StandsIn, itself, in_operation, in_choice, in_index}
use Rattle.check_laws.proofs.Members.{nothing_in, in_cases}
use Rattle.check_laws.proofs.Typing.{some_same, none_some}
use Rattle.check_laws.specs.CircuitNodes.{expressions_in}
use Rattle.check_laws.specs.Conditions.{BlockIn, itself as the_block, in_an_arm, otherwise, IsConditionIn, of_an_arm, StandsInBlock, in_a_condition, in_a_statement, IsOneUInt}
use Rattle.check_laws.proofs.Layers.{layer_of}

-- The forms of an expression

ref_typed : (K : Known) (e : Expr) (name : Name) (ss : List Suffix) → e.form ≡ form.Ref name ss → typed e K ≡ option_map (λ typ. map leaf_shape (leaves typ)) (type_behind K (map typed_step ss) (K name.id))
ref_typed K e name ss is = grind (arith, common_steps, the_lemmas)

prim_typed : (K : Known) (e : Expr) (op : PrimOp) (es : List Expr) (params : List ℕ) → e.form ≡ form.Prim op es params
    → typed e K ≡ option_map (λ s. s ∷ []) (option_and_then (shape_of_row op params) (all_of (map (λ operand. lone_shape (operand K)) (map typed es))))
prim_typed K e op es params is = grind (arith, common_steps, the_lemmas)

mux_typed : (K : Known) (e : Expr) (es : List Expr) → e.form ≡ form.Mux es → typed e K ≡ chosen_shapes (map (λ operand. operand K) (map typed es))
mux_typed K e es is = grind (arith, common_steps, the_lemmas)

index_step : (K : Known) (s : Suffix) (bracket : Place) (index : Expr) (typ : FirType) → s ≡ suffix.Index bracket index
    → typed_step s K typ ≡ (if is_one_unsigned (typed index K) then element_of_shape (out-Shape typ.shape) else None)
index_step K s bracket index typ is = grind (arith, common_steps, the_lemmas)

if_true : {X : Type 0} (b : Bool) (o : Option X) (x : X) → (if b then o else None) ≡ Some x → b ≡ true
if_true true o x e = refl
if_true false o x e = cc

index_typed : (K : Known) (s : Suffix) (bracket : Place) (index : Expr) (typ : FirType) → s ≡ suffix.Index bracket index → (t : FirType) → typed_step s K typ ≡ Some t
    → is_one_unsigned (typed index K) ≡ true
index_typed K s bracket index typ is t e = if_true (is_one_unsigned (typed index K)) (element_of_shape (out-Shape typ.shape)) t (sym (index_step K s bracket index typ is) ∙ e)

-- Options

and_then_some : {X Y : Type 0} (f : X → Option Y) (o : Option X) (y : Y) → option_and_then f o ≡ Some y → (x : X) × (o ≡ Some x) × (f x ≡ Some y)
and_then_some f None y e = cc
and_then_some f (Some x) y e = (x, refl, e)

map_some : {X Y : Type 0} (f : X → Y) (o : Option X) (y : Y) → option_map f o ≡ Some y → (x : X) × (o ≡ Some x) × (f x ≡ y)
map_some f None y e = cc
map_some f (Some x) y e = (x, refl, some_same e)

left_is : (a b : Bool) → (a && b) ≡ true → a ≡ true
left_is true b e = refl
left_is false b e = cc

right_is : (a b : Bool) → (a && b) ≡ true → b ≡ true
right_is true b e = e
right_is false b e = cc

-- One UInt

kind_is : (k : Kind) → same_kind k Unsigned ≡ true → k ≡ Unsigned
kind_is Unsigned e = refl
kind_is Signed e = cc

one_unsigned : (K : Known) (e : Expr) → is_one_unsigned (typed e K) ≡ true → IsOneUInt K e
one_unsigned K e is = by (typed e K) refl is where
  by : (o : Option (List Shape)) → typed e K ≡ o → is_one_unsigned o ≡ true → IsOneUInt K e
  by (Some (s ∷ [])) q u = record { width = s.width; is = q ∙ ap (λ k. Some (shaped k s.width ∷ [])) (kind_is s.kind u) }
  by (Some []) q u = cc
  by (Some (s ∷ t ∷ ss)) q u = cc
  by None q u = cc

-- Operands

abbrev IsTyped : Known → Expr → Type 0
IsTyped K e = (ss : List Shape) × (typed e K ≡ Some ss)

some_typed : (K : Known) (e : Expr) → is_typed K e ≡ true → IsTyped K e
some_typed K e is = by (typed e K) refl is where
  by : (o : Option (List Shape)) → typed e K ≡ o → is_some o ≡ true → IsTyped K e
  by (Some ss) q u = (ss, q)
  by None q u = cc

one_typed : (K : Known) (e : Expr) → IsOneUInt K e → IsTyped K e
one_typed K e u = (shaped Unsigned u.width ∷ [], u.is)

lone_is : (o : Option (List Shape)) (s : Shape) → lone_shape o ≡ Some s → o ≡ Some (s ∷ [])
lone_is (Some (t ∷ [])) s e = ap (λ x. Some (x ∷ [])) (some_same e)
lone_is (Some []) s e = cc
lone_is (Some (t ∷ u ∷ ss)) s e = cc
lone_is None s e = cc

-- the operands of an operation are one number each
all_lone : (K : Known) (es : List Expr) (row : List Shape) → all_of (map (λ operand. lone_shape (operand K)) (map typed es)) ≡ Some row → map (λ operand. typed operand K) es ≡ map (λ s. Some (s ∷ [])) row
all_lone K [] row e = ap (map (λ s. Some (s ∷ []))) (some_same e)
all_lone K (x ∷ es) row e =
    let one = and_then_some (λ s. option_and_then (λ more. Some (s ∷ more)) (all_of (map (λ operand. lone_shape (operand K)) (map typed es)))) (lone_shape (typed x K)) row e in
    let rest = and_then_some (λ more. Some (one.0 ∷ more)) (all_of (map (λ operand. lone_shape (operand K)) (map typed es))) row one.2 in
    ap₂ (λ o os. o ∷ os) (lone_is (typed x K) one.0 one.1) (all_lone K es rest.0 rest.1) ∙ ap (map (λ s. Some (s ∷ []))) (some_same rest.2)

one_of_all : (K : Known) (es : List Expr) (row : List Shape) → map (λ operand. typed operand K) es ≡ map (λ s. Some (s ∷ [])) row → (e : Expr) → Contains es e → IsTyped K e
one_of_all K [] row h e c = absurd (nothing_in e c)
one_of_all K (x ∷ es) [] h e c = cc
one_of_all K (x ∷ es) (s ∷ row) h e c = ⊎_elim (λ same. subst (IsTyped K) same (s ∷ [], first h)) (λ later. one_of_all K es row (rest h) e later) (in_cases x es e c) where
  first : {o p : Option (List Shape)} {os ps : List (Option (List Shape))} → o ∷ os ≡ p ∷ ps → o ≡ p
  first q = cc

  rest : {o p : Option (List Shape)} {os ps : List (Option (List Shape))} → o ∷ os ≡ p ∷ ps → os ≡ ps
  rest q = cc

record IsRow (K : Known) (e : Expr) (op : PrimOp) (es : List Expr) (params : List ℕ) : Type 0 where
  row : List Shape
  result : Shape
  operands : map (λ operand. typed operand K) es ≡ map (λ s. Some (s ∷ [])) row
  given : shape_of_row op params row ≡ Some result
  is : typed e K ≡ Some (result ∷ [])

row_typed : (K : Known) (e : Expr) (op : PrimOp) (es : List Expr) (params : List ℕ) → e.form ≡ form.Prim op es params → IsTyped K e → IsRow K e op es params
row_typed K e op es params is t =
    let result = map_some (λ s. s ∷ []) (option_and_then (shape_of_row op params) (all_of (map (λ operand. lone_shape (operand K)) (map typed es)))) t.0 (sym (prim_typed K e op es params is) ∙ t.1) in
    let row = and_then_some (shape_of_row op params) (all_of (map (λ operand. lone_shape (operand K)) (map typed es))) result.0 result.1 in
    record { row = row.0; result = result.0; operands = all_lone K es row.0 row.1; given = row.2; is = t.1 ∙ ap (λ ss. Some ss) (sym result.2) }

-- the three operands of a choice
record IsChosen (K : Known) (es : List Expr) : Type 0 where
  condition : Expr
  first : Expr
  second : Expr
  are : es ≡ condition ∷ first ∷ second ∷ []
  asked : is_one_unsigned (typed condition K) ≡ true
  first_typed : IsTyped K first
  second_typed : IsTyped K second

chosen_typed : (K : Known) (es : List Expr) (ss : List Shape) → chosen_shapes (map (λ operand. operand K) (map typed es)) ≡ Some ss → IsChosen K es
chosen_typed K [] ss e = cc
chosen_typed K (c ∷ []) ss e = cc
chosen_typed K (c ∷ a ∷ []) ss e = cc
chosen_typed K (c ∷ a ∷ b ∷ d ∷ es) ss e = cc
chosen_typed K (c ∷ a ∷ b ∷ []) ss e = by (is_one_unsigned (typed c K)) refl (typed a K) refl (typed b K) refl e where
  by : (u : Bool) → is_one_unsigned (typed c K) ≡ u → (x : Option (List Shape)) → typed a K ≡ x → (y : Option (List Shape)) → typed b K ≡ y
      → (if u then option_and_then (λ xs. option_and_then (wider_each xs) y) x else None) ≡ Some ss → IsChosen K (c ∷ a ∷ b ∷ [])
  by true p (Some x) q (Some y) r e = record { condition = c; first = a; second = b; are = refl; asked = p; first_typed = (x, q); second_typed = (y, r) }
  by false p x q y r e = cc
  by true p None q y r e = cc
  by true p (Some x) q None r e = cc

choice_typed : (K : Known) (e : Expr) (es : List Expr) → e.form ≡ form.Mux es → IsTyped K e → IsChosen K es
choice_typed K e es is t = chosen_typed K es t.0 (sym (mux_typed K e es is) ∙ t.1)

-- the steps of a reference
nowhere_behind : (K : Known) (steps : List (Known → FirType → Option FirType)) (t : FirType) → type_behind K steps None ≡ Some t → ⊥
nowhere_behind K [] t e = none_some e
nowhere_behind K (step ∷ steps) t e = nowhere_behind K steps t e

index_asked : (K : Known) (ss : List Suffix) (o : Option FirType) (t : FirType) → type_behind K (map typed_step ss) o ≡ Some t → (bracket : Place) (index : Expr) → Contains ss (suffix.Index bracket index)
    → is_one_unsigned (typed index K) ≡ true
index_asked K [] o t e bracket index c = absurd (nothing_in (suffix.Index bracket index) c)
index_asked K (s ∷ ss) o t e bracket index c =
    ⊎_elim (λ same. here o same e) (λ later. index_asked K ss (option_and_then (typed_step s K) o) t e bracket index later) (in_cases s ss (suffix.Index bracket index) c) where
      at_type : (typ : FirType) → s ≡ suffix.Index bracket index → (p : Option FirType) → typed_step s K typ ≡ p → type_behind K (map typed_step ss) p ≡ Some t → is_one_unsigned (typed index K) ≡ true
      at_type typ same (Some next) q e = index_typed K s bracket index typ same next q
      at_type typ same None q e = absurd (nowhere_behind K (map typed_step ss) t e)

      here : (o : Option FirType) → s ≡ suffix.Index bracket index → type_behind K (map typed_step (s ∷ ss)) o ≡ Some t → is_one_unsigned (typed index K) ≡ true
      here None same e = absurd (nowhere_behind K (map typed_step ss) t e)
      here (Some typ) same e = at_type typ same (typed_step s K typ) refl e

index_one : (K : Known) (e : Expr) (name : Name) (ss : List Suffix) → e.form ≡ form.Ref name ss → IsTyped K e → (bracket : Place) (index : Expr) → Contains ss (suffix.Index bracket index) → IsOneUInt K index
index_one K e name ss is t bracket index c =
    let way = map_some (λ typ. map leaf_shape (leaves typ)) (type_behind K (map typed_step ss) (K name.id)) t.0 (sym (ref_typed K e name ss is) ∙ t.1) in
    one_unsigned K index (index_asked K ss (K name.id) way.0 way.1 bracket index c)

-- What stands in a typed expression is typed.

of_three : (K : Known) (es : List Expr) → IsChosen K es → (e : Expr) → Contains es e → IsTyped K e
of_three K es h e c = by (subst (λ l. Contains l e) h.are c) where
  by : Contains (h.condition ∷ h.first ∷ h.second ∷ []) e → IsTyped K e
  by c = ⊎_elim (λ same. subst (IsTyped K) same (one_typed K h.condition (one_unsigned K h.condition h.asked)))
      (λ l. ⊎_elim (λ same. subst (IsTyped K) same h.first_typed)
      (λ l. ⊎_elim (λ same. subst (IsTyped K) same h.second_typed) (λ l. absurd (nothing_in e l)) (in_cases h.second [] e l)) (in_cases h.first (h.second ∷ []) e l))
      (in_cases h.condition (h.first ∷ h.second ∷ []) e c)

typed_within : (K : Known) {inner e : Expr} → StandsIn inner e → IsTyped K e → IsTyped K inner
typed_within K itself t = t
typed_within K {e = e} (in_operation op es params operand is c more) t = let r = row_typed K e op es params is t in typed_within K more (one_of_all K es r.row r.operands operand c)
typed_within K {e = e} (in_choice es operand is c more) t = typed_within K more (of_three K es (choice_typed K e es is t) operand c)
typed_within K {e = e} (in_index name ss bracket index is c more) t = typed_within K more (one_typed K index (index_one K e name ss is t bracket index c))

-- Statements

abbrev typed_arm : Known → Arm → Bool
typed_arm K = fold-Arm Bool Bool (of_stmt K) (of_arm K)

one_true : {X : Type 0} (p : X → Bool) (xs : List X) (x : X) → Contains xs x → list_all (λ b. b) (map p xs) ≡ true → p x ≡ true
one_true p [] x c h = absurd (nothing_in x c)
one_true p (y ∷ ys) x c h = ⊎_elim (λ same. ap p (sym same) ∙ left_is (p y) _ h) (λ later. one_true p ys x later (right_is (p y) _ h)) (in_cases y ys x c)

when_typed : (K : Known) (arms : List Arm) (other : List Stmt) → is_typed_stmt K (stmt.When arms other) ≡ (list_all (λ b. b) (map (typed_arm K) arms) && are_typed K other)
when_typed K arms other = ap (is_typed_stmt K) (sym (rolls-When arms other)) ∙ fold-roll-Stmt Bool Bool (of_stmt K) (of_arm K) (Stmt-F.When arms other)

arm_typed : (K : Known) (arm : Arm) → typed_arm K arm ≡ (is_condition K arm.condition && are_typed K arm.body)
arm_typed K arm = fold-roll-Arm Bool Bool (of_stmt K) (of_arm K) (record { condition = arm.condition; body = arm.body })

arm_true : (K : Known) (block : List Stmt) (arms : List Arm) (other : List Stmt) (arm : Arm) → are_typed K block ≡ true → Contains block (stmt.When arms other) → Contains arms arm
    → (is_condition K arm.condition && are_typed K arm.body) ≡ true
arm_true K block arms other arm h c d =
    let own = sym (when_typed K arms other) ∙ one_true (is_typed_stmt K) block (stmt.When arms other) c h in
    sym (arm_typed K arm) ∙ one_true (typed_arm K) arms arm d (left_is (list_all (λ b. b) (map (typed_arm K) arms)) (are_typed K other) own)

else_true : (K : Known) (block : List Stmt) (arms : List Arm) (other : List Stmt) → are_typed K block ≡ true → Contains block (stmt.When arms other) → are_typed K other ≡ true
else_true K block arms other h c =
    let own = sym (when_typed K arms other) ∙ one_true (is_typed_stmt K) block (stmt.When arms other) c h in
    right_is (list_all (λ b. b) (map (typed_arm K) arms)) (are_typed K other) own

block_true : (K : Known) {inner block : List Stmt} → BlockIn inner block → are_typed K block ≡ true → are_typed K inner ≡ true
block_true K the_block h = h
block_true K {block = block} (in_an_arm arms other arm c d more) h = block_true K more (right_is (is_condition K arm.condition) _ (arm_true K block arms other arm h c d))
block_true K {block = block} (otherwise arms other c more) h = block_true K more (else_true K block arms other h c)

-- the expressions of a typed statement
own_typed : (K : Known) (z : Stmt-F Stmt Arm) → of_stmt K (map-Stmt Stmt Arm Bool Bool (is_typed_stmt K) (typed_arm K) z) ≡ true → (e : Expr) → Contains (expressions_in z) e → is_typed K e ≡ true
own_typed K (Stmt-F.Wire name typ) h e c = absurd (nothing_in e c)
own_typed K (Stmt-F.Reg name typ clock) h e c = ⊎_elim (λ same. ap (is_typed K) (sym same) ∙ h) (λ l. absurd (nothing_in e l)) (in_cases clock [] e c)
own_typed K (Stmt-F.RegReset name typ clock reset init) h e c =
    let more = right_is (is_typed K clock) _ h in
    let asked = one_typed K reset (one_unsigned K reset (left_is (is_condition K reset) _ more)) in
    ⊎_elim (λ same. ap (is_typed K) (sym same) ∙ left_is (is_typed K clock) _ h)
    (λ l. ⊎_elim (λ same. ap (is_typed K) (sym same) ∙ ap is_some asked.1)
    (λ l. ⊎_elim (λ same. ap (is_typed K) (sym same) ∙ right_is (is_condition K reset) _ more) (λ l. absurd (nothing_in e l)) (in_cases init [] e l)) (in_cases reset (init ∷ []) e l))
    (in_cases clock (reset ∷ init ∷ []) e c)
own_typed K (Stmt-F.Mem memory) h e c = absurd (nothing_in e c)
own_typed K (Stmt-F.Inst name target) h e c = absurd (nothing_in e c)
own_typed K (Stmt-F.Node name x) h e c = ⊎_elim (λ same. ap (is_typed K) (sym same) ∙ h) (λ l. absurd (nothing_in e l)) (in_cases x [] e c)
own_typed K (Stmt-F.Connect left right) h e c = ⊎_elim (λ same. ap (is_typed K) (sym same) ∙ left_is (is_typed K left) _ h)
    (λ l. ⊎_elim (λ same. ap (is_typed K) (sym same) ∙ left_is (is_typed K right) _ (right_is (is_typed K left) _ h)) (λ l. absurd (nothing_in e l)) (in_cases right [] e l))
    (in_cases left (right ∷ []) e c)
own_typed K (Stmt-F.Invalidate target) h e c = ⊎_elim (λ same. ap (is_typed K) (sym same) ∙ h) (λ l. absurd (nothing_in e l)) (in_cases target [] e c)
own_typed K (Stmt-F.When arms other) h e c = absurd (nothing_in e c)
own_typed K (Stmt-F.Skip place) h e c = absurd (nothing_in e c)

statement_typed : (K : Known) (s : Stmt) → is_typed_stmt K s ≡ true → (e : Expr) → Contains (expressions_in (out-Stmt s)) e → IsTyped K e
statement_typed K s h e c =
    let l = layer_of s in
    some_typed K e (own_typed K l.layer (sym (ap (is_typed_stmt K) l.rolled ∙ fold-roll-Stmt Bool Bool (of_stmt K) (of_arm K) l.layer) ∙ h) e (subst (λ z. Contains (expressions_in z) e) l.out c))

-- The laws

condition_asked : (K : Known) {block : List Stmt} (e : Expr) → are_typed K block ≡ true → IsConditionIn e block → IsOneUInt K e
condition_asked K e h (of_an_arm inner arms other arm b c d same) =
    subst (IsOneUInt K) same (one_unsigned K arm.condition (left_is (is_condition K arm.condition) _ (arm_true K inner arms other arm (block_true K b h) c d)))

standing_typed : (K : Known) {block : List Stmt} (e : Expr) → are_typed K block ≡ true → StandsInBlock e block → IsTyped K e
standing_typed K e h (in_a_condition outer asked s) = typed_within K s (one_typed K outer (condition_asked K outer h asked))
standing_typed K e h (in_a_statement inner s outer b c d w) =
    typed_within K w (statement_typed K s (one_true (is_typed_stmt K) inner s c (block_true K b h)) outer d)

module _ (holder : Module) (m : TypedModule) (has : HasTypes holder m) where
  pub all_typed : (e : Expr) → StandsInBlock e holder.body → (ss : List Shape) × (typed e (known_in m) ≡ Some ss)
  all_typed e s = standing_typed (known_in m) e has.statements s

  pub conditions_one : (e : Expr) → IsConditionIn e holder.body → IsOneUInt (known_in m) e
  conditions_one e c = condition_asked (known_in m) e has.statements c

  pub resets_one : (block : List Stmt) (name : Name) (typ : FirType) (clock reset init : Expr) → BlockIn block holder.body → Contains block (stmt.RegReset name typ clock reset init)
      → IsOneUInt (known_in m) reset
  resets_one block name typ clock reset init b c =
      let K : Known = known_in m in
      let own = one_true (is_typed_stmt K) block (stmt.RegReset name typ clock reset init) c (block_true K b has.statements) in
      let is = sym (ap (is_typed_stmt K) (sym (rolls-RegReset name typ clock reset init)) ∙ fold-roll-Stmt Bool Bool (of_stmt K) (of_arm K) (Stmt-F.RegReset name typ clock reset init)) ∙ own in
      one_unsigned K reset (left_is (is_condition K reset) (is_typed K init) (right_is (is_typed K clock) _ is))

  pub choices_one : (e condition : Expr) (others : List Expr) → StandsInBlock e holder.body → e.form ≡ form.Mux (condition ∷ others) → IsOneUInt (known_in m) condition
  choices_one e condition others s is =
      let K : Known = known_in m in
      let h = choice_typed K e (condition ∷ others) is (all_typed e s) in
      subst (IsOneUInt K) (sym (first h.are)) (one_unsigned K h.condition h.asked)
    where
      first : {x y : Expr} {xs ys : List Expr} → x ∷ xs ≡ y ∷ ys → x ≡ y
      first q = cc

  pub indices_one : (e index : Expr) (name : Name) (ss : List Suffix) (bracket : Place) → StandsInBlock e holder.body → e.form ≡ form.Ref name ss → Contains ss (suffix.Index bracket index)
      → IsOneUInt (known_in m) index
  indices_one e index name ss bracket s is c = index_one (known_in m) e name ss is (all_typed e s) bracket index c

  pub operations_typed : (e : Expr) (op : PrimOp) (es : List Expr) (params : List ℕ) → StandsInBlock e holder.body → e.form ≡ form.Prim op es params
      → (row : List Shape) × (result : Shape) × (map (λ operand. typed operand (known_in m)) es ≡ map (λ s. Some (s ∷ [])) row) × (shape_of_row op params row ≡ Some result)
      × (typed e (known_in m) ≡ Some (result ∷ []))
  operations_typed e op es params s is = let r = row_typed (known_in m) e op es params is (all_typed e s) in (r.row, r.result, r.operands, r.given, r.is)
