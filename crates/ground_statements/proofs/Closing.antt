-- What the code does, statement by statement and arm by arm.
use Rattle.std.proofs.Common.{◌≡◌, ℕ, zero, suc, ◌+◌, ◌<◌, ◌-◌, ◌^◌, min, ◌&&◌, Bool, true, false, List, [], ◌∷◌, ◌++◌, map, length, take, get_or, nat_eq, Some, refl, sym, ap, ◌∙◌, subst, arith, true≢false}
use Rattle.std.specs.List.{list_all}
use Rattle.std.specs.Map.{lookup}
use Rattle.std.proofs.lemmas.Grind.{common_steps}
use Rattle.std.proofs.lemmas.List.{take_more}
use Rattle.fir_types.specs.Leaves.{count}
use Rattle.fir_types.proofs.Counts.{counted}
use Rattle.fir_tree.specs.declared.stmt.Stmt.{Stmt}
use Rattle.fir_tree.specs.declared.stmt.Stmt.TheVariants as stmt
use Rattle.fir_tree.specs.declared.stmt.Arm.{Arm}
use Rattle.fir_meaning.specs.WellTyped.{Known, is_condition, is_typed_stmt, are_typed}
use Rattle.ground_net.specs.declared.circuit.GroundStmt.{GroundStmt}
use Rattle.ground_net.specs.declared.circuit.GroundStmt.TheVariants as statement
use Rattle.ground_net.specs.declared.circuit.GroundArm.{GroundArm}
use Rattle.ground_exprs.specs.declared.source.Source.{Source}
use Rattle.ground_exprs.specs.declared.component.Component.{Component}
use Rattle.ground_exprs.specs.Sources.{Entries, IsLowered, known_of}
use Rattle.ground_statements.specs.Connects.{IsNode}
use Rattle.ground_statements.specs.Arms.{AreArms, IsNodeOf, IsNodeWhere, is_typed_arm, are_typed_arms, leaves_under, leaves_of_component}
use Rattle.ground_statements.specs.Bodies.{IsBody}
use Rattle.ground_statements.proofs.Layers as layer
use Rattle.ground_statements.proofs.Blocks.{is_more, are_more, is_when}

both_true : (a b : Bool) → (a && b) ≡ true → (a ≡ true) × (b ≡ true)
both_true true b e = (refl, e)
both_true false b e = absurd (true≢false (sym e))

-- an item of what all pass
passes_at : {A : Type 0} (f : A → Bool) (xs : List A) (i : ℕ) (x : A) → i < length xs → x ≡ get_or xs i x → list_all (λ b. b) (map f xs) ≡ true → f x ≡ true
passes_at f [] i x lt is all = absurd (nothing lt)
  where
    nothing : i < 0 → ⊥
    nothing lt = omega (arith, lt)
passes_at f (y ∷ xs) zero x lt is all = ap f is ∙ (both_true (f y) (list_all (λ b. b) (map f xs)) all).0
passes_at f (y ∷ xs) (suc i) x lt is all = passes_at f xs i x (less lt) is (both_true (f y) (list_all (λ b. b) (map f xs)) all).1
  where
    less : suc i < length (y ∷ xs) → i < length xs
    less lt = omega (arith, lt)

none_taken : {A : Type 0} (xs : List A) → take 0 xs ≡ []
none_taken xs = grind (arith, common_steps)

one_taken : {A : Type 0} (xs : List A) (i : ℕ) (x : A) → i < length xs → x ≡ get_or xs i x → take (i + 1) xs ≡ take i xs ++ x ∷ []
one_taken xs i x lt is = take_more xs i x lt ∙ ap (λ y. take i xs ++ y ∷ []) (sym is)

-- Bodies

pub stmt_typed : (known : Known) (body : List Stmt) (i : ℕ) (s : Stmt) → i < length body → s ≡ get_or body i s → are_typed known body ≡ true → is_typed_stmt known s ≡ true
stmt_typed known body i s lt is all = passes_at (is_typed_stmt known) body i s lt is all

pub body_goes_on : (entries : Entries) (settable : List Bool) (body : List Stmt) (i : ℕ) (s : Stmt) (before mid behind : ℕ) (made more after : List GroundStmt) → i < length body → s ≡ get_or body i s
    → IsBody entries settable (take i body) before mid made → IsBody entries settable (s ∷ []) mid behind more → after ≡ made ++ more → IsBody entries settable (take (i + 1) body) before behind after
body_goes_on entries settable body i s before mid behind made more after lt is p q e =
    subst (IsBody entries settable (take (i + 1) body) before behind) (sym e)
    (subst (λ b. IsBody entries settable b before behind (made ++ more)) (sym (one_taken body i s lt is)) (is_more entries settable (take i body) (s ∷ []) before mid behind made more p q))

-- Arms

pub arm_typed : (known : Known) (arms : List Arm) (i : ℕ) (a : Arm) → i < length arms → a ≡ get_or arms i a → are_typed_arms known arms ≡ true → (is_condition known a.condition ≡ true) × (are_typed known a.body ≡ true)
arm_typed known arms i a lt is all = both_true (is_condition known a.condition) (are_typed known a.body) (sym (layer.typed_arm-is known a) ∙ passes_at (is_typed_arm known) arms i a lt is all)

pub arms_go_on : (entries : Entries) (settable : List Bool) (arms : List Arm) (i : ℕ) (a : Arm) (before mid behind : ℕ) (gs after : List GroundArm) (g : GroundArm) (source : Source) (sources : List Source)
    → i < length arms → a ≡ get_or arms i a → AreArms entries settable (take i arms) before mid gs → are_typed_arms (known_of entries) arms ≡ true → IsLowered entries a.condition sources → sources ≡ source ∷ [] → source.expr ≡ g.condition
    → IsBody entries settable a.body mid behind g.body → after ≡ gs ++ g ∷ [] → AreArms entries settable (take (i + 1) arms) before behind after
arms_go_on entries settable arms i a before mid behind gs after g source sources lt is p all low one expr q e =
    subst (AreArms entries settable (take (i + 1) arms) before behind) (sym e)
    (subst (λ b. AreArms entries settable b before behind (gs ++ g ∷ [])) (sym (one_taken arms i a lt is))
    (are_more entries settable (take i arms) a before mid behind gs g p
    (record { source = source; expr = expr; unsigned = (arm_typed (known_of entries) arms i a lt is all).0; lowered = subst (IsLowered entries a.condition) one low }) q))

-- A whole `when`

pub when_made : (entries : Entries) (settable : List Bool) (s : Stmt) (arms : List Arm) (other : List Stmt) (before mid last behind : ℕ) (gs : List GroundArm) (made whole : List GroundStmt) → s ≡ stmt.When arms other
    → AreArms entries settable arms before mid gs → IsBody entries settable other mid last made → whole ≡ statement.When before gs made ∷ [] → behind ≡ last → IsBody entries settable (s ∷ []) before behind whole
when_made entries settable s arms other before mid last behind gs made whole is p q e b =
    subst (λ z. IsBody entries settable (z ∷ []) before behind whole) (sym is)
    (subst (λ w. IsBody entries settable (stmt.When arms other ∷ []) before behind w) (sym e)
    (subst (λ i. IsBody entries settable (stmt.When arms other ∷ []) before i (statement.When before gs made ∷ [])) (sym b) (is_when entries settable arms other before mid last gs made p q)))

-- the same in other words
pub with_told : (entries : Entries) (settable : List Bool) (body : List Stmt) (before behind other : ℕ) (made told : List GroundStmt) → told ≡ made → other ≡ behind → IsBody entries settable body before behind made
    → IsBody entries settable body before other told
with_told entries settable body before behind other made told e b p = subst (IsBody entries settable body before other) (sym e) (subst (λ i. IsBody entries settable body before i made) (sym b) p)

-- Leaves of components

min_below : (a b c : ℕ) → c ≡ min a b → c < b → c ≡ a
min_below a b c e lt = omega (arith, e, lt)

pub counted_behind : (entries : Entries) (name before all number behind : ℕ) (e : Component) → lookup (nat_eq name) entries ≡ Some e → all ≡ min (count e.typ) (2 ^ 128 - 1) → number ≡ all → number < 2 ^ 32 → behind ≡ before + number
    → behind ≡ before + leaves_under entries name
counted_behind entries name before all number behind e found is same small sum =
    let here : all ≡ count e.typ = min_below (count e.typ) (2 ^ 128 - 1) all is (omega (arith, same, small)) in
    sum ∙ ap (λ i. before + i) (same ∙ (here ∙ (counted e.typ ∙ sym (ap leaves_of_component found))))

pub node_made : (entries : Entries) (name : ℕ) (sources : List Source) (made : List GroundStmt) (e : Component) → lookup (nat_eq name) entries ≡ Some e → IsNode e.typ e.first sources made → IsNodeOf entries name sources made
node_made entries name sources made e found is = subst (λ o. IsNodeWhere o sources made) (sym found) is
