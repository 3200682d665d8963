-- What statements declare is no port, so the ports of a module have as many leaves as stand before its body.
use Rattle.std.proofs.Common.{◌≡◌, ℕ, zero, suc, ◌+◌, ◌++◌, Bool, true, false, List, [], ◌∷◌, map, take, length, refl, sym, ap, ap₂, ◌∙◌, subst, arith, ⊎_elim}
use Rattle.std.specs.Prelude.{Contains, if◌then◌else◌}
use Rattle.std.specs.List.{flat_map, sum_by}
use Rattle.std.proofs.lemmas.Grind.{common_steps}
use Rattle.std.proofs.lemmas.List.Elements.{Contains-append_cases}
use Rattle.std.proofs.lemmas.List.Concat.{flat_map-cons}
use Rattle.std.proofs.lemmas.List.Sums.{sum_by-cons}
use Rattle.fir_types.specs.declared.port.Port.{Port}
use Rattle.fir_types.specs.Leaves.{leaves}
use Rattle.fir_tree.specs.declared.circuit.Module.{Module}
use Rattle.fir_types.specs.declared.name.Name.{Name}
use Rattle.fir_tree.specs.declared.stmt.Stmt.{Stmt, ind-Stmt, the_lemmas as stmt_lemmas}
use Rattle.fir_tree.specs.declared.stmt.Arm.{Arm, fold-Arm}
use Rattle.fir_tree.specs.declared.stmt.Stmt.TheOpen.{Stmt-F, Arm-F}
use Rattle.fir_tree.specs.declared.stmt.Stmt.TheFolds.{map-Stmt, map-Arm}
use Rattle.fir_tree.specs.declared.stmt.Stmt.TheViews.{roll-Stmt, roll-Arm}
use Rattle.fir_meaning.specs.Components.{Declaration, Declares, Told, ToldArm, told, of_told, of_told_arm, one, declared_from, declared_in_block, declared_by_port, Sort, An_input, An_output, Component, TypedModule}
use Rattle.fir_meaning.specs.States.{is_port}
use Rattle.fir_meaning.specs.WellTyped.{HasTypes}
use Rattle.net_of_circuit.specs.Numbers.{leaves_before}

abbrev told_arm : Arm → ToldArm
told_arm = fold-Arm Told ToldArm of_told of_told_arm

abbrev NoPort : Declaration → Type 0
NoPort d = is_port d.sort ≡ false

abbrev NoPorts : Declares → Type 0
NoPorts declares = (block behind : List Stmt) (d : Declaration) → Contains (declares block behind) d → NoPort d

abbrev StatementMakes : Stmt → Type 0
StatementMakes s = NoPorts (told s).declares

abbrev ArmMakes : Arm → Type 0
ArmMakes a = (d : Declaration) → Contains (told_arm a).declared d → NoPort d

told_roll : (y : Stmt-F Stmt Arm) → told (roll-Stmt y) ≡ of_told (map-Stmt Stmt Arm Told ToldArm told told_arm y)
told_roll y = grind (arith, common_steps, stmt_lemmas)

told_arm_roll : (y : Arm-F Stmt Arm) → told_arm (roll-Arm y) ≡ of_told_arm (map-Arm Stmt Arm Told ToldArm told told_arm y)
told_arm_roll y = grind (arith, common_steps, stmt_lemmas)

from_makes : (ps : List ((s : Stmt) × StatementMakes s)) (block : List Stmt) (d : Declaration) → Contains (declared_from block (map told (map (λ e. e.0) ps))) d → NoPort d
from_makes [] block d (k, below, is) = absurd (omega arith)
from_makes (p ∷ ps) block d c =
    let rest : List Stmt = map (λ t. t.itself) (map told (map (λ e. e.0) ps)) in
    ⊎_elim
    (λ here. p.1 block rest d here)
    (λ later. from_makes ps block d later)
    (Contains-append_cases ((told p.0).declares block rest) (declared_from block (map told (map (λ e. e.0) ps))) d c)

block_makes : (ps : List ((s : Stmt) × StatementMakes s)) (d : Declaration) → Contains (declared_in_block (map told (map (λ e. e.0) ps))) d → NoPort d
block_makes ps d c = from_makes ps (map (λ t. t.itself) (map told (map (λ e. e.0) ps))) d c

one_makes : (name : Name) (sort : Sort) → is_port sort ≡ false → NoPorts (one name sort)
one_makes name sort is block behind d (zero, below, same) = ap (λ (e : Declaration). is_port e.sort) (sym same) ∙ is
one_makes name sort is block behind d (suc k, below, same) = absurd (omega arith)

arms_make : (ps : List ((a : Arm) × ArmMakes a)) (d : Declaration) → Contains (flat_map (λ arm. arm.declared) (map told_arm (map (λ e. e.0) ps))) d → NoPort d
arms_make [] d (k, below, is) = absurd (omega arith)
arms_make (p ∷ ps) d c = ⊎_elim
    (λ here. p.1 d here)
    (λ later. arms_make ps d later)
    (Contains-append_cases (told_arm p.0).declared (flat_map (λ arm. arm.declared) (map told_arm (map (λ e. e.0) ps))) d
    (subst (λ l. Contains l d) (flat_map-cons (λ arm. arm.declared) (told_arm p.0) (map told_arm (map (λ e. e.0) ps))) c))

-- at one layer
makes_at : (y : Stmt-F Stmt Arm) → NoPorts (of_told (map-Stmt Stmt Arm Told ToldArm told told_arm y)).declares → StatementMakes (roll-Stmt y)
makes_at y h = subst (λ t. NoPorts t.declares) (sym (told_roll y)) h

nothing_makes : NoPorts (λ block behind. [])
nothing_makes block behind d (k, below, is) = absurd (omega arith)

statement_makes : (y : Stmt-F ((s : Stmt) × StatementMakes s) ((a : Arm) × ArmMakes a)) → StatementMakes (roll-Stmt (map-Stmt _ _ Stmt Arm (λ e. e.0) (λ e. e.0) y))
statement_makes (Stmt-F.Wire name typ) = makes_at (Stmt-F.Wire name typ) (one_makes name _ refl)
statement_makes (Stmt-F.Reg name typ clock) = makes_at (Stmt-F.Reg name typ clock) (one_makes name _ refl)
statement_makes (Stmt-F.RegReset name typ clock reset init) = makes_at (Stmt-F.RegReset name typ clock reset init) (one_makes name _ refl)
statement_makes (Stmt-F.Mem memory) = makes_at (Stmt-F.Mem memory) (one_makes memory.name _ refl)
statement_makes (Stmt-F.Inst name target) = makes_at (Stmt-F.Inst name target) (one_makes name _ refl)
statement_makes (Stmt-F.Node name expr) = makes_at (Stmt-F.Node name expr) (one_makes name _ refl)
statement_makes (Stmt-F.Connect left right) = makes_at (Stmt-F.Connect left right) nothing_makes
statement_makes (Stmt-F.Invalidate target) = makes_at (Stmt-F.Invalidate target) nothing_makes
statement_makes (Stmt-F.Skip place) = makes_at (Stmt-F.Skip place) nothing_makes
statement_makes (Stmt-F.When arms other) = makes_at (Stmt-F.When (map (λ e. e.0) arms) (map (λ e. e.0) other))
    (λ block behind d c. ⊎_elim (arms_make arms d) (block_makes other d)
    (Contains-append_cases (flat_map (λ arm. arm.declared) (map told_arm (map (λ e. e.0) arms))) (declared_in_block (map told (map (λ e. e.0) other))) d c))

arm_makes : (y : Arm-F ((s : Stmt) × StatementMakes s) ((a : Arm) × ArmMakes a)) → ArmMakes (roll-Arm (map-Arm _ _ Stmt Arm (λ e. e.0) (λ e. e.0) y))
arm_makes y d c =
    block_makes y.body d (subst (λ t. Contains t.declared d) (told_arm_roll (record { condition = y.condition; body = map (λ e. e.0) y.body })) c)

statements_make : (s : Stmt) → StatementMakes s
statements_make = ind-Stmt StatementMakes ArmMakes
    (λ x y is. subst (λ z. StatementMakes (roll-Stmt z)) is (statement_makes y))
    (λ x y is. subst (λ z. ArmMakes (roll-Arm z)) is (arm_makes y))

with_makes : (ss : List Stmt) → List ((s : Stmt) × StatementMakes s)
with_makes ss = map (λ s. (s, statements_make s)) ss

with_makes_same : (ss : List Stmt) → map (λ e. e.0) (with_makes ss) ≡ ss
unfolding with_makes
with_makes_same [] = refl
with_makes_same (s ∷ ss) = ap (λ l. s ∷ l) (with_makes_same ss)

body_makes : (body : List Stmt) (d : Declaration) → Contains (declared_in_block (map told body)) d → is_port d.sort ≡ false
body_makes body d c = block_makes (with_makes body) d (subst (λ ss. Contains (declared_in_block (map told ss)) d) (sym (with_makes_same body)) c)

-- The leaves of ports

abbrev size : Component → ℕ
size c = length (leaves c.typ)

abbrev port_size : Component → ℕ
port_size c = if is_port c.declaration.sort then length (leaves c.typ) else 0

no_sizes : (cs : List Component) → ((d : Declaration) → Contains (map (λ (c : Component). c.declaration) cs) d → is_port d.sort ≡ false) → sum_by port_size cs ≡ 0
no_sizes [] h = grind (arith, common_steps)
no_sizes (c ∷ cs) h =
    let here : is_port c.declaration.sort ≡ false = h c.declaration (0, omega arith, refl) in
    sum_by-cons port_size c cs ∙ ap₂ (λ (a b : ℕ). a + b) (ap (λ b. if b then length (leaves c.typ) else 0) here)
    (no_sizes cs (λ d (k, below, same). h d (suc k, omega (arith, below), same)))

port_is : (body : List Stmt) (port : Port) → is_port (declared_by_port body port).sort ≡ true
port_is body port = by port.output
  where
    by : (b : Bool) → is_port (if b then An_output else An_input) ≡ true
    by true = refl
    by false = refl

rest_of : {A : Type 0} → List A → List A
rest_of [] = []
rest_of (x ∷ xs) = xs

head_or : {A : Type 0} → A → List A → A
head_or d [] = d
head_or d (x ∷ xs) = x

none_first : {A : Type 0} {B : Type 0} {x : A} {xs : List A} → [] ≡ x ∷ xs → B
none_first e = absurd cc

ports_first : (body : List Stmt) (ports : List Port) (ds : List Declaration) (cs : List Component) → ((d : Declaration) → Contains ds d → is_port d.sort ≡ false)
    → map (λ (c : Component). c.declaration) cs ≡ map (declared_by_port body) ports ++ ds → sum_by port_size cs ≡ sum_by size (take (length ports) cs)
unfolding head_or rest_of
ports_first body [] ds cs none e =
    let z : 0 ≡ sum_by size [] = grind (arith, common_steps) in
    no_sizes cs (subst (λ l. (d : Declaration) → Contains l d → is_port d.sort ≡ false) (sym e) none) ∙ z
ports_first body (p ∷ ports) ds [] none e = none_first e
ports_first body (p ∷ ports) ds (c ∷ cs) none e =
    let first : c.declaration ≡ declared_by_port body p = ap (head_or c.declaration) e in
    let here : is_port c.declaration.sort ≡ true = ap (λ (d : Declaration). is_port d.sort) first ∙ port_is body p in
    sum_by-cons port_size c cs
    ∙ ap₂ (λ (a b : ℕ). a + b) (ap (λ b. if b then length (leaves c.typ) else 0) here) (ports_first body ports ds cs none (ap rest_of e))
    ∙ sym (sum_by-cons size c (take (length ports) cs))

-- The ports' leaves are those before the body.
pub ports_before : (holder : Module) (m : TypedModule) → HasTypes holder m → sum_by (λ c. if is_port c.declaration.sort then length (leaves c.typ) else 0) m.components ≡ leaves_before m (length holder.ports)
ports_before holder m has = ports_first holder.body holder.ports (declared_in_block (map told holder.body)) m.components (body_makes holder.body) has.components
