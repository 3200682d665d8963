-- The walk through the statements of a module.
use Rattle.std.proofs.Common.{◌≡◌, ℕ, ◌+◌, ◌<◌, Bool, true, false, ◌&&◌, ◌||◌, not, List, [], ◌∷◌, ◌++◌, map, length, take, get_or, refl, sym, ap, ap₂, ◌∙◌, subst, arith, append_assoc, append-nil, if◌then◌else◌}
use Rattle.std.specs.List.{list_any, flat_map}
use Rattle.std.proofs.lemmas.Grind.{common_steps}
use Rattle.std.proofs.lemmas.List.{map_more, take_more}
use Rattle.std.proofs.lemmas.List.Concat.{flat_map-append, flat_map-cons}
use Rattle.std.proofs.lemmas.List.Folds.{flat_map-map}
use Rattle.fir_types.specs.declared.leaf.TypeLeaf.{TypeLeaf}
use Rattle.fir_types.specs.Leaves.{leaves, is_clock}
use Rattle.fir_types.specs.declared.port.Port.{Port}
use Rattle.fir_types.specs.declared.name.Name.{Name}
use Rattle.fir_tree.specs.declared.expr.Expr.{Expr}
use Rattle.fir_tree.specs.declared.circuit.Module.{Module}
use Rattle.fir_tree.specs.declared.stmt.Stmt.{Stmt, ind-Stmt}
use Rattle.fir_tree.specs.declared.stmt.Stmt.TheVariants as stmt
use Rattle.fir_tree.specs.declared.stmt.Arm.{Arm}
use Rattle.fir_tree.specs.declared.stmt.Stmt.TheOpen.{Stmt-F, Arm-F}
use Rattle.fir_tree.specs.declared.stmt.Stmt.TheFolds.{map-Stmt, map-Arm, fold-roll-Stmt, fold-roll-Arm}
use Rattle.fir_tree.specs.declared.stmt.Stmt.TheViews.{roll-Stmt, roll-Arm}
use Rattle.fir_tree.specs.declared.stmt.Stmt.{the_lemmas as stmt_lemmas}
use Rattle.fir_meaning.specs.Components.{Leaf, Sort, An_input, An_output, A_wire, A_register, A_reset_register, A_memory, An_instance, A_node, flow_of}
use Rattle.fir_meaning.specs.Mentions.{Scope}
use Rattle.fir_meaning.specs.States.{is_source}
use Rattle.fir_meaning.specs.ClockRoot.{Driver, Undriven, in_branch, last_of, driven_by, driver_in}
use Rattle.clock_check.specs.Driving.{clocked, arm_driven}
use Rattle.clock_check.specs.Edges.{Edge, Walked, WalkedArm, edge_from, part_of, driven_edge, node_edges, own_edges, block_driver, edges_in, own_of, of_stmt, of_arm, walked, walked_arm, port_edges, module_edges}
use Rattle.clock_check.proofs.Lasting.{branch_branch, block_absorbs, arm_is, driven-when}

-- The statements that are walked are those of the text.

module _ (types : Scope) where
  pub walked_roll : (z : Stmt-F Stmt Arm) → walked types (roll-Stmt z) ≡ of_stmt types (map-Stmt Stmt Arm Walked WalkedArm (walked types) (walked_arm types) z)
  walked_roll z = fold-roll-Stmt Walked WalkedArm (of_stmt types) (of_arm types) z

  pub walked_arm_roll : (z : Arm-F Stmt Arm) → walked_arm types (roll-Arm z) ≡ of_arm types (map-Arm Stmt Arm Walked WalkedArm (walked types) (walked_arm types) z)
  walked_arm_roll z = fold-roll-Arm Walked WalkedArm (of_stmt types) (of_arm types) z

  abbrev IsItself : Stmt → Type 0
  IsItself s = (walked types s).itself ≡ s

  abbrev ArmIsItself : Arm → Type 0
  ArmIsItself a = (walked_arm types a).itself ≡ a

  itself_at : (z : Stmt-F Stmt Arm) → (of_stmt types (map-Stmt Stmt Arm Walked WalkedArm (walked types) (walked_arm types) z)).itself ≡ roll-Stmt z → IsItself (roll-Stmt z)
  itself_at z h = ap (λ (w : Walked). w.itself) (walked_roll z) ∙ h

  each_itself : (ps : List ((s : Stmt) × IsItself s)) → map (λ w. w.itself) (map (walked types) (map (λ e. e.0) ps)) ≡ map (λ e. e.0) ps
  each_itself [] = refl
  each_itself (p ∷ ps) = ap₂ (λ (s : Stmt) (ss : List Stmt). s ∷ ss) p.1 (each_itself ps)

  arms_itself : (ps : List ((a : Arm) × ArmIsItself a)) → map (λ w. w.itself) (map (walked_arm types) (map (λ e. e.0) ps)) ≡ map (λ e. e.0) ps
  arms_itself [] = refl
  arms_itself (p ∷ ps) = ap₂ (λ (a : Arm) (as' : List Arm). a ∷ as') p.1 (arms_itself ps)

  itself_case : (y : Stmt-F ((s : Stmt) × IsItself s) ((a : Arm) × ArmIsItself a)) → IsItself (roll-Stmt (map-Stmt _ _ Stmt Arm (λ e. e.0) (λ e. e.0) y))
  itself_case (Stmt-F.Wire name typ) = itself_at (Stmt-F.Wire name typ) refl
  itself_case (Stmt-F.Reg name typ clock) = itself_at (Stmt-F.Reg name typ clock) refl
  itself_case (Stmt-F.RegReset name typ clock reset init) = itself_at (Stmt-F.RegReset name typ clock reset init) refl
  itself_case (Stmt-F.Mem memory) = itself_at (Stmt-F.Mem memory) refl
  itself_case (Stmt-F.Inst name target) = itself_at (Stmt-F.Inst name target) refl
  itself_case (Stmt-F.Node name expr) = itself_at (Stmt-F.Node name expr) refl
  itself_case (Stmt-F.Connect left right) = itself_at (Stmt-F.Connect left right) refl
  itself_case (Stmt-F.Invalidate target) = itself_at (Stmt-F.Invalidate target) refl
  itself_case (Stmt-F.Skip place) = itself_at (Stmt-F.Skip place) refl
  itself_case (Stmt-F.When arms other) = itself_at (Stmt-F.When (map (λ e. e.0) arms) (map (λ e. e.0) other))
      (ap₂ (λ (x : List Arm) (y : List Stmt). roll-Stmt (Stmt-F.When x y)) (arms_itself arms) (each_itself other))

  itself_arm : (y : Arm-F ((s : Stmt) × IsItself s) ((a : Arm) × ArmIsItself a)) → ArmIsItself (roll-Arm (map-Arm _ _ Stmt Arm (λ e. e.0) (λ e. e.0) y))
  itself_arm y =
      ap (λ (w : WalkedArm). w.itself) (walked_arm_roll (record { condition = y.condition; body = map (λ e. e.0) y.body }))
      ∙ ap (λ (b : List Stmt). roll-Arm (record { condition = y.condition; body = b })) (each_itself y.body)

  itself : (s : Stmt) → IsItself s
  itself = ind-Stmt IsItself ArmIsItself
      (λ x y is. subst (λ z. IsItself (roll-Stmt z)) is (itself_case y))
      (λ x y is. subst (λ z. ArmIsItself (roll-Arm z)) is (itself_arm y))

  pub all_itself : (ss : List Stmt) → map (λ w. w.itself) (map (walked types) ss) ≡ ss
  all_itself [] = refl
  all_itself (s ∷ ss) = ap₂ (λ (x : Stmt) (xs : List Stmt). x ∷ xs) (itself s) (all_itself ss)

  pub block_driver_is : (ss : List Stmt) (leaf : Leaf) → block_driver types (map (walked types) ss) leaf ≡ driver_in types leaf ss
  block_driver_is ss leaf = ap (driver_in types leaf) (all_itself ss)

-- Drivers that agree on components with Clock leaves make the same edges.

or_right : (b c : Bool) → c ≡ true → (b || c) ≡ true
or_right true c e = refl
or_right false c e = e

leaves_same : (d d' : Leaf → Driver) (sort : Sort) (name : ℕ) (ls : List TypeLeaf) → (list_any is_clock ls ≡ true → (l : TypeLeaf) → d (part_of name l) ≡ d' (part_of name l))
    → flat_map (driven_edge d sort name) ls ≡ flat_map (driven_edge d' sort name) ls
leaves_same d d' sort name [] h = refl
leaves_same d d' sort name (l ∷ ls) h =
    flat_map-cons (driven_edge d sort name) l ls
    ∙ ap₂ (λ x y. x ++ y) (here (is_clock l) refl) (leaves_same d d' sort name ls (λ e. h (or_right (is_clock l) (list_any is_clock ls) e)))
    ∙ sym (flat_map-cons (driven_edge d' sort name) l ls)
  where
    may : Bool
    may = not (is_source (flow_of sort l.flip))

    here : (b : Bool) → is_clock l ≡ b → driven_edge d sort name l ≡ driven_edge d' sort name l
    here true e = ap (λ x. if is_clock l && may then edge_from (part_of name l) x else []) (h (ap (λ q. q || list_any is_clock ls) e) l)
    here false e =
        ap (λ b. if b && may then edge_from (part_of name l) (d (part_of name l)) else []) e
        ∙ sym (ap (λ b. if b && may then edge_from (part_of name l) (d' (part_of name l)) else []) e)

abbrev Agree : Scope → (Leaf → Driver) → (Leaf → Driver) → Type 0
Agree types d d' = (leaf : Leaf) → clocked types leaf.component ≡ true → d leaf ≡ d' leaf

own_same : (types : Scope) (d d' : Leaf → Driver) → Agree types d d' → (name : ℕ) (sort : Sort) → own_edges types d name sort ≡ own_edges types d' name sort
own_same types d d' agree name sort =
    ap (λ l. l ++ node_edges types name sort) (leaves_same d d' sort name (leaves (types name)) (λ has l. agree (part_of name l) has))

abbrev OwnSame : Scope → Stmt → Type 0
OwnSame types s = (d d' : Leaf → Driver) → Agree types d d' → (walked types s).own d ≡ (walked types s).own d'

abbrev ArmStands : Arm → Type 0
ArmStands a = Unit {0}

own_at : (types : Scope) (z : Stmt-F Stmt Arm)
    → ((d d' : Leaf → Driver) → Agree types d d' → own_of types (map-Stmt Stmt Arm Walked WalkedArm (walked types) (walked_arm types) z) d ≡ own_of types (map-Stmt Stmt Arm Walked WalkedArm (walked types) (walked_arm types) z) d')
    → OwnSame types (roll-Stmt z)
own_at types z h d d' agree = ap (λ (w : Walked). w.own d) (walked_roll types z) ∙ h d d' agree ∙ ap (λ (w : Walked). w.own d') (sym (walked_roll types z))

own_case : (types : Scope) (y : Stmt-F ((s : Stmt) × OwnSame types s) ((a : Arm) × ArmStands a)) → OwnSame types (roll-Stmt (map-Stmt _ _ Stmt Arm (λ e. e.0) (λ e. e.0) y))
own_case types (Stmt-F.Wire name typ) = own_at types (Stmt-F.Wire name typ) (λ d d' agree. own_same types d d' agree name.id A_wire)
own_case types (Stmt-F.Reg name typ clock) = own_at types (Stmt-F.Reg name typ clock) (λ d d' agree. own_same types d d' agree name.id (A_register clock))
own_case types (Stmt-F.RegReset name typ clock reset init) = own_at types (Stmt-F.RegReset name typ clock reset init) (λ d d' agree. own_same types d d' agree name.id (A_reset_register clock reset init))
own_case types (Stmt-F.Mem memory) = own_at types (Stmt-F.Mem memory) (λ d d' agree. own_same types d d' agree memory.name.id (A_memory memory))
own_case types (Stmt-F.Inst name target) = own_at types (Stmt-F.Inst name target) (λ d d' agree. own_same types d d' agree name.id (An_instance target.id))
own_case types (Stmt-F.Node name expr) = own_at types (Stmt-F.Node name expr) (λ d d' agree. own_same types d d' agree name.id (A_node expr))
own_case types (Stmt-F.Connect left right) = own_at types (Stmt-F.Connect left right) (λ d d' agree. refl)
own_case types (Stmt-F.Invalidate target) = own_at types (Stmt-F.Invalidate target) (λ d d' agree. refl)
own_case types (Stmt-F.Skip place) = own_at types (Stmt-F.Skip place) (λ d d' agree. refl)
own_case types (Stmt-F.When arms other) = own_at types (Stmt-F.When (map (λ e. e.0) arms) (map (λ e. e.0) other)) (λ d d' agree. refl)

statement_same : (types : Scope) (s : Stmt) → OwnSame types s
statement_same types = ind-Stmt (OwnSame types) ArmStands
    (λ x y is. subst (λ z. OwnSame types (roll-Stmt z)) is (own_case types y))
    (λ x y is. tt)

statements_same : (types : Scope) (d d' : Leaf → Driver) → Agree types d d' → (ss : List Stmt)
    → flat_map (λ s. (walked types s).own d) ss ≡ flat_map (λ s. (walked types s).own d') ss
statements_same types d d' agree [] = refl
statements_same types d d' agree (s ∷ ss) =
    flat_map-cons (λ x. (walked types x).own d) s ss ∙ ap₂ (λ x y. x ++ y) (statement_same types s d d' agree) (statements_same types d d' agree ss)
    ∙ sym (flat_map-cons (λ x. (walked types x).own d') s ss)

-- A block

pub block_more : (types : Scope) (ss : List Stmt) (d : Leaf → Driver) (old mid new : List Edge) → ((leaf : Leaf) → clocked types leaf.component ≡ true → d leaf ≡ driver_in types leaf ss)
    → mid ≡ old ++ flat_map (λ s. (walked types s).inner) ss → new ≡ mid ++ flat_map (λ s. (walked types s).own d) ss → new ≡ old ++ edges_in types (map (walked types) ss)
block_more types ss d old mid new agree h k =
    let ws : List Walked = map (walked types) ss in
    let own : flat_map (λ s. (walked types s).own d) ss ≡ flat_map (λ w. w.own (block_driver types ws)) ws =
    statements_same types d (block_driver types ws) (λ leaf has. agree leaf has ∙ sym (block_driver_is types ss leaf)) ss
    ∙ sym (flat_map-map (λ (w : Walked). w.own (block_driver types ws)) (walked types) ss) in
    let inner : flat_map (λ s. (walked types s).inner) ss ≡ flat_map (λ w. w.inner) ws = sym (flat_map-map (λ (w : Walked). w.inner) (walked types) ss) in
    k ∙ ap₂ (λ x y. x ++ y) (h ∙ ap (λ l. old ++ l) inner) own ∙ append_assoc old (flat_map (λ w. w.inner) ws) (flat_map (λ w. w.own (block_driver types ws)) ws)

last_append : (fs : List (Driver → Driver)) (f : Driver → Driver) (last : Driver) → last_of (fs ++ f ∷ []) last ≡ f (last_of fs last)
last_append [] f last = refl
last_append (g ∷ fs) f last = last_append fs f (g last)

pub last_more : (types : Scope) (leaf : Leaf) (ss : List Stmt) (i : ℕ) (x : Stmt) (now' new : Driver) → i < length ss → x ≡ get_or ss i x
    → now' ≡ last_of (map (driven_by types leaf) (take i ss)) Undriven → new ≡ driven_by types leaf x now' → new ≡ last_of (map (driven_by types leaf) (take (i + 1) ss)) Undriven
last_more types leaf ss i x now' new lt is h k =
    k ∙ ap₂ (λ (s : Stmt) (d : Driver). driven_by types leaf s d) is h ∙ sym (last_append (map (driven_by types leaf) (take i ss)) (driven_by types leaf (get_or ss i x)) Undriven)
    ∙ ap (λ fs. last_of fs Undriven) (sym (map_more (driven_by types leaf) ss i x lt))

-- Arms

pub arm_edges : (types : Scope) (a : Arm) → (walked_arm types a).edges ≡ edges_in types (map (walked types) a.body)
arm_edges types a = grind (arith, common_steps, stmt_lemmas)

pub arm_last : (types : Scope) (leaf : Leaf) (arms : List Arm) (i : ℕ) (x : Arm) (old now' branch new : Driver) → i < length arms → x ≡ get_or arms i x
    → now' ≡ in_branch old (last_of (map (arm_driven types leaf) (take i arms)) Undriven) → branch ≡ driver_in types leaf x.body → new ≡ in_branch now' branch
    → new ≡ in_branch old (last_of (map (arm_driven types leaf) (take (i + 1) arms)) Undriven)
arm_last types leaf arms i x old now' branch new lt is h b k =
    let before : Driver = last_of (map (arm_driven types leaf) (take i arms)) Undriven in
    k ∙ ap₂ (λ p q. in_branch p q) h b ∙ branch_branch old before (driver_in types leaf x.body)
    ∙ ap (in_branch old) (sym (block_absorbs types leaf x.body before) ∙ ap (λ f. f before) (sym (arm_is types leaf x)) ∙ ap (λ a. arm_driven types leaf a before) is
    ∙ sym (last_append (map (arm_driven types leaf) (take i arms)) (arm_driven types leaf (get_or arms i x)) Undriven)
    ∙ ap (λ fs. last_of fs Undriven) (sym (map_more (arm_driven types leaf) arms i x lt)))

pub arm_more : (types : Scope) (arms : List Arm) (i : ℕ) (x : Arm) (old now' new : List Edge) → i < length arms → x ≡ get_or arms i x
    → now' ≡ old ++ flat_map (λ arm. arm.edges) (map (walked_arm types) (take i arms)) → new ≡ now' ++ edges_in types (map (walked types) x.body)
    → new ≡ old ++ flat_map (λ arm. arm.edges) (map (walked_arm types) (take (i + 1) arms))
arm_more types arms i x old now' new lt is h k =
    let front : List WalkedArm = map (walked_arm types) (take i arms) in
    let last : WalkedArm = walked_arm types x in
    let split : map (walked_arm types) (take (i + 1) arms) ≡ front ++ last ∷ [] = map_more (walked_arm types) arms i x lt ∙ ap (λ y. front ++ walked_arm types y ∷ []) (sym is) in
    k ∙ ap₂ (λ a b. a ++ b) h (sym (arm_edges types x)) ∙ append_assoc old (flat_map (λ arm. arm.edges) front) last.edges
    ∙ ap (λ l. old ++ l) (ap (λ l. flat_map (λ arm. arm.edges) front ++ l) (sym (append-nil last.edges)) ∙ sym (flat_map-append (λ (arm : WalkedArm). arm.edges) front (last ∷ []))
    ∙ sym (ap (flat_map (λ arm. arm.edges)) split))

-- A whole `when`

when_inner : (types : Scope) (arms : List Arm) (other : List Stmt)
    → (walked types (stmt.When arms other)).inner ≡ flat_map (λ arm. arm.edges) (map (walked_arm types) arms) ++ edges_in types (map (walked types) other)
when_inner types arms other = grind (arith, common_steps, stmt_lemmas)

pub when_more : (types : Scope) (s : Stmt) (arms : List Arm) (other : List Stmt) (old mid new : List Edge) → s ≡ stmt.When arms other
    → mid ≡ old ++ flat_map (λ arm. arm.edges) (map (walked_arm types) arms) → new ≡ mid ++ edges_in types (map (walked types) other) → new ≡ old ++ (walked types s).inner
when_more types s arms other old mid new e h k =
    k ∙ ap (λ l. l ++ edges_in types (map (walked types) other)) h ∙ append_assoc old _ _
    ∙ ap (λ l. old ++ l) (sym (when_inner types arms other) ∙ ap (λ (x : Stmt). (walked types x).inner) (sym e))

pub when_last : (types : Scope) (leaf : Leaf) (s : Stmt) (arms : List Arm) (other : List Stmt) (old mid branch new : Driver) → s ≡ stmt.When arms other
    → mid ≡ in_branch old (last_of (map (arm_driven types leaf) arms) Undriven) → branch ≡ driver_in types leaf other → new ≡ in_branch mid branch → new ≡ driven_by types leaf s old
when_last types leaf s arms other old mid branch new e h b k =
    let before : Driver = last_of (map (arm_driven types leaf) arms) Undriven in
    k ∙ ap₂ (λ p q. in_branch p q) h b ∙ branch_branch old before (driver_in types leaf other) ∙ ap (in_branch old) (sym (block_absorbs types leaf other before))
    ∙ sym (driven-when types leaf arms other old) ∙ ap (λ (x : Stmt). driven_by types leaf x old) (sym e)

-- Steps of loops

pub flat_more : {A B : Type 0} (f : A → List B) (xs : List A) (i : ℕ) (x : A) (old now' new : List B) → i < length xs → x ≡ get_or xs i x → now' ≡ old ++ flat_map f (take i xs) → new ≡ now' ++ f x
    → new ≡ old ++ flat_map f (take (i + 1) xs)
flat_more f xs i x old now' new lt is h k =
    k ∙ ap₂ (λ a y. a ++ f y) h is ∙ append_assoc old (flat_map f (take i xs)) (f (get_or xs i x))
    ∙ ap (λ l. old ++ l) (ap (λ l. flat_map f (take i xs) ++ l) (sym (append-nil (f (get_or xs i x)))) ∙ sym (flat_map-append f (take i xs) (get_or xs i x ∷ []))
    ∙ ap (flat_map f) (sym (take_more xs i x lt)))

pub arms_step : (types : Scope) (arms : List Arm) (i : ℕ) (x : Arm) (old now' branch new : Leaf → Driver) → i < length arms → x ≡ get_or arms i x
    → ((leaf : Leaf) → clocked types leaf.component ≡ true → now' leaf ≡ in_branch (old leaf) (last_of (map (arm_driven types leaf) (take i arms)) Undriven))
    → ((leaf : Leaf) → clocked types leaf.component ≡ true → branch leaf ≡ driver_in types leaf x.body) → ((leaf : Leaf) → new leaf ≡ in_branch (now' leaf) (branch leaf))
    → (leaf : Leaf) → clocked types leaf.component ≡ true → new leaf ≡ in_branch (old leaf) (last_of (map (arm_driven types leaf) (take (i + 1) arms)) Undriven)
arms_step types arms i x old now' branch new lt is h b k leaf has = arm_last types leaf arms i x (old leaf) (now' leaf) (branch leaf) (new leaf) lt is (h leaf has) (b leaf has) (k leaf)

pub last_step : (types : Scope) (ss : List Stmt) (i : ℕ) (x : Stmt) (now' new : Leaf → Driver) → i < length ss → x ≡ get_or ss i x
    → ((leaf : Leaf) → clocked types leaf.component ≡ true → now' leaf ≡ last_of (map (driven_by types leaf) (take i ss)) Undriven)
    → ((leaf : Leaf) → clocked types leaf.component ≡ true → new leaf ≡ driven_by types leaf x (now' leaf))
    → (leaf : Leaf) → clocked types leaf.component ≡ true → new leaf ≡ last_of (map (driven_by types leaf) (take (i + 1) ss)) Undriven
last_step types ss i x now' new lt is h k leaf has = last_more types leaf ss i x (now' leaf) (new leaf) lt is (h leaf has) (k leaf has)

pub when_step : (types : Scope) (s : Stmt) (arms : List Arm) (other : List Stmt) (old mid branch new : Leaf → Driver) → s ≡ stmt.When arms other
    → ((leaf : Leaf) → clocked types leaf.component ≡ true → mid leaf ≡ in_branch (old leaf) (last_of (map (arm_driven types leaf) arms) Undriven))
    → ((leaf : Leaf) → clocked types leaf.component ≡ true → branch leaf ≡ driver_in types leaf other) → ((leaf : Leaf) → new leaf ≡ in_branch (mid leaf) (branch leaf))
    → (leaf : Leaf) → clocked types leaf.component ≡ true → new leaf ≡ driven_by types leaf s (old leaf)
when_step types s arms other old mid branch new e h b k leaf has = when_last types leaf s arms other (old leaf) (mid leaf) (branch leaf) (new leaf) e (h leaf has) (b leaf has) (k leaf)

ports_same : (types : Scope) (d d' : Leaf → Driver) → Agree types d d' → (ports : List Port) → flat_map (port_edges types d) ports ≡ flat_map (port_edges types d') ports
ports_same types d d' agree [] = refl
ports_same types d d' agree (x ∷ ports) =
    flat_map-cons (port_edges types d) x ports ∙ ap₂ (λ a b. a ++ b) (own_same types d d' agree x.name.id (if x.output then An_output else An_input)) (ports_same types d d' agree ports) ∙ sym (flat_map-cons (port_edges types d') x ports)

pub module_done : (types : Scope) (holder : Module) (d : Leaf → Driver) (got : List Edge) → ((leaf : Leaf) → clocked types leaf.component ≡ true → d leaf ≡ driver_in types leaf holder.body)
    → got ≡ edges_in types (map (walked types) holder.body) ++ flat_map (port_edges types d) holder.ports → got ≡ module_edges types holder
module_done types holder d got agree h =
    let ws : List Walked = map (walked types) holder.body in
    h ∙ ap (λ l. edges_in types ws ++ l) (ports_same types d (block_driver types ws) (λ leaf has. agree leaf has ∙ sym (block_driver_is types holder.body leaf)) holder.ports)

-- Nodes

quiet : (d : Leaf → Driver) (e : Expr) (name : ℕ) (ls : List TypeLeaf) → flat_map (driven_edge d (A_node e) name) ls ≡ []
quiet d e name [] = refl
quiet d e name (l ∷ ls) = flat_map-cons (driven_edge d (A_node e) name) l ls ∙ ap₂ (λ x y. x ++ y) (one (is_clock l)) (quiet d e name ls)
  where
    one : (b : Bool) → (if b && false then edge_from (part_of name l) (d (part_of name l)) else []) ≡ []
    one true = refl
    one false = refl

pub own-node : (types : Scope) (s : Stmt) (name : Name) (expr : Expr) → s ≡ stmt.Node name expr → (d : Leaf → Driver) → (walked types s).own d ≡ node_edges types name.id (A_node expr)
own-node types s name expr e d = ap (λ x. (walked types x).own d) e ∙ own ∙ ap (λ l. l ++ node_edges types name.id (A_node expr)) (quiet d expr name.id (leaves (types name.id)))
  where
    own : (walked types (stmt.Node name expr)).own d ≡ own_edges types d name.id (A_node expr)
    own = grind (arith, common_steps, stmt_lemmas)
