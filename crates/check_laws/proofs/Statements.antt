-- The flows of a block: the components that are known go along with those that are declared.
use Rattle.std.proofs.Common.{◌≡◌, Bool, true, false, not, List, [], ◌∷◌, ◌++◌, map, Option, Some, None, refl, sym, ap, ap₂, ◌∙◌, subst, append_assoc, append-nil, arith}
use Rattle.std.specs.Prelude.{is_some, option_map}
use Rattle.std.specs.List.{flat_map}
use Rattle.std.proofs.lemmas.Grind.{common_steps}
use Rattle.std.proofs.lemmas.List.Folds.{flat_map-map}
use Rattle.fir_types.specs.declared.name.Name.{Name}
use Rattle.fir_types.specs.Bundles.{memory_of}
use Rattle.fir_types.specs.Passivity.{IsPassive, has_flip}
use Rattle.fir_tree.specs.declared.circuit.Module.{Module}
use Rattle.fir_tree.specs.declared.expr.Expr.{Expr}
use Rattle.fir_tree.specs.declared.stmt.Stmt.{Stmt, the_lemmas}
use Rattle.fir_tree.specs.declared.stmt.Arm.{Arm}
use Rattle.fir_tree.specs.declared.stmt.Stmt.TheOpen.{Stmt-F}
use Rattle.fir_tree.specs.declared.stmt.Stmt.TheFolds.{map-Stmt, fold-roll-Stmt, fold-roll-Arm}
use Rattle.fir_tree.specs.declared.stmt.Stmt.TheViews.{out-Stmt}
use Rattle.fir_names.specs.Extents.{references}
use Rattle.fir_names.specs.Parts as parts
use Rattle.fir_names.specs.Parts.{stmt_part, arm_part}
use Rattle.fir_tree.specs.declared.part.Flow.{Flow}
use Rattle.fir_tree.specs.declared.part.Flow.TheVariants.{Duplex}
use Rattle.fir_tree.specs.declared.part.Part.{Part}
use Rattle.fir_tree.specs.Parts.{part_of, source_of, no_part, part_or_none, instance_in}
use Rattle.reference_flow.specs.Flows.{Components, Flows, Declared, expr_flows, of_declaring, of_declaring_arm, stmt_declared, stmt_flows, arm_flows, of_stmt as flows_of, of_arm as flows_of_arm}
use Rattle.reference_flow.specs.Declarations.{arm_declared}
use Rattle.type_check.specs.declared.fault.TypeFault.TheVariants.{NotPassive}
use Rattle.type_check.specs.Parts.{Known, known_with, where_typed}
use Rattle.type_check.specs.Texts.{is_passive}
use Rattle.type_check.specs.Expressions.{found_of}
use Rattle.type_check.specs.Statements.{Walk, and_then, in_turn, expects, condition_faults, node_faults, of_stmt, of_arm, stmt_walk, arm_walk}
use Rattle.check_laws.specs.Nodes.{NodesOf, reference, literal, operation, choice, NodesOfEach, no_operands, one_operand}
use Rattle.check_laws.proofs.Typing.{found_is, left_empty, right_empty, unless_none}
use Rattle.circuit_laws.specs.Names.{Every}
use Rattle.circuit_laws.proofs.Alone.{every-left, every-right}
use Rattle.check_laws.specs.CircuitNodes.{Node, at, expressions_in, arms_in, else_in, behind_arms, NodesIn, no_statements, one_statement, NodesInArms, no_arms, one_arm}
use Rattle.check_laws.proofs.Layers.{layer_of}
use Rattle.check_laws.proofs.Faultless.{IsTyped}
use Rattle.check_laws.proofs.Steps.{itself, no_more}
use Rattle.check_laws.proofs.Components.{Agree, agree_with, Fits, fits_left, serves}
use Rattle.check_laws.proofs.Expressions.{Flowing, joined, each_flows, HasPart, each_flowing, one_flowing}

-- Expressions that are parts

of_each : (known : Known) (es : List Expr) → Every Node IsTyped (map (at known) es) → Every Expr (HasPart known) es
of_each known [] h = tt
of_each known (e ∷ es) h = (h.0, of_each known es h.1)

first_part : (known : Known) {e : Expr} {xs : List Expr} → NodesOf e xs → Every Expr (HasPart known) xs → HasPart known e
first_part known (reference name ss is way) h = h.0
first_part known (literal sign width number is) h = h.0
first_part known (operation op es params is each) h = h.0
first_part known (choice es is each) h = h.0

own_parts : (known : Known) {es own : List Expr} → NodesOfEach es own → Every Expr (HasPart known) own → Every Expr (HasPart known) es
own_parts known no_operands h = tt
own_parts known (one_operand {nodes = xs} {others = ys} first more) h =
    (first_part known first (every-left Expr (HasPart known) xs ys h), own_parts known more (every-right Expr (HasPart known) xs ys h))

not_true : (b : Bool) → not b ≡ true → b ≡ false
not_true true h = cc
not_true false h = refl

-- the type of a node that is found without faults has no flip
node_passive : (known : Known) (e : Expr) (part : Part) → (found_of known e).part ≡ Some part → ((found_of known e).faults ++ where_typed (node_faults e.place) (found_of known e).part) ≡ []
    → IsPassive part.typ
node_passive known e part is none =
    not_true (has_flip part.typ) (unless_none (is_passive part.typ) (NotPassive e.place)
    (ap (where_typed (node_faults e.place)) (sym is) ∙ right_empty (found_of known e).faults (where_typed (node_faults e.place) (found_of known e).part) none))

module _ (modules : List Module) (c : Components) where
  -- What statements find

  abbrev arms_walk : List Arm → Walk
  arms_walk arms = in_turn (map (arm_walk modules) arms)

  abbrev pub block_walk : List Stmt → Walk
  block_walk block = in_turn (map (stmt_walk modules) block)

  arm_is : (arm : Arm) → arm_walk modules arm ≡ and_then (expects (condition_faults arm.condition.place) arm.condition) (block_walk arm.body)
  arm_is arm = fold-roll-Arm Walk Walk (of_stmt modules) of_arm (record { condition = arm.condition; body = arm.body })

  abbrev layer_walk : Stmt-F Stmt Arm → Walk
  layer_walk z = of_stmt modules (map-Stmt Stmt Arm Walk Walk (stmt_walk modules) (arm_walk modules) z)

  stmt_is : (s : Stmt) → stmt_walk modules s ≡ layer_walk (out-Stmt s)
  stmt_is s = let l = layer_of s in ap (stmt_walk modules) l.rolled ∙ fold-roll-Stmt Walk Walk (of_stmt modules) of_arm l.layer ∙ ap layer_walk (sym l.out)

  -- Their flows

  abbrev arms_flows : List Arm → List Flow
  arms_flows arms = flat_map (λ a. arm_flows a c) arms

  abbrev pub block_flows : List Stmt → List Flow
  block_flows block = flat_map (λ s. stmt_flows s c) block

  abbrev layer_flows : Stmt-F Stmt Arm → List Flow
  layer_flows z = flows_of (map-Stmt Stmt Arm Flows Flows stmt_flows arm_flows z) c

  parts_flow : (z : Stmt-F Stmt Arm) → layer_flows z ≡ each_flows c (expressions_in z) ++ (arms_flows (arms_in z) ++ block_flows (else_in z))
  parts_flow (Stmt-F.Wire name typ) = refl
  parts_flow (Stmt-F.Reg name typ clock) = sym (append-nil (each_flows c (clock ∷ [])) ∙ append-nil (expr_flows clock c))
  parts_flow (Stmt-F.RegReset name typ clock reset init) =
      sym (append-nil (each_flows c (clock ∷ reset ∷ init ∷ [])) ∙ ap (λ l. expr_flows clock c ++ (expr_flows reset c ++ l)) (append-nil (expr_flows init c)))
  parts_flow (Stmt-F.Mem memory) = refl
  parts_flow (Stmt-F.Inst name target) = refl
  parts_flow (Stmt-F.Node name e) = sym (append-nil (each_flows c (e ∷ [])) ∙ append-nil (expr_flows e c))
  parts_flow (Stmt-F.Connect left right) = sym (append-nil (each_flows c (left ∷ right ∷ [])) ∙ ap (λ l. expr_flows left c ++ l) (append-nil (expr_flows right c)))
  parts_flow (Stmt-F.Invalidate target) = sym (append-nil (each_flows c (target ∷ [])) ∙ append-nil (expr_flows target c))
  parts_flow (Stmt-F.When arms other) = ap₂ (λ a b. a ++ b) (flat_map-map (λ (f : Flows). f c) arm_flows arms) (flat_map-map (λ (f : Flows). f c) stmt_flows other)
  parts_flow (Stmt-F.Skip place) = refl

  flows_are : (s : Stmt) → stmt_flows s c ≡ each_flows c (expressions_in (out-Stmt s)) ++ (arms_flows (arms_in (out-Stmt s)) ++ block_flows (else_in (out-Stmt s)))
  flows_are s =
      let l = layer_of s in
      ap (λ x. stmt_flows x c) l.rolled ∙ ap (λ (f : Flows). f c) (fold-roll-Stmt Flows Flows flows_of flows_of_arm l.layer) ∙ ap layer_flows (sym l.out) ∙ parts_flow (out-Stmt s)

  arm_flows_are : (arm : Arm) → arm_flows arm c ≡ expr_flows arm.condition c ++ block_flows arm.body
  arm_flows_are arm = grind (arith, common_steps, the_lemmas, flat_map-map)

  -- Their declarations

  abbrev arms_declared : List Arm → Declared
  arms_declared arms = flat_map (arm_declared modules) arms

  abbrev pub block_declared : List Stmt → Declared
  block_declared block = flat_map (stmt_declared modules) block

  abbrev layer_declared : Stmt-F Stmt Arm → Declared
  layer_declared z = of_declaring modules (map-Stmt Stmt Arm Declared Declared (stmt_declared modules) (arm_declared modules) z)

  -- without those in its branches
  abbrev own_declared : Stmt-F Stmt Arm → Declared
  own_declared (Stmt-F.When arms other) = []
  own_declared z = layer_declared z

  parts_declare : (z : Stmt-F Stmt Arm) → layer_declared z ≡ (arms_declared (arms_in z) ++ block_declared (else_in z)) ++ own_declared z
  parts_declare (Stmt-F.Wire name typ) = refl
  parts_declare (Stmt-F.Reg name typ clock) = refl
  parts_declare (Stmt-F.RegReset name typ clock reset init) = refl
  parts_declare (Stmt-F.Mem memory) = refl
  parts_declare (Stmt-F.Inst name target) = refl
  parts_declare (Stmt-F.Node name e) = refl
  parts_declare (Stmt-F.Connect left right) = refl
  parts_declare (Stmt-F.Invalidate target) = refl
  parts_declare (Stmt-F.When arms other) =
      ap₂ (λ a b. a ++ b) (flat_map-map (λ (d : Declared). d) (arm_declared modules) arms) (flat_map-map (λ (d : Declared). d) (stmt_declared modules) other)
      ∙ sym (append-nil (arms_declared arms ++ block_declared other))
  parts_declare (Stmt-F.Skip place) = refl

  declared_are : (s : Stmt) → stmt_declared modules s ≡ (arms_declared (arms_in (out-Stmt s)) ++ block_declared (else_in (out-Stmt s))) ++ own_declared (out-Stmt s)
  declared_are s =
      let l = layer_of s in
      ap (stmt_declared modules) l.rolled ∙ fold-roll-Stmt Declared Declared (of_declaring modules) of_declaring_arm l.layer ∙ ap layer_declared (sym l.out) ∙ parts_declare (out-Stmt s)

  arm_declares : (arm : Arm) → arm_declared modules arm ≡ block_declared arm.body
  arm_declares arm = grind (arith, common_steps, the_lemmas, flat_map-map)

  -- The modules of their instances

  -- the modules of instances are there
  abbrev pub TargetsIn : List Name → Type 0
  TargetsIn = Every Name (λ target. is_some (instance_in modules target.id) ≡ true)

  abbrev layer_part : Stmt-F Stmt Arm → parts.Part
  layer_part z = parts.of_stmt (map-Stmt Stmt Arm parts.Part parts.Part stmt_part arm_part z)

  abbrev pub block_part : List Stmt → parts.Part
  block_part block = parts.in_turn (map stmt_part block)

  abbrev arms_part : List Arm → parts.Part
  arms_part arms = parts.in_turn (map arm_part arms)

  part_is : (s : Stmt) → stmt_part s ≡ layer_part (out-Stmt s)
  part_is s = let l = layer_of s in ap stmt_part l.rolled ∙ fold-roll-Stmt parts.Part parts.Part parts.of_stmt parts.of_arm l.layer ∙ ap layer_part (sym l.out)

  arm_part_is : (arm : Arm) → arm_part arm ≡ parts.joined (parts.mentions (references arm.condition)) (parts.block (map stmt_part arm.body))
  arm_part_is arm = fold-roll-Arm parts.Part parts.Part parts.of_stmt parts.of_arm (record { condition = arm.condition; body = arm.body })

  -- no fault is found, and the modules of instances are there
  pub record IsSound (known : Known) (walk : Walk) (part : parts.Part) : Type 0 where
    pub none : (walk known).faults ≡ []
    pub targets : TargetsIn part.instances

  sound_first : {known : Known} (w v : Walk) (p q : parts.Part) → IsSound known (and_then w v) (parts.joined p q) → IsSound known w p
  sound_first {known} w v p q h = record {
    none = left_empty (w known).faults (v (w known).known).faults h.none;
    targets = every-left Name (λ target. is_some (instance_in modules target.id) ≡ true) p.instances q.instances h.targets;
  }

  sound_second : {known : Known} (w v : Walk) (p q : parts.Part) → IsSound known (and_then w v) (parts.joined p q) → IsSound (w known).known v q
  sound_second {known} w v p q h = record {
    none = right_empty (w known).faults (v (w known).known).faults h.none;
    targets = every-right Name (λ target. is_some (instance_in modules target.id) ≡ true) p.instances q.instances h.targets;
  }

  nothing_unsound : {known : Known} → IsSound known (arms_walk []) (arms_part []) × IsSound known (block_walk []) (block_part [])
  nothing_unsound = (record { none = refl; targets = tt }, record { none = refl; targets = tt })

  branches_sound : {known : Known} (z : Stmt-F Stmt Arm) → IsSound known (layer_walk z) (layer_part z)
      → IsSound known (arms_walk (arms_in z)) (arms_part (arms_in z)) × IsSound (behind_arms modules known (arms_in z)) (block_walk (else_in z)) (block_part (else_in z))
  branches_sound (Stmt-F.When xs ys) h = (
    sound_first (arms_walk xs) (block_walk ys) (arms_part xs) (parts.block (map stmt_part ys)) h,
    (let k = sound_second (arms_walk xs) (block_walk ys) (arms_part xs) (parts.block (map stmt_part ys)) h in record { none = k.none; targets = k.targets }),
  )
  branches_sound (Stmt-F.Wire name typ) h = nothing_unsound
  branches_sound (Stmt-F.Reg name typ clock) h = nothing_unsound
  branches_sound (Stmt-F.RegReset name typ clock reset init) h = nothing_unsound
  branches_sound (Stmt-F.Mem memory) h = nothing_unsound
  branches_sound (Stmt-F.Inst name target) h = nothing_unsound
  branches_sound (Stmt-F.Node name e) h = nothing_unsound
  branches_sound (Stmt-F.Connect left right) h = nothing_unsound
  branches_sound (Stmt-F.Invalidate target) h = nothing_unsound
  branches_sound (Stmt-F.Skip place) h = nothing_unsound

  -- What a statement declares itself

  quiet : (known : Known) (before : Declared) → Agree known before → Agree known (before ++ [])
  quiet known before a = subst (Agree known) (sym (append-nil before)) a

  instance_agrees : (known : Known) (before : Declared) (name : Name) (o : Option Part) → is_some o ≡ true → Agree known before
      → Agree (known_with known name.id o) (before ++ (name.id, part_or_none o) ∷ [])
  instance_agrees known before name (Some part) h a = agree_with known before name.id part part (itself refl) a
  instance_agrees known before name None h a = cc

  own_agrees : (known : Known) (z : Stmt-F Stmt Arm) (before : Declared) → IsSound known (layer_walk z) (layer_part z) → Every Expr (HasPart known) (expressions_in z)
      → Agree (block_walk (else_in z) (behind_arms modules known (arms_in z))).known before → Agree (layer_walk z known).known (before ++ own_declared z)
  own_agrees known (Stmt-F.Wire name typ) before sound own a = agree_with known before name.id (part_of typ Duplex) (part_of typ Duplex) (itself refl) a
  own_agrees known (Stmt-F.Reg name typ clock) before sound own a = agree_with known before name.id (part_of typ Duplex) (part_of typ Duplex) (itself refl) a
  own_agrees known (Stmt-F.RegReset name typ clock reset init) before sound own a = agree_with known before name.id (part_of typ Duplex) (part_of typ Duplex) (itself refl) a
  own_agrees known (Stmt-F.Mem memory) before sound own a = agree_with known before memory.name.id (source_of (memory_of memory)) (source_of (memory_of memory)) (itself refl) a
  own_agrees known (Stmt-F.Inst name target) before sound own a = instance_agrees known before name (instance_in modules target.id) sound.targets.0 a
  own_agrees known (Stmt-F.Node name e) before sound own a =
      let part : Part = own.0.0 in
      let is = found_is known own.0.1 in
      subst (λ o. Agree (known_with known name.id (option_map (λ (x : Part). source_of x.typ) o)) (before ++ (name.id, no_part) ∷ [])) (sym is)
      (agree_with known before name.id no_part (source_of part.typ) (no_more refl refl (node_passive known e part is sound.none)) a)
  own_agrees known (Stmt-F.Connect left right) before sound own a = quiet known before a
  own_agrees known (Stmt-F.Invalidate target) before sound own a = quiet known before a
  own_agrees known (Stmt-F.When arms other) before sound own a = quiet (block_walk other (behind_arms modules known arms)).known before a
  own_agrees known (Stmt-F.Skip place) before sound own a = quiet known before a

  -- A block

  abbrev Goes : Known → Walk → parts.Part → Declared → List Flow → List Node → Type 0
  Goes known walk part declared flows nodes = (before : Declared) → Every Node IsTyped nodes → IsSound known walk part → Agree known before → Fits c (before ++ declared)
      → Flowing nodes flows × Agree (walk known).known (before ++ declared)

  by_branch : (before a b o : Declared) → before ++ ((a ++ b) ++ o) ≡ ((before ++ a) ++ b) ++ o
  by_branch before a b o = sym (append_assoc before (a ++ b) o) ∙ ap (λ l. l ++ o) (sym (append_assoc before a b))

  mutual
    pub block_goes : {known : Known} {block : List Stmt} {nodes : List Node} → NodesIn modules known block nodes
        → Goes known (block_walk block) (block_part block) (block_declared block) (block_flows block) nodes
    block_goes {known = known} no_statements before typed sound a f = (tt, quiet known before a)
    block_goes {known = known} (one_statement {s = s} {rest = rest} {own = own} {in_arms = xs} {in_else = ys} {others = zs} d arms_are else_are more) before typed sound a f =
        let z = out-Stmt s in
        let typed1 = every-right Node IsTyped (map (at known) own) (xs ++ (ys ++ zs)) typed in
        let typed2 = every-right Node IsTyped xs (ys ++ zs) typed1 in
        let owns : Every Expr (HasPart known) own = of_each known own (every-left Node IsTyped (map (at known) own) (xs ++ (ys ++ zs)) typed) in
        let first = sound_first (stmt_walk modules s) (block_walk rest) (stmt_part s) (block_part rest) sound in
        let layered : IsSound known (layer_walk z) (layer_part z) = subst (λ w. IsSound known w (layer_part z)) (stmt_is s) (subst (IsSound known (stmt_walk modules s)) (part_is s) first) in
        let branches = branches_sound z layered in
        let in_arms : Declared = arms_declared (arms_in z) in
        let in_else : Declared = block_declared (else_in z) in
        let itself' : Declared = own_declared z in
        let all : Declared = stmt_declared modules s in
        let later : Declared = block_declared rest in
        let behind : Fits c ((before ++ all) ++ later) = subst (Fits c) (sym (append_assoc before all later)) f in
        let order : before ++ all ≡ ((before ++ in_arms) ++ in_else) ++ itself' = ap (λ l. before ++ l) (declared_are s) ∙ by_branch before in_arms in_else itself' in
        let fit_all : Fits c (((before ++ in_arms) ++ in_else) ++ itself') = subst (Fits c) order (fits_left c (before ++ all) later behind) in
        let fit_else : Fits c ((before ++ in_arms) ++ in_else) = fits_left c ((before ++ in_arms) ++ in_else) itself' fit_all in
        let fit_arms : Fits c (before ++ in_arms) = fits_left c (before ++ in_arms) in_else fit_else in
        let own_flows = each_flowing known c (serves c known before a (fits_left c before in_arms fit_arms)) d owns in
        let of_arms = arms_go arms_are before (every-left Node IsTyped xs (ys ++ zs) typed1) branches.0 a fit_arms in
        let of_else = block_goes else_are (before ++ in_arms) (every-left Node IsTyped ys zs typed2) branches.1 of_arms.1 fit_else in
        let ends = own_agrees known z ((before ++ in_arms) ++ in_else) layered (own_parts known d owns) of_else.1 in
        let here : Agree (stmt_walk modules s known).known (before ++ all) =
        subst (Agree (stmt_walk modules s known).known) (sym order) (subst (λ (w : Walk). Agree (w known).known (((before ++ in_arms) ++ in_else) ++ itself')) (sym (stmt_is s)) ends) in
        let others = block_goes more (before ++ all) (every-right Node IsTyped ys zs typed2) (sound_second (stmt_walk modules s) (block_walk rest) (stmt_part s) (block_part rest) sound) here behind in
        let es : List Flow = each_flows c (expressions_in z) in
        let fa : List Flow = arms_flows (arms_in z) in
        let fb : List Flow = block_flows (else_in z) in
        let fr : List Flow = block_flows rest in (
          subst (Flowing (map (at known) own ++ (xs ++ (ys ++ zs)))) (sym (ap (λ l. l ++ fr) (flows_are s) ∙ append_assoc es (fa ++ fb) fr ∙ ap (λ l. es ++ l) (append_assoc fa fb fr)))
              (joined (map (at known) own) (xs ++ (ys ++ zs)) es (fa ++ (fb ++ fr)) own_flows (joined xs (ys ++ zs) fa (fb ++ fr) of_arms.0 (joined ys zs fb fr of_else.0 others.0))),
          subst (Agree (block_walk rest (stmt_walk modules s known).known).known) (append_assoc before all later) others.1,
        )

    arms_go : {known : Known} {arms : List Arm} {nodes : List Node} → NodesInArms modules known arms nodes
        → Goes known (arms_walk arms) (arms_part arms) (arms_declared arms) (arms_flows arms) nodes
    arms_go {known = known} no_arms before typed sound a f = (tt, quiet known before a)
    arms_go {known = known} (one_arm {arm = arm} {rest = rest} {own = own} {inside = xs} {others = ys} d inside more) before typed sound a f =
        let asks : Walk = expects (condition_faults arm.condition.place) arm.condition in
        let body : Walk = block_walk arm.body in
        let part : parts.Part = parts.joined (parts.mentions (references arm.condition)) (parts.block (map stmt_part arm.body)) in
        let typed1 = every-right Node IsTyped (map (at known) own) (xs ++ ys) typed in
        let owns : Every Expr (HasPart known) own = of_each known own (every-left Node IsTyped (map (at known) own) (xs ++ ys) typed) in
        let first = sound_first (arm_walk modules arm) (arms_walk rest) (arm_part arm) (arms_part rest) sound in
        let layered : IsSound known (and_then asks body) part = subst (λ w. IsSound known w part) (arm_is arm) (subst (IsSound known (arm_walk modules arm)) (arm_part_is arm) first) in
        let body_sound : IsSound known body (block_part arm.body) = record { none = right_empty (asks known).faults (body known).faults layered.none; targets = layered.targets } in
        let all : Declared = arm_declared modules arm in
        let later : Declared = arms_declared rest in
        let behind : Fits c ((before ++ all) ++ later) = subst (Fits c) (sym (append_assoc before all later)) f in
        let order : before ++ all ≡ before ++ block_declared arm.body = ap (λ l. before ++ l) (arm_declares arm) in
        let fit_body : Fits c (before ++ block_declared arm.body) = subst (Fits c) order (fits_left c (before ++ all) later behind) in
        let own_flows = one_flowing known c (serves c known before a (fits_left c before (block_declared arm.body) fit_body)) own d owns in
        let in_body = block_goes inside before (every-left Node IsTyped xs ys typed1) body_sound a fit_body in
        let here : Agree (arm_walk modules arm known).known (before ++ all) =
        subst (Agree (arm_walk modules arm known).known) (sym order) (subst (λ (w : Walk). Agree (w known).known (before ++ block_declared arm.body)) (sym (arm_is arm)) in_body.1) in
        let others = arms_go more (before ++ all) (every-right Node IsTyped xs ys typed1) (sound_second (arm_walk modules arm) (arms_walk rest) (arm_part arm) (arms_part rest) sound) here behind in
        let es : List Flow = expr_flows arm.condition c in
        let fb : List Flow = block_flows arm.body in
        let fr : List Flow = arms_flows rest in (
          subst (Flowing (map (at known) own ++ (xs ++ ys))) (sym (ap (λ l. l ++ fr) (arm_flows_are arm) ∙ append_assoc es fb fr))
              (joined (map (at known) own) (xs ++ ys) es (fb ++ fr) own_flows (joined xs ys fb fr in_body.0 others.0)),
          subst (Agree (arms_walk rest (arm_walk modules arm known).known).known) (append_assoc before all later) others.1,
        )
