-- In a circuit whose names mean something and whose types have no fault every node is a part.
use Rattle.std.proofs.Common.{◌≡◌, ℕ, ◌+◌, Bool, true, false, cond, ◌==◌, zero, suc, List, [], ◌∷◌, ◌++◌, map, length, Option, Some, None, refl, sym, ap, ◌∙◌, subst, arith}
use Rattle.std.specs.Prelude.{Contains, is_some, find, option_map}
use Rattle.std.specs.List.{AllZip, flat_map}
use Rattle.std.proofs.lemmas.Bool.{eqb-false}
use Rattle.place_text.specs.First.{HasNone}
use Rattle.fir_types.specs.declared.fir_type.FirType.{FirType}
use Rattle.fir_types.specs.declared.name.Name.{Name}
use Rattle.fir_types.specs.declared.port.Port.{Port}
use Rattle.fir_types.specs.Bundles.{memory_of}
use Rattle.fir_tree.specs.declared.circuit.Circuit.{Circuit}
use Rattle.fir_tree.specs.declared.circuit.Module.{Module}
use Rattle.fir_tree.specs.declared.scope.Scope.{Scope}
use Rattle.fir_tree.specs.declared.expr.Expr.{Expr}
use Rattle.fir_tree.specs.declared.stmt.Stmt.{Stmt}
use Rattle.fir_tree.specs.declared.stmt.Arm.{Arm}
use Rattle.fir_tree.specs.declared.stmt.Stmt.TheOpen.{Stmt-F}
use Rattle.fir_tree.specs.declared.stmt.Stmt.TheFolds.{map-Stmt, fold-roll-Stmt, fold-roll-Arm}
use Rattle.fir_tree.specs.declared.stmt.Stmt.TheViews.{out-Stmt}
use Rattle.fir_names.specs.Extents.{Seen, Use, references, uses_in, instances_in}
use Rattle.fir_names.specs.Parts as parts
use Rattle.fir_names.specs.Parts.{stmt_part, arm_part}
use Rattle.fir_names.specs.Scopes.{texts, FirstOf, Means, IsScope}
use Rattle.fir_names.proofs.Graphs.{some_same}
use Rattle.fir_names.proofs.Agreement.{sees_its_blocks, has_its_instances}
use Rattle.fir_tree.specs.declared.part.Part.{Part}
use Rattle.fir_tree.specs.declared.part.Flow.TheVariants.{Duplex}
use Rattle.fir_tree.specs.Parts.{part_of, source_of, port_flow, instance_in, instance_part}
use Rattle.type_check.specs.Parts.{Known, known_with, where_typed}
use Rattle.type_check.specs.Texts.{stored_faults}
use Rattle.type_check.specs.declared.fault.TypeFault.{TypeFault}
use Rattle.type_check.specs.Expressions.{found_of, Has}
use Rattle.type_check.specs.Faults.{IsFault}
use Rattle.type_check.specs.Statements.{Walk, and_then, in_turn, expects, condition_faults, reset_faults, clock_faults, init_faults, stmt_walk, arm_walk, port_walk, module_walk, types_of}
use Rattle.check_laws.specs.Faults.{itself}
use Rattle.check_laws.specs.Nodes.{NodesOfEach, no_operands, one_operand}
use Rattle.check_laws.proofs.Typing.{found_is}
use Rattle.check_laws.proofs.Members.{head_in, tail_in}
use Rattle.circuit_laws.specs.Names.{Every}
use Rattle.circuit_laws.proofs.Alone.{every-append, every-left, every-right}
use Rattle.circuit_laws.proofs.Scoping.{IsNamed, AllNamed, every_named}
use Rattle.check_laws.specs.CircuitNodes.{Node, at, expressions_in, arms_in, else_in, behind_arms, ports_of, NodesIn, no_statements, one_statement, NodesInArms, no_arms, one_arm, NodesOfModules, no_modules, one_module, NodesOfCircuit, IsListed, a_part, no_part, HasThree}
use Rattle.check_laws.proofs.Layers.{layer_of}
use Rattle.check_laws.proofs.Tables.{Listed, table_lists, arms_walk, block_walk, layer_walk, stmt_is, arm_is}
use Rattle.check_laws.proofs.Standing.{IsIn, HasPart, nodes_have_parts, holds_within}
use Rattle.check_laws.proofs.Known.{has, Kept, kept_with, with_itself, SeenIn, seen_more, named_known}

left_empty : {X : Type 0} (xs ys : List X) → xs ++ ys ≡ [] → xs ≡ []
left_empty [] ys e = refl
left_empty (x ∷ xs) ys e = cc

right_empty : {X : Type 0} (xs ys : List X) → xs ++ ys ≡ [] → ys ≡ []
right_empty [] ys e = e
right_empty (x ∷ xs) ys e = cc

-- a node is a part
abbrev pub IsTyped : Node → Type 0
IsTyped node = HasPart node.known node.e

abbrev pub Three : Node → Type 0
Three node = HasThree node.e

at_each : (P : Node → Type 0) (known : Known) (es : List Expr) → Every Expr (λ e. P (at known e)) es → Every Node P (map (at known) es)
at_each P known [] h = tt
at_each P known (e ∷ es) h = (h.0, at_each P known es h.1)

of_each : (P : Node → Type 0) (known : Known) (es : List Expr) → Every Node P (map (at known) es) → Every Expr (λ e. P (at known e)) es
of_each P known [] h = tt
of_each P known (e ∷ es) h = (h.0, of_each P known es h.1)

-- Expressions of a statement

-- its names are known, and it has no fault
record IsSound (known : Known) (e : Expr) : Type 0 where
  names : Every Name (IsIn known) (references e)
  none : (found_of known e).faults ≡ []

sound_parts : (known : Known) {es own : List Expr} → NodesOfEach es own → Every Expr HasThree own → Every Expr (IsSound known) es → Every Expr (HasPart known) own
sound_parts known no_operands three h = tt
sound_parts known (one_operand {e = e} {es = es} {nodes = xs} {others = ys} first more) three h =
    every-append Expr (HasPart known) xs ys (nodes_have_parts known e xs first (every-left Expr HasThree xs ys three) h.0.names h.0.none)
    (sound_parts known more (every-right Expr HasThree xs ys three) h.1)

-- each of the expressions is itself a part
own_parts : (known : Known) {es own : List Expr} → NodesOfEach es own → Every Expr (HasPart known) own → Every Expr (HasPart known) es
own_parts known no_operands h = tt
own_parts known (one_operand {e = e} {es = es} {nodes = xs} {others = ys} first more) h =
    (holds_within (HasPart known) {inner = e} itself xs first (every-left Expr (HasPart known) xs ys h), own_parts known more (every-right Expr (HasPart known) xs ys h))

module _ (modules : List Module) where
  -- the modules of instances are there
  abbrev TargetsIn : List Name → Type 0
  TargetsIn = Every Name (λ target. is_some (instance_in modules target.id) ≡ true)

  abbrev layer_part : Stmt-F Stmt Arm → parts.Part
  layer_part z = parts.of_stmt (map-Stmt Stmt Arm parts.Part parts.Part stmt_part arm_part z)

  abbrev block_part : List Stmt → parts.Part
  block_part block = parts.in_turn (map stmt_part block)

  abbrev arms_part : List Arm → parts.Part
  arms_part arms = parts.in_turn (map arm_part arms)

  part_is : (s : Stmt) → stmt_part s ≡ layer_part (out-Stmt s)
  part_is s =
      let l = layer_of s in
      ap stmt_part l.rolled ∙ fold-roll-Stmt parts.Part parts.Part parts.of_stmt parts.of_arm l.layer ∙ ap layer_part (sym l.out)

  arm_part_is : (arm : Arm) → arm_part arm ≡ parts.joined (parts.mentions (references arm.condition)) (parts.block (map stmt_part arm.body))
  arm_part_is arm = fold-roll-Arm parts.Part parts.Part parts.of_stmt parts.of_arm (record { condition = arm.condition; body = arm.body })

  -- What holds before a part of a module, which has these names and finds no fault.
  record Begins (known : Known) (walk : Walk) (part : parts.Part) (seen : List Seen) (i : ℕ) : Type 0 where
    seen_in : SeenIn known seen
    named : AllNamed (part.uses seen i)
    targets : TargetsIn part.instances
    none : (walk known).faults ≡ []

  -- and behind it
  record Ends (known : Known) (walk : Walk) (part : parts.Part) (i : ℕ) : Type 0 where
    kept : Kept known (walk known).known
    shown : SeenIn (walk known).known (part.shows i)

  abbrev Goes : Known → Walk → parts.Part → List Node → Type 0
  Goes known walk part nodes = (seen : List Seen) (i : ℕ) → Every Node Three nodes → Begins known walk part seen i → Ends known walk part i × Every Node IsTyped nodes

  begins_first : {known : Known} {seen : List Seen} {i : ℕ} (w v : Walk) (p q : parts.Part) → Begins known (and_then w v) (parts.joined p q) seen i → Begins known w p seen i
  begins_first {known} {seen} {i} w v p q b = record {
    seen_in = b.seen_in;
    named = every-left Use IsNamed (p.uses seen i) _ b.named;
    targets = every-left Name (λ target. is_some (instance_in modules target.id) ≡ true) p.instances _ b.targets;
    none = left_empty (w known).faults _ b.none;
  }

  begins_second : {known : Known} {seen : List Seen} {i : ℕ} (w v : Walk) (p q : parts.Part) → Begins known (and_then w v) (parts.joined p q) seen i → Ends known w p i
      → Begins (w known).known v q (seen ++ p.shows i) (i + length p.declares)
  begins_second {known} {seen} {i} w v p q b e = record {
    seen_in = every-append Seen (λ s. has (w known).known s.0 ≡ true) seen (p.shows i) (seen_more known (w known).known seen e.kept b.seen_in) e.shown;
    named = every-right Use IsNamed (p.uses seen i) _ b.named;
    targets = every-right Name (λ target. is_some (instance_in modules target.id) ≡ true) p.instances _ b.targets;
    none = right_empty (w known).faults _ b.none;
  }

  ends_both : {known : Known} {i : ℕ} (w v : Walk) (p q : parts.Part) → Ends known w p i → Ends (w known).known v q (i + length p.declares) → Ends known (and_then w v) (parts.joined p q) i
  ends_both {known} {i} w v p q a b =
      let after : Known = (v (w known).known).known in
      record {
        kept = λ name h. b.kept name (a.kept name h);
        shown = every-append Seen (λ s. has after s.0 ≡ true) (p.shows i) _ (seen_more (w known).known after (p.shows i) b.kept a.shown) b.shown;
      }

  goes_shut : {known : Known} (w : Walk) (p : parts.Part) (xs : List Node) → Goes known w p xs → Goes known w (record p { shows = λ n. [] }) xs
  goes_shut w p xs g seen i three b =
      let r = g seen i three (record { seen_in = b.seen_in; named = b.named; targets = b.targets; none = b.none }) in
      (record { kept = r.0.kept; shown = tt }, r.1)

  -- A statement without branches

  asked_none : (condition : Part → List TypeFault) (known : Known) (e : Expr) (more : List TypeFault) → ((expects condition e known).faults ++ more) ≡ [] → (found_of known e).faults ≡ []
  asked_none condition known e more h = left_empty (found_of known e).faults _ (left_empty ((found_of known e).faults ++ where_typed condition (found_of known e).part) more h)

  -- the names of expressions, before nothing else
  front : (known : Known) (seen : List Seen) (ns : List Name) → SeenIn known seen → AllNamed (map (λ name. record { name = name; seen = seen }) ns ++ []) → Every Name (IsIn known) ns
  front known seen ns s a = named_known known seen s ns (every-left Use IsNamed (map (λ name. record { name = name; seen = seen }) ns) [] a)

  sound_layer : {known : Known} {seen : List Seen} {i : ℕ} (z : Stmt-F Stmt Arm) → Begins known (layer_walk modules z) (layer_part z) seen i → Every Expr (IsSound known) (expressions_in z)
  sound_layer (Stmt-F.Wire name typ) b = tt
  sound_layer {known} {seen} (Stmt-F.Reg name typ clock) b =
      (record { names = front known seen (references clock) b.seen_in b.named; none = asked_none (clock_faults clock.place) known clock _ (right_empty (stored_faults typ) _ b.none) }, tt)
  sound_layer {known} {seen} (Stmt-F.RegReset name typ clock reset init) b =
      let all : Every Name (IsIn known) (references clock ++ references reset ++ references init) = front known seen (references clock ++ references reset ++ references init) b.seen_in b.named in
      let two = every-left Name (IsIn known) (references clock ++ references reset) (references init) all in
      let rest = right_empty (stored_faults typ) _ b.none in
      let rest2 = right_empty (expects (clock_faults clock.place) clock known).faults _ rest in
      let rest3 = right_empty (expects (reset_faults reset.place) reset known).faults _ rest2 in
      let one : IsSound known clock = record { names = every-left Name (IsIn known) (references clock) (references reset) two; none = asked_none (clock_faults clock.place) known clock _ rest } in
      let second : IsSound known reset = record { names = every-right Name (IsIn known) (references clock) (references reset) two; none = asked_none (reset_faults reset.place) known reset _ rest2 } in
      let third : IsSound known init = record { names = every-right Name (IsIn known) (references clock ++ references reset) (references init) all; none = asked_none (init_faults typ init.place) known init _ rest3 } in
      (one, (second, (third, tt)))
  sound_layer (Stmt-F.Mem memory) b = tt
  sound_layer (Stmt-F.Inst name target) b = tt
  sound_layer {known} {seen} (Stmt-F.Node name e) b = (record { names = front known seen (references e) b.seen_in b.named; none = left_empty (found_of known e).faults _ b.none }, tt)
  sound_layer {known} {seen} (Stmt-F.Connect left right) b =
      let all : Every Name (IsIn known) (references left ++ references right) = named_known known seen b.seen_in (references left ++ references right) b.named in
      let one : IsSound known left = record { names = every-left Name (IsIn known) (references left) (references right) all; none = left_empty (found_of known left).faults _ b.none } in
      let second : IsSound known right = record { names = every-right Name (IsIn known) (references left) (references right) all; none = left_empty (found_of known right).faults _ (right_empty (found_of known left).faults _ b.none) } in
      (one, (second, tt))
  sound_layer {known} {seen} (Stmt-F.Invalidate target) b = (record { names = named_known known seen b.seen_in (references target) b.named; none = left_empty (found_of known target).faults _ b.none }, tt)
  sound_layer (Stmt-F.When arms other) b = tt
  sound_layer (Stmt-F.Skip place) b = tt

  ends_declared : (known : Known) (name : ℕ) (o : Option Part) → is_some o ≡ true → Kept known (known_with known name o) × (has (known_with known name o) name ≡ true)
  ends_declared known name (Some part) h = (kept_with known name (Some part), with_itself known name part)
  ends_declared known name None h = cc

  node_part : (known : Known) (e : Expr) → HasPart known e → is_some (option_map (λ (part : Part). source_of part.typ) (found_of known e).part) ≡ true
  node_part known e h = ap (λ o. is_some (option_map (λ (part : Part). source_of part.typ) o)) (found_is known h.1)

  -- behind a statement, where its expressions are parts
  plain_ends : {known : Known} {seen : List Seen} {i : ℕ} (z : Stmt-F Stmt Arm) → Begins known (layer_walk modules z) (layer_part z) seen i → Every Expr (HasPart known) (expressions_in z)
      → Ends known (in_turn (map (arm_walk modules) (arms_in z))) (arms_part (arms_in z)) i → Kept (behind_arms modules known (arms_in z)) (block_walk modules (else_in z) (behind_arms modules known (arms_in z))).known
      → Ends known (layer_walk modules z) (layer_part z) i
  plain_ends {known} {i = i} (Stmt-F.Wire name typ) b own arms other = let r = ends_declared known name.id (Some (part_of typ Duplex)) refl in record { kept = r.0; shown = (r.1, tt) }
  plain_ends {known} (Stmt-F.Reg name typ clock) b own arms other = let r = ends_declared known name.id (Some (part_of typ Duplex)) refl in record { kept = r.0; shown = (r.1, tt) }
  plain_ends {known} (Stmt-F.RegReset name typ clock reset init) b own arms other = let r = ends_declared known name.id (Some (part_of typ Duplex)) refl in record { kept = r.0; shown = (r.1, tt) }
  plain_ends {known} (Stmt-F.Mem memory) b own arms other = let r = ends_declared known memory.name.id (Some (source_of (memory_of memory))) refl in record { kept = r.0; shown = (r.1, tt) }
  plain_ends {known} (Stmt-F.Inst name target) b own arms other = let r = ends_declared known name.id (instance_in modules target.id) b.targets.0 in record { kept = r.0; shown = (r.1, tt) }
  plain_ends {known} (Stmt-F.Node name e) b own arms other =
      let r = ends_declared known name.id (option_map (λ (part : Part). source_of part.typ) (found_of known e).part) (node_part known e own.0) in record { kept = r.0; shown = (r.1, tt) }
  plain_ends (Stmt-F.Connect left right) b own arms other = record { kept = λ name h. h; shown = tt }
  plain_ends (Stmt-F.Invalidate target) b own arms other = record { kept = λ name h. h; shown = tt }
  plain_ends {known} {i = i} (Stmt-F.When xs ys) b own arms other =
      let after : Known = (block_walk modules ys (behind_arms modules known xs)).known in
      record {
        kept = λ name h. other name (arms.kept name h);
        shown = every-append Seen (λ s. has after s.0 ≡ true) ((arms_part xs).shows i) [] (seen_more (behind_arms modules known xs) after ((arms_part xs).shows i) other arms.shown) tt;
      }
  plain_ends (Stmt-F.Skip place) b own arms other = record { kept = λ name h. h; shown = tt }

  nothing_begins : {known : Known} {seen : List Seen} {i j : ℕ} → SeenIn known seen → Begins known (arms_walk modules []) (arms_part []) seen i
      × (Ends known (arms_walk modules []) (arms_part []) i → Begins known (block_walk modules []) (block_part []) (seen ++ []) j)
  nothing_begins {known} {seen} s = (
    record { seen_in = s; named = tt; targets = tt; none = refl },
    λ e. record { seen_in = every-append Seen (λ s. has known s.0 ≡ true) seen [] s tt; named = tt; targets = tt; none = refl },
  )

  -- what the branches begin with
  branches_begin : {known : Known} {seen : List Seen} {i : ℕ} (z : Stmt-F Stmt Arm) → Begins known (layer_walk modules z) (layer_part z) seen i
      → Begins known (arms_walk modules (arms_in z)) (arms_part (arms_in z)) seen i
      × (Ends known (arms_walk modules (arms_in z)) (arms_part (arms_in z)) i
      → Begins (behind_arms modules known (arms_in z)) (block_walk modules (else_in z)) (block_part (else_in z)) (seen ++ (arms_part (arms_in z)).shows i) (i + length (arms_part (arms_in z)).declares))
  branches_begin {known} {seen} {i} (Stmt-F.When xs ys) b = (
    begins_first (arms_walk modules xs) (block_walk modules ys) (arms_part xs) (parts.block (map stmt_part ys)) b,
    λ e. (let c = begins_second (arms_walk modules xs) (block_walk modules ys) (arms_part xs) (parts.block (map stmt_part ys)) b e in
        record { seen_in = c.seen_in; named = c.named; targets = c.targets; none = c.none }),
  )
  branches_begin (Stmt-F.Wire name typ) b = nothing_begins b.seen_in
  branches_begin (Stmt-F.Reg name typ clock) b = nothing_begins b.seen_in
  branches_begin (Stmt-F.RegReset name typ clock reset init) b = nothing_begins b.seen_in
  branches_begin (Stmt-F.Mem memory) b = nothing_begins b.seen_in
  branches_begin (Stmt-F.Inst name target) b = nothing_begins b.seen_in
  branches_begin (Stmt-F.Node name e) b = nothing_begins b.seen_in
  branches_begin (Stmt-F.Connect left right) b = nothing_begins b.seen_in
  branches_begin (Stmt-F.Invalidate target) b = nothing_begins b.seen_in
  branches_begin (Stmt-F.Skip place) b = nothing_begins b.seen_in

  -- A block

  mutual
    block_goes : {known : Known} {block : List Stmt} {nodes : List Node} → NodesIn modules known block nodes → Goes known (block_walk modules block) (block_part block) nodes
    block_goes no_statements seen i three b = (record { kept = λ name h. h; shown = tt }, tt)
    block_goes {known = known} (one_statement {s = s} {rest = rest} {own = own} {in_arms = xs} {in_else = ys} {others = zs} d a e more) seen i three b =
        let z = out-Stmt s in
        let three1 = every-right Node Three (map (at known) own) (xs ++ (ys ++ zs)) three in
        let three2 = every-right Node Three xs (ys ++ zs) three1 in
        let begin = begins_first (stmt_walk modules s) (block_walk modules rest) (stmt_part s) (block_part rest) b in
        let layered : Begins known (layer_walk modules z) (layer_part z) seen i = subst (λ w. Begins known w (layer_part z) seen i) (stmt_is modules s) (subst (λ p. Begins known (stmt_walk modules s) p seen i) (part_is s) begin) in
        let owns : Every Expr (HasPart known) own = sound_parts known d (of_each Three known own (every-left Node Three (map (at known) own) (xs ++ (ys ++ zs)) three)) (sound_layer z layered) in
        let branch = branches_begin z layered in
        let arms = arms_go a seen i (every-left Node Three xs (ys ++ zs) three1) branch.0 in
        let other = block_goes e (seen ++ (arms_part (arms_in z)).shows i) (i + length (arms_part (arms_in z)).declares) (every-left Node Three ys zs three2) (branch.1 arms.0) in
        let ends : Ends known (layer_walk modules z) (layer_part z) i = plain_ends z layered (own_parts known d owns) arms.0 other.0.kept in
        let here : Ends known (stmt_walk modules s) (stmt_part s) i = subst (λ p. Ends known (stmt_walk modules s) p i) (sym (part_is s)) (subst (λ w. Ends known w (layer_part z) i) (sym (stmt_is modules s)) ends) in
        let later = block_goes more (seen ++ (stmt_part s).shows i) (i + length (stmt_part s).declares) (every-right Node Three ys zs three2)
        (begins_second (stmt_walk modules s) (block_walk modules rest) (stmt_part s) (block_part rest) b here) in (
          ends_both (stmt_walk modules s) (block_walk modules rest) (stmt_part s) (block_part rest) here later.0,
          every-append Node IsTyped (map (at known) own) (xs ++ (ys ++ zs)) (at_each IsTyped known own owns)
              (every-append Node IsTyped xs (ys ++ zs) arms.1 (every-append Node IsTyped ys zs other.1 later.1)),
        )

    arms_go : {known : Known} {arms : List Arm} {nodes : List Node} → NodesInArms modules known arms nodes → Goes known (arms_walk modules arms) (arms_part arms) nodes
    arms_go no_arms seen i three b = (record { kept = λ name h. h; shown = tt }, tt)
    arms_go {known = known} (one_arm {arm = arm} {rest = rest} {own = own} {inside = xs} {others = ys} d a more) seen i three b =
        let asks : Walk = expects (condition_faults arm.condition.place) arm.condition in
        let body : Walk = block_walk modules arm.body in
        let names : parts.Part = parts.mentions (references arm.condition) in
        let shut : parts.Part = parts.block (map stmt_part arm.body) in
        let whole : Walk = and_then asks body in
        let part : parts.Part = parts.joined names shut in
        let three1 = every-right Node Three (map (at known) own) (xs ++ ys) three in
        let begin = begins_first (arm_walk modules arm) (arms_walk modules rest) (arm_part arm) (arms_part rest) b in
        let layered : Begins known whole part seen i = subst (λ w. Begins known w part seen i) (arm_is modules arm) (subst (λ p. Begins known (arm_walk modules arm) p seen i) (arm_part_is arm) begin) in
        let first = begins_first asks body names shut layered in
        let owns : Every Expr (HasPart known) own = nodes_have_parts known arm.condition own d (of_each Three known own (every-left Node Three (map (at known) own) (xs ++ ys) three))
        (named_known known seen first.seen_in (references arm.condition) first.named) (left_empty (found_of known arm.condition).faults _ first.none) in
        let quiet : Ends known asks names i = record { kept = λ name h. h; shown = tt } in
        let inner = goes_shut body (block_part arm.body) xs (block_goes a) (seen ++ []) (i + 0) (every-left Node Three xs ys three1) (begins_second asks body names shut layered quiet) in
        let ends : Ends known whole part i = ends_both asks body names shut quiet inner.0 in
        let here : Ends known (arm_walk modules arm) (arm_part arm) i = subst (λ p. Ends known (arm_walk modules arm) p i) (sym (arm_part_is arm)) (subst (λ w. Ends known w part i) (sym (arm_is modules arm)) ends) in
        let later = arms_go more (seen ++ (arm_part arm).shows i) (i + length (arm_part arm).declares) (every-right Node Three xs ys three1)
        (begins_second (arm_walk modules arm) (arms_walk modules rest) (arm_part arm) (arms_part rest) b here) in (
          ends_both (arm_walk modules arm) (arms_walk modules rest) (arm_part arm) (arms_part rest) here later.0,
          every-append Node IsTyped (map (at known) own) (xs ++ ys) (at_each IsTyped known own owns) (every-append Node IsTyped xs ys inner.1 later.1),
        )

  -- A module

  abbrev ports_walk : List Port → Walk
  ports_walk ports = in_turn (map port_walk ports)

  abbrev ports_part : List Port → parts.Part
  ports_part ports = parts.in_turn (map (λ (port : Port). parts.declares port.name) ports)

  kept_by_ports : (ps : List Port) (known : Known) → Kept known (ports_walk ps known).known
  kept_by_ports [] known name h = h
  kept_by_ports (p ∷ ps) known name h = kept_by_ports ps (port_walk p known).known name (kept_with known p.name.id (Some (part_of p.typ (port_flow p))) name h)

  ports_seen : (ps : List Port) (known : Known) (i : ℕ) → SeenIn (ports_walk ps known).known ((ports_part ps).shows i)
  ports_seen [] known i = tt
  ports_seen (p ∷ ps) known i =
      (kept_by_ports ps (port_walk p known).known p.name.id (with_itself known p.name.id (part_of p.typ (port_flow p))), ports_seen ps (port_walk p known).known (i + 1))

  module_goes : (m : Module) {nodes : List Node} → NodesIn modules (ports_of m) m.body nodes → Every Node Three nodes → (module_walk modules m []).faults ≡ [] → AllNamed (uses_in m)
      → TargetsIn (instances_in m) → Every Node IsTyped nodes
  module_goes m are three none named targets =
      let p : parts.Part = ports_part m.ports in
      let body : parts.Part = block_part m.body in
      let au : AllNamed (p.uses [] 0 ++ body.uses ([] ++ p.shows 0) (0 + length p.declares)) = subst AllNamed (sym (sees_its_blocks m)) named in
      let ti : TargetsIn (p.instances ++ body.instances) = subst TargetsIn (sym (has_its_instances m)) targets in
      (block_goes are ([] ++ p.shows 0) (0 + length p.declares) three (record {
        seen_in = ports_seen m.ports [] 0;
        named = every-right Use IsNamed (p.uses [] 0) _ au;
        targets = every-right Name (λ target. is_some (instance_in modules target.id) ≡ true) p.instances _ ti;
        none = right_empty (ports_walk m.ports []).faults _ none;
      })).1

  -- All modules

  abbrev IsFaultless : Module → Type 0
  IsFaultless m = ((module_walk modules m []).faults ≡ []) × AllNamed (uses_in m) × TargetsIn (instances_in m)

  modules_go : {ms : List Module} {nodes : List Node} → NodesOfModules modules ms nodes → Every Node Three nodes → Every Module IsFaultless ms → Every Node IsTyped nodes
  modules_go no_modules three f = tt
  modules_go (one_module {m = m} {rest = rest} {nodes = xs} {others = ys} own more) three f =
      every-append Node IsTyped xs ys (module_goes m own (every-left Node Three xs ys three) f.0.0 f.0.1 f.0.2) (modules_go more (every-right Node Three xs ys three) f.1)

-- What the scope says of names

none_contained : {X : Type 0} (xs : List X) → HasNone (Contains xs) → xs ≡ []
none_contained [] h = refl
none_contained (x ∷ xs) h = absurd (h x (head_in x xs))

zip_in : (S : Name → ℕ → Type 0) (ns : List Name) (ks : List ℕ) → AllZip S ns ks → Every Name (λ n. (k : ℕ) × S n k) ns
zip_in S [] ks z = tt
zip_in S (n ∷ ns) [] z = absurd z
zip_in S (n ∷ ns) (k ∷ ks) z = ((k, z.0), zip_in S ns ks z.1)

-- the first module of a name is found
first_module : (modules : List Module) (name k : ℕ) → FirstOf (texts (map (λ m. m.name) modules)) name k → is_some (instance_in modules name) ≡ true
first_module [] name k f = absurd (let e = f.has in cc)
first_module (m ∷ modules) name k f = by (m.name.id == name) refl k f (λ k f. first_module modules name k f) where
  rest : (k : ℕ) → FirstOf (texts (map (λ m. m.name) (m ∷ modules))) name (suc k) → FirstOf (texts (map (λ m. m.name) modules)) name k
  rest k f = record { has = f.has; first = λ earlier below is. f.first (suc earlier) (omega arith) is }

  by : (b : Bool) → (m.name.id == name) ≡ b → (k : ℕ) → FirstOf (texts (map (λ m. m.name) (m ∷ modules))) name k
      → ((k : ℕ) → FirstOf (texts (map (λ m. m.name) modules)) name k → is_some (instance_in modules name) ≡ true) → is_some (instance_in (m ∷ modules) name) ≡ true
  by true q k f more = ap (λ b. is_some (option_map instance_part (cond b (Some m) (find (λ x. x.name.id == name) modules)))) q
  by false q zero f more = absurd (eqb-false m.name.id name q (some_same f.has))
  by false q (suc k) f more = ap (λ b. is_some (option_map instance_part (cond b (Some m) (find (λ x. x.name.id == name) modules)))) q ∙ more k (rest k f)

targets_there : (modules : List Module) (ns : List Name) → Every Name (λ n. (k : ℕ) × FirstOf (texts (map (λ m. m.name) modules)) n.id k) ns → TargetsIn modules ns
targets_there modules [] h = tt
targets_there modules (n ∷ ns) h = (first_module modules n.id h.0.0 h.0.1, targets_there modules ns h.1)

all_faultless : (modules ms : List Module) → flat_map (λ (m : Module). (module_walk modules m []).faults) ms ≡ [] → AllNamed (flat_map uses_in ms) → TargetsIn modules (flat_map instances_in ms)
    → Every Module (IsFaultless modules) ms
all_faultless modules [] e a t = tt
all_faultless modules (m ∷ ms) e a t =
    let faults = (module_walk modules m []).faults in (
      (left_empty faults _ e, every-left Use IsNamed (uses_in m) (flat_map uses_in ms) a, every-left Name (λ target. is_some (instance_in modules target.id) ≡ true) (instances_in m) (flat_map instances_in ms) t),
      all_faultless modules ms (right_empty faults _ e) (every-right Use IsNamed (uses_in m) (flat_map uses_in ms) a)
          (every-right Name (λ target. is_some (instance_in modules target.id) ≡ true) (instances_in m) (flat_map instances_in ms) t),
    )

every_contained : {X : Type 0} (P : X → Type 0) (xs : List X) → ((x : X) → Contains xs x → P x) → Every X P xs
every_contained P [] h = tt
every_contained P (x ∷ xs) h = (h x (head_in x xs), every_contained P xs (λ y c. h y (tail_in x xs y c)))

-- each node is a part
pub all_parts : (circuit : Circuit) (scope : Scope) (nodes : List Node) → IsScope circuit scope → HasNone (IsFault circuit) → NodesOfCircuit circuit nodes → ((node : Node) → Contains nodes node → HasThree node.e)
    → Every Node IsTyped nodes
all_parts circuit scope nodes is none are three =
    let modules : List Module = circuit.modules in
    modules_go modules are (every_contained Three nodes three) (all_faultless modules modules (none_contained _ none) (every_named (flat_map uses_in modules) scope.uses is.uses)
    (targets_there modules (flat_map instances_in modules) (zip_in (λ target number. Means circuit target.id number) (flat_map instances_in modules) scope.targets is.targets)))

-- and has its type in the table
has_type : (node : Node) (t : FirType) → IsListed node t → IsTyped node → Has node.known node.e t
has_type node t (a_part part is) p = ap (option_map (λ (part : Part). part.typ)) (found_is node.known is)
has_type node t (no_part isnt) p = absurd (isnt p.0 p.1)

parts_listed : (nodes : List Node) (types : List FirType) → Every Node IsTyped nodes → Listed nodes types → AllZip (λ (node : Node) (typ : FirType). Has node.known node.e typ) nodes types
parts_listed [] [] h l = tt
parts_listed [] (t ∷ types) h l = absurd l
parts_listed (node ∷ nodes) [] h l = absurd l
parts_listed (node ∷ nodes) (t ∷ types) h l = (has_type node t l.0 h.0, parts_listed nodes types h.1 l.1)

pub table_typed : (circuit : Circuit) (scope : Scope) (nodes : List Node) → IsScope circuit scope → HasNone (IsFault circuit) → NodesOfCircuit circuit nodes → ((node : Node) → Contains nodes node → HasThree node.e)
    → AllZip (λ (node : Node) (typ : FirType). Has node.known node.e typ) nodes (types_of circuit)
table_typed circuit scope nodes is none are three = parts_listed nodes (types_of circuit) (all_parts circuit scope nodes is none are three) (table_lists circuit nodes are)
