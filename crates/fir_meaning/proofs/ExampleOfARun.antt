-- A whole run: the counter
--   input clock : Clock
--   input reset : UInt<1>
--   output out : UInt<4>
--   regreset r : UInt<4>, clock, reset, UInt<4>(0)
--   connect r, tail(add(r, UInt<4>(1)), 1)
--   connect out, r
-- with the reset at 1 in the first cycle shows 0, 0, 1 and 2. The names are 10 to 13, and 30 is the module.
use Rattle.std.proofs.Common.{◌≡◌, ℕ, zero, suc, ◌<◌, Bool, true, false, cond, List, [], ◌∷◌, map, slice_index_or, refl, Some, None, option_and_then, arith, ℤ, pos, ap, sym, ◌∙◌, subst, ◌==◌, if◌then◌else◌, true≢false, ◌⊎◌, inl, inr, ⊎_elim}
use Rattle.std.specs.Prelude.{Contains}
use Rattle.std.proofs.lemmas.Grind.{common_steps}
use Rattle.fir_types.specs.declared.fir_type.FirType.{FirType, the_lemmas as type_lemmas}
use Rattle.fir_types.specs.declared.leaf.TypeLeaf.{TypeLeaf}
use Rattle.fir_types.specs.Leaves.{leaves}
use Rattle.fir_types.specs.Bundles.{nowhere}
use Rattle.fir_tree.specs.declared.expr.Expr.{Expr, the_lemmas as expr_lemmas}
use Rattle.fir_tree.specs.declared.stmt.Stmt.{Stmt, the_lemmas as stmt_lemmas}
use Rattle.fir_tree.specs.declared.stmt.Stmt.TheVariants as stmt
use Rattle.prim_ops.specs.declared.operation.PrimOp.TheVariants.{Add, Tail}
use Rattle.fir_meaning.specs.Components.{Design, TypedModule, Component, Sort, An_input, An_output, A_reset_register, A_node, A_memory, An_instance, Leaf, FlatLeaf, HasBundles, flat, flow_of, type_in, is_clock, target_in, module_at, module_within, module_named, component_named, with_types}
use Rattle.fir_meaning.specs.Values.{Valuation, scene_of}
use Rattle.fir_meaning.specs.Drives.{drives}
use Rattle.fir_meaning.specs.States.{State, Inputs, Stands, Settled, Trace, ended, cycle, first_state, next, next_of_register, row, row_of, main_leaf, WatchedTrace, watched, is_register, is_port, is_driven, is_source, seen, leaf_of}
use Rattle.fir_meaning.specs.Mentions.{joined, mentions, whole_region}
use Rattle.fir_meaning.specs.Loops.{live, ReadsLeaf, by_connect, by_node, by_port, ReadsThrough, directly, through, HasNoLoop, HasLeaves, driven_from, TakesFrom, by_live_connect, by_reset, by_init, by_write, by_read, TakesLeaves}
use Rattle.fir_meaning.proofs.Settling.{state_itself}
use Rattle.fir_meaning.proofs.Nexts.{rows_same}
use Rattle.fir_meaning.proofs.Samples.{name, uint, clock_type, ref, literal, op, connect, leaf, input, output}
use Rattle.fir_meaning.proofs.Tracking.{none_some, some_same}
use Rattle.fir_meaning.proofs.Ports.{component_found}

abbrev later : List Stmt
later = connect (ref 13) (op Tail (op Add (ref 13 ∷ literal 4 1 ∷ []) [] ∷ []) (1 ∷ [])) ∷ connect (ref 12) (ref 13) ∷ []

abbrev body : List Stmt
body = stmt.RegReset (name 13) (uint 4) (ref 10) (ref 11) (literal 4 0) ∷ later

abbrev clock : Component
clock = record { declaration = record { name = 10; place = nowhere; sort = An_input; block = body; behind = body }; typ = clock_type }

abbrev reset : Component
reset = record { declaration = record { name = 11; place = nowhere; sort = An_input; block = body; behind = body }; typ = uint 1 }

abbrev out : Component
out = record { declaration = record { name = 12; place = nowhere; sort = An_output; block = body; behind = body }; typ = uint 4 }

abbrev register : Component
register = record { declaration = record { name = 13; place = nowhere; sort = A_reset_register (ref 10) (ref 11) (literal 4 0); block = body; behind = later }; typ = uint 4 }

abbrev counter : TypedModule
counter = record { name = 30; components = clock ∷ reset ∷ out ∷ register ∷ [] }

abbrev design : Design
design = record { main = 30; modules = counter ∷ [] }

-- It is the design of the text's module with these types.
is_of_text : with_types (record { name = name 30; ports = input 10 clock_type ∷ input 11 (uint 1) ∷ output 12 (uint 4) ∷ []; body = body } ∷ [])
    (clock_type ∷ uint 1 ∷ uint 4 ∷ uint 4 ∷ []) ≡ counter ∷ []
is_of_text = grind (arith, common_steps, stmt_lemmas)

-- Its leaves are four.

abbrev whole_leaf : FirType → TypeLeaf
whole_leaf t = record { path = []; flip = false; typ = t }

clock_leaves : leaves clock_type ≡ whole_leaf clock_type ∷ []
clock_leaves = grind (arith, common_steps, type_lemmas)

uint_leaves : (width : ℕ) → leaves (uint width) ≡ whole_leaf (uint width) ∷ []
uint_leaves width = grind (arith, common_steps, type_lemmas)

the_one : {A : Type 0} (x y : A) → Contains (x ∷ []) y → x ≡ y
the_one x y (zero, below, is) = is
the_one x y (suc k, below, is) = absurd (omega arith)

no_target : (a b c d : Bool) → option_and_then (λ x. target_in x.declaration.sort) (cond a (Some clock) (cond b (Some reset) (cond c (Some out) (cond d (Some register) None)))) ≡ None
no_target true b c d = refl
no_target false true c d = refl
no_target false false true d = refl
no_target false false false true = refl
no_target false false false false = refl

only_main : (path : List ℕ) (m : TypedModule) → module_at design path ≡ Some m → (path ≡ []) × (m ≡ counter)
only_main [] m e = (refl, sym (some_same _ _ e))
only_main (i ∷ path) m e = absurd (none_some (sym (ap (λ o. option_and_then (λ n. module_within design n path) (option_and_then (module_named design) o)) (no_target (10 == i) (11 == i) (12 == i) (13 == i))) ∙ e))

module _ (P : List ℕ → TypedModule → Component → TypeLeaf → Type 0) (at_clock : P [] counter clock (whole_leaf clock_type)) (at_reset : P [] counter reset (whole_leaf (uint 1)))
    (at_out : P [] counter out (whole_leaf (uint 4))) (at_register : P [] counter register (whole_leaf (uint 4))) where
  of_component : (c : Component) (leaf : TypeLeaf) → (k : ℕ) → k < 4 → slice_index_or counter.components k c ≡ c → Contains (leaves c.typ) leaf → P [] counter c leaf
  of_component c leaf zero below is l =
      subst (λ x. P [] counter x leaf) is (subst (P [] counter clock) (the_one _ leaf (subst (λ x. Contains x leaf) (ap (λ x. leaves x.typ) (sym is) ∙ clock_leaves) l)) at_clock)
  of_component c leaf (suc zero) below is l =
      subst (λ x. P [] counter x leaf) is (subst (P [] counter reset) (the_one _ leaf (subst (λ x. Contains x leaf) (ap (λ x. leaves x.typ) (sym is) ∙ uint_leaves 1) l)) at_reset)
  of_component c leaf (suc (suc zero)) below is l =
      subst (λ x. P [] counter x leaf) is (subst (P [] counter out) (the_one _ leaf (subst (λ x. Contains x leaf) (ap (λ x. leaves x.typ) (sym is) ∙ uint_leaves 4) l)) at_out)
  of_component c leaf (suc (suc (suc zero))) below is l =
      subst (λ x. P [] counter x leaf) is (subst (P [] counter register) (the_one _ leaf (subst (λ x. Contains x leaf) (ap (λ x. leaves x.typ) (sym is) ∙ uint_leaves 4) l)) at_register)
  of_component c leaf (suc (suc (suc (suc k)))) below is l = absurd (omega arith)

  each_leaf : (path : List ℕ) (m : TypedModule) (c : Component) (leaf : TypeLeaf) → Stands design path m c leaf → P path m c leaf
  each_leaf path m c leaf stands =
      let where_ = only_main path m stands.reached in
      let among = (component_found counter c.declaration.name c (subst (λ x. component_named x c.declaration.name ≡ Some c) where_.1 stands.declared)).1 in
      subst (λ p. P p m c leaf) (sym where_.0) (subst (λ x. P [] x c leaf) (sym where_.1) (of_component c leaf among.0 among.1 among.2 stands.listed))

-- A cycle with this reset in which the register holds r

abbrev given : ℕ → Inputs
given n c way = if c == 11 then pos n else pos 0

abbrev holding : ℕ → ℕ → Valuation
holding n r path c way = if c == 11 then pos n else if c == 12 then pos r else if c == 13 then pos r else pos 0

abbrev is_node : Sort → Bool
is_node (A_node e) = true
is_node _ = false

abbrev is_memory : Sort → Bool
is_memory (A_memory m) = true
is_memory _ = false

not_clock : (width : ℕ) → is_clock (whole_leaf (uint width)) ≡ false
not_clock width = grind (arith, common_steps, type_lemmas)

clock_is_clock : is_clock (whole_leaf clock_type) ≡ true
clock_is_clock = grind (arith, common_steps, type_lemmas)

clock_not_driven : is_driven clock (whole_leaf clock_type) ≡ false
clock_not_driven = refl

no_node : (c : Component) (k : ℕ) → k < 4 → slice_index_or counter.components k c ≡ c → is_node c.declaration.sort ≡ false
no_node c zero below is = ap (λ x. is_node x.declaration.sort) (sym is)
no_node c (suc zero) below is = ap (λ x. is_node x.declaration.sort) (sym is)
no_node c (suc (suc zero)) below is = ap (λ x. is_node x.declaration.sort) (sym is)
no_node c (suc (suc (suc zero))) below is = ap (λ x. is_node x.declaration.sort) (sym is)
no_node c (suc (suc (suc (suc k)))) below is = absurd (omega arith)

settled : (s : State) (n r : ℕ) → s.registers [] 13 [] ≡ pos r → drives (scene_of counter [] (holding n r)) (leaf 12 []) body ≡ Some (pos r) → Settled design s (given n) (holding n r)
settled s n r held driven_out = record {
  clocks = each_leaf (λ path m c leaf. is_clock leaf ≡ true → seen m path (holding n r) c leaf ≡ pos 0)
      (λ e. refl)
      (λ e. absurd (true≢false (sym e ∙ not_clock 1)))
      (λ e. absurd (true≢false (sym e ∙ not_clock 4)))
      (λ e. absurd (true≢false (sym e ∙ not_clock 4)));
  inputs = λ m c leaf stands.
      each_leaf (λ path m c leaf. is_port c.declaration.sort ≡ true → is_source (flow_of c.declaration.sort leaf.flip) ≡ true → is_clock leaf ≡ false
      → seen m path (holding n r) c leaf ≡ given n c.declaration.name leaf.path)
      (λ p f k. absurd (true≢false (sym clock_is_clock ∙ k)))
      (λ p f k. refl)
      (λ p f k. absurd (true≢false (sym f)))
      (λ p f k. absurd (true≢false (sym p)))
      [] m c leaf stands;
  registers = each_leaf (λ path m c leaf. is_register c.declaration.sort ≡ true → seen m path (holding n r) c leaf ≡ s.registers path c.declaration.name leaf.path)
      (λ e. absurd (true≢false (sym e)))
      (λ e. absurd (true≢false (sym e)))
      (λ e. absurd (true≢false (sym e)))
      (λ e. sym held);
  nodes = λ path m c e reached declared sort.
      let main = only_main path m reached in
      let among = (component_found counter c.declaration.name c (subst (λ x. component_named x c.declaration.name ≡ Some c) main.1 declared)).1 in
      absurd (true≢false (sym (ap is_node sort) ∙ no_node c among.0 among.1 among.2));
  reads = λ path m c leaf memory port field way stands sort.
      absurd (true≢false (sym (ap is_memory sort) ∙ each_leaf (λ path m c leaf. is_memory c.declaration.sort ≡ false) refl refl refl refl path m c leaf stands));
  captured = λ path m c leaf memory port field way stands sort.
      absurd (true≢false (sym (ap is_memory sort) ∙ each_leaf (λ path m c leaf. is_memory c.declaration.sort ≡ false) refl refl refl refl path m c leaf stands));
  driven = each_leaf (λ path m c leaf. is_driven c leaf ≡ true → drives (scene_of m path (holding n r)) (leaf_of c leaf) c.declaration.block ≡ Some (seen m path (holding n r) c leaf))
      (λ e. absurd (true≢false (sym e)))
      (λ e. absurd (true≢false (sym e)))
      (λ e. driven_out)
      (λ e. absurd (true≢false (sym e)));
}

out_0 : drives (scene_of counter [] (holding 1 0)) (leaf 12 []) body ≡ Some (pos 0)
out_0 = grind (arith, common_steps, stmt_lemmas, expr_lemmas, type_lemmas)

out_0_again : drives (scene_of counter [] (holding 0 0)) (leaf 12 []) body ≡ Some (pos 0)
out_0_again = grind (arith, common_steps, stmt_lemmas, expr_lemmas, type_lemmas)

out_1 : drives (scene_of counter [] (holding 0 1)) (leaf 12 []) body ≡ Some (pos 1)
out_1 = grind (arith, common_steps, stmt_lemmas, expr_lemmas, type_lemmas)

out_2 : drives (scene_of counter [] (holding 0 2)) (leaf 12 []) body ≡ Some (pos 2)
out_2 = grind (arith, common_steps, stmt_lemmas, expr_lemmas, type_lemmas)

resets : (held : ℤ) → next_of_register (scene_of counter [] (holding 1 0)) register register.declaration.sort [] held ≡ pos 0
resets held = grind (arith, common_steps, stmt_lemmas, expr_lemmas, type_lemmas)

counts_to_1 : (held : ℤ) → next_of_register (scene_of counter [] (holding 0 0)) register register.declaration.sort [] held ≡ pos 1
counts_to_1 held = grind (arith, common_steps, stmt_lemmas, expr_lemmas, type_lemmas)

counts_to_2 : (held : ℤ) → next_of_register (scene_of counter [] (holding 0 1)) register register.declaration.sort [] held ≡ pos 2
counts_to_2 held = grind (arith, common_steps, stmt_lemmas, expr_lemmas, type_lemmas)

next_at : (s : State) (n r : ℕ) → (next design s (holding n r)).registers [] 13 []
    ≡ next_of_register (scene_of counter [] (holding n r)) register register.declaration.sort [] (s.registers [] 13 [])
next_at s n r = refl

watches : watched design ≡ leaf 12 [] ∷ []
watches = grind (arith, common_steps, type_lemmas)

row_is : (n r : ℕ) → row design (holding n r) ≡ pos r ∷ []
row_is n r = ap (λ ls. row_of (map main_leaf ls) (holding n r)) watches

one_cycle : (s : State) (n r : ℕ) (rest : List Inputs) (rows : List (List ℤ)) → s.registers [] 13 [] ≡ pos r → drives (scene_of counter [] (holding n r)) (leaf 12 []) body ≡ Some (pos r)
    → Trace design (next design s (holding n r)) rest rows → Trace design s (given n ∷ rest) ((pos r ∷ []) ∷ rows)
one_cycle s n r rest rows held driven_out t =
    subst (λ first. Trace design s (given n ∷ rest) (first ∷ rows)) (row_is n r) (cycle (holding n r) (settled s n r held driven_out) t)

abbrev after_first : State
after_first = next design first_state (holding 1 0)

abbrev after_second : State
after_second = next design after_first (holding 0 0)

abbrev after_third : State
after_third = next design after_second (holding 0 1)

-- any leaves may be watched, and one of them twice: the reset, and the register
reset_and_register : WatchedTrace design (main_leaf (leaf 11 []) ∷ main_leaf (leaf 13 []) ∷ main_leaf (leaf 11 []) ∷ []) first_state (given 1 ∷ []) ((pos 1 ∷ pos 0 ∷ pos 1 ∷ []) ∷ [])
reset_and_register = cycle (holding 1 0) (settled first_state 1 0 refl out_0) ended

-- cycle out: 0 0, 1 0, 2 1, 3 2
runs : Trace design first_state (given 1 ∷ given 0 ∷ given 0 ∷ given 0 ∷ []) ((pos 0 ∷ []) ∷ (pos 0 ∷ []) ∷ (pos 1 ∷ []) ∷ (pos 2 ∷ []) ∷ [])
runs =
    one_cycle first_state 1 0 _ _ refl out_0
    (one_cycle after_first 0 0 _ _ (next_at first_state 1 0 ∙ resets _) out_0_again
    (one_cycle after_second 0 1 _ _ (next_at after_first 0 0 ∙ counts_to_1 _) out_1
    (one_cycle after_third 0 2 _ _ (next_at after_second 0 1 ∙ counts_to_2 _) out_2 ended)))

-- The counter is as the law on settled valuations asks: its bundles, its leaves, and no loop.

abbrev at_name : ℕ → FlatLeaf
at_name c = record { path = []; component = c; way = [] }

live_of_out : joined (live (type_in counter) (leaf 12 []) body) ≡ leaf 13 [] ∷ []
live_of_out = grind (arith, common_steps, stmt_lemmas, expr_lemmas, type_lemmas)

-- the output reads the register, and nothing else reads anything
only_read : (x y : FlatLeaf) → ReadsLeaf design x y → (x ≡ at_name 12) × (y ≡ at_name 13)
only_read x y (by_connect path m c leaf read stands d among) =
    each_leaf (λ path m c part. (z : Leaf) → is_driven c part ≡ true → Contains (joined (live (type_in m) (leaf_of c part) c.declaration.block)) z
    → (flat m path (leaf_of c part) ≡ at_name 12) × (flat m path z ≡ at_name 13))
    (λ z e r. absurd (true≢false (sym e)))
    (λ z e r. absurd (true≢false (sym e)))
    (λ z e r. (refl, ap (flat counter []) (sym (the_one _ z (subst (λ l. Contains l z) live_of_out r)))))
    (λ z e r. absurd (true≢false (sym e)))
    path m c leaf stands read d among
only_read x y (by_node path m c leaf e k mentioned read stands sort unclocked there is among) =
    absurd (true≢false (sym (ap is_node sort) ∙ each_leaf (λ path m c leaf. is_node c.declaration.sort ≡ false) refl refl refl refl path m c leaf stands))
only_read x y (by_port path m c leaf memory port name field way stands sort latency turned is named by goes) =
    absurd (true≢false (sym (ap is_memory sort) ∙ each_leaf (λ path m c leaf. is_memory c.declaration.sort ≡ false) refl refl refl refl path m c leaf stands))

apart : at_name 13 ≡ at_name 12 → ⊥
apart e = true≢false (sym (ap (λ x. x.component == 12) e))

begins_at_out : (x y : FlatLeaf) → ReadsThrough design x y → x ≡ at_name 12
begins_at_out x y (directly r) = (only_read x y r).0
begins_at_out x y (through r rest) = (only_read x _ r).0

no_loop_at : (x y : FlatLeaf) → ReadsThrough design x y → x ≡ y → ⊥
no_loop_at x y (directly r) same = apart (sym (only_read x y r).1 ∙ (sym same ∙ (only_read x y r).0))
no_loop_at x y (through {y = z} r rest) same = apart (sym (only_read x z r).1 ∙ begins_at_out z y rest)

no_loop : HasNoLoop design
no_loop = record { none = λ x r. no_loop_at x x r refl }

stands_at : (c : Component) (typ : FirType) → component_named counter c.declaration.name ≡ Some c → Contains (leaves c.typ) (whole_leaf typ) → Stands design [] counter c (whole_leaf typ)
stands_at c typ declared listed = record { reached = refl; declared = declared; listed = listed }

flat_leaves : HasLeaves design (at_name 10 ∷ at_name 11 ∷ at_name 12 ∷ at_name 13 ∷ [])
flat_leaves = record {
  listed = λ x l. subst (Contains (at_name 10 ∷ at_name 11 ∷ at_name 12 ∷ at_name 13 ∷ [])) l.is
      (each_leaf (λ path m c leaf. Contains (at_name 10 ∷ at_name 11 ∷ at_name 12 ∷ at_name 13 ∷ []) (flat m path (leaf_of c leaf)))
      (0, omega arith, refl) (1, omega arith, refl) (2, omega arith, refl) (3, omega arith, refl) l.path l.m l.c l.leaf l.stands);
  closed = λ x y r. record {
    path = [];
    m = counter;
    c = register;
    leaf = whole_leaf (uint 4);
    stands = stands_at register (uint 4) refl (subst (λ l. Contains l (whole_leaf (uint 4))) (sym (uint_leaves 4)) (0, omega arith, refl));
    is = sym (only_read x y r).1;
  };
}

abbrev is_instance : Sort → Bool
is_instance (An_instance target) = true
is_instance _ = false

simple : (c : Component) (k : ℕ) → k < 4 → slice_index_or counter.components k c ≡ c → (component_named counter c.declaration.name ≡ Some c) × (is_instance c.declaration.sort ≡ false) × (is_memory c.declaration.sort ≡ false)
simple c zero below is = subst (λ x. (component_named counter x.declaration.name ≡ Some x) × (is_instance x.declaration.sort ≡ false) × (is_memory x.declaration.sort ≡ false)) is (refl, refl, refl)
simple c (suc zero) below is = subst (λ x. (component_named counter x.declaration.name ≡ Some x) × (is_instance x.declaration.sort ≡ false) × (is_memory x.declaration.sort ≡ false)) is (refl, refl, refl)
simple c (suc (suc zero)) below is = subst (λ x. (component_named counter x.declaration.name ≡ Some x) × (is_instance x.declaration.sort ≡ false) × (is_memory x.declaration.sort ≡ false)) is (refl, refl, refl)
simple c (suc (suc (suc zero))) below is = subst (λ x. (component_named counter x.declaration.name ≡ Some x) × (is_instance x.declaration.sort ≡ false) × (is_memory x.declaration.sort ≡ false)) is (refl, refl, refl)
simple c (suc (suc (suc (suc k)))) below is = absurd (omega arith)

in_counter : (path : List ℕ) (m : TypedModule) (c : Component) → module_at design path ≡ Some m → component_named m c.declaration.name ≡ Some c → Contains counter.components c
in_counter path m c reached declared =
    (component_found counter c.declaration.name c (subst (λ x. component_named x c.declaration.name ≡ Some c) (only_main path m reached).1 declared)).1

bundles : HasBundles design
bundles = record {
  names = λ path m c reached among.
      let main : m ≡ counter = (only_main path m reached).1 in
      let here : Contains counter.components c = subst (λ x. Contains x.components c) main among in
      subst (λ x. component_named x c.declaration.name ≡ Some c) (sym main) (simple c here.0 here.1 here.2).0;
  instances = λ path m c target reached declared sort.
      let here = in_counter path m c reached declared in absurd (true≢false (sym (ap is_instance sort) ∙ (simple c here.0 here.1 here.2).1));
  memories = λ path m c memory reached declared sort.
      let here = in_counter path m c reached declared in absurd (true≢false (sym (ap is_memory sort) ∙ (simple c here.0 here.1 here.2).2));
}

live_of_register : joined (live (type_in counter) (leaf 13 []) body) ≡ leaf 13 [] ∷ []
live_of_register = grind (arith, common_steps, stmt_lemmas, expr_lemmas, type_lemmas)

reset_mentions : joined (mentions (ref 11) (type_in counter)) ≡ leaf 11 [] ∷ []
reset_mentions = grind (arith, common_steps, expr_lemmas, type_lemmas)

init_mentions : joined (driven_from false (leaf 13 []) (mentions (literal 4 0) (type_in counter)) (Some (whole_region (type_in counter) 13))) ≡ []
init_mentions = grind (arith, common_steps, expr_lemmas, type_lemmas)

abbrev reset_in : Sort → Expr
reset_in (A_reset_register k r i) = r
reset_in _ = ref 0

abbrev init_in : Sort → Expr
init_in (A_reset_register k r i) = i
init_in _ = ref 0

in_none : {A : Type 0} (z : A) → Contains [] z → ⊥
in_none z (k, below, is) = absurd (omega arith)

-- the edge takes the register and the reset
taken_is : (x y : FlatLeaf) → TakesFrom design x y → (y ≡ at_name 13) ⊎ (y ≡ at_name 11)
taken_is x y (by_live_connect path m c part z stands register among) =
    each_leaf (λ path m c part. (z : Leaf) → is_register c.declaration.sort ≡ true → Contains (joined (live (type_in m) (leaf_of c part) c.declaration.block)) z
    → (flat m path z ≡ at_name 13) ⊎ (flat m path z ≡ at_name 11))
    (λ z e r. absurd (true≢false (sym e)))
    (λ z e r. absurd (true≢false (sym e)))
    (λ z e r. absurd (true≢false (sym e)))
    (λ z e r. inl (ap (flat counter []) (sym (the_one _ z (subst (λ l. Contains l z) live_of_register r)))))
    path m c part stands z register among
taken_is x y (by_reset path m c part k r i z stands sort among) =
    each_leaf (λ path m c part. (z : Leaf) → c.declaration.sort ≡ A_reset_register k r i → Contains (joined (mentions r (type_in m))) z → (flat m path z ≡ at_name 13) ⊎ (flat m path z ≡ at_name 11))
    (λ z e a. absurd (true≢false (sym (ap is_register e))))
    (λ z e a. absurd (true≢false (sym (ap is_register e))))
    (λ z e a. absurd (true≢false (sym (ap is_register e))))
    (λ z e a. inr (ap (flat counter []) (sym (the_one _ z (subst (λ l. Contains l z) (ap (λ b. joined (mentions b (type_in counter))) (sym (ap reset_in e)) ∙ reset_mentions) a)))))
    path m c part stands z sort among
taken_is x y (by_init path m c part k r i z stands sort among) =
    each_leaf (λ path m c part. (z : Leaf) → c.declaration.sort ≡ A_reset_register k r i
    → Contains (joined (driven_from false (leaf_of c part) (mentions i (type_in m)) (Some (whole_region (type_in m) c.declaration.name)))) z → (flat m path z ≡ at_name 13) ⊎ (flat m path z ≡ at_name 11))
    (λ z e a. absurd (true≢false (sym (ap is_register e))))
    (λ z e a. absurd (true≢false (sym (ap is_register e))))
    (λ z e a. absurd (true≢false (sym (ap is_register e))))
    (λ z e a. absurd (in_none z (subst (λ l. Contains l z) (ap (λ b. joined (driven_from false (leaf 13 []) (mentions b (type_in counter)) (Some (whole_region (type_in counter) 13)))) (sym (ap init_in e)) ∙ init_mentions) a)))
    path m c part stands z sort among
taken_is x y (by_write path m c part memory port way writer by stands read among goes) =
    absurd (true≢false (sym (ap is_memory read.sort) ∙ each_leaf (λ path m c leaf. is_memory c.declaration.sort ≡ false) refl refl refl refl path m c part stands))
taken_is x y (by_read path m c part memory port way q by stands read later named goes) =
    absurd (true≢false (sym (ap is_memory read.sort) ∙ each_leaf (λ path m c leaf. is_memory c.declaration.sort ≡ false) refl refl refl refl path m c part stands))

uint_stands : (c : Component) (width : ℕ) → component_named counter c.declaration.name ≡ Some c → c.typ ≡ uint width → Stands design [] counter c (whole_leaf (uint width))
uint_stands c width declared is = stands_at c (uint width) declared (subst (λ l. Contains l (whole_leaf (uint width))) (sym (ap leaves is ∙ uint_leaves width)) (0, omega arith, refl))

takes : TakesLeaves design
takes = record {
  closed = λ x y r. ⊎_elim
      (λ e. record { path = []; m = counter; c = register; leaf = whole_leaf (uint 4); stands = uint_stands register 4 refl refl; is = sym e })
      (λ e. record { path = []; m = counter; c = reset; leaf = whole_leaf (uint 1); stands = uint_stands reset 1 refl refl; is = sym e })
      (taken_is x y r);
}

-- So it is the one trace of this run.
only_these : (rows : List (List ℤ)) → Trace design first_state (given 1 ∷ given 0 ∷ given 0 ∷ given 0 ∷ []) rows
    → rows ≡ (pos 0 ∷ []) ∷ (pos 0 ∷ []) ∷ (pos 1 ∷ []) ∷ (pos 2 ∷ []) ∷ []
only_these rows t = rows_same design (at_name 10 ∷ at_name 11 ∷ at_name 12 ∷ at_name 13 ∷ []) bundles no_loop flat_leaves takes (state_itself design first_state) t runs
