-- A circuit with a loop:
--   output out : UInt<4>
--   wire w : UInt<4>
--   wire v : UInt<4>
--   connect v, w
--   connect w, v
--   connect out, w
-- The output stands first and reads the loop, but it isn't on it. So the place that is told is that of w, in the third line. The names
-- are 12 to 14, and 30 is the module.
use Rattle.std.proofs.Common.{◌≡◌, ℕ, zero, suc, ◌<◌, Bool, true, false, cond, List, [], ◌∷◌, slice_index_or, refl, Some, None, option_and_then, arith, ap, sym, ◌∙◌, subst, ◌==◌, true≢false}
use Rattle.std.specs.Prelude.{Contains}
use Rattle.std.specs.List.{slice_get}
use Rattle.std.proofs.lemmas.Grind.{common_steps}
use Rattle.place_text.specs.declared.place.Place.{Place}
use Rattle.fir_types.specs.declared.name.Name.{Name}
use Rattle.fir_types.specs.declared.fir_type.FirType.{FirType, the_lemmas as type_lemmas}
use Rattle.fir_types.specs.declared.fir_type.Shape.TheVariants as shape
use Rattle.fir_types.specs.declared.leaf.TypeLeaf.{TypeLeaf}
use Rattle.fir_types.specs.Leaves.{leaves}
use Rattle.fir_tree.specs.declared.expr.Expr.{Expr, the_lemmas as expr_lemmas}
use Rattle.fir_tree.specs.declared.expr.Form.TheVariants as form
use Rattle.fir_tree.specs.declared.stmt.Stmt.{Stmt, the_lemmas as stmt_lemmas}
use Rattle.fir_tree.specs.declared.stmt.Stmt.TheVariants as stmt
use Rattle.fir_meaning.specs.Components.{Design, TypedModule, Component, Sort, An_output, A_wire, A_node, A_memory, Leaf, FlatLeaf, flat, type_in, target_in, module_at, module_within, module_named, component_named, with_types}
use Rattle.fir_meaning.specs.Mentions.{joined}
use Rattle.fir_meaning.specs.States.{Stands, is_driven, leaf_of}
use Rattle.fir_meaning.specs.Loops.{live, ReadsLeaf, by_connect, by_node, by_port, ReadsThrough, directly, through}
use Rattle.fir_meaning.proofs.Ports.{component_found}
use Rattle.net_of_circuit.specs.FlatOrder.{Placed, no_more, one_more, Standing, all_leaves, flat_of}
use Rattle.net_laws.proofs.Numbers.{some_same, none_some}
use Rattle.net_laws.specs.FirstLoops.{IsOnLoop, IsFirstLoopOf}

abbrev line : ℕ → Place
line n = record { line = n; column = 1 }

abbrev name : ℕ → ℕ → Name
name n id = record { id = id; place = line n }

abbrev four_bits : FirType
four_bits = record { place = line 1; shape = shape.Unsigned (Some 4) }

abbrev ref : ℕ → Expr
ref id = record { place = line 1; form = form.Ref (name 1 id) [] }

abbrev connects : List Stmt
connects = stmt.Connect (ref 14) (ref 13) ∷ stmt.Connect (ref 13) (ref 14) ∷ stmt.Connect (ref 12) (ref 13) ∷ []

abbrev behind_w : List Stmt
behind_w = stmt.Wire (name 4 14) four_bits ∷ connects

abbrev body : List Stmt
body = stmt.Wire (name 3 13) four_bits ∷ behind_w

abbrev out : Component
out = record { declaration = record { name = 12; place = line 2; sort = An_output; block = body; behind = body }; typ = four_bits }

abbrev w : Component
w = record { declaration = record { name = 13; place = line 3; sort = A_wire; block = body; behind = behind_w }; typ = four_bits }

abbrev v : Component
v = record { declaration = record { name = 14; place = line 4; sort = A_wire; block = body; behind = connects }; typ = four_bits }

abbrev turning : TypedModule
turning = record { name = 30; components = out ∷ w ∷ v ∷ [] }

abbrev design : Design
design = record { main = 30; modules = turning ∷ [] }

-- It is the design of the text's module with these types.
is_of_text : with_types (record { name = name 1 30; ports = record { output = true; name = name 2 12; typ = four_bits } ∷ []; body = body } ∷ []) (four_bits ∷ four_bits ∷ four_bits ∷ []) ≡ turning ∷ []
is_of_text = grind (arith, common_steps, stmt_lemmas)

-- Its leaves

abbrev whole : TypeLeaf
whole = record { path = []; flip = false; typ = four_bits }

one_leaf : leaves four_bits ≡ whole ∷ []
one_leaf = grind (arith, common_steps, type_lemmas)

abbrev placed_at : Component → Placed
placed_at c = record { path = []; m = turning; c = c }

abbrev placed : List Placed
placed = placed_at out ∷ placed_at w ∷ placed_at v ∷ []

entries : all_leaves placed ≡ (placed_at out, whole) ∷ (placed_at w, whole) ∷ (placed_at v, whole) ∷ []
entries = grind (arith, common_steps, type_lemmas)

the_one : {A : Type 0} (x y : A) → Contains (x ∷ []) y → x ≡ y
the_one x y (zero, below, is) = is
the_one x y (suc k, below, is) = absurd (omega arith)

no_target : (a b c : Bool) → option_and_then (λ x. target_in x.declaration.sort) (cond a (Some out) (cond b (Some w) (cond c (Some v) None))) ≡ None
no_target true b c = refl
no_target false true c = refl
no_target false false true = refl
no_target false false false = refl

only_main : (path : List ℕ) (m : TypedModule) → module_at design path ≡ Some m → (path ≡ []) × (m ≡ turning)
only_main [] m e = (refl, sym (some_same e))
only_main (i ∷ path) m e = none_some (sym (ap (λ o. option_and_then (λ n. module_within design n path) (option_and_then (module_named design) o)) (no_target (12 == i) (13 == i) (14 == i))) ∙ e)

module _ (P : List ℕ → TypedModule → Component → TypeLeaf → Type 0) (at_out : P [] turning out whole) (at_w : P [] turning w whole) (at_v : P [] turning v whole) where
  of_component : (c : Component) (leaf : TypeLeaf) → (k : ℕ) → k < 3 → slice_index_or turning.components k c ≡ c → Contains (leaves c.typ) leaf → P [] turning c leaf
  of_component c leaf zero below is l =
      subst (λ x. P [] turning x leaf) is (subst (P [] turning out) (the_one _ leaf (subst (λ x. Contains x leaf) (ap (λ x. leaves x.typ) (sym is) ∙ one_leaf) l)) at_out)
  of_component c leaf (suc zero) below is l =
      subst (λ x. P [] turning x leaf) is (subst (P [] turning w) (the_one _ leaf (subst (λ x. Contains x leaf) (ap (λ x. leaves x.typ) (sym is) ∙ one_leaf) l)) at_w)
  of_component c leaf (suc (suc zero)) below is l =
      subst (λ x. P [] turning x leaf) is (subst (P [] turning v) (the_one _ leaf (subst (λ x. Contains x leaf) (ap (λ x. leaves x.typ) (sym is) ∙ one_leaf) l)) at_v)
  of_component c leaf (suc (suc (suc k))) below is l = absurd (omega arith)

  each_leaf : (path : List ℕ) (m : TypedModule) (c : Component) (leaf : TypeLeaf) → Stands design path m c leaf → P path m c leaf
  each_leaf path m c leaf stands =
      let where_ = only_main path m stands.reached in
      let among = (component_found turning c.declaration.name c (subst (λ x. component_named x c.declaration.name ≡ Some c) where_.1 stands.declared)).1 in
      subst (λ p. P p m c leaf) (sym where_.0) (subst (λ x. P [] x c leaf) (sym where_.1) (of_component c leaf among.0 among.1 among.2 stands.listed))

-- What they read

abbrev leaf : ℕ → Leaf
leaf c = record { component = c; way = [] }

abbrev at_name : ℕ → FlatLeaf
at_name c = record { path = []; component = c; way = [] }

live_of_out : joined (live (type_in turning) (leaf 12) body) ≡ leaf 13 ∷ []
live_of_out = grind (arith, common_steps, stmt_lemmas, expr_lemmas, type_lemmas)

live_of_w : joined (live (type_in turning) (leaf 13) body) ≡ leaf 14 ∷ []
live_of_w = grind (arith, common_steps, stmt_lemmas, expr_lemmas, type_lemmas)

live_of_v : joined (live (type_in turning) (leaf 14) body) ≡ leaf 13 ∷ []
live_of_v = grind (arith, common_steps, stmt_lemmas, expr_lemmas, type_lemmas)

abbrev is_node : Sort → Bool
is_node (A_node e) = true
is_node _ = false

abbrev is_memory : Sort → Bool
is_memory (A_memory m) = true
is_memory _ = false

abbrev is_out : FlatLeaf → Bool
is_out x = x.component == 12

-- nothing reads the output
not_read : (x y : FlatLeaf) → ReadsLeaf design x y → is_out y ≡ false
not_read x y (by_connect path m c leaf read stands d among) =
    each_leaf (λ path m c part. (z : Leaf) → Contains (joined (live (type_in m) (leaf_of c part) c.declaration.block)) z → is_out (flat m path z) ≡ false)
    (λ z r. ap (λ l. is_out (flat turning [] l)) (sym (the_one _ z (subst (λ l. Contains l z) live_of_out r))))
    (λ z r. ap (λ l. is_out (flat turning [] l)) (sym (the_one _ z (subst (λ l. Contains l z) live_of_w r))))
    (λ z r. ap (λ l. is_out (flat turning [] l)) (sym (the_one _ z (subst (λ l. Contains l z) live_of_v r))))
    path m c leaf stands read among
not_read x y (by_node path m c leaf e k mentioned read stands sort unclocked there is among) =
    absurd (true≢false (sym (ap is_node sort) ∙ each_leaf (λ path m c leaf. is_node c.declaration.sort ≡ false) refl refl refl path m c leaf stands))
not_read x y (by_port path m c leaf memory port name field way stands sort latency turned is named by goes) =
    absurd (true≢false (sym (ap is_memory sort) ∙ each_leaf (λ path m c leaf. is_memory c.declaration.sort ≡ false) refl refl refl path m c leaf stands))

never_read : (x y : FlatLeaf) → ReadsThrough design x y → is_out y ≡ false
never_read x y (directly r) = not_read x y r
never_read x y (through {y = z} r rest) = never_read z y rest

stands_at : (c : Component) → component_named turning c.declaration.name ≡ Some c → c.typ ≡ four_bits → Stands design [] turning c whole
stands_at c declared typed = record { reached = refl; declared = declared; listed = subst (λ l. Contains l whole) (sym (ap leaves typed ∙ one_leaf)) (0, omega arith, refl) }

driven_w : is_driven w whole ≡ true
driven_w = grind (arith, common_steps, type_lemmas)

driven_v : is_driven v whole ≡ true
driven_v = grind (arith, common_steps, type_lemmas)

w_reads_v : ReadsLeaf design (at_name 13) (at_name 14)
w_reads_v = by_connect [] turning w whole (leaf 14) (stands_at w refl refl) driven_w (subst (λ l. Contains l (leaf 14)) (sym live_of_w) (0, omega arith, refl))

v_reads_w : ReadsLeaf design (at_name 14) (at_name 13)
v_reads_w = by_connect [] turning v whole (leaf 13) (stands_at v refl refl) driven_v (subst (λ l. Contains l (leaf 13)) (sym live_of_v) (0, omega arith, refl))

-- The first loop is told at w.
first_is_w : IsFirstLoopOf design (line 3)
first_is_w = record {
  main = turning;
  found = refl;
  placed = placed;
  order = one_more refl (one_more refl (one_more refl no_more));
  at = 1;
  standing = (placed_at w, whole);
  there = ap (λ l. slice_get l 1) entries;
  here = through w_reads_v (directly v_reads_w);
  first = before;
  is = refl;
} where
  before : (x : ℕ) (y : Standing) → x < 1 → slice_get (all_leaves placed) x ≡ Some y → IsOnLoop design (flat_of y) → ⊥
  before zero y less e r =
      let same : (placed_at out, whole) ≡ y = some_same (sym (ap (λ l. slice_get l 0) entries) ∙ e) in
      true≢false (ap (λ (z : Standing). is_out (flat_of z)) same ∙ never_read (flat_of y) (flat_of y) r)
  before (suc x) y less e r = absurd (omega (arith, less))
