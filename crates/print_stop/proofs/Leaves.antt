-- The leaves of items: what a settled valuation gives them says whether an item is enabled, and what its arguments have.
use Rattle.std.proofs.Common.{◌≡◌, ℕ, ◌<◌, false, List, [], ◌∷◌, map, Option, Some, None, ℤ, refl, sym, ap, ap₂, ◌∙◌, subst, arith}
use Rattle.std.specs.Prelude.{pos, ◌↔◌, Contains}
use Rattle.std.specs.List.{AllZip}
use Rattle.std.proofs.lemmas.Grind.{common_steps}
use Rattle.bit_words.specs.declared.value.Value.{Value}
use Rattle.bit_words.specs.Values.{integer_of}
use Rattle.fir_types.specs.declared.leaf.TypeLeaf.{TypeLeaf}
use Rattle.fir_types.specs.declared.leaf.PathStep.{PathStep}
use Rattle.fir_types.specs.declared.fir_type.FirType.{FirType, the_lemmas as type_lemmas}
use Rattle.fir_types.specs.declared.fir_type.Shape.TheVariants as shape
use Rattle.fir_types.specs.Leaves.{leaves}
use Rattle.fir_tree.specs.declared.expr.Expr.{Expr}
use Rattle.prim_ops.specs.Shapes.{Shape, shaped, shape_of_value}
use Rattle.prim_ops.specs.Values.{fitted}
use Rattle.prim_ops.proofs.Fittings.{refitted}
use Rattle.bit_words.specs.declared.value.Kind.TheVariants.{Unsigned}
use Rattle.fir_types.specs.declared.fir_type.Shape.TheViews.{out-Shape}
use Rattle.fir_meaning.specs.Components.{Design, TypedModule, Component, FlatLeaf, flat_through, target_of, module_at, kind_of_shape, width_of_shape, width_or_none}
use Rattle.fir_meaning.specs.Values.{Valuation, Scene, scene_of, seen_through, value}
use Rattle.fir_meaning.specs.States.{State, Inputs, Settled, IsLeafOf}
use Rattle.print_stop.specs.Printing.{PathItem, Enabled, scene_at}
use Rattle.print_stop.proofs.Heads.{settled_enabled}
use Rattle.print_stop.specs.Sound.{IsArgumentNode, IsSound, IsOfLeaf, Shows, leaf_at}

abbrev or_this : {A : Type 0} → A → Option A → A
or_this other None = other
or_this other (Some x) = x

pub same_some : {A : Type 0} (a b : A) → ◌≡◌ {A = Option A} (Some a) (Some b) → a ≡ b
same_some a b e = ap (or_this a) e

-- lists of one value

pub same_by_integer : (u v : Value) → shape_of_value u ≡ shape_of_value v → integer_of u ≡ integer_of v → u ≡ v
same_by_integer u v same number = sym (refitted u) ∙ ap₂ (λ (s : Shape) (n : ℤ). fitted s.kind s.width n) same number ∙ refitted v

abbrev head_of : {A : Type 0} → A → List A → A
head_of other [] = other
head_of other (x ∷ xs) = x

pub one_value : (us : List Value) (v : Value) (s : Shape) (n : ℤ) → map shape_of_value us ≡ s ∷ [] → map integer_of us ≡ n ∷ [] → shape_of_value v ≡ s → integer_of v ≡ n → us ≡ v ∷ []
one_value [] v s n shapes numbers same number = cc
one_value (u ∷ []) v s n shapes numbers same number =
    ap (λ (x : Value). x ∷ []) (same_by_integer u v (ap (head_of s) shapes ∙ sym same) (ap (head_of n) numbers ∙ sym number))
one_value (u ∷ w ∷ us) v s n shapes numbers same number = cc

pub same_values : (us vs : List Value) (s : Shape) → map shape_of_value us ≡ s ∷ [] → map shape_of_value vs ≡ s ∷ [] → map integer_of us ≡ map integer_of vs → us ≡ vs
same_values [] vs s shapes others numbers = cc
same_values (u ∷ []) [] s shapes others numbers = cc
same_values (u ∷ []) (v ∷ []) s shapes others numbers =
    ap (λ (x : Value). x ∷ []) (same_by_integer u v (ap (head_of s) shapes ∙ sym (ap (head_of s) others)) (ap (head_of (integer_of u)) numbers))
same_values (u ∷ []) (v ∷ w ∷ vs) s shapes others numbers = cc
same_values (u ∷ w ∷ us) vs s shapes others numbers = cc

-- leaves of components without parts

pub seen_bare : (rho : Valuation) (path : List ℕ) (name : ℕ) (o : Option ℕ) → seen_through rho path name o [] ≡ rho path name []
seen_bare rho path name (Some target) = refl
seen_bare rho path name None = refl

pub flat_bare : (path : List ℕ) (name : ℕ) (o : Option ℕ) → ◌≡◌ {A = FlatLeaf} (flat_through path name o []) (leaf_at path name)
flat_bare path name (Some target) = refl
flat_bare path name None = refl

bit_leaf : (typ : FirType) (w : Option ℕ) → typ.shape ≡ shape.Unsigned w → leaves typ ≡ record { path = []; flip = false; typ = typ } ∷ []
bit_leaf typ w is = grind (arith, common_steps, type_lemmas)

unsigned_kind : (typ : FirType) (w : Option ℕ) → typ.shape ≡ shape.Unsigned w → kind_of_shape (out-Shape typ.shape) ≡ Unsigned
unsigned_kind typ w is = grind (arith, common_steps, type_lemmas)

unsigned_width : (typ : FirType) (w : Option ℕ) → typ.shape ≡ shape.Unsigned w → width_of_shape (out-Shape typ.shape) ≡ width_or_none w
unsigned_width typ w is = grind (arith, common_steps, type_lemmas)

module _ {design : Design} {item : PathItem} {nodes : List ℕ} (sound : IsSound design item nodes) where
  pub the_module : (m : TypedModule) → module_at design item.path ≡ Some m → m ≡ sound.m
  the_module m there = same_some m sound.m (sym there ∙ sound.stands)

  pub wire_is_leaf : IsLeafOf design (leaf_at item.path item.wire)
  wire_is_leaf =
      let leaf : TypeLeaf = record { path = []; flip = false; typ = sound.wire.typ } in
      record {
        path = item.path;
        m = sound.m;
        c = sound.wire;
        leaf = leaf;
        stands = record { reached = sound.stands; declared = sound.is.declared; listed = subst (λ ls. Contains ls leaf) (sym (bit_leaf sound.wire.typ (Some 1) sound.is.one_bit)) (0, omega arith, refl) };
        is = flat_bare item.path sound.wire.declaration.name (target_of sound.m sound.wire.declaration.name) ∙ ap (leaf_at item.path) sound.named;
      }

  pub wire_shape : (v : Value) → IsOfLeaf design (leaf_at item.path item.wire) v → shape_of_value v ≡ shaped Unsigned 1
  wire_shape v of =
      let leaf : TypeLeaf = record { path = []; flip = false; typ = sound.wire.typ } in
      of.shape sound.m sound.wire leaf (record { reached = sound.stands; declared = sound.is.declared; listed = subst (λ ls. Contains ls leaf) (sym (bit_leaf sound.wire.typ (Some 1) sound.is.one_bit)) (0, omega arith, refl) }) sound.named refl
      ∙ ap₂ shaped (unsigned_kind sound.wire.typ (Some 1) sound.is.one_bit) (unsigned_width sound.wire.typ (Some 1) sound.is.one_bit)

  -- an item is enabled where its wire is 1
  module _ (s : State) (given : Inputs) (rho : Valuation) (settled : Settled design s given rho) where
    pub enabled_by_wire : (rho item.path item.wire [] ≡ pos 1) ↔ Enabled (scene_at sound.m item rho) item.wire item.behind
    enabled_by_wire =
        let bare : (n : ℕ) → (scene_of sound.m item.path rho).integers n [] ≡ rho item.path n [] = λ n. seen_bare rho item.path n (target_of sound.m n) in
        let P : ℕ → Type 0 = λ n. (rho item.path n [] ≡ pos 1) ↔ Enabled (scene_of sound.m item.path rho) n item.behind in
        let both = settled_enabled design s given rho item.path sound.m sound.wire item.behind settled sound.stands sound.is in
        let here : P sound.wire.declaration.name = (λ h. both.0 (bare sound.wire.declaration.name ∙ h), λ e. sym (bare sound.wire.declaration.name) ∙ both.1 e) in
        subst P sound.named here

node_listed : {m : TypedModule} {name : ℕ} {e : Expr} (a : IsArgumentNode m name e) → Contains (leaves a.node.typ) a.leaf
node_listed a = subst (λ ls. Contains ls a.leaf) (sym a.only) (0, omega arith, refl)

module _ {design : Design} {m : TypedModule} {name : ℕ} {e : Expr} (path : List ℕ) (there : module_at design path ≡ Some m) (a : IsArgumentNode m name e) where
  pub node_is_leaf : IsLeafOf design (leaf_at path name)
  node_is_leaf = record {
    path = path;
    m = m;
    c = a.node;
    leaf = a.leaf;
    stands = record { reached = there; declared = a.declared; listed = node_listed a };
    is = ap (flat_through path a.node.declaration.name (target_of m a.node.declaration.name)) a.path ∙ flat_bare path a.node.declaration.name (target_of m a.node.declaration.name) ∙ ap (leaf_at path) a.named;
  }

  module _ (s : State) (given : Inputs) (rho : Valuation) (settled : Settled design s given rho) where
    pub node_integers : map integer_of (value e (scene_of m path rho)) ≡ rho path name [] ∷ []
    node_integers =
        let see = λ (l : TypeLeaf). (scene_of m path rho).integers a.node.declaration.name l.path in
        sym (settled.nodes path m a.node e there a.declared a.sort) ∙ ap (map see) a.only
        ∙ ap (λ (w : List PathStep). (scene_of m path rho).integers a.node.declaration.name w ∷ []) a.path
        ∙ ap (λ (n : ℤ). n ∷ []) (seen_bare rho path a.node.declaration.name (target_of m a.node.declaration.name)) ∙ ap (λ (n : ℕ). rho path n [] ∷ []) a.named

    pub node_value : (v : Value) → Shows design rho (leaf_at path name) v → value e (scene_of m path rho) ≡ v ∷ []
    node_value v shows = one_value (value e (scene_of m path rho)) v _ _ (a.shape _) node_integers
        (shows.shape.shape m a.node a.leaf (record { reached = there; declared = a.declared; listed = node_listed a }) a.named a.path) shows.integer
