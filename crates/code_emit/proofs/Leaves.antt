-- Expressions that are no leaf.
use Rattle.std.proofs.Common.{◌≡◌, ℕ, Bool, true, false, List, Some, sym, ap, ◌∙◌, arith, true≢false}
use Rattle.std.specs.Prelude.{Result, Ok, Err, IfOk}
use Rattle.std.proofs.lemmas.Grind.{common_steps}
use Rattle.bit_words.specs.declared.value.Kind.{Kind}
use Rattle.bit_words.specs.declared.value.Value.{Value}
use Rattle.prim_ops.specs.declared.operation.PrimOp.{PrimOp}
use Rattle.ground_net.specs.declared.ground.Ground.{Ground, fold-Ground, the_lemmas}
use Rattle.ground_net.specs.declared.ground.Ground.TheOpen.{Ground-F}
use Rattle.ground_net.specs.declared.ground.Ground.TheVariants.{Const, Leaf, Op, Mux, Select, Indexed, Load, Fit}
use Rattle.ground_net.proofs.Layers.{maps}
use Rattle.flat_code.specs.declared.instr.Location.{Location}
use Rattle.code_draft.specs.declared.draft.Draft.{Draft}
use Rattle.code_draft.specs.declared.sources.Source.{Source}
use Rattle.code_draft.specs.declared.sources.Source.TheVariants as source
use Rattle.code_draft.specs.declared.sources.Sources.{Sources}
use Rattle.code_emit.specs.Emits.{leaf_source}
use Rattle.code_emit.specs.Spans.{StandsThere}
use Rattle.code_emit.proofs.Shaped.{some_same}

abbrev leaf_in : Ground-F Bool → Bool
leaf_in (Ground-F.Const v) = false
leaf_in (Ground-F.Leaf x) = true
leaf_in (Ground-F.Op prim operands params) = false
leaf_in (Ground-F.Mux items) = false
leaf_in (Ground-F.Select index items) = false
leaf_in (Ground-F.Indexed numbers indices lengths) = false
leaf_in (Ground-F.Load memory leaf items) = false
leaf_in (Ground-F.Fit kind width items) = false

abbrev is_leaf : Ground → Bool
is_leaf = fold-Ground Bool leaf_in

abbrev number_in : Ground-F ℕ → ℕ
number_in (Ground-F.Const v) = 0
number_in (Ground-F.Leaf x) = x
number_in (Ground-F.Op prim operands params) = 0
number_in (Ground-F.Mux items) = 0
number_in (Ground-F.Select index items) = 0
number_in (Ground-F.Indexed numbers indices lengths) = 0
number_in (Ground-F.Load memory leaf items) = 0
number_in (Ground-F.Fit kind width items) = 0

abbrev number_of : Ground → ℕ
number_of = fold-Ground ℕ number_in

leaf-Leaf : (x : ℕ) → is_leaf (Leaf x) ≡ true
leaf-Leaf x = grind (arith, common_steps, the_lemmas)

number-Leaf : (x : ℕ) → number_of (Leaf x) ≡ x
number-Leaf x = grind (arith, common_steps, the_lemmas)

pub same_leaf : (x y : ℕ) → Leaf x ≡ Leaf y → x ≡ y
same_leaf x y e = sym (number-Leaf x) ∙ (ap number_of e ∙ number-Leaf y)

pub leaf-Const : (v : Value) → is_leaf (Const v) ≡ false
leaf-Const v = grind (arith, common_steps, the_lemmas)

pub leaf-Op : (prim : PrimOp) (gs : List Ground) (params : List ℕ) → is_leaf (Op prim gs params) ≡ false
leaf-Op prim gs params = grind (arith, common_steps, the_lemmas, maps)

pub leaf-Mux : (gs : List Ground) → is_leaf (Mux gs) ≡ false
leaf-Mux gs = grind (arith, common_steps, the_lemmas, maps)

pub leaf-Select : (is gs : List Ground) → is_leaf (Select is gs) ≡ false
leaf-Select is gs = grind (arith, common_steps, the_lemmas, maps)

pub leaf-Indexed : (ns : List ℕ) (is : List Ground) (ls : List ℕ) → is_leaf (Indexed ns is ls) ≡ false
leaf-Indexed ns is ls = grind (arith, common_steps, the_lemmas, maps)

pub leaf-Load : (m k : ℕ) (gs : List Ground) → is_leaf (Load m k gs) ≡ false
leaf-Load m k gs = grind (arith, common_steps, the_lemmas, maps)

pub leaf-Fit : (kind : Kind) (width : ℕ) (gs : List Ground) → is_leaf (Fit kind width gs) ≡ false
leaf-Fit kind width gs = grind (arith, common_steps, the_lemmas, maps)

-- of an expression that is no leaf nothing is said
pub no_leaf : {E : Type 0} (S : Sources) (g h : Ground) (old new : Draft) (r : Result Location E) → g ≡ h → is_leaf h ≡ false → IfOk r (λ s. StandsThere S g old new s)
no_leaf S g h old new (Ok s) e none = λ x t at found. absurd (true≢false (sym (leaf-Leaf x) ∙ (ap is_leaf (sym at ∙ e) ∙ none)))
no_leaf S g h old new (Err e) f none = tt

-- a source in the frame
abbrev pub StandsAt : Source → Draft → Draft → Location → Type 0
StandsAt src old new s = (t : Location) → src ≡ source.Frame t → (s ≡ t) × (new ≡ old)

pub leaf_stands : (S : Sources) (g : Ground) (y : ℕ) (src : Source) (old new : Draft) (s : Location) → g ≡ Leaf y → leaf_source S y ≡ Some src → StandsAt src old new s → StandsThere S g old new s
leaf_stands S g y src old new s e there stands = λ x t at found.
    let same : y ≡ x = same_leaf y x (sym e ∙ at) in
    stands t (some_same (sym there ∙ (ap (leaf_source S) same ∙ found)))
