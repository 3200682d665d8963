-- The node of an argument shows the argument's value.
use Rattle.std.proofs.Common.{◌≡◌, ℕ, List, [], ◌∷◌, map, Some, ap, ◌∙◌, arith}
use Rattle.std.specs.Prelude.{max}
use Rattle.std.proofs.lemmas.Grind.{common_steps}
use Rattle.bit_words.specs.declared.value.Value.{Value}
use Rattle.bit_words.specs.Values.{integer_of}
use Rattle.fir_types.specs.Leaves.{leaves}
use Rattle.prim_ops.specs.declared.operation.PrimOp.TheVariants.{Pad}
use Rattle.fir_tree.specs.declared.expr.Expr.{Expr, the_lemmas as expr_lemmas}
use Rattle.item_lines.specs.Items.{padded}
use Rattle.prim_ops.proofs.Fittings.{refitted}
use Rattle.fir_meaning.specs.Components.{Design, TypedModule, Component, A_node, module_at, component_named}
use Rattle.fir_meaning.specs.Values.{Valuation, Scene, scene_of, value, lone, fitted, operation}
use Rattle.fir_meaning.specs.States.{State, Inputs, Settled, seen}

value_padded : (e : Expr) (scene : Scene) → value (padded e) scene ≡ operation Pad (lone (value e scene) ∷ []) (0 ∷ []) ∷ []
value_padded e scene = grind (arith, common_steps, expr_lemmas)

pad_nothing : (v : Value) → operation Pad (v ∷ []) (0 ∷ []) ≡ v
pad_nothing v = let wide : max v.width 0 ≡ v.width = omega arith in ap (λ (w : ℕ). fitted v.kind w (integer_of v)) wide ∙ refitted v

pub padded_same : (e : Expr) (scene : Scene) (v : Value) → value e scene ≡ v ∷ [] → value (padded e) scene ≡ v ∷ []
padded_same e scene v is = value_padded e scene ∙ ap (λ (vs : List Value). operation Pad (lone vs ∷ []) (0 ∷ []) ∷ []) is ∙ ap (λ (x : Value). x ∷ []) (pad_nothing v)

pub argument_shown : (design : Design) (s : State) (given : Inputs) (rho : Valuation) (path : List ℕ) (m : TypedModule) (c : Component) (e : Expr) (v : Value) → Settled design s given rho
    → module_at design path ≡ Some m → component_named m c.declaration.name ≡ Some c → c.declaration.sort ≡ A_node (padded e) → value e (scene_of m path rho) ≡ v ∷ []
    → map (seen m path rho c) (leaves c.typ) ≡ integer_of v ∷ []
argument_shown design s given rho path m c e v settled there declared sort is =
    settled.nodes path m c (padded e) there declared sort ∙ ap (map integer_of) (padded_same e (scene_of m path rho) v is)
