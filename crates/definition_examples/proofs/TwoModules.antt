-- A cycle of the design of two modules.
use Rattle.std.proofs.Common.{◌≡◌, ℕ, true, false, List, [], ◌∷◌, Some, refl, sym, ap, ◌∙◌, subst, arith, true≢false, ℤ, pos, map, not, inl, inr}
use Rattle.std.specs.Prelude.{Contains}
use Rattle.std.proofs.lemmas.Grind.{common_steps}
use Rattle.fir_types.specs.declared.fir_type.FirType.{the_lemmas as type_lemmas}
use Rattle.fir_types.specs.declared.leaf.TypeLeaf.{TypeLeaf}
use Rattle.fir_types.specs.declared.leaf.PathStep.{PathStep}
use Rattle.fir_types.specs.declared.leaf.PathStep.TheVariants as step
use Rattle.fir_types.specs.Leaves.{leaves}
use Rattle.fir_tree.specs.declared.expr.Expr.{the_lemmas as expr_lemmas}
use Rattle.fir_tree.specs.declared.stmt.Stmt.{the_lemmas as stmt_lemmas}
use Rattle.fir_meaning.specs.Components.{TypedModule, Component, flow_of, is_clock, module_at, component_named}
use Rattle.fir_meaning.specs.Values.{scene_of}
use Rattle.fir_meaning.specs.Drives.{drives}
use Rattle.fir_meaning.specs.States.{State, Stands, Settled, next, next_of_register, row, row_of, main_leaf, watched, is_register, is_port, is_driven, is_source, seen, leaf_of}
use Rattle.definition_examples.specs.Samples.{clock_type, uint, leaf, whole_leaf}
use Rattle.definition_examples.specs.Clocks.{clock_in}
use Rattle.definition_examples.specs.Passing.{passing, outer, inner, outer_body, inner_body, a, x, instance, input, output, register, giving, showing}
use Rattle.definition_examples.proofs.Places.{Each, each_there, at_each}
use Rattle.definition_examples.proofs.Grounds.{clock_leaves, clock_is_clock, uint_leaves, uint_no_clock, is_memory, is_node}

-- the leaves of i: its clock, its input and its output
abbrev of_clock : TypeLeaf
of_clock = record { path = step.Field 30 ∷ []; flip = true; typ = clock_type }

abbrev of_input : TypeLeaf
of_input = record { path = step.Field 31 ∷ []; flip = true; typ = uint 4 }

abbrev of_output : TypeLeaf
of_output = record { path = step.Field 32 ∷ []; flip = false; typ = uint 4 }

its_leaves : leaves instance.typ ≡ of_clock ∷ of_input ∷ of_output ∷ []
its_leaves = grind (arith, common_steps, type_lemmas)

of_clock_clock : is_clock of_clock ≡ true
of_clock_clock = grind (arith, common_steps, type_lemmas)

of_input_number : is_clock of_input ≡ false
of_input_number = grind (arith, common_steps, type_lemmas)

of_output_number : is_clock of_output ≡ false
of_output_number = grind (arith, common_steps, type_lemmas)

inside : {A : Type 0} {x : A} {xs : List A} → x ∷ xs ≡ [] → ⊥
inside e = cc

-- It is so of every leaf where it is so of these ten.
module _ (P : List ℕ → TypedModule → Component → TypeLeaf → Type 0) where
  abbrev OfAll : List ℕ → TypedModule → Component → Type 0
  OfAll path m c = (l : TypeLeaf) → Contains (leaves c.typ) l → P path m c l

  all_in : (path : List ℕ) (m : TypedModule) (c : Component) (ls : List TypeLeaf) → leaves c.typ ≡ ls → Each (P path m c) ls → OfAll path m c
  all_in path m c ls is each l among = each_there (P path m c) ls l each (subst (λ xs. Contains xs l) is among)

  each_leaf : Each (P [] outer (clock_in 20 outer_body)) (whole_leaf clock_type ∷ []) → Each (P [] outer a) (whole_leaf (uint 4) ∷ []) → Each (P [] outer x) (whole_leaf (uint 4) ∷ [])
      → Each (P [] outer instance) (of_clock ∷ of_input ∷ of_output ∷ []) → Each (P (26 ∷ []) inner (clock_in 30 inner_body)) (whole_leaf clock_type ∷ [])
      → Each (P (26 ∷ []) inner input) (whole_leaf (uint 4) ∷ []) → Each (P (26 ∷ []) inner output) (whole_leaf (uint 4) ∷ []) → Each (P (26 ∷ []) inner register) (whole_leaf (uint 4) ∷ [])
      → (path : List ℕ) (m : TypedModule) (c : Component) (l : TypeLeaf) → Stands passing path m c l → P path m c l
  each_leaf of_main_clock of_a of_x of_i of_its_clock of_in of_out of_r path m c l stands =
      at_each passing outer refl 26 101 inner (inl refl, (inl refl, (inl refl, (inr (refl, refl), tt)))) refl (refl, (refl, (refl, (refl, tt)))) OfAll (
        all_in [] outer (clock_in 20 outer_body) (whole_leaf clock_type ∷ []) clock_leaves of_main_clock,
        (
          all_in [] outer a (whole_leaf (uint 4) ∷ []) (uint_leaves 4) of_a,
          (
            all_in [] outer x (whole_leaf (uint 4) ∷ []) (uint_leaves 4) of_x,
            (all_in [] outer instance (of_clock ∷ of_input ∷ of_output ∷ []) its_leaves of_i, tt),
          ),
        ),
      ) (
        all_in (26 ∷ []) inner (clock_in 30 inner_body) (whole_leaf clock_type ∷ []) clock_leaves of_its_clock,
        (
          all_in (26 ∷ []) inner input (whole_leaf (uint 4) ∷ []) (uint_leaves 4) of_in,
          (
            all_in (26 ∷ []) inner output (whole_leaf (uint 4) ∷ []) (uint_leaves 4) of_out,
            (all_in (26 ∷ []) inner register (whole_leaf (uint 4) ∷ []) (uint_leaves 4) of_r, tt),
          ),
        ),
      )
      path m c stands.reached stands.declared l stands.listed

abbrev rho : List ℕ → ℕ → List PathStep → ℤ
rho = showing 5 6

x_driven : drives (scene_of outer [] rho) (leaf 22 []) outer_body ≡ Some (pos 6)
x_driven = grind (arith, common_steps, stmt_lemmas, expr_lemmas, type_lemmas)

input_driven : drives (scene_of outer [] rho) (leaf 26 (step.Field 31 ∷ [])) outer_body ≡ Some (pos 5)
input_driven = grind (arith, common_steps, stmt_lemmas, expr_lemmas, type_lemmas)

output_driven : drives (scene_of inner (26 ∷ []) rho) (leaf 32 []) inner_body ≡ Some (pos 6)
output_driven = grind (arith, common_steps, stmt_lemmas, expr_lemmas, type_lemmas)

number : is_clock (whole_leaf (uint 4)) ≡ true → ⊥
number e = true≢false (sym e ∙ uint_no_clock 4)

no_memory : (path : List ℕ) (m : TypedModule) (c : Component) (l : TypeLeaf) → Stands passing path m c l → is_memory c.declaration.sort ≡ false
no_memory = each_leaf (λ path m c l. is_memory c.declaration.sort ≡ false) (refl, tt) (refl, tt) (refl, tt) (refl, (refl, (refl, tt))) (refl, tt) (refl, tt) (refl, tt) (refl, tt)

no_node : (path : List ℕ) (m : TypedModule) (c : Component) → module_at passing path ≡ Some m → component_named m c.declaration.name ≡ Some c → is_node c.declaration.sort ≡ false
no_node path m c at declared =
    at_each passing outer refl 26 101 inner (inl refl, (inl refl, (inl refl, (inr (refl, refl), tt)))) refl (refl, (refl, (refl, (refl, tt)))) (λ path m c. is_node c.declaration.sort ≡ false)
    (refl, (refl, (refl, (refl, tt)))) (refl, (refl, (refl, (refl, tt)))) path m c at declared

pub passing_settled : (s : State) → s.registers (26 ∷ []) 33 [] ≡ pos 6 → Settled passing s (giving 5) (showing 5 6)
passing_settled s held = record {
  clocks = each_leaf (λ path m c l. is_clock l ≡ true → seen m path rho c l ≡ pos 0) (λ e. refl, tt) (λ e. absurd (number e), tt) (λ e. absurd (number e), tt)
      (λ e. refl, (λ e. absurd (true≢false (sym e ∙ of_input_number)), (λ e. absurd (true≢false (sym e ∙ of_output_number)), tt))) (λ e. refl, tt) (λ e. absurd (number e), tt) (λ e. absurd (number e), tt)
      (λ e. absurd (number e), tt);
  inputs = λ m c l stands.
      each_leaf (λ path m c l. path ≡ [] → is_port c.declaration.sort ≡ true → is_source (flow_of c.declaration.sort l.flip) ≡ true → is_clock l ≡ false → seen m path rho c l ≡ giving 5 c.declaration.name l.path)
      (λ z p f k. absurd (true≢false (sym clock_is_clock ∙ k)), tt) (λ z p f k. refl, tt) (λ z p f k. absurd (true≢false (sym f)), tt)
      (λ z p f k. absurd (true≢false (sym p)), (λ z p f k. absurd (true≢false (sym p)), (λ z p f k. absurd (true≢false (sym p)), tt))) (λ z. absurd (inside z), tt) (λ z. absurd (inside z), tt)
      (λ z. absurd (inside z), tt) (λ z. absurd (inside z), tt) [] m c l stands refl;
  registers = each_leaf (λ path m c l. is_register c.declaration.sort ≡ true → seen m path rho c l ≡ s.registers path c.declaration.name l.path) (λ e. absurd (true≢false (sym e)), tt)
      (λ e. absurd (true≢false (sym e)), tt) (λ e. absurd (true≢false (sym e)), tt)
      (λ e. absurd (true≢false (sym e)), (λ e. absurd (true≢false (sym e)), (λ e. absurd (true≢false (sym e)), tt))) (λ e. absurd (true≢false (sym e)), tt) (λ e. absurd (true≢false (sym e)), tt)
      (λ e. absurd (true≢false (sym e)), tt) (λ e. sym held, tt);
  nodes = λ path m c e at declared sort. absurd (true≢false (sym (ap is_node sort) ∙ no_node path m c at declared));
  reads = λ path m c l memory port field way stands sort. absurd (true≢false (sym (ap is_memory sort) ∙ no_memory path m c l stands));
  captured = λ path m c l memory port field way stands sort. absurd (true≢false (sym (ap is_memory sort) ∙ no_memory path m c l stands));
  driven = each_leaf (λ path m c l. is_driven c l ≡ true → drives (scene_of m path rho) (leaf_of c l) c.declaration.block ≡ Some (seen m path rho c l)) (λ e. absurd (true≢false (sym e)), tt)
      (λ e. absurd (true≢false (sym e)), tt) (λ e. x_driven, tt)
      (λ e. absurd (true≢false (sym e ∙ ap not of_clock_clock)), (λ e. input_driven, (λ e. absurd (true≢false (sym e)), tt))) (λ e. absurd (true≢false (sym e)), tt) (λ e. absurd (true≢false (sym e)), tt)
      (λ e. output_driven, tt) (λ e. absurd (true≢false (sym e)), tt);
}

passing_watches : watched passing ≡ leaf 22 [] ∷ []
passing_watches = grind (arith, common_steps, type_lemmas)

pub passing_row : row passing (showing 5 6) ≡ pos 6 ∷ []
passing_row = ap (λ ls. row_of (map main_leaf ls) (showing 5 6)) passing_watches

taken_at_end : (held : ℤ) → next_of_register (scene_of inner (26 ∷ []) rho) register register.declaration.sort [] held ≡ pos 5
taken_at_end held = grind (arith, common_steps, stmt_lemmas, expr_lemmas, type_lemmas)

pub passing_next : (s : State) → (next passing s (showing 5 6)).registers (26 ∷ []) 33 [] ≡ pos 5
passing_next s = taken_at_end (s.registers (26 ∷ []) 33 [])
