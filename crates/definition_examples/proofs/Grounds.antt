-- Leaves of ground types, and kinds of components.
use Rattle.std.proofs.Common.{◌≡◌, ℕ, true, false, Bool, [], ◌∷◌, arith}
use Rattle.std.proofs.lemmas.Grind.{common_steps}
use Rattle.fir_types.specs.declared.fir_type.FirType.{the_lemmas as type_lemmas}
use Rattle.fir_types.specs.Leaves.{leaves}
use Rattle.fir_meaning.specs.Components.{Sort, A_memory, A_node, is_clock}
use Rattle.definition_examples.specs.Samples.{clock_type, uint, whole_leaf}

pub clock_leaves : leaves clock_type ≡ whole_leaf clock_type ∷ []
clock_leaves = grind (arith, common_steps, type_lemmas)

pub clock_is_clock : is_clock (whole_leaf clock_type) ≡ true
clock_is_clock = grind (arith, common_steps, type_lemmas)

pub uint_leaves : (width : ℕ) → leaves (uint width) ≡ whole_leaf (uint width) ∷ []
uint_leaves width = grind (arith, common_steps, type_lemmas)

pub uint_no_clock : (width : ℕ) → is_clock (whole_leaf (uint width)) ≡ false
uint_no_clock width = grind (arith, common_steps, type_lemmas)

abbrev pub is_memory : Sort → Bool
is_memory (A_memory memory) = true
is_memory _ = false

abbrev pub is_node : Sort → Bool
is_node (A_node e) = true
is_node _ = false
