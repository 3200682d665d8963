-- The leaves of the part that a reference leads to, and of what is one leaf or none.
use Rattle.std.proofs.Common.{◌≡◌, ℕ, zero, suc, ◌+◌, ◌*◌, ◌-◌, ◌^◌, ◌≤◌, ◌<◌, min, max, List, [], ◌∷◌, map, sum, refl, sym, ap, ap₂, ◌∙◌, subst, arith}
use Rattle.std.specs.Prelude.{Some, find, ◌==◌, Bool, true, false, cond}
use Rattle.std.proofs.lemmas.Grind.{common_steps}
use Rattle.fir_types.specs.declared.fir_type.FirType.{FirType, the_lemmas}
use Rattle.fir_types.specs.declared.fir_type.Field.{Field}
use Rattle.fir_types.specs.declared.fir_type.Shape.TheVariants as shape
use Rattle.fir_types.specs.Leaves.{count, field_count}
use Rattle.fir_types.proofs.Layers.{count-bundle, count-vector, count-field}
use Rattle.size_check.specs.Caps.{cap}
use Rattle.size_check.specs.Reaching.{capped_weight}
use Rattle.size_check.specs.Weights.{Weight, whole, reach, one_bit, no_type}

abbrev made : FirType → ℕ → Weight
made typ most = record { typ = typ; most = most }

-- one leaf, and none

bit_counted : count one_bit ≡ 1
bit_counted = grind (arith, common_steps, the_lemmas)

none_counted : count no_type ≡ 0
none_counted = grind (arith, common_steps, the_lemmas)

pub one_weight : (typ : FirType) → typ ≡ one_bit → made typ 1 ≡ capped_weight (whole one_bit)
one_weight typ t = ap₂ made t (sym (ap cap bit_counted))

pub none_leaves : (typ : FirType) → typ ≡ no_type → 0 ≡ cap (count typ)
none_leaves typ t = sym (ap cap (ap count t ∙ none_counted))

below : (m n : ℕ) → n < m + 1 → n ≤ m
below m n h = omega arith

counted_to : (m before index most more c : ℕ) → before ≤ m → index ≤ m → most ≡ max before index → more ≡ max most (min c m) → more ≡ min (max (max before index) c) m
counted_to m before index most more c b i e h = omega arith

-- a part that is counted
pub reached_counted : (typ : FirType) (before : Weight) (index most leaves more : ℕ) → before.most < 2 ^ 128 → index < 2 ^ 128 → most ≡ max before.most index
    → leaves ≡ cap (count typ) → more ≡ max most leaves → made typ more ≡ capped_weight (reach typ index before)
reached_counted typ before index most leaves more b i e l h =
    ap (made typ) (counted_to (2 ^ 128 - 1) before.most index most more (count typ) (below (2 ^ 128 - 1) before.most b) (below (2 ^ 128 - 1) index i) e
    (h ∙ ap (λ x. max most x) l))
