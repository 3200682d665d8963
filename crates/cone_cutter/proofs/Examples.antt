-- The cuts of two small nets.
use Rattle.std.proofs.Common.{◌≡◌, ℕ, zero, suc, List, [], ◌∷◌, slice_get, Some, refl, arith, take, subst, ◌<◌}
use Rattle.std.proofs.lemmas.Grind.{common_steps}
use Rattle.ground_net.specs.declared.ground.Ground.{the_lemmas}
use Rattle.ground_net.specs.Cones.{sinks}
use Rattle.cone_cutter.specs.declared.placing.Placing.{Placing}
use Rattle.cone_cutter.specs.Cuts.{Lists, IsLeast, InConeOf, IsCut}
use Rattle.cone_cutter.specs.Rows.{read_rows, need_rows, row_at}
use Rattle.cone_cutter.specs.Examples.{sharing, sharing_cut, crossing, crossing_cut}
use Rattle.cone_cutter.proofs.Checking.{cones_listed, is_least, checked}

one_of : (a b : Placing) → Some a ≡ Some b → a ≡ b
one_of a b e = cc

-- the node that several need

sharing_reads : [] ∷ [] ∷ (5 ∷ []) ∷ [] ∷ [] ∷ [] ∷ [] ≡ read_rows sharing.net
sharing_reads = grind (arith, common_steps, the_lemmas)

sharing_needs : (2 ∷ []) ∷ (5 ∷ []) ∷ (5 ∷ []) ∷ [] ≡ need_rows sharing.net (sinks sharing.net (2 ∷ []))
sharing_needs = grind (arith, common_steps, the_lemmas)

abbrev sharing_cones : List (List ℕ)
sharing_cones = (2 ∷ 5 ∷ []) ∷ (5 ∷ []) ∷ (5 ∷ []) ∷ []

sharing_listed : (k : ℕ) → k < 3 → Lists (InConeOf sharing.net (2 ∷ []) k) (row_at sharing_cones k)
sharing_listed = cones_listed sharing.net (2 ∷ []) ([] ∷ [] ∷ (5 ∷ []) ∷ [] ∷ [] ∷ [] ∷ []) ((2 ∷ []) ∷ (5 ∷ []) ∷ (5 ∷ []) ∷ []) sharing_reads sharing_needs sharing_cones refl

abbrev sharing_placings : List Placing
sharing_placings = record { sink = 0; part = 0 } ∷ record { sink = 1; part = 1 } ∷ record { sink = 2; part = 1 } ∷ []

sharing_choices : (i : ℕ) (q : Placing) → slice_get sharing_placings i ≡ Some q → IsLeast (InConeOf sharing.net (2 ∷ [])) 2 (take i sharing_placings) q
sharing_choices zero q e = subst (IsLeast (InConeOf sharing.net (2 ∷ [])) 2 []) (one_of _ q e)
    (is_least (InConeOf sharing.net (2 ∷ [])) sharing_cones sharing_listed 2 [] (record { sink = 0; part = 0 }) ((2 ∷ 5 ∷ []) ∷ (2 ∷ 5 ∷ []) ∷ []) refl)
sharing_choices (suc zero) q e = subst (IsLeast (InConeOf sharing.net (2 ∷ [])) 2 (take 1 sharing_placings)) (one_of _ q e)
    (is_least (InConeOf sharing.net (2 ∷ [])) sharing_cones sharing_listed 2 (take 1 sharing_placings) (record { sink = 1; part = 1 }) ((2 ∷ 5 ∷ []) ∷ (5 ∷ []) ∷ []) refl)
sharing_choices (suc (suc zero)) q e = subst (IsLeast (InConeOf sharing.net (2 ∷ [])) 2 (take 2 sharing_placings)) (one_of _ q e)
    (is_least (InConeOf sharing.net (2 ∷ [])) sharing_cones sharing_listed 2 (take 2 sharing_placings) (record { sink = 2; part = 1 }) ((2 ∷ 5 ∷ []) ∷ (5 ∷ []) ∷ []) refl)
sharing_choices (suc (suc (suc i))) q e = cc

pub sharing_is_cut : IsCut sharing (2 ∷ []) 2 sharing_cut
sharing_is_cut = checked sharing (2 ∷ []) 2 sharing_cut sharing_placings sharing_cones ((2 ∷ 5 ∷ []) ∷ (5 ∷ []) ∷ []) (2 ∷ 5 ∷ []) sharing_listed refl refl refl refl sharing_choices refl refl refl refl

-- registers that take each other's inverse

crossing_reads : [] ∷ [] ∷ [] ∷ [] ∷ [] ∷ [] ∷ [] ∷ [] ≡ read_rows crossing.net
crossing_reads = grind (arith, common_steps, the_lemmas)

crossing_needs : (2 ∷ []) ∷ (5 ∷ []) ∷ (6 ∷ []) ∷ [] ≡ need_rows crossing.net (sinks crossing.net (2 ∷ []))
crossing_needs = grind (arith, common_steps, the_lemmas)

abbrev crossing_cones : List (List ℕ)
crossing_cones = (2 ∷ []) ∷ (5 ∷ []) ∷ (6 ∷ []) ∷ []

crossing_listed : (k : ℕ) → k < 3 → Lists (InConeOf crossing.net (2 ∷ []) k) (row_at crossing_cones k)
crossing_listed = cones_listed crossing.net (2 ∷ []) ([] ∷ [] ∷ [] ∷ [] ∷ [] ∷ [] ∷ [] ∷ []) crossing_cones crossing_reads crossing_needs crossing_cones refl

abbrev crossing_placings : List Placing
crossing_placings = record { sink = 0; part = 0 } ∷ record { sink = 1; part = 1 } ∷ record { sink = 2; part = 0 } ∷ []

crossing_choices : (i : ℕ) (q : Placing) → slice_get crossing_placings i ≡ Some q → IsLeast (InConeOf crossing.net (2 ∷ [])) 2 (take i crossing_placings) q
crossing_choices zero q e = subst (IsLeast (InConeOf crossing.net (2 ∷ [])) 2 []) (one_of _ q e)
    (is_least (InConeOf crossing.net (2 ∷ [])) crossing_cones crossing_listed 2 [] (record { sink = 0; part = 0 }) ((2 ∷ []) ∷ (2 ∷ []) ∷ []) refl)
crossing_choices (suc zero) q e = subst (IsLeast (InConeOf crossing.net (2 ∷ [])) 2 (take 1 crossing_placings)) (one_of _ q e)
    (is_least (InConeOf crossing.net (2 ∷ [])) crossing_cones crossing_listed 2 (take 1 crossing_placings) (record { sink = 1; part = 1 }) ((5 ∷ 2 ∷ []) ∷ (5 ∷ []) ∷ []) refl)
crossing_choices (suc (suc zero)) q e = subst (IsLeast (InConeOf crossing.net (2 ∷ [])) 2 (take 2 crossing_placings)) (one_of _ q e)
    (is_least (InConeOf crossing.net (2 ∷ [])) crossing_cones crossing_listed 2 (take 2 crossing_placings) (record { sink = 2; part = 0 }) ((6 ∷ 2 ∷ []) ∷ (6 ∷ 5 ∷ []) ∷ []) refl)
crossing_choices (suc (suc (suc i))) q e = cc

pub crossing_is_cut : IsCut crossing (2 ∷ []) 2 crossing_cut
crossing_is_cut = checked crossing (2 ∷ []) 2 crossing_cut crossing_placings crossing_cones ((2 ∷ 6 ∷ []) ∷ (5 ∷ []) ∷ []) (2 ∷ 5 ∷ 6 ∷ []) crossing_listed refl refl refl refl crossing_choices refl refl refl refl
