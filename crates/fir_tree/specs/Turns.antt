-- Walks through statements in text order, one behind another. `before` puts one in front of another, and `nothing` is a walk that
-- finds nothing.
use Rattle.std.specs.Prelude.{List, [], ◌∷◌}

-- walks in order
abbrev pub in_order : {W : Type 0} → (W → W → W) → W → List W → W
in_order before nothing [] = nothing
in_order before nothing (walk ∷ walks) = before walk (in_order before nothing walks)
