-- Expressions with other numbers for their leaves.
use Rattle.std.specs.Prelude.{ℕ, map}
use Rattle.ground_net.specs.declared.ground.Ground.{Ground, fold-Ground}
use Rattle.ground_net.specs.declared.ground.Ground.TheOpen.{Ground-F}
use Rattle.ground_net.specs.declared.ground.Ground.TheViews.{roll-Ground}
use Rattle.ground_net.specs.Grounds.{Instant}

-- Leaves get their new numbers, and all else stays.
abbrev pub renamed_layer : (ℕ → ℕ) → Ground-F Ground → Ground
renamed_layer number (Ground-F.Leaf x) = roll-Ground (Ground-F.Leaf (number x))
renamed_layer number (Ground-F.Indexed numbers indices lengths) = roll-Ground (Ground-F.Indexed (map number numbers) indices lengths)
renamed_layer number g = roll-Ground g

-- The expression with these numbers for its leaves.
abbrev pub with_numbers : (ℕ → ℕ) → Ground → Ground
with_numbers number = fold-Ground Ground (renamed_layer number)

-- What is seen of a cycle where each leaf is looked for under its new number.
abbrev pub seen_by : (ℕ → ℕ) → Instant → Instant
seen_by number instant = record { leaf = λ x. instant.leaf (number x); load = instant.load }
