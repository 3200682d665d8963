-- How long epochs are.
use Rattle.std.specs.Prelude.{ℕ, ◌/◌, ◌==◌, min, max, if◌then◌else◌}

-- The cycles of an epoch at most where so many leaves are watched: the greater of 1 and the lesser of 1,024 and 4,194,304 divided by their number.
abbrev pub epoch_length : ℕ → ℕ
epoch_length watched = if watched == 0 then 1024 else max 1 (min 1024 (4194304 / watched))
