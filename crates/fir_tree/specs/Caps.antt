-- Numbers as the bodies hold them: 2^128 - 1 stands for all from there on.
use Rattle.std.specs.Prelude.{ℕ, ◌-◌, ◌^◌, min}

abbrev pub cap : ℕ → ℕ
cap n = min n (2 ^ 128 - 1)
