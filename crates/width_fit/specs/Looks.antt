-- What an expression comes to, by its number.
use Rattle.std.specs.Prelude.{ℕ, List}
use Rattle.prim_ops.specs.declared.widths.Width.{Width}
use Rattle.part_fits.specs.declared.choices.Seen.{Seen}
use Rattle.part_fits.specs.Seen.{IsSeenAt}
use Rattle.width_fit.specs.Judging.{Survey, widths_of}

-- what stands at this number is what this survey found
abbrev pub IsSurveyed : List Width → List Seen → Survey → ℕ → Type 0
IsSurveyed ws all s number = IsSeenAt all number s.measured.part.typ (widths_of ws s.measured)
