use Rattle.std.proofs.Common.{◌≡◌, ◌≤◌, ◌*◌, ◌-◌, ◌^◌, min}
use Rattle.fir_types.specs.Leaves.{count}
use Rattle.field_tables.specs.Fits.{Fits}
use Rattle.field_tables.proofs.tabled.Tabled.leaf_count.Given as goal

abbrev pub invariant-loop-inside : goal.invariant-loop-inside
invariant-loop-inside l =
    (min (count l.self.typ.now) (2 ^ 128 - 1) ≡ min (l.factor * count l.inside) (2 ^ 128 - 1)) × (l.factor ≤ 2 ^ 128 - 1) × ∥ Fits l.inside l.table ∥₁
