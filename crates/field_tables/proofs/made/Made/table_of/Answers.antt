use Rattle.std.proofs.Common.{subst, sym}
use Rattle.std.proofs.Math.Logic.{∥∥₁_map}
use Rattle.fir_types.specs.Equivalence.{Equivalent}
use Rattle.field_tables.specs.Fits.{Fits}
use Rattle.field_tables.proofs.Fitting.{moved}
use Rattle.field_tables.proofs.made.Made.table_of.Goals as goal

pub returns-in_ok-table : goal.returns-in_ok-table
returns-in_ok-table c =
    let same : Equivalent c.args.self.now.typ c.args.typ.now = c.equivalent.ensures.0 c.if-equivalent.true in
    ∥∥₁_map c.args.self.now.fits (λ fits. subst (Fits c.args.typ.now) (sym c.in_ok-table.ensures) (moved fits same))
