use Rattle.std.proofs.Common.{◌≤◌}
use Rattle.fir_types.specs.declared.fir_type.FirType.{size-FirType}
use Rattle.field_tables.specs.declared.table.FieldTable.{FieldTable}
use Rattle.field_tables.specs.Fits.{Fits}
use Rattle.field_tables.proofs.Fitting.{Gathers}
use Rattle.field_tables.proofs.making.Tables.+make.Given as goal

abbrev pub invariant-table_of-loop-inside : goal.invariant-table_of-loop-inside
invariant-table_of-loop-inside l = ((table : FieldTable) → Fits l.inside table → Fits l.typ table) × (size-FirType l.inside ≤ size-FirType l.typ)

abbrev pub invariant-new_table-loop-field : goal.invariant-new_table-loop-field
invariant-new_table-loop-field l = Gathers l.fields l.field-index l.counts.items l.inner
