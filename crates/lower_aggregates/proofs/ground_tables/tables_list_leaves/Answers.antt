use Rattle.lower_aggregates.proofs.ModuleRows.{ports_counted, flags_listed, flag_at, table_listed, table_counted, table_leaf, table_shape}
use Rattle.lower_aggregates.proofs.ground_tables.tables_list_leaves.Goals as goal

pub returns-clause-counted : goal.returns-clause-counted
returns-clause-counted c = λ texts m pieces listed are h. table_counted texts m listed (table_listed texts m pieces listed are h)

pub returns-clause-leaves : goal.returns-clause-leaves
returns-clause-leaves c = λ texts holder m pieces listed has are h. table_leaf texts holder m has listed (table_listed texts m pieces listed are h)

pub returns-clause-shapes : goal.returns-clause-shapes
returns-clause-shapes c = λ texts holder m pieces listed has are h. table_shape texts holder m has listed (table_listed texts m pieces listed are h)

pub returns-clause-flags : goal.returns-clause-flags
returns-clause-flags c = λ m pieces flags are h. flag_at m flags (flags_listed m pieces flags are h)

pub returns-clause-ports : goal.returns-clause-ports
returns-clause-ports c = λ m pieces n are h. ports_counted m pieces n are h
