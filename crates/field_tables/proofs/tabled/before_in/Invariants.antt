use Rattle.std.proofs.Common.{◌≡◌, ◌+◌, drop}
use Rattle.field_tables.specs.Before.{leaves_before}
use Rattle.field_tables.proofs.tabled.before_in.Given as goal

abbrev pub invariant-loop-field : goal.invariant-loop-field
invariant-loop-field l = leaves_before l.id l.fields ≡ l.before + leaves_before l.id (drop l.field-index l.fields)
