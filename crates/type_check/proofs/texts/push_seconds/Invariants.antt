use Rattle.std.proofs.Common.{ℕ, take, ◌≡◌, ◌++◌, []}
use Rattle.std.specs.Prelude.{nat_eq}
use Rattle.std.specs.List.{list_any}
use Rattle.type_check.specs.Texts.{seconds_behind}
use Rattle.type_check.proofs.Seconds.{names_of}
use Rattle.type_check.proofs.texts.push_seconds.Given as goal

abbrev pub invariant-loop-field : goal.invariant-loop-field
invariant-loop-field l = record {
  faults : l.faults.items ≡ l.fn.faults.items ++ seconds_behind [] (names_of (take l.field-index l.fields));
  held : (id : ℕ) → list_any (nat_eq id) l.ids.keys ≡ list_any (λ name. nat_eq id name.id) (names_of (take l.field-index l.fields));
}
