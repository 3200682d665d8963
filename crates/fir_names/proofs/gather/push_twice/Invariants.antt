use Rattle.std.proofs.Common.{take, ◌≡◌, ◌++◌, [], ℕ}
use Rattle.std.specs.Prelude.{nat_eq}
use Rattle.std.specs.List.{list_any}
use Rattle.fir_names.specs.Namespaces.{twice}
use Rattle.fir_names.specs.Scopes.{texts}
use Rattle.fir_names.specs.Finds.{twice_behind}
use Rattle.fir_names.proofs.gather.push_twice.Given as goal

abbrev pub invariant-loop-name : goal.invariant-loop-name
invariant-loop-name l = record {
  faults : l.faults.items ≡ l.fn.faults.items ++ twice_behind (twice l.space) [] (take l.name-index l.names);
  held : (text : ℕ) → list_any (nat_eq text) l.texts.keys ≡ list_any (nat_eq text) (texts (take l.name-index l.names));
}
