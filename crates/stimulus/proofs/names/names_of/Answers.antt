use Rattle.std.proofs.Common.{ap, ap₂, ◌∙◌}
use Rattle.std.specs.Map.{lookup}
use Rattle.std.specs.Ordering.{nat_cmp}
use Rattle.std.specs.Cmp.Lexicographic.{slice_cmp}
use Rattle.std.specs.BTreeMap.{is_at}
use Rattle.stimulus.specs.Naming.{found, named_in}
use Rattle.stimulus.proofs.names.names_of.Goals as goal

pub add_names-requires : goal.add_names-requires
unfolding found
add_names-requires c = λ name. ap (lookup (is_at (λ k. slice_cmp nat_cmp name k.now))) c.new.ensures.empty

pub add_inputs-requires : goal.add_inputs-requires
add_inputs-requires c = rw c.as_slice-2.ensures c.requires

pub returns : goal.returns
returns c = record { finds = λ name. c.in_ok-add_inputs.ensures c.as_slice.result.now c.in_ok-add_names.ensures name ∙ ap₂ (λ ns is. named_in ns is name) c.as_slice.ensures c.as_slice-2.ensures }
