use Rattle.std.proofs.Common.{take, [], ap, ◌∙◌}
use Rattle.std.specs.Prelude.{Some}
use Rattle.std.specs.Map.{update}
use Rattle.std.specs.Str.{bytes_eq}
use Rattle.stimulus.specs.declared.names.NamedLeaf.TheVariants.{Other}
use Rattle.stimulus.specs.Naming.{found, named_in}
use Rattle.stimulus.proofs.Finding.{next_name, update_under}
use Rattle.stimulus.proofs.names.add_names.Goals as goal

pub loop-name-preserved : goal.loop-name-preserved
loop-name-preserved c = λ q.
    let i = c.loop-name.name-index in
    let item = c.name-item.result in
    c.in_ok-add.ensures q ∙ ap (λ n. update bytes_eq (found c.loop-name.known) n (Some Other) q) c.as_slice.ensures
    ∙ update_under (found c.loop-name.known) (named_in (take i c.args.names.now) []) item (Some Other) q (c.loop-name.invariant q)
    ∙ next_name c.args.names.now i item q c.loop-name-test.true c.name-item.is
