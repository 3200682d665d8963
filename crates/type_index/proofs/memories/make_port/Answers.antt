use Rattle.std.proofs.Common.{All, sym, ap, ◌∙◌, subst}
use Rattle.std.proofs.lemmas.Result.{IfOk-weaker}
use Rattle.fir_types.specs.declared.fir_type.Shape.TheVariants as shape
use Rattle.type_index.specs.Gathering.{Gathers}
use Rattle.type_index.specs.Ports.{IsPortField}
use Rattle.type_index.proofs.memories.make_port.Goals as goal

pub returns : goal.returns
returns c =
    IfOk-weaker c.finish.result _ _
    (λ index made element mask are keeps.
    let own = subst (All (IsPortField element mask)) (sym c.as_slice.ensures) (are c.in-Bundle.fields c.in-Bundle.is) in
    let gathered = c.in_ok-gathered.ensures element mask own keeps in (
      made c.args.names.now c.args.port.now (c.in-Bundle.is ∙ ap shape.Bundle (sym c.as_slice-2.ensures))
          (subst (λ fields. Gathers c.args.names.now fields c.in_ok-gathered.gathered) (c.as_slice.ensures ∙ sym c.as_slice-2.ensures) gathered.0),
      gathered.1,
    ))
    c.finish.ensures
