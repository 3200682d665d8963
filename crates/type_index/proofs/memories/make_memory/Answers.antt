use Rattle.std.proofs.Common.{sym, ap, ◌∙◌, subst}
use Rattle.std.proofs.lemmas.Result.{IfOk-weaker}
use Rattle.fir_types.specs.declared.fir_type.Shape.TheVariants as shape
use Rattle.type_index.specs.Gathering.{Gathers}
use Rattle.type_index.specs.Ports.{ArePorts}
use Rattle.type_index.proofs.Parts.{same_fields}
use Rattle.type_index.proofs.memories.make_memory.Goals as goal

pub returns : goal.returns
returns c =
    IfOk-weaker c.finish.result _ _
    (λ index made element mask ports is are.
    let own = subst (ArePorts element mask) (same_fields ports c.in-Bundle.ports (sym is ∙ c.in-Bundle.is) ∙ sym c.as_slice.ensures) are in
    made c.args.names.now c.args.typ.now (c.in-Bundle.is ∙ ap shape.Bundle (sym c.as_slice-2.ensures))
    (subst (λ fields. Gathers c.args.names.now fields c.in_ok-gathered.gathered) (c.as_slice.ensures ∙ sym c.as_slice-2.ensures)
    (c.in_ok-gathered.ensures element mask own (tt, tt))))
    c.finish.ensures
