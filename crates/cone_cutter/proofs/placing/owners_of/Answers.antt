use Rattle.std.proofs.Common.{◌≡◌, length, slice_index, sym, subst, ap, arith}
use Rattle.std.proofs.lemmas.List.{take_at}
use Rattle.std.proofs.lemmas.Option.{slice_get-get_or, slice_get_within}
use Rattle.cone_cutter.specs.declared.placing.Placing.{Placing}
use Rattle.cone_cutter.proofs.LoadSteps.{owners_more}
use Rattle.cone_cutter.proofs.placing.owners_of.Goals as goal

pub loop-placing-preserved : goal.loop-placing-preserved
loop-placing-preserved c =
    let n = c.loop-placing.placing-index in
    let nothing : Placing = record { sink = 0; part = 0 } in
    owners_more c.args.placings.now c.loop-placing.table n _ (slice_get-get_or c.args.placings.now n nothing c.loop-placing-test.true)
    (omega (arith, c.requires.within n nothing c.loop-placing-test.true, c.loop-placing.auto.table, c.as_mut_slice-table.ensures.len, c.in_ok-owners.ensures.len)) c.requires.once c.loop-placing.invariant

pub returns-clause-owners : goal.returns-clause-owners
returns-clause-owners c = λ i it e.
    subst (λ s. slice_index s it.sink ≡ it.part)
    (sym (take_at c.loop-placing.table _ c.in_ok-owners.owners.len (omega (arith, c.loop-placing.auto.table, ap length c.as_mut_slice-table.ensures.value, c.in_ok-owners.owners.ok.0))))
    (c.loop-placing.invariant i it (omega (arith, slice_get_within c.args.placings.now i it e, c.loop-placing-test.false)) e)
