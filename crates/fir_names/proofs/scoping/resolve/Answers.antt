use Rattle.std.proofs.Common.{◌∙◌, sym}
use Rattle.place_text.proofs.Ordering.{first_of, none_of}
use Rattle.place_text.proofs.Verdicts.{passes, refuses_by}
use Rattle.fir_names.specs.Faults.{place_of, rank_of}
use Rattle.fir_names.specs.Ranks.{one_each}
use Rattle.fir_names.proofs.Meaning.{graph_is, main_within, is_scope}
use Rattle.fir_names.proofs.Telling.{tells}
use Rattle.fir_names.proofs.scoping.resolve.Goals as goal

pub scope_of-requires-clause-graph : goal.scope_of-requires-clause-graph
scope_of-requires-clause-graph c = graph_is c.args.circuit.now _ c.in_ok-main.ensures.graph

pub scope_of-requires-clause-main : goal.scope_of-requires-clause-main
scope_of-requires-clause-main c = main_within c.args.circuit.now c.in_ok-main.main c.in_ok-main.found c.in_ok-main.ensures (sym c.as_slice.ensures.value ∙ c.in-None.ensures)

pub returns-in-Some : goal.returns-in-Some
returns-in-Some c = refuses_by one_each c.in-Some.first
    (first_of place_of rank_of c.in-Some.first (tells c.args.circuit.now c.in_ok-main.main c.in_ok-main.found c.in_ok-main.ensures) (rw c.as_slice.ensures.value at c.in-Some.ensures))

pub returns-in_ok-scope-in-None : goal.returns-in_ok-scope-in-None
returns-in_ok-scope-in-None c =
    let empty = sym c.as_slice.ensures.value ∙ c.in-None.ensures in
    passes c.in_ok-scope-in-None.scope
    (is_scope c.args.circuit.now c.in_ok-main.main c.in_ok-main.found c.in_ok-scope-in-None.scope c.in_ok-main.ensures empty
    c.in_ok-scope-in-None.ensures.uses c.in_ok-scope-in-None.ensures.targets c.in_ok-scope-in-None.ensures.counted c.in_ok-scope-in-None.ensures.reached)
    (none_of c.in_ok-main.found.faults.items (tells c.args.circuit.now c.in_ok-main.main c.in_ok-main.found c.in_ok-main.ensures) empty)
