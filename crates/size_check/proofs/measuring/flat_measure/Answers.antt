use Rattle.std.proofs.Common.{◌≡◌, ◌∙◌, ap, true, false, refl, sym, subst, inl}
use Rattle.std.specs.Prelude.{Err}
use Rattle.place_text.specs.Verdicts.{IsVerdict}
use Rattle.std.proofs.lemmas.Result.{err_from_is_err_and}
use Rattle.place_text.proofs.Verdicts.{passes, refuses_by}
use Rattle.fir_tree.specs.declared.circuit.Circuit.{Circuit}
use Rattle.size_check.specs.declared.fault.SizeFault.TheVariants.{TooLarge, NoMemory}
use Rattle.size_check.specs.Faults.{place_of, rank_of}
use Rattle.size_check.specs.Ranks.{one_each}
use Rattle.size_check.specs.Caps.{cap}
use Rattle.size_check.specs.Limits.{IsFault, IsMeasure, ports_of}
use Rattle.size_check.specs.Typings.{named}
use Rattle.size_check.proofs.Judging.{found_false, measures, no_fault, one_fault}
use Rattle.size_check.proofs.measuring.flat_measure.Goals as goal

pub returns-in-Some : goal.returns-in-Some
returns-in-Some c =
    let circuit = c.args.checked.now.resolved in
    let total = rw c.get-circuit.ensures at c.in_ok-total.ensures in
    let ports = (rw c.get-circuit.ensures at c.main_ports-ports.ensures) ∙ ap (λ ms. cap (ports_of (named ms c.args.checked.now.resolved.main.id))) (c.in_ok-modules.ensures.all ∙ c.as_slice.ensures ∙ ap (λ (x : Circuit). x.modules) c.get-circuit.ensures) in
    passes c.in-Some.measure
    (measures c.args.checked.now.resolved c.in_ok-total.total c.main_ports-ports.result c.in-Some.measure total ports c.in-Some.ensures)
    (no_fault c.args.checked.now.resolved (found_false c.args.checked.now.resolved c.in_ok-total.total c.main_ports-ports.result total ports false c.in-Some.ensures.0))

pub returns : goal.returns
returns c =
    let total = rw c.get-circuit.ensures at c.in_ok-total.ensures in
    let ports = (rw c.get-circuit.ensures at c.main_ports-ports.ensures) ∙ ap (λ ms. cap (ports_of (named ms c.args.checked.now.resolved.main.id))) (c.in_ok-modules.ensures.all ∙ c.as_slice.ensures ∙ ap (λ (x : Circuit). x.modules) c.get-circuit.ensures) in
    rw c.get-circuit.ensures (refuses_by one_each (TooLarge c.args.checked.now.resolved.main.place)
    (one_fault c.args.checked.now.resolved (found_false c.args.checked.now.resolved c.in_ok-total.total c.main_ports-ports.result total ports true c.in-None.ensures)))

pub returns-in_err-total : goal.returns-in_err-total
returns-in_err-total c =
    let p = err_from_is_err_and c.from_residual-in_err-total.result c.from_residual-in_err-total.ensures.1 in
    let e : c.from_residual-in_err-total.result ≡ Err NoMemory = p.1 ∙ ap Err p.2 in
    let circuit = c.args.checked.now.resolved in
    subst (IsVerdict place_of rank_of (IsFault circuit) (IsMeasure circuit)) (sym e)
    (record { ok = tt; none = tt; fault = inl refl; accepts = λ h. refl; refuses = λ first h. inl refl })
