-- A circuit has one least assignment of widths, and its scopes say the same of which modules are reached: what is told of its
-- widths depends on nothing else.
use Rattle.std.proofs.Common.{◌≡◌, Bool, List, [], ◌⊎◌, ⊎_elim, inl, inr, refl, sym, ap, ◌∙◌, subst}
use Rattle.std.specs.Prelude.{None, Result, Ok, Err, IfOk, IfErr, Contains, length}
use Rattle.prim_ops.specs.declared.widths.Width.{Width}
use Rattle.fir_tree.specs.declared.circuit.Circuit.{Circuit}
use Rattle.fir_tree.specs.declared.scope.Checked.{Checked}
use Rattle.fir_tree.specs.declared.scope.Fitted.{Fitted}
use Rattle.fir_names.specs.Scopes.{IsScope}
use Rattle.fir_names.proofs.Reached.{reached_once}
use Rattle.type_check.specs.Statements.{types_of}
use Rattle.width_rules.specs.Circuits.{rules_in}
use Rattle.width_rules.specs.Solutions.{IsLeast}
use Rattle.width_rules.specs.declared.rule.Rules.{Rules}
use Rattle.width_rules.proofs.Least.{least_once}
use Rattle.width_fit.specs.Judging.{Told, told_of}
use Rattle.width_fit.specs.Fitting.{IsFitted, AreLeast, IsSolved, IsFit, IsFittedCircuit}
use Rattle.place_text.specs.Verdicts.{IsVerdict}
use Rattle.width_fit.specs.Faults.{IsFault, IsFirst, place_of, rank_of}
use Rattle.width_fit.specs.declared.fault.WidthFault.{WidthFault}
use Rattle.sim_engine.specs.Unfit.{IsUnfit}

-- a circuit with these flags, and what is told of it with these widths
abbrev pub flagged : Circuit → List Bool → Checked
flagged circuit reached = record { circuit = circuit; resolved = circuit; scope = record { reached = reached; uses = []; targets = [] }; types = [] }

abbrev told_at : Circuit → List Bool → List Width → Told
told_at circuit reached widths = told_of (flagged circuit reached) widths

pub same_at : {X : Type 0} (f : Circuit → List Bool → X) (c d : Circuit) (r s : List Bool) → c ≡ d → r ≡ s → f c r ≡ f d s
same_at f c d r s e h = ap (λ x. f x r) e ∙ ap (λ x. f d x) h

same_reached : (circuit : Circuit) (first second : Checked) (v w : List Width) → IsSolved circuit first v → IsSolved circuit second w → first.scope.reached ≡ second.scope.reached
same_reached circuit first second v w f s = reached_once circuit first.scope second.scope f.scope s.scope

same_told : (circuit : Circuit) (first second : Checked) (v w : List Width) → IsSolved circuit first v → IsSolved circuit second w → told_of first v ≡ told_of second w
same_told circuit first second v w f s =
    let one = least_once (rules_in circuit).rules (length (rules_in circuit).places) v w f.least s.least in
    same_at (λ c r. told_at c r v) first.resolved second.resolved first.scope.reached second.scope.reached (f.circuit_is ∙ sym s.circuit_is) (same_reached circuit first second v w f s)
    ∙ ap (λ x. told_at second.resolved second.scope.reached x) one

pub same_fault : (circuit : Circuit) (first second : Checked) (v w : List Width) (given : WidthFault) → IsSolved circuit first v → IsSolved circuit second w
    → IsFault first v given → IsFault second w given
same_fault circuit first second v w given f s h = subst (λ (t : Told). Contains t.faults given) (same_told circuit first second v w f s) h

pub same_first : (circuit : Circuit) (first second : Checked) (v w : List Width) (given : WidthFault) → IsSolved circuit first v → IsSolved circuit second w
    → IsFirst first v given → IsFirst second w given
same_first circuit first second v w given f s h = record {
  is = same_fault circuit first second v w given f s h.is;
  first = λ other g. h.first other (same_fault circuit second first w v other s f g);
}

-- fitted circuits of one circuit have the same types, and reach the same modules
pub same_declared : (circuit : Circuit) (first second : Fitted) → IsFittedCircuit circuit first → IsFittedCircuit circuit second → first.declared ≡ second.declared
same_declared circuit first second f s =
    f.fitted_is.declared ∙ ap (λ (t : Told). t.declared) (same_told circuit first.checked second.checked f.widths s.widths f.solved s.solved) ∙ sym s.fitted_is.declared

pub same_nodes : (circuit : Circuit) (first second : Fitted) → IsFittedCircuit circuit first → IsFittedCircuit circuit second → first.nodes ≡ second.nodes
same_nodes circuit first second f s =
    f.fitted_is.nodes ∙ ap (λ (t : Told). t.nodes) (same_told circuit first.checked second.checked f.widths s.widths f.solved s.solved) ∙ sym s.fitted_is.nodes

pub same_modules : (circuit : Circuit) (first second : Fitted) → IsFittedCircuit circuit first → IsFittedCircuit circuit second
    → first.checked.scope.reached ≡ second.checked.scope.reached
same_modules circuit first second f s = same_reached circuit first.checked second.checked f.widths s.widths f.solved s.solved

-- what the judge of widths answers, where the rules and the widths are the circuit's
pub fit_from : (checked : Checked) (rules : Rules) (widths : List Width) (result : Result Fitted WidthFault) → rules ≡ rules_in checked.resolved
    → IsLeast rules.rules (length rules.places) widths → IsVerdict place_of rank_of (IsFault checked widths) (IsFitted checked widths) result → IfOk result (IsFit checked)
fit_from checked rules widths (Ok fitted) same least v =
    record { widths = widths; least = subst (λ (x : Rules). IsLeast x.rules (length x.places) widths) same least; fitted_is = v.ok; none = v.none }
fit_from checked rules widths (Err fault) same least v = tt

pub unfit_from : (checked : Checked) (rules : Rules) (widths : List Width) (result : Result Fitted WidthFault) → rules ≡ rules_in checked.resolved
    → IsLeast rules.rules (length rules.places) widths → IsVerdict place_of rank_of (IsFault checked widths) (IsFitted checked widths) result
    → IfErr result (λ fault. (place_of fault ≡ None) ⊎ IsUnfit checked fault)
unfit_from checked rules widths (Ok fitted) same least v = tt
unfit_from checked rules widths (Err fault) same least v = ⊎_elim (λ m. inl m)
    (λ f. inr (record { widths = widths; least = subst (λ (x : Rules). IsLeast x.rules (length x.places) widths) same least; first = f })) v.fault

-- a circuit whose names and types are known, with its least widths
pub solved_by : (checked : Checked) (widths : List Width) → IsScope checked.resolved checked.scope → checked.types ≡ types_of checked.resolved → AreLeast checked.resolved widths
    → IsSolved checked.resolved checked widths
solved_by checked widths scope types least = record { circuit_is = refl; scope = scope; types = types; least = least }

pub fitted_circuit : (checked : Checked) (fitted : Fitted) → IsScope checked.resolved checked.scope → checked.types ≡ types_of checked.resolved → IsFit checked fitted
    → IsFittedCircuit fitted.checked.resolved fitted
fitted_circuit checked fitted scope types fit =
    let back = sym fit.fitted_is.checked_is in record {
      widths = fit.widths;
      solved = subst (λ (x : Checked). IsSolved x.resolved x fit.widths) back (solved_by checked fit.widths scope types fit.least);
      fitted_is = subst (λ x. IsFitted x fit.widths fitted) back fit.fitted_is;
    }
