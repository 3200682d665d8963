-- The measure of a circuit is that of its run.
use Rattle.std.proofs.Common.{◌≡◌, ℕ, ◌≤◌, ◌||◌, Bool, true, false, List, [], nat_lt, refl, sym, ap, ◌∙◌, arith, true≢false, subst, Some}
use Rattle.std.specs.Prelude.{Contains}
use Rattle.std.proofs.lemmas.Grind.{common_steps}
use Rattle.std.proofs.lemmas.Bool.Decides.{nat_tests}
use Rattle.fir_tree.specs.declared.scope.Fitted.{Fitted}
use Rattle.fir_meaning.specs.Components.{TypedModule, Component, modules_of, design_of, module_named, component_named}
use Rattle.net_of_circuit.specs.FlatOrder.{Placed, InFlatOrder}
use Rattle.size_check.specs.declared.sums.Sums.{Sums}
use Rattle.size_check.specs.declared.measure.Measure.{Measure}
use Rattle.size_check.specs.Standings.{measured}
use Rattle.size_check.specs.Limits.{IsMeasure, is_too_large}
use Rattle.size_laws.specs.Pieces.{AreMeasured}
use Rattle.size_laws.specs.Runs.{IsOfRun, IsLongest}
use Rattle.size_laws.proofs.Same.{AreCounted}
use Rattle.size_laws.proofs.Running.{AllPaths, measured_placed}
use Rattle.size_laws.proofs.Paths.{named_by, longest_path}
use Rattle.size_laws.proofs.Counting.{none_held, leaves_counted, bytes_counted, words_counted}

first_false : (a b : Bool) → (a || b) ≡ false → a ≡ false
first_false true b e = absurd (true≢false e)
first_false false b e = refl

not_less : (n : ℕ) → nat_lt 32 n ≡ false → n ≤ 32
not_less n e = grind (arith, common_steps, nat_tests, e)

pub of_run : AreCounted → AllPaths → (fitted : Fitted) → AreMeasured fitted → is_too_large fitted.checked.resolved ≡ false → (measure : Measure) → IsMeasure fitted.checked.resolved measure
    → (main : TypedModule) (placed : List Placed) → module_named (design_of fitted) (design_of fitted).main ≡ Some main → InFlatOrder (design_of fitted) [] main main.components placed
    → IsOfRun fitted.checked.resolved.names placed measure
of_run counted paths fitted same within measure is main placed found order =
    let circuit = fitted.checked.resolved in
    let short : (measured circuit).depth ≤ 32 = not_less (measured circuit).depth (first_false (nat_lt 32 (measured circuit).depth) _ within) in
    let e = measured_placed counted paths fitted same short main placed found order in
    let none = none_held order in
    record {
      leaves = is.leaves ∙ sym (ap (λ (s : Sums). s.leaves) e) ∙ leaves_counted counted circuit.names placed none;
      names = is.names ∙ sym (ap (λ (s : Sums). s.bytes) e) ∙ bytes_counted counted circuit.names placed none;
      state_words = is.state_words ∙ sym (ap (λ (s : Sums). s.words) e) ∙ words_counted counted circuit.names placed none;
    }

pub of_paths : AllPaths → (fitted : Fitted) → ((m : TypedModule) → Contains (modules_of fitted) m → (c : Component) → Contains m.components c → component_named m c.declaration.name ≡ Some c) → AreMeasured fitted
    → is_too_large fitted.checked.resolved ≡ false → (measure : Measure) → IsMeasure fitted.checked.resolved measure → (main : TypedModule) → module_named (design_of fitted) (design_of fitted).main ≡ Some main
    → IsLongest (design_of fitted) measure.depth
of_paths paths fitted once same within measure is main found =
    let circuit = fitted.checked.resolved in
    let short : (measured circuit).depth ≤ 32 = not_less (measured circuit).depth (first_false (nat_lt 32 (measured circuit).depth) _ within) in
    subst (IsLongest (design_of fitted)) (sym is.depth) (longest_path paths fitted same (named_by fitted once) short main found)
