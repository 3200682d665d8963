-- Cycles of states are cycles of their words, in which each code puts out the settled values.
use Rattle.std.proofs.Common.{◌≡◌, ℕ, List, map, slice_get, slice_index, Some, sym}
use Rattle.bit_words.specs.declared.value.Value.{Value}
use Rattle.ground_net.specs.declared.net.Net.{Net}
use Rattle.ground_net.specs.Cycles.{NetState, Inputs, Valuation, Settled}
use Rattle.ground_net.specs.Nets.{IsNet, IsWithin}
use Rattle.ground_net.specs.Words.{words_of}
use Rattle.flat_code.specs.declared.code.Code.{Code}
use Rattle.flat_code.specs.Codes.{outputs_by}
use Rattle.partition_code.specs.FromNets.{MatchInputs}
use Rattle.partition_code.specs.Codes.{IsCycle, AreOfOneCut}
use Rattle.partition_code.proofs.Owners.{beside}
use Rattle.partition_code.proofs.Back.{settled_again}
use Rattle.partition_code.proofs.Placed.{words_counted, words_plain}

pub cycle_of : (net : Net) (s : NetState) → IsNet net → IsWithin net s → (inputs : List Value) (given : Inputs) → MatchInputs net inputs given → (rho : Valuation) → Settled net s given rho → IsCycle net (words_of net s) inputs rho
cycle_of net s w inside inputs given matched rho settled =
    record { plain = words_plain net s; counted = words_counted net s; given = given; matched = matched; settled = settled_again net s inside w given rho settled }

pub outputs_of : (codes : List Code) (cut : AreOfOneCut codes) (k : ℕ) (code : Code) → slice_get codes k ≡ Some code → (s : NetState) → IsWithin cut.ordered.net s
    → (inputs : List Value) (given : Inputs) → MatchInputs cut.ordered.net inputs given → (rho : Valuation) → Settled cut.ordered.net s given rho
    → outputs_by code (words_of cut.ordered.net s) inputs ≡ map (λ x. rho (slice_index cut.watch x)) code.positions
outputs_of codes cut k code e s inside inputs given matched rho settled =
    let part = beside codes cut.parts k code (sym cut.codes_of.counted) e in
    (cut.codes_of.each k part.0 code part.1 e).outputs (words_of cut.ordered.net s) inputs rho (cycle_of cut.ordered.net s cut.net inside inputs given matched rho settled)
