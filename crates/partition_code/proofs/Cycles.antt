-- Codes that may run have their cycles.
use Rattle.std.proofs.Common.{◌≡◌, ℕ, List, length, slice_get, Some}
use Rattle.bit_words.specs.declared.value.Value.{Value}
use Rattle.ground_net.specs.Cycles.{Valuation}
use Rattle.ground_net.specs.Words.{state_words}
use Rattle.ground_net.proofs.Mentioning.{one_of_net}
use Rattle.flat_code.specs.declared.code.Code.{Code}
use Rattle.partition_code.specs.Codes.{AreWords, IsCycle, MayRun}
use Rattle.ground_net.specs.Words.{state_of}

pub cycle_of : (codes : List Code) (words : List ℕ) (rows : List (List Value)) (may : MayRun codes words rows) (c : ℕ) (row : List Value) → slice_get rows c ≡ Some row
    → (now : List ℕ) → AreWords now → length now ≡ state_words may.cut.ordered.net → (rho : Valuation) × IsCycle may.cut.ordered.net now row rho
cycle_of codes words rows may c row e now plain counted =
    let given = may.matched c row e in
    let one = (one_of_net may.cut.ordered.net may.cut.ordered.sequence may.cut.net may.cut.order (state_of may.cut.ordered.net now) given.0).one in
    (one.0, record { plain = plain; counted = counted; given = given.0; matched = given.1; settled = one.1 })
