-- The rows of the stimulus match what the inputs are given.
use Rattle.std.proofs.Common.{◌≡◌, ℕ, ◌+◌, ◌<◌, ◌≤◌, [], length, refl, sym, subst, ◌∙◌}
use Rattle.std.proofs.lemmas.List.FromFn.{length-map-range_with_len, get_or-map-range_with_len}
use Rattle.std.proofs.lemmas.Option.{get_or_from_slice_get, slice_get_within}
use Rattle.prim_ops.proofs.Fittings.{fitted_same}
use Rattle.ground_net.specs.declared.net.Net.{Net}
use Rattle.ground_net.specs.declared.net.Ports.{Ports}
use Rattle.ground_net.specs.Watching.{inputs}
use Rattle.ground_net.specs.Cycles.{fitted_to}
use Rattle.ground_net.specs.Nets.{IsNet}
use Rattle.ground_net.proofs.Shaping.{fitted_shape}
use Rattle.partition_code.specs.FromNets.{MatchInputs}
use Rattle.crew_workers.specs.Codes.{row_at}
use Rattle.stimulus.specs.declared.stimulus.Stimulus.{Stimulus}
use Rattle.stimulus.specs.Stimuli.{IsFormed}
use Rattle.stimulus.specs.Rows.{row_in, rows_from}
use Rattle.circuit_run.specs.NetRuns.{given_in}
use Rattle.crew_run.specs.Runs.{MatchGiven}
use Rattle.circuit_run.proofs.Fed.{row_given, inputs_in_range}

-- the rows of cycles from a first one on
pub rows_long : (ports : Ports) (stimulus : Stimulus) (first count : ℕ) → length (rows_from ports stimulus.settings first count) ≡ count
rows_long ports stimulus first count = length-map-range_with_len (row_in ports stimulus.settings) first count

pub row_is : (ports : Ports) (stimulus : Stimulus) (first count c : ℕ) → c < count → row_at (rows_from ports stimulus.settings first count) c ≡ row_in ports stimulus.settings (first + c)
row_is ports stimulus first count c lt = get_or-map-range_with_len (row_in ports stimulus.settings) first count c (first + c) [] lt refl

module _ (net : Net) (well : IsNet net) (ports : Ports) (fed : ports.inputs ≡ inputs net) (stimulus : Stimulus) (formed : IsFormed ports stimulus) where
  pub row_matches : (cycle : ℕ) → MatchInputs net (row_in ports stimulus.settings cycle) (given_in stimulus cycle)
  row_matches cycle x n leaf there is =
      let narrow : leaf.width ≤ 128 = leaf.narrow in
      let given = given_in stimulus cycle n in (
        fitted_to leaf given,
        row_given net well ports fed stimulus formed cycle x n leaf there is,
        fitted_shape leaf.kind leaf.width given narrow,
        fitted_same leaf.kind leaf.width given narrow (inputs_in_range net well ports fed stimulus formed cycle x n leaf there is),
      )

  pub rows_match : (first count : ℕ) → MatchGiven net (λ c. given_in stimulus (first + c)) (rows_from ports stimulus.settings first count)
  rows_match first count = record {
    each = λ c row e.
        let long = rows_long ports stimulus first count in
        let lt : c < count = subst (λ n. c < n) long (slice_get_within (rows_from ports stimulus.settings first count) c row e) in
        let is : row_in ports stimulus.settings (first + c) ≡ row = sym (row_is ports stimulus first count c lt) ∙ get_or_from_slice_get (rows_from ports stimulus.settings first count) c row [] e in
        subst (λ r. MatchInputs net r (given_in stimulus (first + c))) is (row_matches (first + c));
  }
