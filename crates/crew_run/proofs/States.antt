-- The words of an epoch are those of the run's states, and its rows are those of the run.
use Rattle.std.proofs.Common.{◌≡◌, ℕ, zero, suc, ◌+◌, ◌<◌, ◌≤◌, List, [], ◌∷◌, ◌++◌, map, length, take, get_or, slice_get, slice_index, Some, sym, subst, ap, ◌∙◌, arith}
use Rattle.std.proofs.Math.Seq.{take-length}
use Rattle.std.proofs.lemmas.List.{take_more}
use Rattle.std.proofs.lemmas.Option.{slice_get-get_or}
use Rattle.bit_words.specs.declared.value.Value.{Value}
use Rattle.phase_core.specs.declared.model.Script.{Script}
use Rattle.phase_core.specs.Script.{published_all, values}
use Rattle.ground_net.specs.declared.net.Net.{Net}
use Rattle.ground_net.specs.Cycles.{NetState, Inputs, Valuation, Settled, instant_of, next}
use Rattle.ground_net.proofs.Mentioning.{one_of_net}
use Rattle.ground_net.proofs.Ranges.{settled_has, next_within}
use Rattle.flat_code.specs.declared.code.Code.{Code}
use Rattle.flat_code.specs.Codes.{outputs_by}
use Rattle.partition_code.specs.Codes.{AreOfOneCut}
use Rattle.partition_code.proofs.Whole.{next_words}
use Rattle.partition_code.proofs.StateCycles.{outputs_of}
use Rattle.crew_workers.specs.Codes.{row_at}
use Rattle.crew_workers.specs.Scripts.{script_of, round_by, Outputs}
use Rattle.crew_workers.proofs.Scripts.{values_next}
use Rattle.circuit_run.specs.NetRuns.{inputs_from}
use Rattle.crew_run.specs.Epochs.{Advances, stays}
use Rattle.crew_run.specs.Runs.{AreWordsOf, MatchGiven}
use Rattle.crew_run.proofs.Going.{inputs_next, go_on}
use Rattle.crew_run.proofs.Rows.{row_watched}

module _ (codes : List Code) (cut : AreOfOneCut codes) (given : ℕ → Inputs) (rows : List (List Value)) (matched : MatchGiven cut.ordered.net given rows) (words : List ℕ) (t : NetState) (begins : AreWordsOf cut.ordered.net t words) where
  abbrev net : Net
  net = cut.ordered.net

  abbrev s : Script
  s = script_of codes words rows

  -- what settles in a cycle, and the words behind it
  record Goes (c : ℕ) (u : NetState) : Type 0 where
    rho : Valuation
    settled : Settled net u (given c) rho
    put : (k : ℕ) (code : Code) → slice_get codes k ≡ Some code → outputs_by code (values s c) (row_at rows c) ≡ map (λ n. rho (slice_index cut.watch n)) code.positions
    after : AreWordsOf net (next net u (instant_of net u rho)) (values s (c + 1))

  goes : (c : ℕ) → c < length rows → (u : NetState) → AreWordsOf net u (values s c) → Goes c u
  goes c lt u at =
      let one = (one_of_net net cut.ordered.sequence cut.net cut.order u (given c)).one in
      let row = row_at rows c in
      let fits = matched.each c row (slice_get-get_or rows c [] lt) in
      let behind = next net u (instant_of net u one.0) in
      record {
        rho = one.0;
        settled = one.1;
        put = λ k code e. ap (λ ws. outputs_by code ws row) at.are ∙ outputs_of codes cut k code e u at.within row (given c) fits one.0 one.1;
        after = record {
          within = next_within net cut.net u (instant_of net u one.0) (settled_has net cut.net cut.ordered.sequence cut.order u (given c) one.0 one.1) at.within;
          are = values_next codes words rows c lt ∙ (ap (λ ws. published_all (round_by codes ws row) ws) at.are ∙ next_words codes cut u at.within row (given c) fits one.0 one.1);
        };
      }

  -- where the first cycles lead
  pub record Stands (outputs : List (List Value)) (c : ℕ) : Type 0 where
    pub state : NetState
    pub at : AreWordsOf net state (values s c)
    pub advances : Advances net cut.watch t (inputs_from given 0 c) (take c outputs) state

  pub stands_at : (outputs : List (List Value)) → Outputs s codes rows outputs (length rows) → (c : ℕ) → c ≤ length rows → Stands outputs c
  stands_at outputs out zero le = record { state = t; at = begins; advances = stays }
  stands_at outputs out (suc c) le =
      let lt : c < length rows = omega (arith, le) in
      let before = stands_at outputs out c (omega (arith, le)) in
      let step = goes c lt before.state before.at in
      let y : c + 1 ≡ suc c = omega arith in
      let inside : c < length outputs = subst (λ n. c < n) (sym out.many) lt in
      let row_is = row_watched codes cut (values s c) (row_at rows c) (get_or outputs c []) (out.each c lt) step.rho step.put in
      let more = take_more outputs c [] inside in
      record {
        state = next net before.state (instant_of net before.state step.rho);
        at = subst (λ n. AreWordsOf net (next net before.state (instant_of net before.state step.rho)) (values s n)) y step.after;
        advances = subst (λ n. Advances net cut.watch t (inputs_from given 0 n) (take n outputs) (next net before.state (instant_of net before.state step.rho))) y
            (subst (λ l. Advances net cut.watch t (inputs_from given 0 (c + 1)) l (next net before.state (instant_of net before.state step.rho))) (ap (λ r. take c outputs ++ r ∷ []) (sym row_is) ∙ sym more)
            (subst (λ i. Advances net cut.watch t i (take c outputs ++ map step.rho cut.watch ∷ []) (next net before.state (instant_of net before.state step.rho))) (inputs_next given c)
            (go_on net cut.watch t before.state (inputs_from given 0 c) (given c) step.rho before.advances step.settled)));
      }

  -- all rows
  pub all_rows : (outputs : List (List Value)) (behind : List ℕ) → Outputs s codes rows outputs (length rows) → behind ≡ values s (length rows)
      → (u : NetState) × Advances net cut.watch t (inputs_from given 0 (length rows)) outputs u × AreWordsOf net u behind
  all_rows outputs behind out is =
      let at = stands_at outputs out (length rows) (omega arith) in
      let all : take (length rows) outputs ≡ outputs = ap (λ n. take n outputs) (sym out.many) ∙ take-length outputs in
      (at.state, subst (λ l. Advances net cut.watch t (inputs_from given 0 (length rows)) l at.state) all at.advances, subst (AreWordsOf net at.state) (sym is) at.at)
