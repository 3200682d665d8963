-- The scripts of the epochs.
use Rattle.std.proofs.Common.{◌≡◌, ℕ, ◌+◌, ◌<◌, ◌≤◌, List, [], ◌∷◌, ◌++◌, map, length, sym, subst, ap, ◌∙◌, arith}
use Rattle.std.proofs.lemmas.List.{map-append}
use Rattle.std.proofs.lemmas.List.FromFn.{get_or-map-range_with_len}
use Rattle.bit_words.specs.declared.value.Value.{Value}
use Rattle.phase_core.specs.declared.model.Script.{Script}
use Rattle.register_table.specs.declared.table.Closed.{Closed}
use Rattle.register_table.specs.Shown.{closed_script}
use Rattle.ground_net.specs.declared.net.Net.{Net}
use Rattle.ground_net.specs.declared.net.CutPart.{CutPart}
use Rattle.ground_net.specs.Cycles.{NetState, Inputs}
use Rattle.ground_net.specs.Words.{state_words}
use Rattle.flat_code.specs.declared.code.Code.{Code}
use Rattle.partition_code.proofs.Parts.{word_below}
use Rattle.partition_code.specs.Codes.{AreOfOneCut, owner_in}
use Rattle.partition_code.proofs.Owners.{owner_of_sink}
use Rattle.partition_code.proofs.Placed.{words_counted}
use Rattle.crew_workers.specs.Scripts.{script_of, Outputs}
use Rattle.circuit_run.specs.NetRuns.{inputs_from}
use Rattle.crew_run.specs.Epochs.{Reaches, IsScriptFrom, IsEpochFrom, AreEpochsFrom}
use Rattle.crew_run.specs.Runs.{AreWordsOf, MatchGiven}
use Rattle.crew_run.proofs.Going.{inputs_shift, inputs_behind, reach_join, go_reaches}
use Rattle.crew_run.proofs.States.{stands_at}

-- the script of what a run advances by
module _ (codes : List Code) (cut : AreOfOneCut codes) (given : ℕ → Inputs) (rows : List (List Value)) (matched : MatchGiven cut.ordered.net given rows) (words : List ℕ) (t : NetState) (begins : AreWordsOf cut.ordered.net t words) where
  pub is_script : (outputs : List (List Value)) → Outputs (script_of codes words rows) codes rows outputs (length rows) → IsScriptFrom cut.ordered.net cut.watch t given cut.parts 0 (script_of codes words rows)
  is_script outputs out = record {
    workers = cut.codes_of.counted;
    owners = λ p i part e has.
        let counted : length words ≡ state_words cut.ordered.net = ap length begins.are ∙ words_counted cut.ordered.net t in
        let lt : i < length words = subst (λ n. i < n) (sym counted) (word_below cut.ordered.net has.sink i has.has) in
        let z : 0 + i ≡ i = omega arith in
        get_or-map-range_with_len (owner_in codes) 0 (length words) i i 0 lt z ∙ owner_of_sink codes cut i p part e has;
    words = λ c le.
        let at = stands_at codes cut given rows matched words t begins outputs out c le in
        let z : c ≡ 0 + c = omega arith in (
          at.state,
          record {
            reached = subst (λ n. Reaches cut.ordered.net t (inputs_from given 0 n) at.state) z (go_reaches cut.ordered.net cut.watch t at.state (inputs_from given 0 c) at.advances);
            are = at.at.are;
          },
        );
  }

module _ (net : Net) (watched : List ℕ) (s : NetState) (given : ℕ → Inputs) (parts : List CutPart) where
  -- it goes on from where the cycles before lead
  pub script_behind : (n : ℕ) (u : NetState) (script : Script) → Reaches net s (inputs_from given 0 n) u → IsScriptFrom net watched u (λ c. given (n + c)) parts 0 script → IsScriptFrom net watched s given parts n script
  script_behind n u script reached is = record {
    workers = is.workers;
    owners = is.owners;
    words = λ c le.
        let at = is.words c le in
        let z : n + 0 ≡ n = omega arith in
        let y : 0 + c ≡ c = omega arith in
        let shifted : inputs_from (λ k. given (n + k)) 0 (0 + c) ≡ inputs_from given n c = inputs_shift given n 0 (0 + c) ∙ (ap (λ a. inputs_from given a (0 + c)) z ∙ ap (inputs_from given n) y) in (
          at.0,
          record {
            reached = subst (λ i. Reaches net s i at.0) (inputs_behind given n c) (reach_join net s u at.0 (inputs_from given 0 n) (inputs_from given n c) reached (subst (λ i. Reaches net u i at.0) shifted at.1.reached));
            are = at.1.are;
          },
        );
  }

  -- one epoch more
  pub epochs_next : (first : ℕ) (scripts : List Script) (last : ℕ) (script : Script) → AreEpochsFrom net watched s given parts first scripts last → IsEpochFrom net watched s given parts last script
      → AreEpochsFrom net watched s given parts first (scripts ++ script ∷ []) (last + script.cycles)
  epochs_next first [] last script before it = (subst (λ n. IsEpochFrom net watched s given parts n script) (sym before) it, ap (λ n. n + script.cycles) before)
  epochs_next first (x ∷ scripts) last script before it = (before.0, epochs_next (first + x.cycles) scripts last script before.1 it)

  pub tables_next : (tables : List Closed) (n count : ℕ) (closed : Closed) → AreEpochsFrom net watched s given parts 0 (map closed_script tables) n → IsScriptFrom net watched s given parts n (closed_script closed)
      → (closed_script closed).cycles ≡ count → 1 ≤ count → count ≤ 1024 → AreEpochsFrom net watched s given parts 0 (map closed_script (tables ++ closed ∷ [])) (n + count)
  tables_next tables n count closed before is cycles least most =
      let script = closed_script closed in
      let epoch : IsEpochFrom net watched s given parts n script = record { is = is; some = subst (λ k. 1 ≤ k) (sym cycles) least; few = subst (λ k. k ≤ 1024) (sym cycles) most } in
      subst (λ ts. AreEpochsFrom net watched s given parts 0 ts (n + count)) (sym (map-append closed_script tables (closed ∷ [])))
      (subst (λ k. AreEpochsFrom net watched s given parts 0 (map closed_script tables ++ script ∷ []) (n + k)) cycles (epochs_next 0 (map closed_script tables) n script before epoch))
