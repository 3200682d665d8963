-- The codes of a run are all codes of one cut, and may run.
use Rattle.std.proofs.Common.{ℕ, ◌*◌, ◌^◌, ◌<◌, List, length, sym, subst, ap, ◌∙◌}
use Rattle.bit_words.specs.declared.value.Value.{Value}
use Rattle.ground_net.specs.declared.net.Ordered.{Ordered}
use Rattle.ground_net.specs.declared.net.CutPart.{CutPart}
use Rattle.ground_net.specs.Cycles.{NetState, Inputs}
use Rattle.partition_code.specs.Codes.{AreWords, AreOfOneCut}
use Rattle.partition_code.proofs.Placed.{words_counted, words_plain}
use Rattle.crew_workers.specs.Scripts.{Runs}
use Rattle.crew_run.specs.declared.run.Run.{Run}
use Rattle.crew_run.specs.Runs.{IsRun, MatchGiven}

module _ (ordered : Ordered) (watched : List ℕ) (parts : List CutPart) (t : NetState) (run : Run) (is : IsRun ordered watched parts t run) where
  abbrev pub one_cut : AreOfOneCut run.codes
  one_cut = record {
    ordered = ordered;
    watch = watched;
    parts = parts;
    net = is.net;
    order = is.order;
    split = is.split;
    some = is.some;
    few = is.few;
    codes_of = is.codes_of;
  }

  pub may_run : (given : ℕ → Inputs) (rows : List (List Value)) → MatchGiven run.ordered.now.net given rows → 2 * length rows * length run.codes < 2 ^ 64 → Runs run.codes run.words rows
  may_run given rows matched fits = record {
    may = record {
      cut = one_cut;
      plain = subst AreWords (sym is.at.are) (words_plain ordered.net t);
      counted = ap length is.at.are ∙ words_counted ordered.net t;
      matched = λ c row e. (given c, (subst (λ (o : Ordered). MatchGiven o.net given rows) is.of matched).each c row e);
    };
    fits = fits;
  }
