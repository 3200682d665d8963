use Rattle.std.proofs.Common.{refl, sym, subst}
use Rattle.partition_code.specs.Codes.{AreCodesOf}
use Rattle.circuit_run.proofs.Traces.{first_within}
use Rattle.crew_run.proofs.run.Run.start_cut.Goals as goal

pub first_words-requires : goal.first_words-requires
first_words-requires c =
    record { codes = (c.args.watch.now, c.args.cut.now.parts, c.requires.some, subst (AreCodesOf c.args.ordered.now.net c.args.watch.now c.args.cut.now.parts) (sym c.as_slice.ensures) c.in_ok-codes.ensures.codes) }

pub returns-clause-run : goal.returns-clause-run
returns-clause-run c = record {
  of = refl;
  net = c.requires.may.net;
  order = c.requires.may.order;
  split = c.requires.split;
  some = c.requires.some;
  few = c.requires.few;
  codes_of = c.in_ok-codes.ensures.codes;
  at = record { within = first_within c.args.ordered.now.net; are = c.in_ok-words.ensures };
}
