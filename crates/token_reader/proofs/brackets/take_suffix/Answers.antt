use Rattle.token_reader.proofs.Sources.{source_part}
use Rattle.token_reader.proofs.Suffixes.{suffix_many}
use Rattle.token_reader.proofs.brackets.take_suffix.Goals as goal

pub place_of_part-requires-clause-inside : goal.place_of_part-requires-clause-inside
place_of_part-requires-clause-inside c = source_part c.args.text.now c.args.laid.now c.args.at c.in_ok-part.part c.requires.source c.in_ok-part.ensures.here

pub place_of_part-requires-then-brackets-ge-MOST-clause-inside : goal.place_of_part-requires-then-brackets-ge-MOST-clause-inside
place_of_part-requires-then-brackets-ge-MOST-clause-inside c = source_part c.args.text.now c.args.laid.now c.args.at c.in_ok-part.part c.requires.source c.in_ok-part.ensures.here

pub returns-then-suffixes-ge-MOST-clause-taken : goal.returns-then-suffixes-ge-MOST-clause-taken
returns-then-suffixes-ge-MOST-clause-taken c =
    rw c.place_of_part.ensures (suffix_many c.args.mark c.args.brackets c.args.suffixes c.args.text.now c.args.laid.now c.args.at c.in_ok-part.part c.requires.stands c.requires.counted c.in_ok-part.ensures.here
    c.in_ok-part.ensures.takes c.requires.suffix c.if-suffixes-ge-MOST.true)
