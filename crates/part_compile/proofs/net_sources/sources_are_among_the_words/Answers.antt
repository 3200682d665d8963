use Rattle.part_compile.proofs.Among.{among}
use Rattle.part_compile.proofs.net_sources.sources_are_among_the_words.Goals as goal

pub returns : goal.returns
returns c = λ net S d w of counted. among net w d counted S of
