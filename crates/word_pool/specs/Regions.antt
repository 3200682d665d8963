-- Regions: one block of words.
use Rattle.std.specs.Prelude.{ℕ, List}
use Rattle.word_pool.specs.declared.region.Region.{Region}

-- the words of the block
abbrev pub words_of : Region → List ℕ
words_of region = region.words.items
