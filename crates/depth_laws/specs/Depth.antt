-- Lists that go nowhere too deep, and modules of a text that could be written so.
use Rattle.std.specs.Prelude.{ℕ, ◌≤◌, List}
use Rattle.fir_layout.specs.declared.laid.Laid.{Laid}
use Rattle.fir_layout.specs.Pieces.{pieces_of}
use Rattle.fir_grammar.specs.Faults.{IsDeepAt, most}
use Rattle.item_lines.specs.declared.line.LineModule.{LineModule}
use Rattle.depth_laws.specs.Blocks.{text_blocks}
use Rattle.depth_laws.specs.Brackets.{text_brackets}
use Rattle.depth_laws.specs.Suffixes.{text_suffixes}

-- No piece of the list goes too deep.
abbrev pub IsNowhereDeep : List ℕ → List Laid → Type 0
IsNowhereDeep text list = (k : ℕ) → ¬ (IsDeepAt (pieces_of text list) k)

-- No more blocks and no more brackets are around one another, and no reference or type has more suffixes, than there may be.
pub record IsShallowTree (modules : List LineModule) : Type 0 where
  pub blocks : text_blocks modules ≤ most
  pub brackets : text_brackets modules ≤ most
  pub suffixes : text_suffixes modules ≤ most
