-- What a list that goes nowhere too deep says of its tree.
use Rattle.std.proofs.Common.{ℕ, List, []}
use Rattle.fir_layout.specs.declared.laid.Laid.{Laid}
use Rattle.fir_layout.specs.Pieces.{pieces_of}
use Rattle.fir_types.specs.declared.name.Name.{Name}
use Rattle.item_lines.specs.declared.line.LineModule.{LineModule}
use Rattle.fir_grammar.specs.Grammar.{IsSpelled}
use Rattle.depth_laws.specs.Depth.{IsNowhereDeep, IsShallowTree}
use Rattle.depth_laws.proofs.Shallow.{shallow_from}
use Rattle.depth_laws.proofs.Walks.{all_within}

pub shallow_tree : (text : List ℕ) (list : List Laid) (major : ℕ) (main : Name) (modules : List LineModule) (names : List (List ℕ)) → IsSpelled text list major main modules names
    → IsNowhereDeep text list → IsShallowTree modules
shallow_tree text list major main modules names is h =
    let within = all_within major text is.spelled (shallow_from [] (pieces_of text list) h) in
    record { blocks = within.0; brackets = within.1.0; suffixes = within.1.1 }
