-- A list goes nowhere too deep exactly where the tree that it spells doesn't.
use Rattle.std.proofs.Common.{ℕ, List}
use Rattle.std.specs.Prelude.{◌↔◌}
use Rattle.fir_layout.specs.declared.laid.Laid.{Laid}
use Rattle.fir_layout.specs.Layout.{IsLaidOut}
use Rattle.fir_layout.specs.Pieces.{pieces_of}
use Rattle.fir_types.specs.declared.name.Name.{Name}
use Rattle.item_lines.specs.declared.line.LineModule.{LineModule}
use Rattle.fir_grammar.specs.Grammar.{IsSpelled}
use Rattle.depth_laws.specs.Depth.{IsNowhereDeep, IsShallowTree}
use Rattle.depth_laws.specs.EmptyBlocks.{IsEmptyBlockAt}
use Rattle.depth_laws.proofs.Shallow.{never_deep}
use Rattle.depth_laws.proofs.Solid.{Solid, laid_out_solid}
use Rattle.depth_laws.proofs.Filled.{filled_solid, solid_filled}
use Rattle.depth_laws.proofs.Led.{all_shallow}
use Rattle.depth_laws.proofs.Few.{shallow_tree}

module _ (text : List ℕ) (list : List Laid) (major : ℕ) (main : Name) (modules : List LineModule) (names : List (List ℕ)) where
  solid_exactly : Solid list → IsSpelled text list major main modules names → IsNowhereDeep text list ↔ IsShallowTree modules
  solid_exactly solid is = (
    (λ h. shallow_tree text list major main modules names is h),
    (λ h. never_deep (pieces_of text list) (all_shallow major text is.spelled solid (h.blocks, (h.brackets, h.suffixes)))),
  )

  pub shallow_exactly : IsLaidOut text list → IsSpelled text list major main modules names → IsNowhereDeep text list ↔ IsShallowTree modules
  shallow_exactly laid is = solid_exactly (laid_out_solid laid) is

  pub filled_exactly : ((k : ℕ) → ¬ (IsEmptyBlockAt list k)) → IsSpelled text list major main modules names → IsNowhereDeep text list ↔ IsShallowTree modules
  filled_exactly filled is = solid_exactly (filled_solid list filled) is

pub never_empty : (text : List ℕ) (list : List Laid) → IsLaidOut text list → (k : ℕ) → ¬ (IsEmptyBlockAt list k)
never_empty text list laid k = solid_filled list (laid_out_solid laid) k
