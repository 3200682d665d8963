-- One orientation of the leaves that an expression names.
use Rattle.std.specs.Prelude.{◌≡◌, List, []}
use Rattle.std.specs.Prelude.{Bool}
use Rattle.fir_types.specs.declared.fir_type.FirType.{FirType}
use Rattle.fir_types.specs.declared.name.Name.{Name}
use Rattle.fir_tree.specs.declared.expr.Expr.{Expr}
use Rattle.fir_tree.specs.declared.expr.Suffix.{Suffix}
use Rattle.fir_tree.specs.declared.expr.Form.{Form}
use Rattle.fir_tree.specs.declared.expr.Form.TheOpen.{Form-F}
use Rattle.fir_tree.specs.declared.expr.Form.TheViews.{out-Form}
use Rattle.ground_net.specs.declared.circuit.GroundStmt.{GroundStmt}
use Rattle.ground_exprs.specs.declared.part.Part.{Part}
use Rattle.ground_exprs.specs.declared.source.Source.{Source}
use Rattle.ground_exprs.specs.Sources.{Entries, Leads}
use Rattle.ground_statements.specs.Targets.{IsSide}

-- A reference leads to a part, whose leaves of one orientation are set.
pub record IsSet (entries : Entries) (settable : List Bool) (flip : Bool) (name : Name) (suffixes : List Suffix) (sources : List Source) (made : List GroundStmt) : Type 0 where
  pub typ : FirType
  pub part : Part
  pub leads : Leads entries name.id suffixes typ part
  pub side : IsSide settable flip typ part sources made

abbrev pub SetsForm : Entries → List Bool → Bool → Form-F Form Suffix Expr → List Source → List GroundStmt → Type 0
SetsForm entries settable flip (Form-F.Ref name suffixes) sources made = IsSet entries settable flip name suffixes sources made
SetsForm entries settable flip _ sources made = made ≡ []

-- The leaves of one orientation of what an expression names are set to these sources; an expression that is no reference names none.
abbrev pub IsHalf : Entries → List Bool → Bool → Expr → List Source → List GroundStmt → Type 0
IsHalf entries settable flip target sources made = SetsForm entries settable flip (out-Form target.form) sources made
