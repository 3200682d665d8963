-- The references among the nodes of a circuit, and the flows that they are judged to have (FIRRTL specification 3.0, "Flows",
-- "References").
use Rattle.std.specs.Prelude.{◌≡◌, Bool, true, false, List, filter}
use Rattle.fir_tree.specs.declared.expr.Expr.{Expr}
use Rattle.fir_tree.specs.declared.expr.Form.{Form}
use Rattle.fir_tree.specs.declared.expr.Suffix.{Suffix}
use Rattle.fir_tree.specs.declared.expr.Form.TheOpen.{Form-F}
use Rattle.fir_tree.specs.declared.expr.Form.TheViews.{out-Form}
use Rattle.fir_tree.specs.declared.part.Flow.{Flow}
use Rattle.fir_tree.specs.declared.part.Part.{Part}
use Rattle.check_laws.specs.Typing.{IsPart}
use Rattle.check_laws.specs.CircuitNodes.{Node}

abbrev pub is_reference_form : Form-F Form Suffix Expr → Bool
is_reference_form (Form-F.Ref name suffixes) = true
is_reference_form _ = false

-- whether an expression is a reference
abbrev pub is_reference : Expr → Bool
is_reference e = is_reference_form (out-Form e.form)

-- the references among nodes, in the order of the nodes
abbrev pub references_in : List Node → List Node
references_in nodes = filter (λ node. is_reference node.e) nodes

-- A node is judged to be a part with this flow, among the components that are known where it stands.
pub record IsJudged (node : Node) (flow : Flow) : Type 0 where
  pub part : Part
  pub is : IsPart node.known node.e part
  pub has : part.flow ≡ flow
