use Rattle.width_rules.proofs.Targets.{reference_has_none, mux_has_none}
use Rattle.width_rules.proofs.measuring.may_have_target.Goals as goal

pub returns-in-Ref : goal.returns-in-Ref
returns-in-Ref c =
    let told = rw c.as_slice.ensures at c.varies.ensures in
    λ e. reference_has_none c.args.expr.now c.in-Ref.name c.in-Ref.suffixes c.args.known.now.entries c.in-Ref.is (told e)

pub returns-in-Mux : goal.returns-in-Mux
returns-in-Mux c = λ e. mux_has_none c.args.expr.now c.in-Mux.field-0 c.args.known.now.entries c.in-Mux.is
