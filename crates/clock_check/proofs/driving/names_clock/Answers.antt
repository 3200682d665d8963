use Rattle.std.proofs.Common.{◌∙◌, ap, sym}
use Rattle.fir_meaning.specs.Certain.{may_name}
use Rattle.drive_check.specs.HeldTypes.{types_in}
use Rattle.clock_check.proofs.Reaching.{region_is, unclocked}
use Rattle.clock_check.proofs.driving.names_clock.Goals as goal

pub returns-in-Ref : goal.returns-in-Ref
returns-in-Ref c = λ leaf flip has none.
    ap (λ o. may_name flip o leaf) (region_is (types_in c.args.types.now) c.args.expr.now c.in-Ref.name c.in-Ref.field-1 c.in-Ref.is)
    ∙ unclocked (types_in c.args.types.now) c.in-Ref.name.id c.in-Ref.field-1 flip leaf has (sym c.clocked.ensures ∙ none)
