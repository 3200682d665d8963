use Rattle.std.proofs.Common.{◌∙◌, ap}
use Rattle.drive_check.specs.HeldTypes.{types_in}
use Rattle.drive_check.specs.Sites.{names_of}
use Rattle.drive_check.specs.Typing.{typed}
use Rattle.one_clock.proofs.Tabling.{keeps}
use Rattle.one_clock.proofs.table.keep.Goals as goal

pub returns : goal.returns
returns c =
    keeps (types_in c.in_ok-types.types) (typed (names_of c.args.holder.now) c.args.declared.now) c.args.holder.now c.args.table.now.entries c.insert.new.self.entries c.in_ok-clocks.clocks
    (λ id. c.in_ok-types.ensures id ∙ ap (λ names. typed names c.args.declared.now id) c.requires) c.in_ok-clocks.ensures c.in_ok-insert.ensures.entries
