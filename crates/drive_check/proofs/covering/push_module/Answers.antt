use Rattle.std.proofs.Common.{rules, ◌∙◌, ap}
use Rattle.drive_check.specs.HeldTypes.{types_in}
use Rattle.drive_check.specs.Sites.{names_of}
use Rattle.drive_check.specs.Typing.{typed}
use Rattle.drive_check.proofs.Blocks.{on_ok}
use Rattle.drive_check.proofs.Naming.{module_told}
use Rattle.drive_check.proofs.covering.push_module.Goals as goal

pub returns : goal.returns
returns c = on_ok c.push_ports.result
    (λ h. module_told (types_in c.in_ok-types.types) (typed (names_of c.args.holder.now) c.args.declared.now) c.args.holder.now c.as_slice-2.result.now c.in_ok-certain.certain.keys.keys
    c.args.faults.now.items c.walk_block.new.faults.items c.push_ports.new.faults.items
    (λ id. c.in_ok-types.ensures id ∙ ap (λ names. typed names c.args.declared.now id) c.requires) (search rules) (search rules) h c.as_slice-2.ensures)
    c.push_ports.ensures
