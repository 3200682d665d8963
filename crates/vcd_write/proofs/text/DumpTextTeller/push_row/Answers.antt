use Rattle.std.proofs.Common.{subst}
use Rattle.std.specs.Prelude.{IfSome, option_copied}
use Rattle.std.specs.List.{AllZip}
use Rattle.vcd_write.specs.Reading.{IsOfLeaf}
use Rattle.vcd_write.proofs.Parted.{same_shapes}
use Rattle.vcd_write.proofs.text.DumpTextTeller.push_row.Goals as goal

pub push_cycle-requires : goal.push_cycle-requires
push_cycle-requires c = λ old is. same_shapes c.args.self.now.vars.now old.now c.args.row.now (subst (λ o. IfSome (option_copied o) (AllZip IsOfLeaf c.args.self.now.vars.now)) is c.requires.before) c.requires.row
