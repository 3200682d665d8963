use Rattle.fir_names.proofs.Heads.{back_where}
use Rattle.fir_names.proofs.loops.leads_back.Goals as goal

pub returns-then-parts : goal.returns-then-parts
returns-then-parts c =
    back_where c.args.from c.args.edge (c.requires.parts c.if-parts.true) c.requires.from c.requires.within c.requires.edge _ _
    (rw c.as_slice-heads.ensures.value at c.at.ensures) (rw c.as_slice-heads.ensures.value at c.at-then-parts.ensures)
