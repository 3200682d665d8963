use Rattle.std.proofs.Common.{sym, subst}
use Rattle.ground_net.specs.declared.ground.Ground.TheVariants.{Leaf}
use Rattle.ground_exprs.specs.Parts.{IsRead}
use Rattle.ground_exprs.proofs.Selections.{read_leaf, read_indexed, no_picks}
use Rattle.ground_exprs.proofs.reading.read.Goals as goal

pub returns-then-is_empty : goal.returns-then-is_empty
returns-then-is_empty c = subst (λ ps. IsRead ps c.args.leaf (Leaf c.args.leaf)) (sym (no_picks c.args.picks.now c.if-is_empty.ensures)) (read_leaf c.args.leaf)

pub returns : goal.returns
returns c = subst (IsRead c.args.picks.now c.args.leaf) (sym c.in_ok-found.ensures) (read_indexed c.args.picks.now c.args.leaf)
