use Rattle.std.proofs.Common.{List, map, take}
use Rattle.prim_ops.specs.declared.widths.Width.{Width}
use Rattle.width_rules.specs.declared.component.Component.{Component}
use Rattle.width_rules.specs.Sources.{named, suffix_step}
use Rattle.part_fits.specs.Fits.{StandsBeside}
use Rattle.part_fits.proofs.fits.walk_beside.Given as goal

abbrev pub invariant-loop-suffix : goal.invariant-loop-suffix
invariant-loop-suffix l = (ws : List Width) (sized : Component) → StandsBeside ws sized l.fn.whole.known.typ.now l.fn.whole.fitted.now
    → StandsBeside ws (named (map suffix_step (take l.suffix-index l.suffixes)) sized) l.part.known.typ.now l.part.fitted.now
