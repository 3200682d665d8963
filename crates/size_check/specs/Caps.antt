-- Numbers as the bodies hold them: 2^128 - 1 stands for all from there on.
pub use Rattle.fir_tree.specs.Caps.{cap}
use Rattle.size_check.specs.declared.sums.Sums.{Sums}
use Rattle.size_check.specs.declared.sums.Total.{Total}

abbrev pub capped : Sums → Sums
capped a = record { size = cap a.size; leaves = cap a.leaves; names = cap a.names; bytes = cap a.bytes; words = cap a.words }

abbrev pub capped_total : Total → Total
capped_total a = record { sums = capped a.sums; depth = cap a.depth }
