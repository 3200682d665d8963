use Rattle.std.proofs.Common.{◌≡◌, take}
use Rattle.reset_search.proofs.copies.+copy.Given as goal

abbrev pub invariant-copy_exprs-loop-expr : goal.invariant-copy_exprs-loop-expr
invariant-copy_exprs-loop-expr l = l.copied ≡ take l.expr-index l.exprs

abbrev pub invariant-copy_suffixes-loop-suffix : goal.invariant-copy_suffixes-loop-suffix
invariant-copy_suffixes-loop-suffix l = l.copied ≡ take l.suffix-index l.suffixes
