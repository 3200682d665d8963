use Rattle.std.proofs.Common.{◌≡◌, ◌++◌, take}
use Rattle.std.specs.List.{flat_map}
use Rattle.fir_names.specs.Extents.{references, suffix_references}
use Rattle.fir_names.proofs.references.+references.Given as goal

abbrev pub invariant-push_all-loop-expr : goal.invariant-push_all-loop-expr
invariant-push_all-loop-expr l = l.names.items ≡ l.fn.names.items ++ flat_map references (take l.expr-index l.exprs)

abbrev pub invariant-push_suffixes-loop-suffix : goal.invariant-push_suffixes-loop-suffix
invariant-push_suffixes-loop-suffix l = l.names.items ≡ l.fn.names.items ++ flat_map suffix_references (take l.suffix-index l.suffixes)
