use Rattle.std.proofs.Common.{sym, subst}
use Rattle.code_draft.specs.Drafts.{Makes}
use Rattle.code_emit.specs.Ways.{IsMade}
use Rattle.code_emit.proofs.There.{some_so}
use Rattle.code_emit.specs.Nested.{nested_value}
use Rattle.code_emit.proofs.Shaped.{ok_so}
use Rattle.code_emit.proofs.Arms.{ok_both}
use Rattle.code_emit.proofs.Nesting.{nested_lowest, some_both}
use Rattle.code_emit.proofs.nested.lowest.Goals as goal

pub returns-clause-makes : goal.returns-clause-makes
returns-clause-makes c =
    let p = c.args.inner.prim in
    let qs = c.args.inner.params.now in
    let o = c.args.outer.prim in
    let ps = c.args.outer.params.now in
    let ss = c.args.locations.now in
    let m = c.nested_measure-measure.result in
    let V = nested_value p qs o ps in
    let least = nested_lowest p qs o ps ss m.kind m.width (c.takes_lowest.ensures c.if-not-takes_lowest.false) c.nested_measure-measure.ensures in
    ok_so c.lowest_word.result (ok_both _ _ c.lowest_word.result c.lowest_word.ensures.shape c.lowest_word.ensures.makes) (λ found h.
    some_so found (some_both _ _ found h.0 h.1) (λ s k is there. subst (λ t. Makes c.args.draft.now c.lowest_word.new.draft s (IsMade V ss t)) (sym k.0) (k.1 V qs least is there)))
