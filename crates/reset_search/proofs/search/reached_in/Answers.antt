use Rattle.std.proofs.lemmas.Result.{IfOk-weaker}
use Rattle.std.proofs.Common.{◌≡◌, ap, subst, sym, ◌∙◌}
use Rattle.std.specs.Prelude.{IfOk, ◌↔◌, true}
use Rattle.reset_search.specs.Rows.{number, holds, Way, AreRows}
use Rattle.reset_search.proofs.Searching.{ways_are}
use Rattle.reset_search.proofs.search.reached_in.Goals as goal

pub returns : goal.returns
returns c =
    let rows : AreRows c.args.feeds.now.feeds c.in_ok-rows.rows.rows.entries = subst (λ fs. AreRows fs c.in_ok-rows.rows.rows.entries) c.as_slice.ensures c.in_ok-rows.ensures in
    IfOk-weaker c.search.result _ _
    (λ found is p.
    let w = ways_are c.args.feeds.now c.in_ok-rows.rows.rows.entries rows p in
    let both = subst (λ starts. (holds found.keys.keys (number p) ≡ true) ↔ Way c.in_ok-rows.rows.rows.entries starts (number p)) c.as_slice-2.ensures (is (number p)) in
    (λ e. w.0 (both.0 e), λ r. both.1 (w.1 r)))
    c.search.ensures
