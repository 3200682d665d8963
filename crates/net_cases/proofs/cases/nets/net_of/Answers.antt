use Rattle.std.proofs.Common.{arith, sym, subst, ap, ◌∙◌, ◌+◌, length}
use Rattle.std.proofs.lemmas.List.{length_push}
use Rattle.ground_net.specs.declared.net.Net.{Net}
use Rattle.base_cases.proofs.Reading.{AllBelow, mentions, more}
use Rattle.net_cases.proofs.cases.nets.net_of.Goals as goal

pub loop-index-preserved : goal.loop-index-preserved
loop-index-preserved c = record {
  count = ap length c.in_ok-push.ensures.ok ∙ (length_push c.loop-index.leaves c.in_ok-leaf.leaf ∙ ap (λ n. n + 1) c.loop-index.invariant.count);
  below = subst (AllBelow _) (sym c.in_ok-push-2.ensures.ok)
      (more _ c.loop-index.drivers c.in_ok-driver.driver c.loop-index.invariant.below c.in_ok-driver.ensures);
}

pub returns-clause-mentions : goal.returns-clause-mentions
returns-clause-mentions c =
    let net : Net = record { ports = c.args.ports; leaves = c.loop-index.leaves; drivers = c.loop-index.drivers; registers = c.in_ok-registers.registers; memories = c.new.result } in
    mentions net _ (omega (arith, c.loop-index.invariant.count, c.loop-index-test.false, c.loop-index.auto.index-end)) c.loop-index.invariant.below
