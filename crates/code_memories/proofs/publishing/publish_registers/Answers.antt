use Rattle.std.proofs.Common.{ℕ, map, flat_map, take, get_or, [], ◌∷◌, sym, subst}
use Rattle.std.proofs.lemmas.List.{take_all}
use Rattle.ground_net.specs.Cones.{A_register}
use Rattle.code_emit.specs.Spans.{EvaluatesAll}
use Rattle.code_emit.proofs.Spanning.{none_evaluated}
use Rattle.code_memories.specs.Telling.{PublishesSinks}
use Rattle.code_memories.specs.SinkGroups.{register_groups}
use Rattle.code_memories.proofs.NextWords.{none_told, sinks_more, sinks_then}
use Rattle.code_memories.proofs.RegisterEvaluating.{registers_evaluated}
use Rattle.code_memories.proofs.publishing.publish_registers.Goals as goal

pub loop-both-init : goal.loop-both-init
loop-both-init c =
    let net = c.args.net.now in
    let S = c.args.sources.now in
    let d = c.args.draft.now in
    record {
      publishes = λ is srcs have. none_told net S d is srcs;
      evaluates = none_evaluated S d;
    }

pub loop-both-preserved : goal.loop-both-preserved
loop-both-preserved c =
    let net = c.args.net.now in
    let S = c.args.sources.now in
    let xs = c.args.registers.now in
    let k = c.loop-both.both-index in
    record {
      publishes = subst (λ ys. PublishesSinks net S ys c.args.draft.now c.publish_register.new.draft) (sym (sinks_more xs k (0, 0) c.loop-both-test.true))
          (sinks_then net S (map (λ (both : ℕ × ℕ). A_register both.0) (take k xs)) (A_register (get_or xs k (0, 0)).0 ∷ []) c.args.draft.now c.loop-both.draft c.publish_register.new.draft
          c.loop-both.invariant.publishes c.in_ok-publish_register.ensures.publishes);
      evaluates = registers_evaluated net S xs k c.args.draft.now c.loop-both.draft c.publish_register.new.draft c.loop-both-test.true c.loop-both.invariant.evaluates c.in_ok-publish_register.ensures.evaluates;
    }

pub returns-clause-publishes : goal.returns-clause-publishes
returns-clause-publishes c =
    let net = c.args.net.now in
    let S = c.args.sources.now in
    let xs = c.args.registers.now in
    subst (λ ys. PublishesSinks net S (map (λ (both : ℕ × ℕ). A_register both.0) ys) c.args.draft.now c.loop-both.draft) (take_all c.loop-both.both-index xs c.loop-both-test.false) c.loop-both.invariant.publishes

pub returns-clause-evaluates : goal.returns-clause-evaluates
returns-clause-evaluates c =
    let net = c.args.net.now in
    let S = c.args.sources.now in
    let xs = c.args.registers.now in
    subst (λ ys. EvaluatesAll S (flat_map (λ (both : ℕ × ℕ). register_groups net both.0) ys) c.args.draft.now c.loop-both.draft) (take_all c.loop-both.both-index xs c.loop-both-test.false) c.loop-both.invariant.evaluates
