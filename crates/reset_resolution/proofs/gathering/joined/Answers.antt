use Rattle.std.proofs.Common.{◌≡◌, ap, ◌∙◌, take, arith, List}
use Rattle.std.proofs.lemmas.Grind.{common_steps}
use Rattle.std.specs.List.{flat_map}
use Rattle.reset_search.specs.declared.spot.Spot.{Spot}
use Rattle.reset_resolution.proofs.gathering.joined.Goals as goal

pub returns : goal.returns
returns c =
    let all : take c.loop-own.own-index c.args.ports.now ≡ c.args.ports.now = grind (arith, common_steps) in
    c.loop-own.invariant ∙ ap (flat_map (λ (own : List Spot). own)) all
