use Rattle.std.proofs.Common.{ℕ, List, map}
use Rattle.circuit_texts.proofs.Named.{ok_some, ok_none, numbers_within}
use Rattle.circuit_texts.proofs.Flat.{no_leaf, all_named}
use Rattle.circuit_texts.proofs.naming.variables.Goals as goal

pub returns-clause-leaves : goal.returns-clause-leaves
returns-clause-leaves c =
    let names : List (List ℕ) = map (λ n. n.now) c.args.names.now in
    ok_some c.named.result c.named.ensures.found (numbers_within c.args.ordered.now.net names)

pub returns-clause-unknown : goal.returns-clause-unknown
returns-clause-unknown c = λ texts design serves.
    let names : List (List ℕ) = map (λ n. n.now) c.args.names.now in
    ok_none c.named.result c.named.ensures.none (no_leaf texts design c.args.ordered.now.net serves names)

pub returns-clause-known : goal.returns-clause-known
returns-clause-known c = λ texts design serves.
    let names : List (List ℕ) = map (λ n. n.now) c.args.names.now in
    ok_some c.named.result c.named.ensures.found (λ numbers are. all_named texts design c.args.ordered.now.net serves names numbers are)
