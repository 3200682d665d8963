use Rattle.std.proofs.Common.{◌≡◌, ℕ, List, Option, map, Bor, ◌∙◌, ap}
use Rattle.std.specs.List.{position_from}
use Rattle.std.specs.Str.{bytes_eq}
use Rattle.std.specs.BTreeMap.{get_by}
use Rattle.std.specs.Cmp.Lexicographic.{slice_cmp}
use Rattle.std.specs.Ordering.{nat_cmp}
use Rattle.circuit_texts.specs.NetNames.{is_named}
use Rattle.circuit_texts.proofs.Named.{ok_some, ok_none, all_found, one_missing}
use Rattle.circuit_texts.proofs.naming.named.Goals as goal

pub returns-clause-found : goal.returns-clause-found
returns-clause-found c =
    let net = c.args.net.now in
    let names = map (λ n. n.now) c.args.names.now in
    let get : List ℕ → Option ℕ = λ name. get_by {K = Bor (List ℕ)} (λ k. slice_cmp nat_cmp name k.now) c.in_ok-firsts.firsts in
    let gives : (name : List ℕ) → get name ≡ position_from (is_named name) 0 net.leaves = λ name. c.in_ok-firsts.ensures name ∙ ap (position_from (is_named name) 0) c.as_slice.ensures in
    ok_some c.numbers_of.result c.numbers_of.ensures.some (all_found net names get gives)

pub returns-clause-none : goal.returns-clause-none
returns-clause-none c =
    let net = c.args.net.now in
    let names = map (λ n. n.now) c.args.names.now in
    let get : List ℕ → Option ℕ = λ name. get_by {K = Bor (List ℕ)} (λ k. slice_cmp nat_cmp name k.now) c.in_ok-firsts.firsts in
    let gives : (name : List ℕ) → get name ≡ position_from (is_named name) 0 net.leaves = λ name. c.in_ok-firsts.ensures name ∙ ap (position_from (is_named name) 0) c.as_slice.ensures in
    ok_none c.numbers_of.result c.numbers_of.ensures.none (one_missing net names get gives)
