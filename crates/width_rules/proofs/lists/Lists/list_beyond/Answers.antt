use Rattle.std.proofs.Common.{◌≡◌, ◌<◌, ◌≤◌, rules, leb, length, ap, ◌∙◌, arith}
use Rattle.std.proofs.lemmas.List.Sorted.{IsPartitionPoint-from_clause}
use Rattle.width_rules.specs.Lists.{ends_behind}
use Rattle.width_rules.proofs.Ends.{list_found, none_found, ends_parted, as_many_ends}
use Rattle.width_rules.proofs.lists.Lists.list_beyond.Goals as goal

pub bounds-ends-number : goal.bounds-ends-number
bounds-ends-number c =
    let ends : c.as_slice-ends.result.now ≡ ends_behind 0 c.args.self.now = c.as_slice-ends.ensures ∙ c.self.invariant ∙ ap (ends_behind 0) c.self.view_is in
    let within : c.partition_point-number.result < length c.args.self.now = search rules in
    omega (arith, within, as_many_ends c.args.self.now c.as_slice-ends.result.now ends)

pub returns-in_err-own-clause-none : goal.returns-in_err-own-clause-none
returns-in_err-own-clause-none c =
    let ends : c.as_slice-ends.result.now ≡ ends_behind 0 c.args.self.now = c.as_slice-ends.ensures ∙ c.self.invariant ∙ ap (ends_behind 0) c.self.view_is in
    let all : length c.args.self.now ≤ c.partition_point-number.result = search rules in
    λ none. none_found c.args.self.now c.as_slice-ends.result.now ends c.args.start c.partition_point-number.result
    (IsPartitionPoint-from_clause (λ n. leb n c.args.start) c.as_slice-ends.result.now c.partition_point-number.result c.partition_point-number.ensures.partitioned
    (ends_parted c.args.self.now c.as_slice-ends.result.now ends c.args.start) (λ a r f' k. search rules))
    c.partition_point-number.ensures.bound all

pub returns-clause-some : goal.returns-clause-some
returns-clause-some c =
    let ends : c.as_slice-ends.result.now ≡ ends_behind 0 c.args.self.now = c.as_slice-ends.ensures ∙ c.self.invariant ∙ ap (ends_behind 0) c.self.view_is in
    let within : c.partition_point-number.result < length c.args.self.now = search rules in
    list_found c.args.self.now c.as_slice-ends.result.now ends c.args.start c.partition_point-number.result c.as_slice-2.result.now _
    (IsPartitionPoint-from_clause (λ n. leb n c.args.start) c.as_slice-ends.result.now c.partition_point-number.result c.partition_point-number.ensures.partitioned
    (ends_parted c.args.self.now c.as_slice-ends.result.now ends c.args.start) (λ a r f' k. search rules))
    c.partition_point-number.ensures.bound within (search rules) (search rules)
