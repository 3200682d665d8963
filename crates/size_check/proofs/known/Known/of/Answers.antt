use Rattle.std.proofs.Common.{rules, nat_eq, ◌≡◌, ◌∙◌, sym}
use Rattle.std.specs.Prelude.{Some, None}
use Rattle.std.specs.Map.{lookup}
use Rattle.size_check.proofs.Kept.{kept_found, part_measured}
use Rattle.size_check.proofs.known.Known.of.Goals as goal

pub returns-in-Some-clause-typ : goal.returns-in-Some-clause-typ
returns-in-Some-clause-typ c =
    let found : lookup (nat_eq c.args.id) c.args.self.now.types.entries ≡ Some c.in-Some.component.now = search rules in
    c.known.ensures.typ ∙ sym (kept_found c.args.self.now.types.entries c.args.id (Some c.in-Some.component.now) found)

pub returns-in-Some-clause-ways : goal.returns-in-Some-clause-ways
returns-in-Some-clause-ways c = λ texts all.
    let found : lookup (nat_eq c.args.id) c.args.self.now.types.entries ≡ Some c.in-Some.component.now = search rules in
    rw (c.known.ensures.typ, c.known.ensures.index) (part_measured texts c.args.self.now.types.entries c.args.id c.in-Some.component.now found all)

pub returns-in-None-clause-typ : goal.returns-in-None-clause-typ
returns-in-None-clause-typ c =
    let found : lookup (nat_eq c.args.id) c.args.self.now.types.entries ≡ None = search rules in
    c.known-in-None.ensures.typ ∙ c.args.self.now.is_none ∙ sym (kept_found c.args.self.now.types.entries c.args.id None found)

pub returns-in-None-clause-ways : goal.returns-in-None-clause-ways
returns-in-None-clause-ways c = λ texts all. rw (c.known-in-None.ensures.typ, c.known-in-None.ensures.index) (c.args.self.now.none_ways texts)
