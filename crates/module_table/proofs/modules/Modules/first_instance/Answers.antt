use Rattle.std.proofs.Common.{rules, nat_eq, ◌≡◌, ◌∙◌, ap, option_map}
use Rattle.std.specs.Prelude.{Some, slice_get}
use Rattle.std.specs.List.{HoldsAt}
use Rattle.std.specs.Option.{option_copied}
use Rattle.std.specs.Map.{lookup}
use Rattle.type_index.specs.Sights.{table_of}
use Rattle.module_table.specs.Tables.{instance_typ, IsInstance}
use Rattle.module_table.proofs.Indexing.{got_at, instance_at, kept_at, each_got}
use Rattle.module_table.proofs.modules.Modules.first_instance.Goals as goal

pub returns-clause-typ : goal.returns-clause-typ
returns-clause-typ c =
    let all = c.args.self.now in
    let number = c.in_ok-number.number.now in
    let found : lookup (nat_eq c.args.name) all.numbers.entries ≡ Some number = search rules in
    let at : option_copied c.get-2.result ≡ slice_get all.instances.items number =
    got_at (λ x. x.now) (λ x. HoldsAt (λ y. x.now ≡ y) c.deref.result.now number) c.deref.result.now number c.get-2.result c.get-2.ensures.lookup.1 c.get-2.ensures.lookup.3
    ∙ ap (λ l. slice_get l number) c.deref.ensures.value in
    ap (option_map instance_typ) at
    ∙ instance_at all.all.now all.numbers.entries all.instances.items c.args.name number all.indexed all.bundled found

pub returns-clause-known : goal.returns-clause-known
returns-clause-known c =
    let all = c.args.self.now in
    let number = c.in_ok-number.number.now in
    let at : option_copied c.get-2.result ≡ slice_get all.instances.items number =
    got_at (λ x. x.now) (λ x. HoldsAt (λ y. x.now ≡ y) c.deref.result.now number) c.deref.result.now number c.get-2.result c.get-2.ensures.lookup.1 c.get-2.ensures.lookup.3
    ∙ ap (λ l. slice_get l number) c.deref.ensures.value in
    let right = IsInstance all.names.now (table_of all.classes) in
    each_got (λ x. x.now) (λ instance. ∥ right instance ∥₁) all.instances.items number c.get-2.result
    (λ instance e. kept_at right all.instances.items number instance all.known e) at
