use Rattle.std.proofs.Common.{rules, ◌≡◌, ap, ◌∙◌, nat_eq}
use Rattle.std.specs.Prelude.{Some, None}
use Rattle.std.specs.Map.{lookup}
use Rattle.module_table.specs.Components.{Environment}
use Rattle.module_table.proofs.Noting.{found_part}
use Rattle.module_table.proofs.components.Components.get.Goals as goal

pub returns : goal.returns
returns c =
    let found : lookup (nat_eq c.args.name) c.self.inside.noted.entries ≡ Some c.in_ok-noted.noted.now = search rules in
    found_part c.self.inside.noted.entries c.args.name (Some c.in_ok-noted.noted.now) found
    ∙ ap (λ (among : Environment). lookup (nat_eq c.args.name) among.parts) c.self.view_is

pub returns-in_err-noted : goal.returns-in_err-noted
returns-in_err-noted c =
    let none : lookup (nat_eq c.args.name) c.self.inside.noted.entries ≡ None = search rules in
    rw c.from_residual.ensures (found_part c.self.inside.noted.entries c.args.name None none
    ∙ ap (λ (among : Environment). lookup (nat_eq c.args.name) among.parts) c.self.view_is)
