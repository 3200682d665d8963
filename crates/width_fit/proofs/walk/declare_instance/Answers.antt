use Rattle.std.proofs.Common.{◌≡◌, rules, refl, sym, subst}
use Rattle.std.proofs.lemmas.Result.{on_ok_weaker}
use Rattle.width_rules.specs.Sources.{component}
use Rattle.part_fits.specs.Fits.{Fits}
use Rattle.width_fit.specs.Walks.{solved}
use Rattle.width_fit.proofs.Declaring.{instance_walks}
use Rattle.width_fit.proofs.walk.declare_instance.Goals as goal

pub returns-clause-walks : goal.returns-clause-walks
returns-clause-walks c =
    let all = solved c.args.given.now in
    let instances = c.args.given.now.instances.components.entries in
    let is : c.in_ok-instance.instance ≡ component instances c.args.target.id = search rules in
    let copied : c.in_ok-copy.field-0 ≡ c.in_ok-fit.fit.typ = search rules in
    let over = c.in_ok-fit.fit.is_over in
    on_ok_weaker c.declare.result
    (instance_walks all instances c.args.name c.args.target c.in_ok-instance.instance c.in_ok-copy.field-0 over c.args.walk.now _ is
    (subst (λ t. Fits all.widths (component instances c.args.target.id) t over) (sym copied) c.in_ok-fit.ensures) refl c.in_ok-push.ensures.items refl refl)
    c.declare.ensures.known

pub returns-clause-fits : goal.returns-clause-fits
returns-clause-fits c =
    let ws = c.args.given.now.widths.now in
    let instances = c.args.given.now.instances.components.entries in
    let is : c.in_ok-instance.instance ≡ component instances c.args.target.id = search rules in
    c.declare.ensures.fits ws c.args.walk.now.choices (subst (λ k. Fits ws k c.in_ok-fit.fit.typ c.in_ok-fit.fit.is_over) (sym is) c.in_ok-fit.ensures) c.requires
