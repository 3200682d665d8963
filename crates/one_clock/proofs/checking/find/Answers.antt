use Rattle.std.proofs.Common.{◌∙◌, ap, subst}
use Rattle.std.specs.List.{flat_map}
use Rattle.std.proofs.lemmas.Result.{IfOk-weaker}
use Rattle.fir_meaning.specs.Components.{design_of}
use Rattle.clock_check.specs.Flats.{is_within}
use Rattle.one_clock.specs.Chains.{root_in, Finds}
use Rattle.one_clock.specs.Judged.{place_faults}
use Rattle.one_clock.proofs.Faulting.{Laws, judged}
use Rattle.one_clock.proofs.checking.find.Goals as goal

pub returns : goal.returns
returns c =
    let fitted = c.args.fitted.now in
    let table = c.in_ok-table.table.entries in
    let keys = c.in_ok-rooted.rooted.keys.keys in
    let laws : Laws fitted = record {
      known = c.reached_modules_stand_at_paths.ensures.typed fitted c.requires;
      named = c.components_are_named.ensures fitted c.requires.names;
      meant = c.modules_are_named.ensures.meant fitted;
      targets = c.instances_are_those_of_components.ensures fitted c.requires;
      edges = c.edges_are_links.ensures fitted c.requires;
      at = c.links_stand_at_paths.ensures.at (design_of fitted);
      from = c.links_stand_at_paths.ensures.from (design_of fitted);
      searches = c.searches_find_what_is_rooted.ensures (design_of fitted);
      hung = c.faults_hang.ensures fitted c.requires;
    } in
    IfOk-weaker c.faults_of.result _ _
    (λ faults e. judged fitted c.requires laws table c.in_ok-table.ensures c.in_ok-places.places.items (rw c.get.ensures at c.in_ok-places.ensures) keys
    (subst (λ places. Finds table places (root_in table fitted.checked.resolved.main.id) keys) c.as_slice.ensures.value (rw c.get.ensures at c.in_ok-rooted.ensures)) faults.items
    (e ∙ ap (flat_map (place_faults table (is_within keys))) c.as_slice-2.ensures.value))
    c.faults_of.ensures
