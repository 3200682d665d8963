use Rattle.std.proofs.Common.{◌≡◌, rules, refl, sym, ap, ap₂, ◌∙◌, subst, map, true, nat_eq}
use Rattle.std.specs.Prelude.{is_some, Some, None}
use Rattle.std.specs.Map.{lookup}
use Rattle.width_rules.specs.Sources.{component, named, suffix_step}
use Rattle.width_rules.specs.declared.component.Component.{Component}
use Rattle.part_fits.specs.Widths.{slot_width}
use Rattle.part_fits.specs.Seen.{part_at, IsPart, same_reference}
use Rattle.part_fits.proofs.Ordering.{references_found, references_after}
use Rattle.part_fits.proofs.Seeing.{held_reference, part_seen}
use Rattle.part_fits.proofs.choices.Choices.of_reference.Goals as goal

pub returns-in-Some-clause-seen : goal.returns-in-Some-clause-seen
returns-in-Some-clause-seen c =
    let ws = c.args.among.now.widths.now in
    let known = c.args.among.now.known.now.entries in
    let same : part_at known c.in_ok-key.key ≡ named (map suffix_step c.args.suffixes.now) (component known c.args.name)
    = ap₂ (λ name steps. named steps (component known name)) c.in_ok-key.ensures.name c.in_ok-key.ensures.steps in
    let found : lookup (same_reference c.in_ok-key.key) c.args.self.now.references.entries ≡ Some c.in-Some.number.now
    = sym (references_found c.in_ok-key.key c.args.self.now.references.entries) ∙ (search rules) in
    subst (IsPart ws c.args.self.now.seen.items c.in-Some.number.now) same (c.requires.references c.in_ok-key.key c.in-Some.number.now found)

pub returns-else-is_some-clause-seen : goal.returns-else-is_some-clause-seen
returns-else-is_some-clause-seen c =
    let ws = c.args.among.now.widths.now in
    let known = c.args.among.now.known.now.entries in
    c.in_ok-number.ensures.seen _ _
    (part_seen ws (named (map suffix_step c.args.suffixes.now) (component known c.args.name)) c.in_ok-typ.typ c.in_ok-typ.widths c.in_ok-new.field-0
    c.in_ok-typ.ensures.typ c.in_ok-typ.ensures.widths c.in_ok-new.ensures)

pub returns-in_ok-insert-clause-seen : goal.returns-in_ok-insert-clause-seen
returns-in_ok-insert-clause-seen c =
    let ws = c.args.among.now.widths.now in
    let known = c.args.among.now.known.now.entries in
    c.in_ok-number.ensures.seen _ _
    (part_seen ws (named (map suffix_step c.args.suffixes.now) (component known c.args.name)) c.in_ok-typ.typ c.in_ok-typ.widths c.in_ok-new.field-0
    c.in_ok-typ.ensures.typ c.in_ok-typ.ensures.widths c.in_ok-new.ensures)

pub returns-in_ok-insert-clause-held : goal.returns-in_ok-insert-clause-held
returns-in_ok-insert-clause-held c =
    let ws = c.args.among.now.widths.now in
    let known = c.args.among.now.known.now.entries in
    let key = c.in_ok-key.key in
    let same : part_at known key ≡ named (map suffix_step c.args.suffixes.now) (component known c.args.name)
    = ap₂ (λ name steps. named steps (component known name)) c.in_ok-key.ensures.name c.in_ok-key.ensures.steps in
    let is : is_some (lookup (nat_eq c.args.name) known) ≡ true = search rules in
    held_reference ws known c.push.new.self _ key c.in_ok-number.number (references_after key c.in_ok-number.number c.push.new.self.references.entries _ c.in_ok-insert.ensures.updates.0) refl refl
    (ap (λ name. is_some (lookup (nat_eq name) known)) c.in_ok-key.ensures.name ∙ is)
    (c.in_ok-number.ensures.seen _ _
    (part_seen ws (part_at known key) c.in_ok-typ.typ c.in_ok-typ.widths c.in_ok-new.field-0
    (c.in_ok-typ.ensures.typ ∙ ap (λ (s : Component). s.part.typ) (sym same)) (c.in_ok-typ.ensures.widths ∙ ap (λ (s : Component). map (slot_width ws) s.slots) (sym same)) c.in_ok-new.ensures))
    (c.in_ok-number.ensures.held ws known c.requires)
