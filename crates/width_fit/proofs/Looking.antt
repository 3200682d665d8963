-- References that take the fitted type of their component's part.
use Rattle.std.proofs.Common.{◌≡◌, ◌+◌, Bool, List, [], ◌∷◌, ◌++◌, map, length, sym, ap, ap₂, ◌∙◌, arith, append_assoc, append-nil}
use Rattle.std.specs.List.{list_any}
use Rattle.std.specs.Prelude.{flat_map}
use Rattle.prim_ops.specs.declared.widths.Width.{Width}
use Rattle.fir_types.specs.declared.fir_type.FirType.{FirType}
use Rattle.fir_types.specs.declared.name.Name.{Name}
use Rattle.fir_tree.specs.declared.expr.Expr.{Expr}
use Rattle.fir_tree.specs.declared.expr.Suffix.{Suffix}
use Rattle.fir_tree.specs.declared.expr.Form.TheVariants as form
use Rattle.width_rules.specs.Sources as sources
use Rattle.width_rules.specs.Sources.{component, named}
use Rattle.width_fit.specs.declared.fault.WidthFault.TheVariants.{WidthOver}
use Rattle.width_fit.specs.declared.found.Findings.{Findings}
use Rattle.width_fit.specs.declared.found.Surveyed.{Surveyed}
use Rattle.width_fit.specs.declared.walk.Walk.{Walk}
use Rattle.type_filling.specs.Filling.{filled}
use Rattle.part_fits.specs.Fits.{Fits}
use Rattle.width_fit.specs.Judging.{Survey, survey, is_over, where_, looks_at, widths_of}
use Rattle.width_fit.specs.Surveys.{reference_survey, index_surveys, AddsAll}
use Rattle.width_fit.specs.Walks.{Walks}
use Rattle.width_fit.proofs.Surveys.{survey-reference, reference_is}

-- what a walk adds that looks at an expression
pub looks_walks : (ws : List Width) (e : Expr) (s : Survey) (a b : Walk) → survey ws e a.known.entries ≡ s → b.known.entries ≡ a.known.entries → b.places.items ≡ a.places.items → b.declared.items ≡ a.declared.items
    → b.found.nodes.items ≡ a.found.nodes.items ++ s.nodes → b.found.faults.items ≡ a.found.faults.items ++ s.faults → Walks (looks_at ws e) a b
looks_walks ws e s a b is k p d n f = record {
  known = k;
  count = ap length p ∙ (let c : length a.places.items ≡ length a.places.items + 0 = omega arith in c);
  declared = d ∙ sym (append-nil _);
  nodes = n ∙ ap (λ (s : Survey). a.found.nodes.items ++ s.nodes) (sym is);
  faults = f ∙ ap (λ (s : Survey). a.found.faults.items ++ s.faults) (sym is);
}

-- a reference, by the fitted type of the part that it names
pub part_walks : (ws : List Width) (e : Expr) (name : Name) (ss given : List Suffix) (typ : FirType) (over : Bool) (before mid : Findings) (a b : Walk) → e.form ≡ form.Ref name ss → given ≡ ss
    → Fits ws (named (map sources.suffix_step given) (component a.known.entries name.id)) typ over → before.nodes.items ≡ a.found.nodes.items ++ typ ∷ [] → before.faults.items ≡ a.found.faults.items
    → AddsAll (flat_map (index_surveys ws a.known.entries) given) before mid → b.known.entries ≡ a.known.entries → b.places.items ≡ a.places.items → b.declared.items ≡ a.declared.items
    → b.found.nodes.items ≡ mid.nodes.items → b.found.faults.items ≡ mid.faults.items ++ where_ over (WidthOver e.place) → Walks (looks_at ws e) a b
part_walks ws e name ss given typ over before mid a b is same fit pushed kept adds k p d n f =
    let known = a.known.entries in
    let s = reference_survey ws known e.place name.id given in
    let all = flat_map (index_surveys ws known) given in
    let below = flat_map (λ (s : Survey). s.nodes) all in
    let told = flat_map (λ (s : Survey). s.faults) all in
    let there' = reference_is ws known e.place name.id given in
    let own : typ ≡ filled s.measured.part.typ (widths_of ws s.measured) = fit.typ_is ∙ ap (λ (k : Surveyed). filled k.part.typ k.widths) there' in
    let high : where_ over (WidthOver e.place) ≡ where_ (list_any is_over (widths_of ws s.measured)) (WidthOver e.place)
    = ap (λ o. where_ o (WidthOver e.place)) (fit.over_is ∙ ap (λ (k : Surveyed). list_any is_over k.widths) there') in
    looks_walks ws e s a b (survey-reference ws e name ss given known is same) k p d
    (n ∙ adds.nodes ∙ ap (λ l. l ++ below) pushed ∙ append_assoc a.found.nodes.items (typ ∷ []) below ∙ ap (λ t. a.found.nodes.items ++ t ∷ below) own)
    (f ∙ ap₂ (λ l o. l ++ o) (adds.faults ∙ ap (λ l. l ++ told) kept) high ∙ append_assoc a.found.faults.items told _
    ∙ ap (λ o. a.found.faults.items ++ (told ++ o)) (sym (append-nil _)))
