-- What references and choices come to by their numbers.
use Rattle.std.proofs.Common.{◌≡◌, ℕ, Bool, List, [], ◌∷◌, ◌++◌, ◌<◌, ◌≤◌, map, zip, length, get_or, refl, sym, ap, ap₂, ◌∙◌, subst, arith}
use Rattle.std.specs.List.{list_any}
use Rattle.std.specs.Prelude.{flat_map}
use Rattle.prim_ops.specs.declared.widths.Width.{Width}
use Rattle.fir_types.specs.declared.name.Name.{Name}
use Rattle.fir_tree.specs.declared.expr.Expr.{Expr}
use Rattle.fir_tree.specs.declared.expr.Form.TheVariants as form
use Rattle.fir_tree.specs.declared.expr.Suffix.{Suffix}
use Rattle.width_rules.specs.Sources as sources
use Rattle.width_rules.specs.Sources.{Known, named, component, choice}
use Rattle.part_fits.specs.declared.choices.Seen.{Seen}
use Rattle.part_fits.specs.Widths.{is_over, wider_of}
use Rattle.part_fits.specs.Seen.{IsSeen, IsSeenAt, IsPart}
use Rattle.width_fit.specs.declared.fault.WidthFault.{WidthFault}
use Rattle.width_fit.specs.declared.fault.WidthFault.TheVariants.{WidthOver}
use Rattle.width_fit.specs.declared.found.Findings.{Findings}
use Rattle.width_fit.specs.declared.found.Surveyed.{Surveyed}
use Rattle.width_fit.specs.Judging.{Survey, survey, widths_of, where_, choice_faults}
use Rattle.width_fit.specs.Surveys.{kept, all_surveys, index_surveys, reference_survey, choice_survey, condition_over, Adds, AddsAll, AddsBelow}
use Rattle.width_fit.specs.Looks.{IsSurveyed}
use Rattle.width_fit.proofs.Formulas.{chosen_is}
use Rattle.width_fit.proofs.Surveys.{survey-reference, survey-mux, reference_is, reference_below, conditions_is, adds_one, adds_both, below_from}

-- by what is kept of a survey
abbrev KeptAt : List Seen → ℕ → Surveyed → Type 0
KeptAt all number k = IsSeenAt all number k.part.typ k.widths

pub reference_seen : (ws : List Width) (e : Expr) (name : Name) (ss given : List Suffix) (known : Known) (all : List Seen) (number : ℕ) → e.form ≡ form.Ref name ss → given ≡ ss
    → IsPart ws all number (named (map sources.suffix_step given) (component known name.id)) → IsSurveyed ws all (survey ws e known) number
reference_seen ws e name ss given known all number is same h =
    subst (λ s. IsSurveyed ws all s number) (sym (survey-reference ws e name ss given known is same))
    (subst (KeptAt all number) (reference_is ws known e.place name.id given) h)

pub reference_adds : (ws : List Width) (e : Expr) (name : Name) (ss given : List Suffix) (known : Known) (over : Bool) (a b c : Findings) → e.form ≡ form.Ref name ss → given ≡ ss
    → over ≡ list_any is_over (widths_of ws (survey ws e known).measured) → AddsAll (flat_map (index_surveys ws known) given) a b → c.nodes.items ≡ b.nodes.items
    → c.faults.items ≡ b.faults.items ++ where_ over (WidthOver e.place) → AddsBelow ws (survey ws e known) a c
reference_adds ws e name ss given known over a b c is same high h nodes faults =
    let s = reference_survey ws known e.place name.id given in
    let the : survey ws e known ≡ s = survey-reference ws e name ss given known is same in
    subst (λ x. AddsBelow ws x a c) (sym the)
    (reference_below ws known e.place name.id given a b c (kept ws s) h nodes refl
    (faults ∙ ap (λ o. b.faults.items ++ where_ o (WidthOver e.place)) (high ∙ ap (λ (x : Survey). list_any is_over (widths_of ws x.measured)) the)))

-- a list of three
pub three_items : (es : List Expr) (x y z : Expr) → 3 ≤ length es → length es < 4 → x ≡ get_or es 0 x → y ≡ get_or es 1 y → z ≡ get_or es 2 z → es ≡ x ∷ y ∷ z ∷ []
three_items [] x y z some few e f g = absurd (omega (arith, some))
three_items (a ∷ []) x y z some few e f g = absurd (omega (arith, some))
three_items (a ∷ b ∷ []) x y z some few e f g = absurd (omega (arith, some))
three_items (a ∷ b ∷ d ∷ []) x y z some few e f g = ap₂ (λ p l. p ∷ l) (sym e) (ap₂ (λ q r. q ∷ r ∷ []) (sym f) (sym g))
three_items (a ∷ b ∷ d ∷ k ∷ es) x y z some few e f g = absurd (omega (arith, few))

choice-survey : (ws : List Width) (e condition first second : Expr) (es given : List Expr) (known : Known) → e.form ≡ form.Mux es → given ≡ es → given ≡ condition ∷ first ∷ second ∷ []
    → survey ws e known ≡ choice_survey ws e.place (survey ws condition known ∷ survey ws first known ∷ survey ws second known ∷ [])
choice-survey ws e condition first second es given known is same three =
    survey-mux ws e es known is ∙ ap (λ l. choice_survey ws e.place (all_surveys ws known l)) (sym same ∙ three)

pub choice_seen : (ws : List Width) (e condition first second : Expr) (es given : List Expr) (known : Known) (all : List Seen) (number : ℕ) → e.form ≡ form.Mux es → given ≡ es → given ≡ condition ∷ first ∷ second ∷ []
    → IsSeenAt all number (survey ws first known).measured.part.typ (map wider_of (zip (widths_of ws (survey ws first known).measured) (widths_of ws (survey ws second known).measured)))
    → IsSurveyed ws all (survey ws e known) number
choice_seen ws e condition first second es given known all number is same three h =
    subst (λ s. IsSurveyed ws all s number) (sym (choice-survey ws e condition first second es given known is same three))
    (subst (KeptAt all number) (chosen_is ws e.place (survey ws condition known ∷ survey ws first known ∷ survey ws second known ∷ [])) h)

pub choice_adds : (ws : List Width) (e condition first second : Expr) (es given : List Expr) (known : Known) (over : Bool) (asked : Surveyed) (widths : List Width) (told : List WidthFault) (a b c d f : Findings)
    → e.form ≡ form.Mux es → given ≡ es → given ≡ condition ∷ first ∷ second ∷ [] → over ≡ list_any is_over (widths_of ws (survey ws e known).measured)
    → asked ≡ kept ws (survey ws condition known) → widths ≡ asked.widths → Adds (survey ws condition known) a b → Adds (survey ws first known) b c → Adds (survey ws second known) c d
    → f.nodes.items ≡ d.nodes.items → told ≡ d.faults.items ++ where_ over (WidthOver e.place) → f.faults.items ≡ told ++ condition_over asked.place widths
    → AddsBelow ws (survey ws e known) a f
choice_adds ws e condition first second es given known over asked widths told a b c d f is same three high held w one two last nodes t faults =
    let x = survey ws condition known in
    let y = survey ws first known in
    let z = survey ws second known in
    let ss = x ∷ y ∷ z ∷ [] in
    let m = choice (map (λ (s : Survey). s.measured) ss) in
    let the : survey ws e known ≡ choice_survey ws e.place ss = choice-survey ws e condition first second es given known is same three in
    let own : condition_over asked.place widths ≡ choice_faults ws ss
    = ap (condition_over asked.place) w ∙ ap (λ (k : Surveyed). condition_over k.place k.widths) held ∙ conditions_is ws ss in
    let wide : where_ over (WidthOver e.place) ≡ where_ (list_any is_over (widths_of ws m)) (WidthOver e.place)
    = ap (λ o. where_ o (WidthOver e.place)) (high ∙ ap (λ (s : Survey). list_any is_over (widths_of ws s.measured)) the) in
    subst (λ s. AddsBelow ws s a f) (sym the)
    (below_from ws e.place m (choice_faults ws ss) ss (adds_both (x ∷ []) (y ∷ z ∷ []) (adds_one x one) (adds_both (y ∷ []) (z ∷ []) (adds_one y two) (adds_one z last))) nodes
    (faults ∙ ap₂ (λ l o. l ++ o) (t ∙ ap (λ o. d.faults.items ++ o) wide) own))

pub anew_seen : (ws : List Width) (s : Survey) (held : Surveyed) (one : Seen) → held ≡ kept ws s → IsSeen held.part.typ held.widths one → IsSeen s.measured.part.typ (widths_of ws s.measured) one
anew_seen ws s held one is h = subst (λ (k : Surveyed). IsSeen k.part.typ k.widths one) is h
