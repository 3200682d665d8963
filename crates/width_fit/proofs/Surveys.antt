-- The survey of each form of an expression, and one survey behind another.
use Rattle.std.proofs.Common.{◌≡◌, ℕ, ◌+◌, ◌<◌, List, [], ◌∷◌, ◌++◌, map, length, take, drop, get_or, refl, sym, ap, ap₂, ◌∙◌, arith, append_assoc, append-nil, subst, Option}
use Rattle.std.specs.Prelude.{flat_map, slice_set}
use Rattle.std.proofs.Math.Seq.{set-append_seam}
use Rattle.std.proofs.lemmas.Grind.{common_steps}
use Rattle.std.proofs.lemmas.List.{map-append, take_more}
use Rattle.std.proofs.lemmas.List.Concat.{flat_map-append}
use Rattle.std.proofs.lemmas.List.Folds.{flat_map-map}
use Rattle.std.proofs.lemmas.Simd.{map-map}
use Rattle.bit_words.specs.declared.value.Kind.{Kind as Sign}
use Rattle.bit_words.specs.declared.number.Number.{Number}
use Rattle.bit_words.specs.Numbers.{integer_of_number}
use Rattle.place_text.specs.declared.place.Place.{Place}
use Rattle.prim_ops.specs.declared.operation.PrimOp.{PrimOp}
use Rattle.prim_ops.specs.declared.widths.Width.{Width}
use Rattle.prim_ops.specs.Widths.{bounded}
use Rattle.fir_types.specs.declared.fir_type.FirType.{FirType}
use Rattle.fir_types.specs.declared.name.Name.{Name}
use Rattle.fir_tree.specs.declared.expr.Expr.{Expr, the_lemmas}
use Rattle.fir_tree.specs.declared.expr.Form.{Form}
use Rattle.fir_tree.specs.declared.expr.Form.TheVariants as form
use Rattle.fir_tree.specs.declared.expr.Form.TheOpen.{Suffix-F}
use Rattle.fir_tree.specs.declared.expr.Form.TheViews.{out-Suffix}
use Rattle.fir_tree.specs.declared.expr.Suffix.{Suffix}
use Rattle.fir_tree.specs.Parts.{source_of}
use Rattle.fir_tree.specs.Kinds.{no_type, ground}
use Rattle.width_rules.specs.Sources as sources
use Rattle.width_rules.specs.Sources.{Known, Measured, named, component, measured_reference, literal_bits, operation, choice}
use Rattle.width_fit.specs.declared.fault.WidthFault.{WidthFault}
use Rattle.width_fit.specs.declared.found.Findings.{Findings}
use Rattle.width_fit.specs.declared.found.Surveyed.{Surveyed}
use Rattle.type_filling.specs.Filling.{filled}
use Rattle.width_fit.specs.Judging.{Survey, survey, surveyed, suffix_step, widths_of, measured_literal, parameter_faults, choice_faults}
use Rattle.width_fit.specs.Surveys.{kept, all_surveys, index_surveys, reference_survey, literal_survey, operation_survey, choice_survey, reference_kept, over_faults, parameters_over, first_condition, operated, chosen, kept_kind, kept_width, Adds, AddsAll, AddsBelow}
use Rattle.width_rules.proofs.Capped.{width-capped}
use Rattle.width_fit.proofs.Formulas.{reference-widths, lone-kept, operated_is, chosen_is}

-- Forms

pub survey-reference : (ws : List Width) (e : Expr) (name : Name) (ss given : List Suffix) (known : Known) → e.form ≡ form.Ref name ss → given ≡ ss
    → survey ws e known ≡ reference_survey ws known e.place name.id given
survey-reference ws e name ss given known is same =
    the e.form is ∙ ap (reference_survey ws known e.place name.id) (sym same)
  where
    the : (f : Form) → e.form ≡ form.Ref name ss → survey ws e known ≡ reference_survey ws known e.place name.id ss
    the f h = grind (arith, common_steps, the_lemmas, map-map, flat_map-map)

pub survey-literal : (ws : List Width) (e : Expr) (kind : Sign) (width : Option ℕ) (number : Number) (known : Known) → e.form ≡ form.Literal kind width number
    → survey ws e known ≡ literal_survey ws kind width number e.place
survey-literal ws e kind width number known is = grind (arith, common_steps, the_lemmas)

survey-prim : (ws : List Width) (e : Expr) (prim : PrimOp) (es : List Expr) (params : List ℕ) (known : Known) → e.form ≡ form.Prim prim es params
    → survey ws e known ≡ operation_survey ws prim e.place params (all_surveys ws known es)
survey-prim ws e prim es params known is = grind (arith, common_steps, the_lemmas, map-map)

pub survey-mux : (ws : List Width) (e : Expr) (es : List Expr) (known : Known) → e.form ≡ form.Mux es
    → survey ws e known ≡ choice_survey ws e.place (all_surveys ws known es)
survey-mux ws e es known is = grind (arith, common_steps, the_lemmas, map-map)

-- Steps

step_by : (ws : List Width) (s : Suffix) (y : Suffix-F Form Suffix Expr) → out-Suffix s ≡ y → (suffix_step ws s).to ≡ sources.suffix_step s
step_by ws s (Suffix-F.Field name) is = grind (arith, common_steps, the_lemmas)
step_by ws s (Suffix-F.At bracket at n) is = grind (arith, common_steps, the_lemmas)
step_by ws s (Suffix-F.Index bracket index) is = grind (arith, common_steps, the_lemmas)

pub same_steps : (ws : List Width) (ss : List Suffix) → map sources.suffix_step ss ≡ map (λ s. (suffix_step ws s).to) ss
same_steps ws [] = refl
same_steps ws (s ∷ ss) = ap₂ (λ x xs. x ∷ xs) (sym (step_by ws s (out-Suffix s) refl)) (same_steps ws ss)

pub reference_is : (ws : List Width) (known : Known) (place : Place) (name : ℕ) (ss : List Suffix)
    → reference_kept ws place (named (map sources.suffix_step ss) (component known name)) ≡ kept ws (reference_survey ws known place name ss)
reference_is ws known place name ss =
    let steps = map (λ s. (suffix_step ws s).to) ss in
    ap (λ l. reference_kept ws place (named l (component known name))) (same_steps ws ss)
    ∙ ap (λ l. record { place = place; part = (named steps (component known name)).part; widths = l }) (sym (reference-widths ws (named steps (component known name))))

-- What is added

pub adds_none : (a b : Findings) → b.nodes.items ≡ a.nodes.items → b.faults.items ≡ a.faults.items → AddsAll [] a b
adds_none a b nodes faults = record { nodes = nodes ∙ sym (append-nil _); faults = faults ∙ sym (append-nil _) }

pub adds_both : (xs ys : List Survey) {a b c : Findings} → AddsAll xs a b → AddsAll ys b c → AddsAll (xs ++ ys) a c
adds_both xs ys {a} h k = record {
  nodes = k.nodes ∙ ap (λ l. l ++ flat_map (λ (s : Survey). s.nodes) ys) h.nodes ∙ append_assoc a.nodes.items _ _
      ∙ ap (λ l. a.nodes.items ++ l) (sym (flat_map-append (λ (s : Survey). s.nodes) xs ys));
  faults = k.faults ∙ ap (λ l. l ++ flat_map (λ (s : Survey). s.faults) ys) h.faults ∙ append_assoc a.faults.items _ _
      ∙ ap (λ l. a.faults.items ++ l) (sym (flat_map-append (λ (s : Survey). s.faults) xs ys));
}

pub adds_one : (s : Survey) {a b : Findings} → Adds s a b → AddsAll (s ∷ []) a b
adds_one s {a} h = record { nodes = h.nodes ∙ ap (λ l. a.nodes.items ++ l) (sym (append-nil s.nodes)); faults = h.faults ∙ ap (λ l. a.faults.items ++ l) (sym (append-nil s.faults)) }

pub map_more : {X Y : Type 0} (f : X → Y) (xs : List X) (i : ℕ) (x : X) → i < length xs → x ≡ get_or xs i x → map f (take (i + 1) xs) ≡ map f (take i xs) ++ f x ∷ []
map_more f xs i x lt is = ap (map f) (take_more xs i x lt) ∙ map-append f (take i xs) (get_or xs i x ∷ []) ∙ ap (λ y. map f (take i xs) ++ f y ∷ []) (sym is)

flat_more : {X Y : Type 0} (f : X → List Y) (xs : List X) (i : ℕ) (x : X) → i < length xs → x ≡ get_or xs i x → flat_map f (take (i + 1) xs) ≡ flat_map f (take i xs) ++ f x
flat_more f xs i x lt is = grind (arith, common_steps)

pub adds_more : (ws : List Width) (known : Known) (es : List Expr) (i : ℕ) (e : Expr) {a b c : Findings} → i < length es → e ≡ get_or es i e
    → AddsAll (all_surveys ws known (take i es)) a b → Adds (survey ws e known) b c → AddsAll (all_surveys ws known (take (i + 1) es)) a c
adds_more ws known es i e {a} {b} {c} lt is h k =
    subst (λ l. AddsAll l a c) (sym (map_more (λ x. survey ws x known) es i e lt is)) (adds_both (all_surveys ws known (take i es)) (survey ws e known ∷ []) h (adds_one (survey ws e known) k))

pub kept_more : (ws : List Width) (known : Known) (es : List Expr) (i : ℕ) (e : Expr) (held more : List Surveyed) (one : Surveyed) → i < length es → e ≡ get_or es i e
    → held ≡ map (kept ws) (all_surveys ws known (take i es)) → one ≡ kept ws (survey ws e known) → more ≡ held ++ one ∷ []
    → more ≡ map (kept ws) (all_surveys ws known (take (i + 1) es))
kept_more ws known es i e held more one lt is h o m =
    m ∙ ap₂ (λ l x. l ++ x ∷ []) h o ∙ sym (ap (map (kept ws)) (map_more (λ x. survey ws x known) es i e lt is) ∙ map-append (kept ws) (all_surveys ws known (take i es)) (survey ws e known ∷ []))

pub indexes_more : (ws : List Width) (known : Known) (ss : List Suffix) (i : ℕ) (s : Suffix) {a b c : Findings} → i < length ss → s ≡ get_or ss i s
    → AddsAll (flat_map (index_surveys ws known) (take i ss)) a b → AddsAll (index_surveys ws known s) b c → AddsAll (flat_map (index_surveys ws known) (take (i + 1) ss)) a c
indexes_more ws known ss i s {a} {b} {c} lt is h k =
    subst (λ l. AddsAll l a c) (sym (flat_more (index_surveys ws known) ss i s lt is)) (adds_both (flat_map (index_surveys ws known) (take i ss)) (index_surveys ws known s) h k)

-- the faults of a node itself, behind those of its operands
pub below_from : (ws : List Width) (place : Place) (m : Measured) (own : List WidthFault) (all : List Survey) {a b c : Findings} → AddsAll all a b
    → c.nodes.items ≡ b.nodes.items → c.faults.items ≡ (b.faults.items ++ over_faults place (widths_of ws m)) ++ own → AddsBelow ws (surveyed ws place m own all) a c
below_from ws place m own all {a} {b} {c} h nodes faults =
    let over = over_faults place (widths_of ws m) in
    record {
      own = refl;
      nodes = nodes ∙ h.nodes;
      faults = faults ∙ append_assoc b.faults.items over own ∙ ap (λ l. l ++ (over ++ own)) h.faults ∙ append_assoc a.faults.items (flat_map (λ (s : Survey). s.faults) all) (over ++ own);
    }

-- the type of the node is put before those below it
pub adds_filled : (ws : List Width) (s : Survey) (place : Place) (at : ℕ) (fitted : FirType) (kept' : Surveyed) (a b c d : Findings) → at ≡ length a.nodes.items
    → b.nodes.items ≡ a.nodes.items ++ no_type place ∷ [] → b.faults.items ≡ a.faults.items → AddsBelow ws s b c → kept' ≡ kept ws s
    → fitted ≡ filled kept'.part.typ kept'.widths → d.nodes.items ≡ slice_set c.nodes.items at fitted → d.faults.items ≡ c.faults.items → Adds s a d
adds_filled ws s place at fitted kept' a b c d at_end pushed same h is fit nodes faults =
    let before = a.nodes.items in
    let below = drop 1 s.nodes in
    let there' = h.nodes ∙ ap (λ l. l ++ below) pushed ∙ append_assoc before (no_type place ∷ []) below in
    let fits : fitted ≡ filled s.measured.part.typ (widths_of ws s.measured) = fit ∙ ap (λ k. filled k.part.typ k.widths) is in
    record {
      nodes = nodes ∙ ap₂ (λ l n. slice_set l n fitted) there' at_end ∙ set-append_seam before (no_type place) below fitted
          ∙ ap (λ t. before ++ t ∷ below) fits ∙ ap (λ l. before ++ l) (sym h.own);
      faults = faults ∙ h.faults ∙ ap (λ l. l ++ s.faults) same;
    }

-- Operations and choices over what is kept of their operands

parameters_is : (ws : List Width) (prim : PrimOp) (place : Place) (params : List ℕ) (all : List Survey)
    → parameters_over prim place params (map kept_width (map (kept ws) all)) ≡ parameter_faults ws prim place params all
parameters_is ws prim place params [] = refl
parameters_is ws prim place params (s ∷ []) = ap (λ w. parameters_over prim place params (w ∷ [])) (lone-kept ws s)
parameters_is ws prim place params (s ∷ t ∷ all) = refl

pub conditions_is : (ws : List Width) (all : List Survey) → first_condition (map (kept ws) all) ≡ choice_faults ws all
conditions_is ws [] = refl
conditions_is ws (s ∷ all) = ap (λ w. first_condition (record { place = s.place; part = s.measured.part; widths = w ∷ [] } ∷ [])) (lone-kept ws s)

pub prim_is : (ws : List Width) (e : Expr) (prim : PrimOp) (es : List Expr) (params given : List ℕ) (known : Known) (held : List Surveyed) → e.form ≡ form.Prim prim es params → given ≡ params
    → held ≡ map (kept ws) (all_surveys ws known es) → operated prim e.place (map kept_kind held) (map kept_width held) given ≡ kept ws (survey ws e known)
prim_is ws e prim es params given known held is same holds =
    let all = all_surveys ws known es in
    ap₂ (λ h p. operated prim e.place (map kept_kind h) (map kept_width h) p) holds same
    ∙ operated_is ws prim e.place params all (operation prim e.place (map (λ (s : Survey). s.measured) all) params) refl
    ∙ ap (kept ws) (sym (survey-prim ws e prim es params known is))

pub prim_adds : (ws : List Width) (e : Expr) (prim : PrimOp) (es : List Expr) (params given : List ℕ) (known : Known) (held : List Surveyed) (a b c : Findings) → e.form ≡ form.Prim prim es params → given ≡ params
    → held ≡ map (kept ws) (all_surveys ws known es) → AddsAll (all_surveys ws known es) a b → c.nodes.items ≡ b.nodes.items
    → c.faults.items ≡ (b.faults.items ++ over_faults e.place (operated prim e.place (map kept_kind held) (map kept_width held) given).widths) ++ parameters_over prim e.place given (map kept_width held)
    → AddsBelow ws (survey ws e known) a c
prim_adds ws e prim es params given known held a b c is same holds h nodes faults =
    let all = all_surveys ws known es in
    let m = operation prim e.place (map (λ (s : Survey). s.measured) all) params in
    let whole : operated prim e.place (map kept_kind held) (map kept_width held) given ≡ record { place = e.place; part = m.part; widths = widths_of ws m }
    = ap₂ (λ h p. operated prim e.place (map kept_kind h) (map kept_width h) p) holds same ∙ operated_is ws prim e.place params all m refl in
    let own : parameters_over prim e.place given (map kept_width held) ≡ parameter_faults ws prim e.place params all
    = ap₂ (λ h p. parameters_over prim e.place p (map kept_width h)) holds same ∙ parameters_is ws prim e.place params all in
    subst (λ s. AddsBelow ws s a c) (sym (survey-prim ws e prim es params known is))
    (below_from ws e.place m (parameter_faults ws prim e.place params all) all h nodes (faults ∙ ap₂ (λ k o. (b.faults.items ++ over_faults e.place k.widths) ++ o) whole own))

pub mux_is : (ws : List Width) (e : Expr) (es : List Expr) (known : Known) (held : List Surveyed) → e.form ≡ form.Mux es
    → held ≡ map (kept ws) (all_surveys ws known es) → chosen e.place held ≡ kept ws (survey ws e known)
mux_is ws e es known held is holds =
    ap (chosen e.place) holds ∙ chosen_is ws e.place (all_surveys ws known es) ∙ ap (kept ws) (sym (survey-mux ws e es known is))

pub mux_adds : (ws : List Width) (e : Expr) (es : List Expr) (known : Known) (held : List Surveyed) (a b c : Findings) → e.form ≡ form.Mux es
    → held ≡ map (kept ws) (all_surveys ws known es) → AddsAll (all_surveys ws known es) a b → c.nodes.items ≡ b.nodes.items
    → c.faults.items ≡ (b.faults.items ++ over_faults e.place (chosen e.place held).widths) ++ first_condition held → AddsBelow ws (survey ws e known) a c
mux_adds ws e es known held a b c is holds h nodes faults =
    let all = all_surveys ws known es in
    let m = choice (map (λ (s : Survey). s.measured) all) in
    subst (λ s. AddsBelow ws s a c) (sym (survey-mux ws e es known is))
    (below_from ws e.place m (choice_faults ws all) all h nodes
    (faults ∙ ap₂ (λ k o. (b.faults.items ++ over_faults e.place k.widths) ++ o) (ap (chosen e.place) holds ∙ chosen_is ws e.place all) (ap first_condition holds ∙ conditions_is ws all)))

-- Literals

pub literal_is : (ws : List Width) (kind : Sign) (width : Option ℕ) (number : Number) (place : Place) (bits : ℕ) (w : Width) → bits ≡ literal_bits kind (integer_of_number number) width → w ≡ bounded bits
    → record { place = place; part = source_of (ground place kind width); widths = w ∷ [] } ≡ kept ws (literal_survey ws kind width number place)
literal_is ws kind width number place bits w is bound =
    ap (λ v. record { place = place; part = source_of (ground place kind width); widths = v ∷ [] })
    (bound ∙ ap bounded is ∙ sym (width-capped (literal_bits kind (integer_of_number number) width) ws))

pub literal_adds : (ws : List Width) (kind : Sign) (width : Option ℕ) (number : Number) (place : Place) (bits : ℕ) (w : Width) (old new : List WidthFault)
    → bits ≡ literal_bits kind (integer_of_number number) width → w ≡ bounded bits → new ≡ old ++ over_faults place (w ∷ [])
    → new ≡ old ++ (literal_survey ws kind width number place).faults
literal_adds ws kind width number place bits w old new is bound h =
    h ∙ ap (λ k. old ++ over_faults place k.widths) (literal_is ws kind width number place bits w is bound)
    ∙ ap (λ l. old ++ l) (sym (append-nil (over_faults place (widths_of ws (measured_literal kind width number place)))))

pub literal_below : (ws : List Width) (e : Expr) (kind : Sign) (width : Option ℕ) (number : Number) (known : Known) (a b : Findings) → e.form ≡ form.Literal kind width number
    → b.nodes.items ≡ a.nodes.items → b.faults.items ≡ a.faults.items ++ (literal_survey ws kind width number e.place).faults → AddsBelow ws (survey ws e known) a b
literal_below ws e kind width number known a b is nodes faults =
    let m = measured_literal kind width number e.place in
    let over = over_faults e.place (widths_of ws m) in
    subst (λ s. AddsBelow ws s a b) (sym (survey-literal ws e kind width number known is))
    (below_from ws e.place m [] [] (adds_none a a refl refl) nodes (faults ∙ sym (append_assoc a.faults.items over [])))

-- References

pub reference_below : (ws : List Width) (known : Known) (place : Place) (name : ℕ) (ss : List Suffix) (a b c : Findings) (whole : Surveyed) → AddsAll (flat_map (index_surveys ws known) ss) a b
    → c.nodes.items ≡ b.nodes.items → whole ≡ kept ws (reference_survey ws known place name ss) → c.faults.items ≡ b.faults.items ++ over_faults place whole.widths
    → AddsBelow ws (reference_survey ws known place name ss) a c
reference_below ws known place name ss a b c whole h nodes is faults =
    let m = measured_reference (named (map (λ s. (suffix_step ws s).to) ss) (component known name)) in
    below_from ws place m [] (flat_map (index_surveys ws known) ss) h nodes
    (faults ∙ ap (λ k. b.faults.items ++ over_faults place k.widths) is ∙ sym (append-nil (b.faults.items ++ over_faults place (widths_of ws m))))
