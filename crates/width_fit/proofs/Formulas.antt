-- The widths of formulas, and of what is kept of operands.
use Rattle.std.proofs.Common.{◌≡◌, ℕ, zero, suc, nat_eq, ◌&&◌, Bool, true, false, is_some, if◌then◌else◌, List, [], ◌∷◌, map, zip, length, refl, sym, ap, ap₂, ◌∙◌, arith}
use Rattle.std.proofs.lemmas.Grind.{common_steps}
use Rattle.std.proofs.lemmas.Simd.{map-map}
use Rattle.bit_words.specs.declared.value.Kind.{Kind}
use Rattle.prim_ops.specs.declared.operation.PrimOp.{PrimOp}
use Rattle.prim_ops.specs.declared.widths.Width.{Width}
use Rattle.prim_ops.specs.declared.widths.Width.TheVariants.{Bits, Over}
use Rattle.prim_ops.specs.Operations.{arity_of}
use Rattle.prim_ops.specs.Kinds.{row_kind}
use Rattle.prim_ops.specs.Widths.{row_width}
use Rattle.place_text.specs.declared.place.Place.{Place}
use Rattle.width_rules.specs.declared.rule.Formula.{Formula, the_lemmas}
use Rattle.width_rules.specs.declared.rule.Formula.TheVariants as formula
use Rattle.width_rules.specs.Formulas.{wider, greatest, width_under}
use Rattle.width_rules.specs.Sources.{Measured, formula_of, lone, kind_of, operation, greater_of, choice, measured_reference}
use Rattle.width_rules.specs.declared.component.Component.{Component}
use Rattle.part_fits.proofs.Slots.{width-fixed}
use Rattle.part_fits.specs.Widths.{slot_width, wider_of}
use Rattle.width_fit.specs.Judging.{Survey, widths_of, lone_width}
use Rattle.width_fit.specs.Surveys.{kept, lone_of, kept_kind, kept_width, operated, chosen}

width-op : (prim : PrimOp) (kinds : List Kind) (parts : List Formula) (params : List ℕ) (ws : List Width)
    → width_under (formula.Op prim kinds parts params) ws ≡ row_width prim kinds (map (λ f. width_under f ws) parts) params
width-op prim kinds parts params ws = grind (arith, common_steps, the_lemmas, map-map)

width-greatest : (parts : List Formula) (ws : List Width) → width_under (formula.Greatest parts) ws ≡ greatest (map (λ f. width_under f ws) parts)
width-greatest parts ws = grind (arith, common_steps, the_lemmas, map-map)

-- the widths of a reference
pub reference-widths : (ws : List Width) (sized : Component) → widths_of ws (measured_reference sized) ≡ map (slot_width ws) sized.slots
reference-widths ws sized = map-map (λ f. width_under f ws) formula_of sized.slots

-- the one width of what is no bundle and no vector
lone-formulas : (ws : List Width) (fs : List Formula) → lone_of (map (λ f. width_under f ws) fs) ≡ width_under (lone fs) ws
lone-formulas ws [] = sym (width-fixed 0 ws)
lone-formulas ws (f ∷ fs) = refl

pub lone-kept : (ws : List Width) (s : Survey) → kept_width (kept ws s) ≡ lone_width ws s.measured
lone-kept ws s = lone-formulas ws s.measured.formulas

kinds-kept : (ws : List Width) (all : List Survey) → map kept_kind (map (kept ws) all) ≡ map kind_of (map (λ (s : Survey). s.measured) all)
kinds-kept ws [] = refl
kinds-kept ws (s ∷ all) = ap (λ l. kind_of s.measured ∷ l) (kinds-kept ws all)

widths-kept : (ws : List Width) (all : List Survey)
    → map kept_width (map (kept ws) all) ≡ map (λ f. width_under f ws) (map (λ (m : Measured). lone m.formulas) (map (λ (s : Survey). s.measured) all))
widths-kept ws [] = refl
widths-kept ws (s ∷ all) = ap₂ (λ w l. w ∷ l) (lone-kept ws s) (widths-kept ws all)

in_row : (b : Bool) (prim : PrimOp) (kinds : List Kind) (parts : List Formula) (params : List ℕ) (ws : List Width)
    → (if b then row_width prim kinds (map (λ f. width_under f ws) parts) params else Bits 0) ≡ width_under (if b then formula.Op prim kinds parts params else formula.Fixed 0) ws
in_row true prim kinds parts params ws = sym (width-op prim kinds parts params ws)
in_row false prim kinds parts params ws = sym (width-fixed 0 ws)

-- an operation over what is kept of its operands
pub operated_is : (ws : List Width) (prim : PrimOp) (place : Place) (params : List ℕ) (all : List Survey) (m : Measured)
    → m ≡ operation prim place (map (λ (s : Survey). s.measured) all) params
    → operated prim place (map kept_kind (map (kept ws) all)) (map kept_width (map (kept ws) all)) params ≡ record { place = place; part = m.part; widths = widths_of ws m }
operated_is ws prim place params all m is =
    let ms = map (λ (s : Survey). s.measured) all in
    ap₂ (λ kinds widths. operated prim place kinds widths params) (kinds-kept ws all) (widths-kept ws all)
    ∙ ap (λ w. record { place = place; part = (operation prim place ms params).part; widths = w ∷ [] })
    (in_row (is_some (row_kind prim (map kind_of ms)) && nat_eq (length params) (arity_of prim).1) prim (map kind_of ms) (map (λ (m : Measured). lone m.formulas) ms) params ws)
    ∙ ap (λ m'. record { place = place; part = m'.part; widths = widths_of ws m' }) (sym is)

wider-none : (w : Width) → wider w (Bits 0) ≡ w
wider-none (Bits zero) = refl
wider-none (Bits (suc n)) = grind (arith, common_steps)
wider-none Over = refl

greater-width : (ws : List Width) (f g : Formula) → width_under (greater_of (f, g)) ws ≡ wider (width_under f ws) (width_under g ws)
greater-width ws f g = width-greatest (f ∷ g ∷ []) ws ∙ ap (wider (width_under f ws)) (wider-none (width_under g ws))

greater-widths : (ws : List Width) (fs gs : List Formula)
    → map wider_of (zip (map (λ f. width_under f ws) fs) (map (λ f. width_under f ws) gs)) ≡ map (λ f. width_under f ws) (map greater_of (zip fs gs))
greater-widths ws [] gs = refl
greater-widths ws (f ∷ fs) [] = refl
greater-widths ws (f ∷ fs) (g ∷ gs) = ap₂ (λ w l. w ∷ l) (sym (greater-width ws f g)) (greater-widths ws fs gs)

-- a choice over what is kept of its operands
pub chosen_is : (ws : List Width) (place : Place) (all : List Survey)
    → chosen place (map (kept ws) all) ≡ record { place = place; part = (choice (map (λ (s : Survey). s.measured) all)).part; widths = widths_of ws (choice (map (λ (s : Survey). s.measured) all)) }
chosen_is ws place [] = refl
chosen_is ws place (a ∷ []) = refl
chosen_is ws place (a ∷ b ∷ []) = refl
chosen_is ws place (a ∷ b ∷ c ∷ []) =
    ap (λ l. record { place = place; part = (choice (a.measured ∷ b.measured ∷ c.measured ∷ [])).part; widths = l }) (greater-widths ws b.measured.formulas c.measured.formulas)
chosen_is ws place (a ∷ b ∷ c ∷ d ∷ all) = refl
