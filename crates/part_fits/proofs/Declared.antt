-- The components that have a fitted type, and the steps of references into fitted types.
use Rattle.std.proofs.Common.{◌≡◌, ℕ, ◌+◌, ◌<◌, nat_eq, Bool, true, false, cond, List, [], ◌∷◌, ◌++◌, map, length, take, get_or, Option, Some, None, is_some, if◌then◌else◌, refl, sym, ap, ap₂, ◌∙◌, subst, arith}
use Rattle.std.specs.List.{list_any}
use Rattle.std.specs.Map.{lookup}
use Rattle.std.proofs.lemmas.Bool.{eqb-true}
use Rattle.std.proofs.lemmas.Grind.{common_steps}
use Rattle.prim_ops.specs.declared.widths.Width.{Width}
use Rattle.fir_types.specs.declared.fir_type.FirType.{FirType}
use Rattle.fir_tree.specs.declared.expr.Suffix.{Suffix}
use Rattle.fir_tree.specs.declared.part.Part.{Part}
use Rattle.width_rules.specs.declared.component.Component.{Component}
use Rattle.width_rules.specs.declared.slot.Slot.{Slot}
use Rattle.width_rules.specs.Sources as sources
use Rattle.width_rules.specs.Sources.{Known, component, component_or_none, known_with, named}
use Rattle.width_rules.proofs.Expressions.{named_more}
use Rattle.type_filling.specs.Filling.{filled}
use Rattle.part_fits.specs.declared.fits.Fit.{Fit}
use Rattle.part_fits.specs.Widths.{slot_width, is_over}
use Rattle.part_fits.specs.Fits.{Fits, AreFits, StandsBeside}

-- one step more into a fitted type
pub beside_more : (ws : List Width) (suffixes : List Suffix) (i : ℕ) (s : Suffix) (sized : Component) (typ fitted : FirType) → i < length suffixes → s ≡ get_or suffixes i s
    → StandsBeside ws (sources.suffix_step s (named (map sources.suffix_step (take i suffixes)) sized)) typ fitted → StandsBeside ws (named (map sources.suffix_step (take (i + 1) suffixes)) sized) typ fitted
beside_more ws suffixes i s sized typ fitted lt is h =
    let before = named (map sources.suffix_step (take i suffixes)) sized in
    subst (λ part. StandsBeside ws part typ fitted) (named_more suffixes i s sized before (sources.suffix_step s before) lt is refl refl) h

-- a component with the fitted type that its widths give
pub fits_of : (ws : List Width) (sized : Component) (part : Part) (slots : List Slot) (typ fitted : FirType) (widths : List Width) (fit : Fit) → sized ≡ record { part = part; slots = slots } → part.typ ≡ typ
    → widths ≡ map (slot_width ws) slots → fitted ≡ filled typ widths → fit.typ ≡ fitted → fit.is_over ≡ list_any is_over widths → Fits ws sized fit.typ fit.is_over
fits_of ws sized part slots typ fitted widths fit made p w is t o = subst (λ c. Fits ws c fit.typ fit.is_over) (sym made) (record {
  typ_is = t ∙ is ∙ ap₂ filled (sym p) w;
  over_is = o ∙ ap (list_any is_over) w;
})

pub no_fits : (ws : List Width) (known : Known) (fits : List (ℕ × Fit)) → fits ≡ [] → AreFits ws known fits
no_fits ws known fits is = record { each = λ name fit e. none name fit (sym (ap (lookup (nat_eq name)) is) ∙ e) }
  where
    none : (name : ℕ) (fit : Fit) → None ≡ Some fit → Fits ws (component known name) fit.typ fit.is_over
    none name fit e = absurd cc

-- one component more

abbrev or_else : {X : Type 0} → Option X → Option X → Option X
or_else (Some x) o = Some x
or_else None o = o

looked_up : (known : Known) (id name : ℕ) (sized : Component) → lookup (nat_eq name) (known ++ (id, sized) ∷ []) ≡ or_else (lookup (nat_eq name) known) (cond (nat_eq name id) (Some sized) None)
looked_up [] id name sized = refl
looked_up (x ∷ xs) id name sized = by (nat_eq name x.0) (looked_up xs id name sized)
  where
    by : (b : Bool) → lookup (nat_eq name) (xs ++ (id, sized) ∷ []) ≡ or_else (lookup (nat_eq name) xs) (cond (nat_eq name id) (Some sized) None)
        → cond b (Some x.1) (lookup (nat_eq name) (xs ++ (id, sized) ∷ [])) ≡ or_else (cond b (Some x.1) (lookup (nat_eq name) xs)) (cond (nat_eq name id) (Some sized) None)
    by true h = refl
    by false h = h

pub fits_declared : (ws : List Width) (known : Known) (fits new : List (ℕ × Fit)) (id : ℕ) (sized : Component) (fit : Fit) → lookup (nat_eq id) known ≡ None
    → ((name : ℕ) → lookup (nat_eq name) new ≡ cond (nat_eq id name) (Some fit) (lookup (nat_eq name) fits))
    → Fits ws sized fit.typ fit.is_over → AreFits ws known fits → AreFits ws (known_with known id sized) new
fits_declared ws known fits new id sized fit none put own h =
    subst (λ k. AreFits ws k new) (sym (ap (λ (o : Option Component). if is_some o then known else known ++ (id, sized) ∷ []) none)) (record {
      each = λ name other e. rw (ap component_or_none (looked_up known id name sized)) (by name other (nat_eq id name) refl (sym (put name) ∙ e));
    })
  where
    turned : (a b : ℕ) → nat_eq a b ≡ nat_eq b a
    turned a b = grind (arith, common_steps)

    one : (f g : Fit) → Some f ≡ Some g → f ≡ g
    one f g e = cc

    alone : (o : Option Component) → component_or_none (or_else o None) ≡ component_or_none o
    alone (Some c) = refl
    alone None = refl

    by : (name : ℕ) (other : Fit) (b : Bool) → nat_eq id name ≡ b → cond b (Some fit) (lookup (nat_eq name) fits) ≡ Some other
        → Fits ws (component_or_none (or_else (lookup (nat_eq name) known) (cond (nat_eq name id) (Some sized) None))) other.typ other.is_over
    by name other true is e =
        let at : lookup (nat_eq name) known ≡ None = ap (λ k. lookup (nat_eq k) known) (sym (eqb-true id name is)) ∙ none in
        let whole : component_or_none (or_else (lookup (nat_eq name) known) (cond (nat_eq name id) (Some sized) None)) ≡ sized
        = ap₂ (λ o b. component_or_none (or_else o (cond b (Some sized) None))) at (turned name id ∙ is) in
        subst (λ c. Fits ws c other.typ other.is_over) (sym whole) (subst (λ (f : Fit). Fits ws sized f.typ f.is_over) (one fit other e) own)
    by name other false is e =
        let whole : component_or_none (or_else (lookup (nat_eq name) known) (cond (nat_eq name id) (Some sized) None)) ≡ component known name
        = ap (λ b. component_or_none (or_else (lookup (nat_eq name) known) (cond b (Some sized) None))) (turned name id ∙ is) ∙ alone (lookup (nat_eq name) known) in
        subst (λ c. Fits ws c other.typ other.is_over) (sym whole) (h.each name other e)

-- one fitted type more, of a component by its name
pub fits_put : (ws : List Width) (known : Known) (fits new : List (ℕ × Fit)) (id : ℕ) (fit : Fit)
    → ((name : ℕ) → lookup (nat_eq name) new ≡ cond (nat_eq id name) (Some fit) (lookup (nat_eq name) fits))
    → Fits ws (component known id) fit.typ fit.is_over → AreFits ws known fits → AreFits ws known new
fits_put ws known fits new id fit put own h = record { each = λ name other e. by name other (nat_eq id name) refl (sym (put name) ∙ e) }
  where
    one : (f g : Fit) → Some f ≡ Some g → f ≡ g
    one f g e = cc

    by : (name : ℕ) (other : Fit) (b : Bool) → nat_eq id name ≡ b → cond b (Some fit) (lookup (nat_eq name) fits) ≡ Some other
        → Fits ws (component known name) other.typ other.is_over
    by name other true is e =
        subst (λ n. Fits ws (component known n) other.typ other.is_over) (eqb-true id name is) (subst (λ (f : Fit). Fits ws (component known id) f.typ f.is_over) (one fit other e) own)
    by name other false is e = h.each name other e
