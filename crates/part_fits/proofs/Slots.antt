-- The widths of places, and of what is chosen place by place.
use Rattle.std.proofs.Common.{◌≡◌, ℕ, zero, suc, List, [], ◌∷◌, map, zip, length, get_or, drop, min, ◌<◌, ◌≤◌, ◌++◌, append-nil, refl, sym, ap, ◌∙◌, arith}
use Rattle.std.proofs.lemmas.Grind.{common_steps}
use Rattle.prim_ops.specs.declared.widths.Width.{Width}
use Rattle.prim_ops.specs.declared.widths.Width.TheVariants.{Bits}
use Rattle.prim_ops.specs.Widths.{bounded}
use Rattle.width_rules.specs.declared.slot.Slot.{Slot}
use Rattle.width_rules.specs.declared.slot.Slot.TheVariants as slot
use Rattle.width_rules.specs.declared.rule.Formula.{the_lemmas}
use Rattle.width_rules.specs.declared.rule.Formula.TheVariants as formula
use Rattle.width_rules.specs.Formulas.{width_under}
use Rattle.part_fits.specs.Widths.{slot_width, wider_of}

pub width-fixed : (n : ℕ) (ws : List Width) → width_under (formula.Fixed n) ws ≡ bounded n
width-fixed n ws = grind (arith, common_steps, the_lemmas)

pub width-var : (x : ℕ) (ws : List Width) → width_under (formula.Var x) ws ≡ get_or ws x (Bits 0)
width-var x ws = grind (arith, common_steps, the_lemmas)

pub slot-fixed : (ws : List Width) (s : Slot) (n : ℕ) → s ≡ slot.Fixed n → slot_width ws s ≡ bounded n
slot-fixed ws s n is = ap (slot_width ws) is ∙ width-fixed n ws

pub slot-var : (ws : List Width) (s : Slot) (x : ℕ) → s ≡ slot.Var x → slot_width ws s ≡ get_or ws x (Bits 0)
slot-var ws s x is = ap (slot_width ws) is ∙ width-var x ws

-- the widths of the shorter list are all compared
abbrev the_none : List Width
the_none = []

none_with : (vs : List Width) → zip vs (the_none) ≡ []
none_with [] = refl
none_with (w ∷ vs) = refl

none_left : (first second : List Width) (n : ℕ) → min (length first) (length second) ≤ n → zip (drop n first) (drop n second) ≡ []
none_left [] second zero le = refl
none_left [] second (suc n) le = refl
none_left (v ∷ first) [] zero le = refl
none_left (v ∷ first) [] (suc n) le = none_with (drop n first)
none_left (v ∷ first) (w ∷ second) zero le = absurd (omega (arith, le))
none_left (v ∷ first) (w ∷ second) (suc n) le = none_left first second n (omega (arith, le))

pub all_compared : (first second : List Width) (n : ℕ) (greater : List Width) → min (length first) (length second) ≤ n
    → map wider_of (zip first second) ≡ greater ++ map wider_of (zip (drop n first) (drop n second)) → greater ≡ map wider_of (zip first second)
all_compared first second n greater le is = sym (is ∙ ap (λ l. greater ++ map wider_of l) (none_left first second n le) ∙ append-nil greater)

-- The first is as wide: the choice between two is the first, place by place.

abbrev pub IsAsWide : List Width → List Width → Type 0
IsAsWide first second = map wider_of (zip first second) ≡ first

-- then it has no more places
pub too_many : (first second : List Width) → length second < length first → IsAsWide first second → ⊥
too_many [] second lt h = absurd (omega (arith, lt))
too_many (v ∷ first) [] lt h = absurd cc
too_many (v ∷ first) (w ∷ second) lt h = too_many first second (omega (arith, lt)) cc
