-- A circuit of one clock has no fault.
use Rattle.std.proofs.Common.{◌≡◌, ◌↔◌, ℕ, Bool, true, false, List, Option, Some, None, slice_get, refl, sym, ◌∙◌, subst, true≢false}
use Rattle.place_text.specs.declared.place.Place.{Place}
use Rattle.place_text.specs.First.{HasNone}
use Rattle.fir_tree.specs.declared.scope.Fitted.{Fitted}
use Rattle.fir_meaning.specs.Components.{Design, TypedModule, Component, Leaf, FlatLeaf, design_of, flat, type_in}
use Rattle.fir_meaning.proofs.Tracking.{none_some}
use Rattle.fir_names.proofs.Graphs.{some_same}
use Rattle.fir_tree.specs.declared.expr.Expr.{Expr}
use Rattle.fir_meaning.specs.ClockRoot.{IsRooted, HasOneClock, clock_of, named_leaves}
use Rattle.clock_check.specs.declared.fault.ClockFault.{ClockFault}
use Rattle.clock_check.specs.declared.fault.ClockFault.TheVariants.{ClockOther}
use Rattle.clock_check.specs.Clocked.{At, IsOther, IsFault, clock_leaf, register, port, clock_other}

none_other : (design : Design) → HasOneClock design → (place : Place) → IsOther design place → ⊥
none_other design one place (register path m c clock at clocked other) = other (one.registers path m c clock at.reached at.declared clocked)
none_other design one place (port path m c memory p at sort has other) = other (one.ports path m c memory p at.reached at.declared sort has)

pub has_none : (fitted : Fitted) → HasOneClock (design_of fitted) → HasNone (IsFault fitted)
has_none fitted one fault is = by fault is
  where
    by : (f : ClockFault) → IsFault fitted f → ⊥
    by f (clock_other place other) = none_other (design_of fitted) one place other

-- Without a fault a circuit has one clock, where it is decided what leads to main's first Clock input.
pub one_clock : (fitted : Fitted) (set : FlatLeaf → Bool) → ((x : FlatLeaf) → (set x ≡ true) ↔ IsRooted (design_of fitted) x) → HasNone (IsFault fitted) → HasOneClock (design_of fitted)
one_clock fitted set decides none = record {
  registers = λ path m c clock reached declared is. registered path m c clock (record { reached = reached; declared = declared }) is (slice_get (named_leaves (type_in m) clock) 0) refl;
  ports = λ path m c memory p reached declared sort has. rooted_by path m (clock_leaf c.declaration.name p.name) (set (flat m path (clock_leaf c.declaration.name p.name))) refl
      (λ out. no_other p.place (port path m c memory p (record { reached = reached; declared = declared }) sort has out));
}
  where
    design : Design
    design = design_of fitted

    no_other : (place : Place) → IsOther design place → ⊥
    no_other place other = none (ClockOther place) (clock_other place other)

    rooted_by : (path : List ℕ) (m : TypedModule) (leaf : Leaf) (b : Bool) → set (flat m path leaf) ≡ b → (¬ (IsRooted design (flat m path leaf)) → ⊥) → IsRooted design (flat m path leaf)
    rooted_by path m leaf true e f = (decides (flat m path leaf)).0 e
    rooted_by path m leaf false e f = absurd (f (λ r. true≢false (sym ((decides (flat m path leaf)).1 r) ∙ e)))

    registered : (path : List ℕ) (m : TypedModule) (c : Component) (clock : Expr) → At design path m c → clock_of c.declaration.sort ≡ Some clock → (o : Option Leaf)
        → slice_get (named_leaves (type_in m) clock) 0 ≡ o → (leaf : Leaf) × (slice_get (named_leaves (type_in m) clock) 0 ≡ Some leaf) × IsRooted design (flat m path leaf)
    registered path m c clock at is None f = absurd (no_other c.declaration.place (register path m c clock at is (λ clocked. none_some (sym f ∙ clocked.1))))
    registered path m c clock at is (Some leaf) f = (
      leaf,
      f,
      rooted_by path m leaf (set (flat m path leaf)) refl
          (λ out. no_other c.declaration.place (register path m c clock at is (λ clocked. out (subst (λ (l : Leaf). IsRooted design (flat m path l)) (some_same (sym clocked.1 ∙ f)) clocked.2)))),
    )
