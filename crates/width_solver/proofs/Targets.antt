-- Where no width is a variable, a connect and an `invalidate` give no rule.
use Rattle.std.proofs.Common.{◌≡◌, Bool, true, false, List, [], ◌∷◌, ◌++◌, refl, sym, ap, ap₂, ◌∙◌, append-nil}
use Rattle.std.proofs.lemmas.Bool.{or_parts, true≢false}
use Rattle.fir_tree.specs.declared.expr.Expr.{Expr}
use Rattle.fir_tree.specs.declared.part.Flow.{Flow}
use Rattle.fir_tree.specs.declared.part.Flow.TheVariants.{Source, Sink, Duplex}
use Rattle.fir_tree.specs.Parts.{flow_through}
use Rattle.width_rules.specs.declared.rule.Formula.{Formula}
use Rattle.width_rules.specs.declared.rule.Formula.TheVariants as formula
use Rattle.width_rules.specs.Places.{Spot}
use Rattle.width_rules.specs.Sources.{measured}
use Rattle.width_rules.specs.Circuits.{at_least, driven, connected, zeroed, invalidated, connects, invalidates}
use Rattle.width_rules.specs.Targets.{is_target, has_target}
use Rattle.width_solver.specs.declared.walk.Found.{Found}
use Rattle.width_solver.specs.Walked.{Walks}

-- No rules

at_least_none : (f g : Formula) → is_target f ≡ false → at_least f g ≡ []
at_least_none (formula.Var x) g h = absurd (true≢false h)
at_least_none f g h = refl

driven_none : (flip : Bool) (l r : Formula) → is_target l ≡ false → is_target r ≡ false → driven flip l r ≡ []
driven_none false l r h k = at_least_none l r h
driven_none true l r h k = at_least_none r l k

connected_none : (ss : List Spot) (ls rs : List Formula) → has_target ls ≡ false → has_target rs ≡ false → connected ss ls rs ≡ []
connected_none [] ls rs h k = refl
connected_none (s ∷ ss) [] rs h k = refl
connected_none (s ∷ ss) (l ∷ ls) [] h k = refl
connected_none (s ∷ ss) (l ∷ ls) (r ∷ rs) h k =
    let left = or_parts (is_target l) (has_target ls) h in
    let right = or_parts (is_target r) (has_target rs) k in
    ap₂ (λ x y. x ++ y) (driven_none s.flip l r left.0 right.0) (connected_none ss ls rs left.1 right.1)

zeroed_none : (flow : Flow) (f : Formula) → is_target f ≡ false → zeroed flow f ≡ []
zeroed_none Source f h = refl
zeroed_none Sink f h = at_least_none f (formula.Fixed 0) h
zeroed_none Duplex f h = at_least_none f (formula.Fixed 0) h

invalidated_none : (flow : Flow) (ss : List Spot) (fs : List Formula) → has_target fs ≡ false → invalidated flow ss fs ≡ []
invalidated_none flow [] fs h = refl
invalidated_none flow (s ∷ ss) [] h = refl
invalidated_none flow (s ∷ ss) (f ∷ fs) h =
    let both = or_parts (is_target f) (has_target fs) h in
    ap₂ (λ x y. x ++ y) (zeroed_none (flow_through s.flip flow) f both.0) (invalidated_none flow ss fs both.1)

pub connects_none : (left right : Expr) (found : Found) → has_target (measured left found.known.entries).formulas ≡ false → has_target (measured right found.known.entries).formulas ≡ false
    → Walks (connects left right) found found
connects_none left right found h k = record {
  known = refl;
  places = sym (append-nil _);
  rules = sym (ap (λ l. found.rules.items ++ l) (connected_none _ (measured left found.known.entries).formulas (measured right found.known.entries).formulas h k) ∙ append-nil _);
}

pub invalidates_none : (target : Expr) (found : Found) → has_target (measured target found.known.entries).formulas ≡ false → Walks (invalidates target) found found
invalidates_none target found h = record {
  known = refl;
  places = sym (append-nil _);
  rules = sym (ap (λ l. found.rules.items ++ l) (invalidated_none _ _ (measured target found.known.entries).formulas h) ∙ append-nil _);
}
