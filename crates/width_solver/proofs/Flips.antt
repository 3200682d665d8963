-- Rules by the flips of places, and lists of formulas that end early.
use Rattle.std.proofs.Common.{◌≡◌, Bool, false, List, [], ◌∷◌, ◌++◌, map, refl, sym, ap, ◌∙◌, append-nil}
use Rattle.fir_tree.specs.declared.part.Flow.{Flow}
use Rattle.fir_tree.specs.Parts.{flow_through}
use Rattle.width_rules.specs.declared.slot.Slot.{Slot}
use Rattle.width_rules.specs.declared.rule.Formula.{Formula}
use Rattle.width_rules.specs.declared.rule.Rule.{Rule}
use Rattle.width_rules.specs.Places.{Spot}
use Rattle.width_rules.specs.Circuits.{driven, connected, zeroed, invalidated, node_rules}
use Rattle.width_rules.specs.Layers.{flip_of}
use Rattle.width_solver.specs.ByFlips.{connected_by, invalidated_by}

pub by_flips : (spots : List Spot) (ls rs : List Formula) → connected_by (map (flip_of false) spots) ls rs ≡ connected spots ls rs
by_flips [] ls rs = refl
by_flips (s ∷ ss) [] rs = refl
by_flips (s ∷ ss) (l ∷ ls) [] = refl
by_flips (s ∷ ss) (l ∷ ls) (r ∷ rs) = ap (λ rules. driven s.flip l r ++ rules) (by_flips ss ls rs)

pub invalid_by_flips : (flow : Flow) (spots : List Spot) (fs : List Formula) → invalidated_by flow (map (flip_of false) spots) fs ≡ invalidated flow spots fs
invalid_by_flips flow [] fs = refl
invalid_by_flips flow (s ∷ ss) [] = refl
invalid_by_flips flow (s ∷ ss) (f ∷ fs) = ap (λ rules. zeroed (flow_through s.flip flow) f ++ rules) (invalid_by_flips flow ss fs)

no_left : (flips : List Bool) (rs : List Formula) → connected_by flips [] rs ≡ []
no_left [] rs = refl
no_left (f ∷ fs) rs = refl

no_right : (flips : List Bool) (ls : List Formula) → connected_by flips ls [] ≡ []
no_right [] ls = refl
no_right (f ∷ fs) [] = refl
no_right (f ∷ fs) (l ∷ ls) = refl

nothing_invalid : (flow : Flow) (flips : List Bool) → invalidated_by flow flips [] ≡ []
nothing_invalid flow [] = refl
nothing_invalid flow (f ∷ fs) = refl

no_sources : (slots : List Slot) → node_rules slots [] ≡ []
no_sources [] = refl
no_sources (s ∷ ss) = refl

-- where one of the lists ends, all rules are there

pub ends_left : (flips : List Bool) (ls rs : List Formula) (all rules : List Rule) → all ≡ rules ++ connected_by flips ls rs → ls ≡ [] → rules ≡ all
ends_left flips ls rs all rules h e = sym (h ∙ ap (λ l. rules ++ connected_by flips l rs) e ∙ ap (λ l. rules ++ l) (no_left flips rs) ∙ append-nil rules)

pub ends_right : (flips : List Bool) (ls rs : List Formula) (all rules : List Rule) → all ≡ rules ++ connected_by flips ls rs → rs ≡ [] → rules ≡ all
ends_right flips ls rs all rules h e = sym (h ∙ ap (λ r. rules ++ connected_by flips ls r) e ∙ ap (λ l. rules ++ l) (no_right flips ls) ∙ append-nil rules)

pub ends_invalid : (flow : Flow) (flips : List Bool) (fs : List Formula) (all rules : List Rule) → all ≡ rules ++ invalidated_by flow flips fs → fs ≡ [] → rules ≡ all
ends_invalid flow flips fs all rules h e = sym (h ∙ ap (λ f. rules ++ invalidated_by flow flips f) e ∙ ap (λ l. rules ++ l) (nothing_invalid flow flips) ∙ append-nil rules)

pub ends_node : (slots : List Slot) (fs : List Formula) (all rules : List Rule) → all ≡ rules ++ node_rules slots fs → fs ≡ [] → rules ≡ all
ends_node slots fs all rules h e = sym (h ∙ ap (λ f. rules ++ node_rules slots f) e ∙ ap (λ l. rules ++ l) (no_sources slots) ∙ append-nil rules)
