-- An expression has one kind and width in tables that agree on what it mentions.
use Rattle.std.proofs.Common.{◌≡◌, ℕ, List, [], ◌∷◌, ◌++◌, map, refl, sym, subst, ap, ap₂, ◌∙◌, arith, option_and_then}
use Rattle.std.specs.Prelude.{Contains}
use Rattle.std.specs.List.{AllByRecursion}
use Rattle.std.proofs.lemmas.List.Elements.{Contains-append_left, Contains-append_right}
use Rattle.ground_net.specs.declared.ground.Ground.{Ground}
use Rattle.ground_net.specs.Grounds.{mentions}
use Rattle.ground_net.proofs.Layers.{ground_induction, all_mentions, mentions-Const, mentions-Leaf, mentions-Op, mentions-Mux, mentions-Select, mentions-Indexed, mentions-Load, mentions-Fit}
use Rattle.ground_net.specs.Shapes.{Shape, Table, shape, all_of, shape_of_row, shape_of_choice, shape_of_selection, shape_of_indexed, shape_of_load, shape_of_fit}
use Rattle.ground_net.proofs.Shaping.{shapes_of, shape-Const, shape-Leaf, shape-Op, shape-Mux, shape-Select, shape-Indexed, shape-Load, shape-Fit}

module _ (t u : Table) (elements : (m k : ℕ) → t.element m k ≡ u.element m k) where
  abbrev Same : List ℕ → Type 0
  Same ys = (y : ℕ) → Contains ys y → t.leaf y ≡ u.leaf y

  abbrev Agrees : Ground → Type 0
  Agrees g = Same (mentions g) → shape g t ≡ shape g u

  leaves_agree : (ns : List ℕ) → Same ns → map t.leaf ns ≡ map u.leaf ns
  leaves_agree [] s = refl
  leaves_agree (n ∷ ns) s = ap₂ (λ o os. o ∷ os) (s n (0, omega arith, refl)) (leaves_agree ns (λ y c. s y (Contains-append_right (n ∷ []) ns y c)))

  all_agree : (gs : List Ground) → AllByRecursion Agrees gs → Same (all_mentions gs) → shapes_of gs t ≡ shapes_of gs u
  all_agree [] h s = refl
  all_agree (g ∷ gs) h s =
      ap₂ (λ o os. o ∷ os) (h.0 (λ y c. s y (Contains-append_left (mentions g) (all_mentions gs) y c))) (all_agree gs h.1 (λ y c. s y (Contains-append_right (mentions g) (all_mentions gs) y c)))

  pub shape_agrees : (g : Ground) → Agrees g
  shape_agrees = ground_induction Agrees
      (λ v s. shape-Const v t ∙ sym (shape-Const v u))
      (λ x s. shape-Leaf x t ∙ (subst Same (mentions-Leaf x) s x (0, omega arith, refl) ∙ sym (shape-Leaf x u)))
      (λ prim gs params h s. shape-Op prim gs params t ∙ (ap (λ os. option_and_then (shape_of_row prim params) (all_of os)) (all_agree gs h (subst Same (mentions-Op prim gs params) s)) ∙ sym (shape-Op prim gs params u)))
      (λ gs h s. shape-Mux gs t ∙ (ap (λ os. option_and_then shape_of_choice (all_of os)) (all_agree gs h (subst Same (mentions-Mux gs) s)) ∙ sym (shape-Mux gs u)))
      (λ is gs i h s.
      let both : Same (all_mentions is ++ all_mentions gs) = subst Same (mentions-Select is gs) s in
      shape-Select is gs t ∙ (ap₂ (λ ps os. option_and_then (λ j. option_and_then (shape_of_selection j) (all_of os)) (all_of ps))
      (all_agree is i (λ y c. both y (Contains-append_left (all_mentions is) (all_mentions gs) y c)))
      (all_agree gs h (λ y c. both y (Contains-append_right (all_mentions is) (all_mentions gs) y c))) ∙ sym (shape-Select is gs u)))
      (λ ns is ls i s.
      let both : Same (all_mentions is ++ ns) = subst Same (mentions-Indexed ns is ls) s in
      shape-Indexed ns is ls t ∙ (ap₂ (λ ps os. option_and_then (λ j. option_and_then (shape_of_indexed j ls) (all_of os)) (all_of ps))
      (all_agree is i (λ y c. both y (Contains-append_left (all_mentions is) ns y c)))
      (leaves_agree ns (λ y c. both y (Contains-append_right (all_mentions is) ns y c))) ∙ sym (shape-Indexed ns is ls u)))
      (λ m k gs h s. shape-Load m k gs t ∙ (ap₂ (λ e os. option_and_then (shape_of_load e) (all_of os)) (elements m k) (all_agree gs h (subst Same (mentions-Load m k gs) s)) ∙ sym (shape-Load m k gs u)))
      (λ kind width gs h s. shape-Fit kind width gs t ∙ (ap (λ os. option_and_then (shape_of_fit kind width) (all_of os)) (all_agree gs h (subst Same (mentions-Fit kind width gs) s)) ∙ sym (shape-Fit kind width gs u)))
