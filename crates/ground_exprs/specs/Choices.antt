-- Choices of sources (FIRRTL specification 3.0, "Multiplexers").
use Rattle.std.specs.Prelude.{◌≡◌, max, List, [], ◌∷◌}
use Rattle.ground_net.specs.declared.ground.Ground.{Ground}
use Rattle.ground_net.specs.declared.ground.Ground.TheVariants.{Mux}
use Rattle.ground_exprs.specs.declared.source.Source.{Source}
use Rattle.ground_exprs.specs.Sources.{IsFitted}

-- The first source where the condition is 1, and else the second, at the greater of their widths and of the first one's kind.
pub record IsChosen (condition : Ground) (first second s : Source) : Type 0 where
  pub kind : s.kind ≡ first.kind
  pub width : s.width ≡ max first.width second.width
  pub one : Source
  pub other : Source
  pub expr : s.expr ≡ Mux (condition ∷ one.expr ∷ other.expr ∷ [])
  pub one_kind : one.kind ≡ s.kind
  pub one_width : one.width ≡ s.width
  pub one_fits : IsFitted first one
  pub other_kind : other.kind ≡ s.kind
  pub other_width : other.width ≡ s.width
  pub other_fits : IsFitted second other

-- The same place by place.
abbrev pub AreChosen : Ground → List Source → List Source → List Source → Type 0
AreChosen condition [] seconds [] = Unit {0}
AreChosen condition (first ∷ firsts) [] [] = Unit {0}
AreChosen condition (first ∷ firsts) (second ∷ seconds) (s ∷ sources) = IsChosen condition first second s × AreChosen condition firsts seconds sources
AreChosen condition _ _ _ = ⊥
