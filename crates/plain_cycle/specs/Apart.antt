-- Lists in which nothing stands twice.
use Rattle.std.specs.Prelude.{⊤, List, [], ◌∷◌, Contains}

abbrev pub AreApart : {A : Type 0} → List A → Type 0
AreApart [] = ⊤
AreApart (x ∷ xs) = (Contains xs x → ⊥) × AreApart xs
