-- Adding names to numbered texts, and statements that were made with further names.
use Rattle.std.specs.Prelude.{◌≡◌, ℕ, ◌++◌, List, slice_get, Some}
use Rattle.place_text.specs.declared.place.Place.{Place}
use Rattle.fir_types.specs.declared.name.Name.{Name}
use Rattle.fir_tree.specs.declared.stmt.Stmt.{Stmt}
use Rattle.fir_tree.specs.Numbered.{IsDistinct}
use Rattle.item_lines.specs.Items.{Made, with_name, name_at}

-- No text changes its number. There may be further ones.
abbrev pub Keeps : List (List ℕ) → List (List ℕ) → Type 0
Keeps old new = (id : ℕ) (text : List ℕ) → slice_get old id ≡ Some text → slice_get new id ≡ Some text

-- The text is among the new ones, and this is its name at this place.
pub record IsNamed (old new : List (List ℕ)) (text : List ℕ) (at : Place) (name : Name) : Type 0 where
  pub texts : new ≡ with_name old text
  pub is : name ≡ name_at new text at
  pub distinct : IsDistinct new

-- These statements stand behind others, and these are the texts then, of which none stands twice.
pub record IsMade (others stmts : List Stmt) (texts : List (List ℕ)) (made : Made (List Stmt)) : Type 0 where
  pub statements : stmts ≡ others ++ made.0
  pub names : texts ≡ made.1
  pub distinct : IsDistinct texts
