-- What a walk through lines holds, and what it makes of them.
use Rattle.std.specs.Prelude.{◌≡◌, ℕ, List, ◌++◌, map}
use Rattle.fir_tree.specs.declared.circuit.Module.{Module}
use Rattle.fir_tree.specs.declared.print.PrintItem.{PrintItem}
use Rattle.fir_tree.specs.Numbered.{IsDistinct}
use Rattle.item_lines.specs.Items.{Before, Made, Stands, prints_from}
use Rattle.line_stmts.specs.declared.maker.Maker.{Maker}

-- What there is before a line of module m is in hand, behind the items of the modules before.
pub record Holds (earlier : List PrintItem) (m : ℕ) (maker : Maker) (b : Before) : Type 0 where
  pub names : maker.names ≡ b.names
  pub distinct : IsDistinct b.names
  pub number : maker.module ≡ m
  pub places : maker.places ≡ map (λ item. item.place) b.items
  pub prints : maker.prints ≡ earlier ++ prints_from m 0 b.items

-- what was made is what the lines stand for, and what there is before the next ones is in hand
pub record Makes {T : Type 0} (stands : Stands T) (old new : Maker) (made : T) : Type 0 where
  pub is : (earlier : List PrintItem) (m : ℕ) (b : Before) → Holds earlier m old b → made ≡ (stands b).0
  pub holds : (earlier : List PrintItem) (m : ℕ) (b : Before) → Holds earlier m old b → Holds earlier m new (stands b).1

-- a module was made, and its items and names are added
pub record Stood (of : Made (Module × List PrintItem)) (old new : Maker) (made : Module) : Type 0 where
  pub is : made ≡ of.0.0
  pub prints : new.prints ≡ old.prints ++ of.0.1
  pub names : new.names ≡ of.1
  pub distinct : IsDistinct new.names
