-- What the ports of a memory share (FIRRTL specification 3.0, "Memories"): the type of their data, and that of their masks.
use Rattle.std.specs.Prelude.{◌≡◌, ℕ, ◌==◌, ◌||◌, Bool, true, List, All, IfSome}
use Rattle.fir_types.specs.declared.fir_type.FirType.{FirType}
use Rattle.fir_types.specs.declared.fir_type.Shape.TheVariants as shape
use Rattle.fir_types.specs.declared.fir_type.Field.{Field}
use Rattle.fir_types.specs.Bundles.{data_name, mask_name, rdata_name, wdata_name, wmask_name}
use Rattle.fir_tree.specs.LeafNames.{Texts}
use Rattle.type_index.specs.declared.memories.Kept.{Kept}
use Rattle.type_index.specs.Knowing.{Matches, IsRight}

-- the names of fields that are data
abbrev pub is_data : ℕ → Bool
is_data id = (id == data_name) || ((id == rdata_name) || (id == wdata_name))

-- the names of fields that are masks
abbrev pub is_mask : ℕ → Bool
is_mask id = (id == mask_name) || (id == wmask_name)

-- a field of a port, where data and masks have these types
pub record IsPortField (element mask : FirType) (field : Field) : Type 0 where
  pub data' : is_data field.name.id ≡ true → field.typ ≡ element
  pub mask' : is_mask field.name.id ≡ true → field.typ ≡ mask

abbrev pub ArePortFields : FirType → FirType → FirType → Type 0
ArePortFields element mask port = (fields : List Field) → port.shape ≡ shape.Bundle fields → All (IsPortField element mask) fields

abbrev pub ArePorts : FirType → FirType → List Field → Type 0
ArePorts element mask ports = All (λ port. ArePortFields element mask port.typ) ports

-- what is kept of data and of masks is right for these types
abbrev pub Keeps : Texts → FirType → FirType → Kept → Type 0
Keeps texts element mask kept = IfSome kept.of_data (Matches (IsRight texts) element) × IfSome kept.of_mask (Matches (IsRight texts) mask)
