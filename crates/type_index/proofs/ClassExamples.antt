-- The numbers of AsyncReset and of its mask.
use Rattle.std.proofs.Common.{true, refl}
use Rattle.place_text.specs.declared.place.Place.{Place}
use Rattle.fir_types.specs.declared.fir_type.FirType.{FirType}
use Rattle.fir_types.specs.declared.fir_type.Shape.TheVariants as shape
use Rattle.fir_types.specs.Bundles.{mask_of}
use Rattle.type_index.specs.Numbers.{Table, HasNumber, as_async}
use Rattle.type_index.proofs.Made.{async_number}

abbrev place : Place
place = record { line = 1; column = 1 }

abbrev a_reset_signal : FirType
a_reset_signal = record { place = place; shape = shape.AsyncReset }

-- It has a number of its own, whatever the table has.
alone : (table : Table) → HasNumber table a_reset_signal 4
alone table = as_async refl

-- Its mask is a UInt<1>, and has the number of that.
a_mask : (table : Table) → HasNumber table (mask_of a_reset_signal) 0
a_mask table = async_number table true a_reset_signal 0 refl (λ e. refl) (λ e. absurd cc)
