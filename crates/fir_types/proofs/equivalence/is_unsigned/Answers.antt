use Rattle.std.proofs.Common.{refl, inl, inr}
use Rattle.fir_types.specs.Equivalence.{IsUnsigned, a_uint, a_reset}
use Rattle.fir_types.proofs.equivalence.is_unsigned.Goals as goal

pub returns-in-Unsigned : goal.returns-in-Unsigned
returns-in-Unsigned c = (λ _. elim c.in-Unsigned.is as (λ _. IsUnsigned c.args.typ.now) [ inl u ↦ a_uint u.0 u.1 | inr r ↦ a_reset r ], λ _. refl)
