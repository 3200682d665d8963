use Rattle.std.proofs.Common.{refl, inl, inr, arith, true, false, []}
use Rattle.std.specs.Prelude.{codes, pos, ◌<ℤ◌}
use Rattle.place_text.specs.Places.{place}
use Rattle.bit_words.specs.declared.value.Kind.TheVariants.{Unsigned}
use Rattle.bit_words.specs.Numbers.{unsigned, plain}
use Rattle.snapshot_text.specs.Faults.{Says, no_fit}
use Rattle.snapshot_text.proofs.Lining.{cons_nil}
use Rattle.snapshot_text.proofs.laws.counter_states_are_refused.Goals as goal

too_great : pos 16 <ℤ pos 16 → ⊥
too_great h = first_of (omega (arith, h), grind (arith, h))

abbrev says : Says (record { word = codes "reg"; name = codes "r"; kind = Unsigned; width = 4 }) (record { at = 22; bytes = codes "reg r 16"; is_ended = true })
says = record {
  word = record { at = 22; bytes = codes "reg" };
  name = record { at = 26; bytes = codes "r" };
  value = record { at = 28; bytes = codes "16" };
  number = record { negative = false; magnitude = 16 };
  words = refl;
  some = cons_nil 114 (codes "eg");
  some_name = λ e. absurd (cons_nil 114 [] e);
  written = unsigned refl (plain (record { some = omega arith; digits = (omega arith, (omega arith, tt)); value = refl }));
  feed = refl;
}

pub returns-clause-value : goal.returns-clause-value
unfolding place
returns-clause-value c = inr (inr (inl (no_fit says (λ h. too_great h.1))))

pub returns-clause-missing : goal.returns-clause-missing
unfolding place
returns-clause-missing c = inr (inr refl)
