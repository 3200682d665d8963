-- Small texts that are split.
use Rattle.std.proofs.Common.{◌≡◌, ◌⊎◌, ℕ, zero, suc, ◌<◌, List, [], ◌∷◌, inl, inr, ⊎_elim, refl, arith}
use Rattle.std.specs.Prelude.{codes, slice_get, Some}
use Rattle.std.proofs.lemmas.Option.{same_Some}
use Rattle.asked_texts.specs.Texts.{IsStimulusLine, StandsAt, IsSplit, HasNone}

-- a line that begins with another byte, and the end of a text
other_line : (x : ℕ) (bytes after : List ℕ) → x < 37 ⊎ 37 < x → IsStimulusLine (x ∷ bytes) after → ⊥
other_line x bytes after other line =
    let differs : x ≡ 37 → ⊥ = λ e. ⊎_elim (λ lt. omega (arith, e, lt)) (λ gt. omega (arith, e, gt)) other in
    ⊎_elim (λ e. differs (cc e)) (λ more. ⊎_elim (λ e. differs (cc e)) (λ e. let f = e.0 in differs (cc f)) more) line

no_line : (after : List ℕ) → IsStimulusLine [] after → ⊥
no_line after line = ⊎_elim (λ e. cc e) (λ more. ⊎_elim (λ e. cc e) (λ e. let f = e.0 in cc f) more) line

other_byte : (x : ℕ) → 10 < x → Some x ≡ Some 10 → ⊥
other_byte x gt e = let f = same_Some x 10 e in omega (arith, gt, f)

pub behind : IsSplit (codes "c\n%stimulus\ncycles 1\n") (codes "c\n") (codes "cycles 1\n")
behind = record {
  at = 2;
  stands = record { within = omega arith; begins = λ lt. refl; line = inl refl };
  first = first;
  front = refl;
}
  where
    first : (at : ℕ) (after : List ℕ) → at < 2 → StandsAt (codes "c\n%stimulus\ncycles 1\n") at after → ⊥
    first zero after lt s = other_line 99 _ after (inr (omega arith)) s.line
    first (suc zero) after lt s = other_byte 99 (omega arith) (s.begins (omega arith))
    first (suc (suc at)) after lt s = omega arith

pub in_front : IsSplit (codes "%stimulus\r\ncycles 1\n") [] (codes "cycles 1\n")
in_front = record {
  at = 0;
  stands = record { within = omega arith; begins = λ lt. absurd (omega arith); line = inr (inl refl) };
  first = λ at after lt s. omega arith;
  front = refl;
}

pub at_the_end : IsSplit (codes "c\n%stimulus") (codes "c\n") []
at_the_end = record {
  at = 2;
  stands = record { within = omega arith; begins = λ lt. refl; line = inr (inr (refl, refl)) };
  first = first;
  front = refl;
}
  where
    first : (at : ℕ) (after : List ℕ) → at < 2 → StandsAt (codes "c\n%stimulus") at after → ⊥
    first zero after lt s = other_line 99 _ after (inr (omega arith)) s.line
    first (suc zero) after lt s = other_byte 99 (omega arith) (s.begins (omega arith))
    first (suc (suc at)) after lt s = omega arith

pub of_two : IsSplit (codes "%stimulus\n%stimulus\n") [] (codes "%stimulus\n")
of_two = record {
  at = 0;
  stands = record { within = omega arith; begins = λ lt. absurd (omega arith); line = inl refl };
  first = λ at after lt s. omega arith;
  front = refl;
}

pub none : HasNone (codes "c\n")
none zero after s = other_line 99 _ after (inr (omega arith)) s.line
none (suc zero) after s = other_byte 99 (omega arith) (s.begins (omega arith))
none (suc (suc zero)) after s = no_line after s.line
none (suc (suc (suc at))) after s = let e = s.within in omega (arith, e)

pub none_in_no_text : HasNone []
none_in_no_text zero after s = no_line after s.line
none_in_no_text (suc at) after s = let e = s.within in omega (arith, e)
