use Rattle.std.proofs.Common.{◌≡◌, ℕ, zero, suc, ◌+◌, ◌-◌, ◌/◌, ◌%◌, ◌<◌, List, [], ◌∷◌, ◌++◌, map, length, refl, sym, ap, ◌∙◌, arith, append_assoc}
use Rattle.std.specs.Prelude.{insert}
use Rattle.std.specs.Int.Digits.{digits_of}
use Rattle.std.proofs.lemmas.Int.Digits.{digits_of_step}
use Rattle.std.proofs.lemmas.List.Edits.{insert-append_right}
use Rattle.vcd_write.specs.Texts.{id_of}
use Rattle.vcd_write.proofs.pushing.push_id.Goals as goal

front : (x : ℕ) (xs : List ℕ) (n : ℕ) → n ≡ 0 → insert xs n x ≡ x ∷ xs
front x xs n e = ap (λ k. insert xs k x) e

placed : (old text new low : List ℕ) (place x d : ℕ) → place ≡ length old → text ≡ old ++ map (λ d. 33 + d) low → new ≡ insert text place x → x ≡ 33 + d
    → new ≡ old ++ map (λ d. 33 + d) (d ∷ low)
placed old text new low place x d at was put is =
    put ∙ (ap (λ t. insert t place x) was ∙ (insert-append_right old (map (λ d. 33 + d) low) (length old) place x refl (omega (arith, at))
    ∙ (ap (λ l. old ++ l) (front x (map (λ d. 33 + d) low) (place - length old) (omega (arith, at))) ∙ ap (λ y. old ++ y ∷ map (λ d. 33 + d) low) is)))

step : (number rest : ℕ) (low : List ℕ) → 0 < rest → digits_of 94 number ≡ digits_of 94 rest ++ low → digits_of 94 number ≡ digits_of 94 (rest / 94) ++ (rest % 94 ∷ low)
step number rest low some e = e ∙ (ap (λ l. l ++ low) (digits_of_step 94 rest (omega arith) some) ∙ append_assoc (digits_of 94 (rest / 94)) (rest % 94 ∷ []) low)

pub loop-rest-preserved : goal.loop-rest-preserved
loop-rest-preserved c = record {
  low = c.loop-rest.rest % 94 ∷ c.loop-rest.invariant.low;
  place = c.loop-rest.invariant.place;
  text = placed c.args.text.now.items c.loop-rest.text.items c.insert.new.self.items c.loop-rest.invariant.low c.len-place.result c.id_digit.result (c.loop-rest.rest % 94) c.loop-rest.invariant.place
      c.loop-rest.invariant.text c.in_ok-insert.ensures.items c.id_digit.ensures;
  digits = step c.args.number c.loop-rest.rest c.loop-rest.invariant.low c.loop-rest-test.true c.loop-rest.invariant.digits;
}

whole : (number rest : ℕ) (old text low : List ℕ) → 0 < number → rest ≡ 0 → text ≡ old ++ map (λ d. 33 + d) low → digits_of 94 number ≡ digits_of 94 rest ++ low → text ≡ old ++ id_of number
whole zero rest old text low some none is all = absurd (omega (arith, some))
whole (suc n) rest old text low some none is all = is ∙ ap (λ l. old ++ map (λ d. 33 + d) l) (sym (all ∙ ap (λ r. digits_of 94 r ++ low) none))
