-- The least number of bits.
use Rattle.std.proofs.Common.{◌≡◌, ℕ, zero, suc, ◌+◌, ◌-◌, ◌*◌, ◌%◌, ◌^◌, ◌/◌, ◌<◌, ◌≤◌, nat_le, Bool, true, false, if◌then◌else◌, refl, ap, ◌∙◌, arith, pow_pos, div-add-mod', mod-lt}
use Rattle.std.proofs.lemmas.Grind.{common_steps}
use Rattle.std.proofs.lemmas.Bool.Decides.{nat_tests}
use Rattle.fir_types.specs.Bundles.{least_reaching}

least_step : (depth from more : ℕ) → least_reaching depth from (suc more) ≡ (if nat_le depth (2 ^ from) then from else least_reaching depth (suc from) more)
unfolding least_reaching
least_step depth from more = refl

least_end : (depth from : ℕ) → least_reaching depth from zero ≡ from
unfolding least_reaching
least_end depth from = refl

one_less : (n k : ℕ) → k < n → n - k ≡ suc (n - (k + 1))
one_less n k h = omega arith

zero_times : (x : ℕ) → 0 * x ≡ 0
zero_times x = omega arith

fits_below : (number bits : ℕ) → number / 2 ^ bits ≡ 0 → number < 2 ^ bits
fits_below number bits e =
    let some : 0 < 2 ^ bits = pow_pos bits in
    let split : number / 2 ^ bits * 2 ^ bits + number % 2 ^ bits ≡ number = div-add-mod' number (2 ^ bits) in
    let rest : number % 2 ^ bits < 2 ^ bits = mod-lt number some in
    let none : number / 2 ^ bits * 2 ^ bits ≡ 0 = ap (λ k. k * 2 ^ bits) e ∙ zero_times (2 ^ bits) in
    omega arith

over : (number bits : ℕ) → (number / 2 ^ bits ≡ 0 → ⊥) → 2 ^ bits ≤ number
over number bits e = by_test (nat_le (2 ^ bits) number) refl
  where
    by_test : (b : Bool) → nat_le (2 ^ bits) number ≡ b → 2 ^ bits ≤ number
    by_test true t = grind (arith, common_steps, nat_tests, t)
    by_test false t =
        let below : number < 2 ^ bits = grind (arith, common_steps, nat_tests, t) in
        absurd (e (Rattle.std.proofs.Math.Nat.div-eq_of_lt below))

pub least_found : (number from more : ℕ) → more < 127 → number / 2 ^ (from + more) ≡ 0 → least_reaching (suc number) (from + more) (127 - more) ≡ from + more
least_found number from more h e =
    let below : number < 2 ^ (from + more) = fits_below number (from + more) e in
    let test : nat_le (suc number) (2 ^ (from + more)) ≡ true = grind (arith, common_steps, nat_tests, below) in
    ap (least_reaching (suc number) (from + more)) (one_less 127 more h) ∙ (least_step (suc number) (from + more) (127 - (more + 1))
    ∙ ap (λ b. if b then from + more else least_reaching (suc number) (suc (from + more)) (127 - (more + 1))) test)

pub least_later : (number from more : ℕ) → more < 127 → (number / 2 ^ (from + more) ≡ 0 → ⊥) → least_reaching (suc number) (from + more) (127 - more) ≡ least_reaching (suc number) (from + (more + 1)) (127 - (more + 1))
least_later number from more h e =
    let past : 2 ^ (from + more) ≤ number = over number (from + more) e in
    let test : nat_le (suc number) (2 ^ (from + more)) ≡ false = grind (arith, common_steps, nat_tests, past) in
    let next : suc (from + more) ≡ from + (more + 1) = omega arith in
    ap (least_reaching (suc number) (from + more)) (one_less 127 more h) ∙ (least_step (suc number) (from + more) (127 - (more + 1))
    ∙ (ap (λ b. if b then from + more else least_reaching (suc number) (suc (from + more)) (127 - (more + 1))) test
    ∙ ap (λ m. least_reaching (suc number) m (127 - (more + 1))) next))

pub least_past : (number from : ℕ) → least_reaching (suc number) (from + 127) 0 ≡ from + 127
least_past number from = least_end (suc number) (from + 127)
