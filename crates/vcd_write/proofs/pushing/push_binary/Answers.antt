use Rattle.std.proofs.Common.{◌≡◌, ℕ, suc, ◌+◌, ◌-◌, ◌/◌, ◌%◌, ◌^◌, ◌<◌, List, [], ◌∷◌, ◌++◌, sym, ap, ap₂, ◌∙◌, arith, append_assoc}
use Rattle.std.proofs.Math.Nat.{div-div-eq-div-mul, pow-suc}
use Rattle.vcd_write.specs.Texts.{binary}
use Rattle.vcd_write.proofs.pushing.push_binary.Goals as goal

half : (n e : ℕ) → n / 2 ^ e / 2 ≡ n / 2 ^ suc e
half n e = div-div-eq-div-mul n (2 ^ e) 2 ∙ ap (λ p. n / p) (sym (pow-suc 2 e))

more : (t w n x : ℕ) (old text new : List ℕ) → t < w → text ≡ old ++ binary t (n / 2 ^ (w - t)) → new ≡ text ++ x ∷ [] → x ≡ 48 + n / 2 ^ (w - 1 - t) % 2
    → new ≡ old ++ binary (t + 1) (n / 2 ^ (w - (t + 1)))
more t w n x old text new lt e f g =
    let place : w - 1 - t ≡ w - (t + 1) = omega (arith, lt) in
    let above : w - t ≡ suc (w - (t + 1)) = omega (arith, lt) in
    let one : suc t ≡ t + 1 = omega arith in
    let front : n / 2 ^ (w - t) ≡ n / 2 ^ (w - (t + 1)) / 2 = ap (λ k. n / 2 ^ k) above ∙ sym (half n (w - (t + 1))) in
    f ∙ (ap₂ (λ s y. s ++ y ∷ []) (e ∙ ap (λ m. old ++ binary t m) front) (g ∙ ap (λ k. 48 + n / 2 ^ k % 2) place)
    ∙ (append_assoc old (binary t (n / 2 ^ (w - (t + 1)) / 2)) ((48 + n / 2 ^ (w - (t + 1)) % 2) ∷ []) ∙ ap (λ k. old ++ binary k (n / 2 ^ (w - (t + 1)))) one))

pub loop-turn-preserved : goal.loop-turn-preserved
loop-turn-preserved c = more c.loop-turn.turn c.args.width c.args.bits c.digit.result c.args.text.now.items c.loop-turn.text.items _ c.loop-turn-test.true c.loop-turn.invariant c.in_ok-push.ensures.items c.digit.ensures
