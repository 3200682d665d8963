use Rattle.std.proofs.Common.{◌≡◌, ℕ, ◌+◌, ◌/◌, ◌%◌, ◌^◌, ◌<◌, ◌≤◌, ltb, List, [], ◌∷◌, ◌++◌, sym, ap, ◌∙◌, arith, append_assoc}
use Rattle.std.proofs.lemmas.Bool.{cond-true, cond-false, lt-ltb, le-ltb}
use Rattle.std.proofs.Math.Nat.{pow-zero}
use Rattle.vcd_write.specs.Texts.{id_of, binary, change_line, ended}
use Rattle.vcd_write.proofs.Readings.{one_bit}
use Rattle.vcd_write.proofs.pushing.push_change.Goals as goal
use Rattle.vcd_write.proofs.pushing.push_change.Goals.{then-value-gt1+in_ok-push+in_ok-push_binary+in_ok-push-2, else-value-gt1+in_ok-push-3}

five : (old a i : List ℕ) → ((((old ++ 98 ∷ []) ++ a) ++ 32 ∷ []) ++ i) ++ 10 ∷ [] ≡ old ++ ((98 ∷ (a ++ 32 ∷ i)) ++ 10 ∷ [])
five old a i = simp append_assoc

three : (d : ℕ) (old i : List ℕ) → ((old ++ d ∷ []) ++ i) ++ 10 ∷ [] ≡ old ++ ((d ∷ i) ++ 10 ∷ [])
three d old i = simp append_assoc

wide : (w i n : ℕ) (old a b d e new : List ℕ) → 1 < w → a ≡ old ++ 98 ∷ [] → b ≡ a ++ binary w n → d ≡ b ++ 32 ∷ [] → e ≡ d ++ id_of i → new ≡ e ++ 10 ∷ [] → new ≡ old ++ ended (change_line w i n)
wide w i n old a b d e new lt p q r s t =
    t ∙ (ap (λ x. x ++ 10 ∷ []) (s ∙ ap (λ x. x ++ id_of i) (r ∙ ap (λ x. x ++ 32 ∷ []) (q ∙ ap (λ x. x ++ binary w n) p))) ∙ (five old (binary w n) (id_of i)
    ∙ ap (λ l. old ++ (l ++ 10 ∷ [])) (sym (cond-true (ltb 1 w) (98 ∷ (binary w n ++ 32 ∷ id_of i)) ((48 + n) ∷ id_of i) (lt-ltb 1 w lt)))))

narrow : (w i n x : ℕ) (old a b new : List ℕ) → w ≤ 1 → n < 2 ^ w → x ≡ 48 + n / 2 ^ 0 % 2 → a ≡ old ++ x ∷ [] → b ≡ a ++ id_of i → new ≡ b ++ 10 ∷ [] → new ≡ old ++ ended (change_line w i n)
narrow w i n x old a b new le lt is p q r =
    let one : 2 ^ 0 ≡ 1 = pow-zero 2 in
    let small : n < 2 = one_bit w n le lt in
    let digit : 48 + n / 1 % 2 ≡ 48 + n = omega (arith, small) in
    let same : x ≡ 48 + n = is ∙ (ap (λ k. 48 + n / k % 2) one ∙ digit) in
    r ∙ (ap (λ x. x ++ 10 ∷ []) (q ∙ ap (λ x. x ++ id_of i) (p ∙ ap (λ d. old ++ d ∷ []) same)) ∙ (three (48 + n) old (id_of i)
    ∙ ap (λ l. old ++ (l ++ 10 ∷ [])) (sym (cond-false (ltb 1 w) (98 ∷ (binary w n ++ 32 ∷ id_of i)) ((48 + n) ∷ id_of i) (le-ltb 1 w le)))))

pub returns : goal.returns
returns c = elim c.if-value-gt1.branch [
  | then-value-gt1+in_ok-push+in_ok-push_binary+in_ok-push-2 w ↦ wide c.args.value.width c.args.number c.args.value.bits c.args.text.now.items w.push.new.self.items w.push_binary.new.text.items
      c.if-value-gt1.text.items c.push_id.new.text.items _ w.if-value-gt1.true w.in_ok-push.ensures.items w.in_ok-push_binary.ensures (ap (λ t. t.items) w.text-is ∙ w.in_ok-push-2.ensures.items)
      c.in_ok-push_id.ensures c.in_ok-push-4.ensures.items
  | else-value-gt1+in_ok-push-3 w ↦ narrow c.args.value.width c.args.number c.args.value.bits w.digit.result c.args.text.now.items c.if-value-gt1.text.items c.push_id.new.text.items _ w.if-value-gt1.false
      c.args.value.within w.digit.ensures (ap (λ t. t.items) w.text-is ∙ w.in_ok-push-3.ensures.items) c.in_ok-push_id.ensures c.in_ok-push-4.ensures.items
]
