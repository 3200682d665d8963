-- Rules have a least assignment: from 0 bits on, a variable that is below its rule's formula is raised to it. All that meet the rules
-- stay at or above, and what is left to the top falls with each step.
use Rattle.std.proofs.Common.{◌≡◌, ℕ, zero, suc, ◌+◌, ◌-◌, ◌<◌, ◌≤◌, List, [], ◌∷◌, length, get_or, refl, sym, ap, ◌∙◌, subst, arith, ⊎_elim, inl, inr}
use Rattle.std.specs.Prelude.{◌⊎◌, nat_eq, Bool, true, false, Contains}
use Rattle.std.proofs.lemmas.Grind.{common_steps}
use Rattle.std.proofs.lemmas.Bool.{eqb-true}
use Rattle.std.proofs.lemmas.Bool.Decides.{leb_tells}
use Rattle.std.proofs.lemmas.List.Elements.{All-contains}
use Rattle.prim_ops.specs.declared.widths.Width.{Width}
use Rattle.prim_ops.specs.declared.widths.Width.TheVariants.{Bits}
use Rattle.fir_tree.specs.declared.circuit.Circuit.{Circuit}
use Rattle.width_rules.specs.declared.rule.Rule.{Rule}
use Rattle.width_rules.specs.Formulas.{level, width_under}
use Rattle.width_rules.specs.Solutions.{IsRule, AreRules, level_at, MeetsOne, Meets, IsWidth, IsAssignment, AtOrBelow, IsLeast}
use Rattle.width_rules.specs.Circuits.{rules_in}
use Rattle.width_rules.proofs.Bounds.{Each, each_all}
use Rattle.width_rules.proofs.Monotone.{level_small, width_is_width, width_grows}
use Rattle.width_rules.proofs.Ruled.{are_rules}

-- A width at a place

abbrev put : List Width → ℕ → Width → List Width
put [] k w = []
put (x ∷ xs) zero w = w ∷ xs
put (x ∷ xs) (suc k) w = x ∷ put xs k w

put_length : (v : List Width) (t : ℕ) (w : Width) → length (put v t w) ≡ length v
put_length [] t w = refl
put_length (x ∷ xs) zero w = refl
put_length (x ∷ xs) (suc t) w = ap suc (put_length xs t w)

put_here : (v : List Width) (t : ℕ) (w : Width) → t < length v → get_or (put v t w) t (Bits 0) ≡ w
put_here [] t w below = absurd (omega (arith, below))
put_here (x ∷ xs) zero w below = refl
put_here (x ∷ xs) (suc t) w below = put_here xs t w (omega (arith, below))

put_there : (v : List Width) (t k : ℕ) (w : Width) → (k ≡ t → ⊥) → get_or (put v t w) k (Bits 0) ≡ get_or v k (Bits 0)
put_there [] t k w other = refl
put_there (x ∷ xs) zero zero w other = absurd (other refl)
put_there (x ∷ xs) zero (suc k) w other = refl
put_there (x ∷ xs) (suc t) zero w other = refl
put_there (x ∷ xs) (suc t) (suc k) w other = put_there xs t k w (λ e. other (ap suc e))

-- at one place or at the others
at_or_not : (P : Width → Type 0) (v : List Width) (t k : ℕ) (w : Width) → t < length v → (k ≡ t → P w) → P (get_or v k (Bits 0)) → P (get_or (put v t w) k (Bits 0))
at_or_not P v t k w below here there' = by (nat_eq k t) refl where
  by : (b : Bool) → nat_eq k t ≡ b → P (get_or (put v t w) k (Bits 0))
  by true q =
      let e : k ≡ t = eqb-true k t q in
      subst (λ j. P (get_or (put v t w) j (Bits 0))) (sym e) (subst P (sym (put_here v t w below)) (here e))
  by false q = subst P (sym (put_there v t k w (λ e. let r : nat_eq t t ≡ false = subst (λ j. nat_eq j t ≡ false) e q in let s : nat_eq t t ≡ true = grind (arith, common_steps) in cc))) there'

-- What is left to the top

abbrev left_of : Width → ℕ
left_of w = 129 - level w

abbrev slack : List Width → ℕ
slack [] = 0
slack (x ∷ xs) = left_of x + slack xs

put_slack : (v : List Width) (t : ℕ) (w : Width) → t < length v → level (get_or v t (Bits 0)) < level w → level w ≤ 129 → slack (put v t w) < slack v
put_slack [] t w below more small = absurd (omega (arith, below))
put_slack (x ∷ xs) zero w below more small = omega (arith, more, small)
put_slack (x ∷ xs) (suc t) w below more small = let h : slack (put xs t w) < slack xs = put_slack xs t w (omega (arith, below)) more small in omega (arith, h)

-- A rule that isn't met

later : {A : Type 0} (z : A) (xs : List A) (x : A) → Contains xs x → Contains (z ∷ xs) x
later z xs x (k, below, is) = (suc k, omega (arith, below), is)

unmet : (v : List Width) (rules : List Rule) → Each (λ rule. MeetsOne rule v) rules ⊎ ((rule : Rule) × Contains rules rule × (level_at v rule.target < level (width_under rule.formula v)))
unmet v [] = inl tt
unmet v (r ∷ rules) = ⊎_elim
    (λ fits. ⊎_elim (λ all. inl (fits.1, all)) (λ its. inr (its.0, later r rules its.0 its.1, its.2)) (unmet v rules))
    (λ breaks. inr (r, (0, omega arith, refl), breaks.1)) (leb_tells (level (width_under r.formula v)) (level_at v r.target))

-- 0 bits everywhere

abbrev zeros : ℕ → List Width
zeros zero = []
zeros (suc n) = Bits 0 ∷ zeros n

zeros_length : (n : ℕ) → length (zeros n) ≡ n
zeros_length zero = refl
zeros_length (suc n) = ap suc (zeros_length n)

zeros_at : (n k : ℕ) → get_or (zeros n) k (Bits 0) ≡ Bits 0
zeros_at zero k = refl
zeros_at (suc n) zero = refl
zeros_at (suc n) (suc k) = zeros_at n k

module _ (count : ℕ) (rules : List Rule) (are : AreRules count rules) where
  -- an assignment at or below all that meet the rules
  record IsBelow (v : List Width) : Type 0 where
    pub assignment : IsAssignment count v
    pub below : (other : List Width) → IsAssignment count other → Meets rules other → AtOrBelow v other

  abbrev Broken : List Width → Type 0
  Broken v = (rule : Rule) × Contains rules rule × (level_at v rule.target < level (width_under rule.formula v))

  abbrev Found : Type 0
  Found = (widths : List Width) × IsLeast rules count widths

  done : (v : List Width) → IsBelow v → Each (λ rule. MeetsOne rule v) rules → Found
  done v h each = (v, record { assignment = h.assignment; meets = each_all (λ rule. MeetsOne rule v) rules each; least = h.below })

  abbrev raised : (v : List Width) → Broken v → List Width
  raised v b = put v b.0.target (width_under b.0.formula v)

  inside : (v : List Width) → IsBelow v → (b : Broken v) → b.0.target < length v
  inside v h b =
      let rule : IsRule count b.0 = All-contains (IsRule count) rules b.0 are b.1 in
      subst (λ n. b.0.target < n) (sym h.assignment.counted) rule.target

  raised_below : (v : List Width) → IsBelow v → (b : Broken v) → IsBelow (raised v b)
  raised_below v h b =
      let t : ℕ = b.0.target in
      let w : Width = width_under b.0.formula v in
      record {
        assignment = record {
          counted = put_length v t w ∙ h.assignment.counted;
          bounded = λ k. at_or_not IsWidth v t k w (inside v h b) (λ e. width_is_width v h.assignment.bounded b.0.formula) (h.assignment.bounded k);
        };
        below = λ other is meets k.
            let under : AtOrBelow v other = h.below other is meets in
            let grows : level w ≤ level (width_under b.0.formula other) = width_grows v other is.bounded under b.0.formula in
            let met : MeetsOne b.0 other = All-contains (λ rule. MeetsOne rule other) rules b.0 meets b.1 in
            at_or_not (λ x. level x ≤ level_at other k) v t k w (inside v h b)
            (λ e. subst (λ j. level w ≤ level_at other j) (sym e) (let m : level (width_under b.0.formula other) ≤ level_at other t = met in omega (arith, grows, m))) (under k);
      }

  falls : (v : List Width) → IsBelow v → (b : Broken v) → slack (raised v b) < slack v
  falls v h b = put_slack v b.0.target (width_under b.0.formula v) (inside v h b) b.2 (level_small (width_under b.0.formula v) (width_is_width v h.assignment.bounded b.0.formula))

  climb : (n : ℕ) (v : List Width) → IsBelow v → slack v ≤ n → Found
  climb zero v h s = ⊎_elim (λ each. done v h each) (λ b. absurd (let f = falls v h b in omega (arith, f, s))) (unmet v rules)
  climb (suc n) v h s = ⊎_elim (λ each. done v h each) (λ b. climb n (raised v b) (raised_below v h b) (let f = falls v h b in omega (arith, f, s))) (unmet v rules)

  from_zeros : IsBelow (zeros count)
  from_zeros = record {
    assignment = record { counted = zeros_length count; bounded = λ k. subst IsWidth (sym (zeros_at count k)) (let small : 0 ≤ 128 = omega arith in small) };
    below = λ other is meets k. subst (λ w. level w ≤ level_at other k) (sym (zeros_at count k)) (let none : 0 ≤ level_at other k = omega arith in none);
  }

  found : Found
  found = climb (slack (zeros count)) (zeros count) from_zeros (omega arith)

pub least_exists : (count : ℕ) (rules : List Rule) → AreRules count rules → (widths : List Width) × IsLeast rules count widths
least_exists count rules are = found count rules are

pub circuit_least : (circuit : Circuit) → (widths : List Width) × IsLeast (rules_in circuit).rules (length (rules_in circuit).places) widths
circuit_least circuit = least_exists (length (rules_in circuit).places) (rules_in circuit).rules (are_rules circuit.modules)
