-- What main's inputs are given is what the inputs of the net are given, where they begin with the values of a row.
use Rattle.std.proofs.Common.{◌≡◌, ℕ, ◌==◌, ◌&&◌, Bool, true, false, cond, List, [], ◌∷◌, map, Option, Some, None, ℤ, pos, refl, sym, ap, ◌∙◌, subst, arith, slice_get, lit<}
use Rattle.std.specs.List.{range_with_len}
use Rattle.std.proofs.lemmas.Grind.{common_steps}
use Rattle.bit_words.specs.declared.value.Kind.TheVariants.{Unsigned}
use Rattle.bit_words.specs.declared.value.Value.{Value}
use Rattle.bit_words.specs.Values.{InRange, integer_of}
use Rattle.prim_ops.proofs.Fittings.{value_in_range}
use Rattle.fir_tree.specs.LeafNames.{Texts}
use Rattle.fir_meaning.specs.Components.{Design}
use Rattle.ground_net.specs.declared.net.Net.{Net}
use Rattle.ground_net.specs.declared.net.Ports.{Ports}
use Rattle.ground_net.specs.declared.net.PortLeaf.{PortLeaf}
use Rattle.ground_net.specs.declared.net.Role.TheVariants as role
use Rattle.ground_net.specs.Watching.{AreValuesOf, port_leaf, inputs}
use Rattle.ground_net.specs.Nets.{HasRole, AreInputs}
use Rattle.net_of_circuit.specs.FlatOrder.{Standing, all_leaves}
use Rattle.net_of_circuit.specs.NetOf.{MatchingInputs}
use Rattle.net_laws.specs.Serves.{Serves}
use Rattle.net_laws.specs.Runs.{AreGiven, no_more, one_more}
use Rattle.stimulus.specs.declared.stimulus.Stimulus.{Stimulus}
use Rattle.stimulus.specs.declared.stimulus.Setting.{Setting}
use Rattle.stimulus.specs.Stimuli.{IsFormed}
use Rattle.stimulus.specs.Rows.{last_set}
use Rattle.circuit_run.specs.Traces.{input_number, integer_given, integer_set}
use Rattle.circuit_run.specs.NetRuns.{given_in_from, inputs_from, integer_set_or}
use Rattle.circuit_run.proofs.Lists.{zip_left}
use Rattle.circuit_run.proofs.Matching.{inputs_match}
use Rattle.circuit_run.proofs.Fed.{input_at, inputs_in_range}
use Rattle.circuit_texts.specs.StateTexts.{integer_or_zero, integer_given_from, inputs_in_from, all_inputs_from}

-- a stimulus that sets one input to 1
one : Value
one = record { kind = Unsigned; width = 1; bits = 1; narrow = omega arith; within = lit< tt }

abbrev setting_of : ℕ → Setting
setting_of n = record { cycle = 0; input = n; value = one }

abbrev probe : ℕ → Stimulus
probe n = record { cycles = 1; settings = setting_of n ∷ [] }

number_itself : (n : ℕ) → (n == n) ≡ true
number_itself n = grind (arith, common_steps)

same_number : (n k : ℕ) → (n == k) ≡ true → n ≡ k
same_number n k e = grind (arith, common_steps)

not_one : {B : Type 0} → ◌≡◌ {A = ℤ} (pos 0) (pos 1) → B
not_one e = absurd cc

-- what is given by it
found : (n k : ℕ) (b : Bool) → (n == k) ≡ b → integer_set (last_set (setting_of n ∷ []) 0 k) ≡ integer_set (cond b (Some (setting_of n)) None)
unfolding one
found n k true e = ap (λ b. integer_set (cond (b && true) (Some (setting_of n)) None)) e
found n k false e = ap (λ b. integer_set (cond (b && true) (Some (setting_of n)) None)) e

is_one : (n : ℕ) → integer_set (Some (setting_of n)) ≡ pos 1
unfolding one
is_one n = refl

number_from : (n : ℕ) (o : Option ℕ) → integer_given (setting_of n ∷ []) 0 o ≡ pos 1 → o ≡ Some n
number_from n None e = not_one e
number_from n (Some k) e = by (n == k) refl where
  by : (b : Bool) → (n == k) ≡ b → ◌≡◌ {A = Option ℕ} (Some k) (Some n)
  by true q = ap Some (sym (same_number n k q))
  by false q = not_one (sym (found n k false q) ∙ e)

module _ (texts : Texts) (design : Design) (net : Net) (serves : Serves texts design net) where
  number_is : (x n : ℕ) (y : Standing) → slice_get (all_leaves serves.of.placed) x ≡ Some y → HasRole net x (role.Input n) → input_number design y.0.c.declaration.name y.1.path ≡ Some n
  number_is x n y there held =
      number_from n (input_number design y.0.c.declaration.name y.1.path)
      ((inputs_match texts design net serves (probe n) 0).inputs x n y there held ∙ (found n n true (number_itself n) ∙ is_one n))

  -- In a cycle the inputs match.
  pub inputs_match_from : (start : List Value) (stimulus : Stimulus) (cycle : ℕ)
      → MatchingInputs (all_leaves serves.of.placed) net (inputs_in_from design start stimulus cycle) (given_in_from (λ n. integer_or_zero (slice_get start n)) stimulus cycle)
  inputs_match_from start stimulus cycle = record {
    inputs = λ x n y there held. ap (integer_given_from start stimulus.settings cycle) (number_is x n y there held);
  }

  module _ (ports : Ports) (fed : ports.inputs ≡ inputs net) (stimulus : Stimulus) (formed : IsFormed ports stimulus) (start : List Value) (are : AreValuesOf (inputs net) start) where
    -- They are in range.
    pub inputs_in_range_from : (cycle : ℕ) → AreInputs net (given_in_from (λ n. integer_or_zero (slice_get start n)) stimulus cycle)
    inputs_in_range_from cycle x n leaf there is = by (last_set stimulus.settings cycle n) refl where
      begins : InRange leaf.kind leaf.width (integer_or_zero (slice_get start n))
      begins =
          let v = zip_left (λ (p : PortLeaf) (v : Value). (v.kind ≡ p.kind) × (v.width ≡ p.width)) (inputs net) start are n (port_leaf x leaf) (input_at net serves.of.well_formed x n leaf there is) in
          subst (λ o. InRange leaf.kind leaf.width (integer_or_zero o)) (sym v.1)
          (subst (λ w. InRange leaf.kind w (integer_of v.0)) v.2.1 (subst (λ k. InRange k v.0.width (integer_of v.0)) v.2.0 (value_in_range v.0)))

      by : (o : Option Setting) → last_set stimulus.settings cycle n ≡ o → InRange leaf.kind leaf.width (integer_set_or (integer_or_zero (slice_get start n)) o)
      by None e = begins
      by (Some setting) e = subst (λ o. InRange leaf.kind leaf.width (integer_set o)) e (inputs_in_range net serves.of.well_formed ports fed stimulus formed cycle x n leaf there is)

    given_over : (cycles : List ℕ) → AreGiven (all_leaves serves.of.placed) net (map (inputs_in_from design start stimulus) cycles) (map (given_in_from (λ n. integer_or_zero (slice_get start n)) stimulus) cycles)
    given_over [] = no_more
    given_over (c ∷ cycles) = one_more (inputs_match_from start stimulus c) (inputs_in_range_from c) (given_over cycles)

    -- So it is in all cycles.
    pub all_given_from : AreGiven (all_leaves serves.of.placed) net (all_inputs_from design start stimulus) (inputs_from (given_in_from (λ n. integer_or_zero (slice_get start n)) stimulus) 0 stimulus.cycles)
    all_given_from = given_over (range_with_len 0 stimulus.cycles)
