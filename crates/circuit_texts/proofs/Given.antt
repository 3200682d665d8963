-- What main's inputs are given from a row on, cycle by cycle: what stands in the rows of the stimulus. So it comes in two parts, and from zeros
-- it is what the stimulus alone gives.
use Rattle.std.proofs.Common.{◌≡◌, ℕ, zero, suc, ◌==◌, ◌&&◌, ◌+◌, ◌-◌, ◌<◌, ◌≤◌, List, [], ◌∷◌, ◌++◌, map, length, Option, Some, None, option_map, ℤ, pos, negsuc, refl, sym, ap, ap₂, ◌∙◌, arith, slice_get, nat_lt, if◌then◌else◌, ◌*◌, ◌^◌, true}
use Rattle.std.specs.Prelude.{position}
use Rattle.std.specs.List.{range_with_len, enumerate_from}
use Rattle.std.proofs.lemmas.Nat.{pow_pos}
use Rattle.std.proofs.lemmas.Bool.Decides.{nat_tests}
use Rattle.std.proofs.lemmas.List.{map-append}
use Rattle.std.proofs.lemmas.List.Quantifiers.{position-Some}
use Rattle.std.proofs.lemmas.Option.{slice_get-map}
use mathlib.Core.Path.{fun_ext}
use Rattle.bit_words.specs.declared.value.Kind.{Kind}
use Rattle.bit_words.specs.declared.value.Kind.TheVariants.{Unsigned, Signed}
use Rattle.bit_words.specs.declared.value.Value.{Value}
use Rattle.bit_words.specs.Values.{integer, integer_of}
use Rattle.fir_types.specs.declared.leaf.PathStep.{PathStep}
use Rattle.fir_meaning.specs.Components.{Design}
use Rattle.fir_meaning.specs.Drives.{same_way}
use Rattle.fir_meaning.specs.States.{Inputs}
use Rattle.ground_net.specs.declared.net.Ports.{Ports}
use Rattle.ground_net.specs.declared.net.PortLeaf.{PortLeaf}
use Rattle.stimulus.specs.declared.stimulus.Stimulus.{Stimulus}
use Rattle.stimulus.specs.declared.stimulus.Setting.{Setting}
use Rattle.stimulus.specs.Stimuli.{IsFormed}
use Rattle.stimulus.specs.Rows.{zero_of, last_set, value_or}
use Rattle.circuit_texts.specs.StimulusParts.{row_from, rows_from, last_row, first_settings, second_settings, first_part, second_part}
use Rattle.circuit_texts.proofs.StimulusRows.{rows_split}
use Rattle.circuit_run.specs.Ports.{PortPart, given_parts}
use Rattle.circuit_run.specs.Traces.{input_number, integer_set, integer_given, all_inputs}
use Rattle.circuit_run.specs.NetRuns.{integer_set_or}
use Rattle.circuit_run.proofs.Lists.{get_enumerate}
use Rattle.circuit_texts.specs.StateTexts.{integer_or_zero, integer_given_from, inputs_in_from, all_inputs_from}

map_map : {A B C : Type 0} (f : B → C) (g : A → B) (xs : List A) → map f (map g xs) ≡ map (λ x. f (g x)) xs
map_map f g [] = refl
map_map f g (x ∷ xs) = ap (λ l. f (g x) ∷ l) (map_map f g xs)

none_below : {A : Type 0} (xs : List A) (n : ℕ) → n < length xs → slice_get xs n ≡ None → ⊥
none_below [] n lt e = omega (arith, lt)
none_below (x ∷ xs) zero lt e = cc
none_below (x ∷ xs) (suc n) lt e = none_below xs n (omega (arith, lt)) e

-- the integer of an input in a row
abbrev row_at : List Value → Option ℕ → ℤ
row_at row (Some n) = integer_or_zero (slice_get row n)
row_at row None = pos 0

in_row : (start : List Value) (settings : List Setting) (cycle n : ℕ)
    → slice_get (row_from start settings cycle) n ≡ option_map (λ v. value_or (last_set settings cycle n) v) (slice_get start n)
in_row start settings cycle n =
    let zero_plus : 0 + n ≡ n = omega arith in
    slice_get-map (λ (e : ℕ × Value). value_or (last_set settings cycle e.0) e.1) (enumerate_from 0 start) n
    ∙ (ap (option_map (λ (e : ℕ × Value). value_or (last_set settings cycle e.0) e.1)) (get_enumerate 0 start n) ∙ by (slice_get start n) (0 + n) zero_plus)
  where
    by : (o : Option Value) (m : ℕ) → m ≡ n → option_map (λ (e : ℕ × Value). value_or (last_set settings cycle e.0) e.1) (option_map {U = ℕ × Value} (λ x. (m, x)) o) ≡ option_map (λ v. value_or (last_set settings cycle n) v) o
    by None m e = refl
    by (Some v) m e = ap (λ i. Some (value_or (last_set settings cycle i) v)) e

set_or : (v : Value) (o : Option Setting) → integer_set_or (integer_of v) o ≡ integer_of (value_or o v)
set_or v None = refl
set_or v (Some setting) = refl

given_in_row : (start : List Value) (settings : List Setting) (cycle : ℕ) (o : Option ℕ) → ((n : ℕ) → o ≡ Some n → n < length start)
    → integer_given_from start settings cycle o ≡ row_at (row_from start settings cycle) o
given_in_row start settings cycle None within = refl
given_in_row start settings cycle (Some n) within = by (slice_get start n) refl where
  by : (o : Option Value) → slice_get start n ≡ o → integer_set_or (integer_or_zero (slice_get start n)) (last_set settings cycle n) ≡ integer_or_zero (slice_get (row_from start settings cycle) n)
  by None e = absurd (none_below start n (within n refl) e)
  by (Some v) e =
      ap (λ o. integer_set_or (integer_or_zero o) (last_set settings cycle n)) e
      ∙ (set_or v (last_set settings cycle n)
      ∙ sym (ap integer_or_zero (in_row start settings cycle n ∙ ap (option_map (λ w. value_or (last_set settings cycle n) w)) e)))

module _ (design : Design) where
  -- an input of main is one of so many
  number_within : (name : ℕ) (way : List PathStep) (n : ℕ) → input_number design name way ≡ Some n → n < length (given_parts design)
  number_within name way n e = by (given_parts design) e where
    by : (parts : List (ℕ × PortPart)) → position (λ x. (x.1.0.declaration.name == name) && same_way x.1.1.path way) parts ≡ Some n → n < length parts
    by [] e = absurd cc
    by (p ∷ parts) e = (position-Some (λ x. (x.1.0.declaration.name == name) && same_way x.1.1.path way) (p ∷ parts) n p e).0

  abbrev inputs_of : List Value → Inputs
  inputs_of row name way = row_at row (input_number design name way)

  module _ (start : List Value) (long : length (given_parts design) ≤ length start) where
    in_cycle : (settings : List Setting) (cycles cycle : ℕ) → inputs_in_from design start (record { cycles = cycles; settings = settings }) cycle ≡ inputs_of (row_from start settings cycle)
    in_cycle settings cycles cycle =
        fun_ext (λ name. fun_ext (λ way.
        given_in_row start settings cycle (input_number design name way) (λ n e. let below = number_within name way n e in omega (arith, below, long))))

    by_rows : (stimulus : Stimulus) → all_inputs_from design start stimulus ≡ map inputs_of (rows_from start stimulus.settings 0 stimulus.cycles)
    by_rows stimulus =
        ap (λ f. map f (range_with_len 0 stimulus.cycles)) (fun_ext (in_cycle stimulus.settings stimulus.cycles))
        ∙ sym (map_map inputs_of (row_from start stimulus.settings) (range_with_len 0 stimulus.cycles))

  -- What is given comes in two parts.
  pub given_parts_two : (start : List Value) (stimulus : Stimulus) (a : ℕ) (ports : Ports) → IsFormed ports stimulus → a ≤ stimulus.cycles → length (given_parts design) ≤ length start
      → length (given_parts design) ≤ length (last_row start (first_part a stimulus))
      → all_inputs_from design start stimulus ≡ all_inputs_from design start (first_part a stimulus) ++ all_inputs_from design (last_row start (first_part a stimulus)) (second_part a stimulus)
  given_parts_two start stimulus a ports formed within long enough =
      let b : ℕ = stimulus.cycles - a in
      let all : stimulus.cycles ≡ a + b = omega (arith, within) in
      let behind : List Value = last_row start (first_part a stimulus) in
      by_rows start long stimulus
      ∙ (ap (λ n. map inputs_of (rows_from start stimulus.settings 0 n)) all
      ∙ (ap (map inputs_of) (rows_split a b start stimulus.settings (λ i j d less lt. (formed.pairs i j d less lt).in_order))
      ∙ (map-append inputs_of (rows_from start (first_settings a stimulus.settings) 0 a) (rows_from behind (second_settings a stimulus.settings) 0 b)
      ∙ ap₂ (λ x y. x ++ y) (sym (by_rows start long (first_part a stimulus))) (sym (by_rows behind enough (second_part a stimulus))))))

-- Zeros

zero_is : (kind : Kind) (width : ℕ) → integer kind width 0 ≡ pos 0
zero_is Unsigned width = refl
zero_is Signed width = let h = pow_pos width in let e : nat_lt (2 * 0) (2 ^ width) ≡ true = grind (arith, nat_tests) in ap (λ b. if b then pos 0 else negsuc (2 ^ width - 1 - 0)) e

zero_at : (leaves : List PortLeaf) (n : ℕ) → integer_or_zero (slice_get (map zero_of leaves) n) ≡ pos 0
zero_at [] n = refl
zero_at (leaf ∷ leaves) zero = zero_is leaf.kind leaf.width
zero_at (leaf ∷ leaves) (suc n) = zero_at leaves n

set_from_zero : (o : Option Setting) → integer_set_or (pos 0) o ≡ integer_set o
set_from_zero None = refl
set_from_zero (Some setting) = refl

given_from_zero : (leaves : List PortLeaf) (settings : List Setting) (cycle : ℕ) (o : Option ℕ) → integer_given_from (map zero_of leaves) settings cycle o ≡ integer_given settings cycle o
given_from_zero leaves settings cycle None = refl
given_from_zero leaves settings cycle (Some n) = ap (λ i. integer_set_or i (last_set settings cycle n)) (zero_at leaves n) ∙ set_from_zero (last_set settings cycle n)

-- Inputs that begin with zeros are given what the stimulus alone gives.
pub given_from_zeros : (design : Design) (leaves : List PortLeaf) (stimulus : Stimulus) → all_inputs_from design (map zero_of leaves) stimulus ≡ all_inputs design stimulus
given_from_zeros design leaves stimulus =
    ap (λ f. map f (range_with_len 0 stimulus.cycles))
    (fun_ext (λ cycle. fun_ext (λ name. fun_ext (λ way. given_from_zero leaves stimulus.settings cycle (input_number design name way)))))

range_long : (a n : ℕ) → length (range_with_len a n) ≡ n
range_long a zero = refl
range_long a (suc n) = ap suc (range_long (a + 1) n)

map_long : {A B : Type 0} (f : A → B) (xs : List A) → length (map f xs) ≡ length xs
map_long f [] = refl
map_long f (x ∷ xs) = ap suc (map_long f xs)

-- There is one for each cycle.
pub given_long : (design : Design) (start : List Value) (stimulus : Stimulus) → length (all_inputs_from design start stimulus) ≡ stimulus.cycles
given_long design start stimulus = map_long (inputs_in_from design start stimulus) (range_with_len 0 stimulus.cycles) ∙ range_long 0 stimulus.cycles
