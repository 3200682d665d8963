-- Choices one behind the other.
use Rattle.std.proofs.Common.{◌≡◌, ℕ, zero, suc, ◌-◌, ◌<◌, ◌≤◌, true≢false, List, [], ◌∷◌, length, get_or, drop, take, Some, None, option_and_then, if◌then◌else◌, ◌&&◌, refl, sym, ap, ap₂, ◌∙◌, arith, All}
use Rattle.std.specs.Prelude.{IsSome}
use Rattle.prim_ops.specs.Values.{is_one}
use Rattle.ground_net.specs.Grounds.{chosen}
use Rattle.ground_net.specs.Shapes.{Shape, shape_of_choice, is_unsigned, same_shape}
use Rattle.ground_net.proofs.Shaping.{choice_shape}
use Rattle.flat_code.specs.declared.instr.Location.{Location}
use Rattle.flat_code.specs.Meaning.{location_shape, location_value, location_values}
use Rattle.flat_code.specs.Fine.{location_shapes}
use Rattle.flat_code.proofs.Evaluating.{locations_fine}
use Rattle.code_draft.specs.declared.draft.Draft.{Draft}
use Rattle.code_draft.specs.Drafts.{IsDraft, Stands, Makes}
use Rattle.code_draft.proofs.Growing.{grows_then, stands_on}
use Rattle.code_draft.proofs.Held.{held_value}
use Rattle.code_emit.specs.Ways.{Cut, IsMade}
use Rattle.code_emit.proofs.Emitting.{cut_there}
use Rattle.code_emit.proofs.Nesting.{some_inner}

pub twice : ℕ → ℕ
twice zero = zero
twice (suc k) = suc (suc (twice k))

-- Items from one on

rest_some : (c v : Shape) (ss : List Shape) → IsSome (shape_of_choice (c ∷ v ∷ ss)) → IsSome (shape_of_choice ss)
rest_some c v ss h = some_inner (λ s. if is_unsigned c && same_shape v s then Some s else None) (shape_of_choice ss) h

pub odd_long : (ss : List Location) → IsSome (shape_of_choice (location_shapes ss)) → (k : ℕ) × (length ss ≡ suc (twice k))
unfolding twice
odd_long [] h = absurd (true≢false (sym h))
odd_long (s ∷ []) h = (0, refl)
odd_long (c ∷ v ∷ ss) h = let r = odd_long ss (rest_some (location_shape c) (location_shape v) (location_shapes ss) h) in (suc r.0, ap (λ n. suc (suc n)) r.1)

pub choice_from : (k : ℕ) (ss : List Location) → IsSome (shape_of_choice (location_shapes ss)) → twice k < length ss → IsSome (shape_of_choice (location_shapes (drop (twice k) ss)))
unfolding twice
choice_from zero ss h lt = h
choice_from (suc k) [] h lt = absurd (omega (arith, lt))
choice_from (suc k) (s ∷ []) h lt = absurd (omega (arith, lt))
choice_from (suc k) (c ∷ v ∷ ss) h lt = choice_from k ss (rest_some (location_shape c) (location_shape v) (location_shapes ss) h) (omega (arith, lt))

split_two : (n : ℕ) (ss : List Location) (c v : Location) → suc n < length ss → c ≡ get_or ss n c → v ≡ get_or ss (suc n) v → drop n ss ≡ c ∷ v ∷ drop (suc (suc n)) ss
split_two n [] c v lt e f = absurd (omega (arith, lt))
split_two zero (a ∷ []) c v lt e f = absurd (omega (arith, lt))
split_two zero (a ∷ b ∷ ss) c v lt e f = ap₂ (λ x y. x ∷ y ∷ ss) (sym e) (sym f)
split_two (suc n) (a ∷ ss) c v lt e f = split_two n ss c v (omega (arith, lt)) e f

pub split_at : (at : ℕ) (ss : List Location) (c v : Location) → 2 ≤ at → at < length ss → c ≡ get_or ss (at - 2) c → v ≡ get_or ss (at - 1) v → drop (at - 2) ss ≡ c ∷ v ∷ drop at ss
split_at zero ss c v le lt e f = absurd (omega (arith, le))
split_at (suc zero) ss c v le lt e f = absurd (omega (arith, le))
split_at (suc (suc n)) ss c v le lt e f =
    let first : suc (suc n) - 2 ≡ n = omega arith in
    let second : suc (suc n) - 1 ≡ suc n = omega arith in
    ap (λ m. drop m ss) first ∙ split_two n ss c v (omega (arith, lt)) (e ∙ ap (λ m. get_or ss m c) first) (f ∙ ap (λ m. get_or ss m v) second)

pub two_less : (k at : ℕ) → at ≡ twice k → 2 ≤ at → (j : ℕ) × (at - 2 ≡ twice j)
unfolding twice
two_less zero at e le = absurd (omega (arith, e, le))
two_less (suc k) at e le = (k, omega (arith, e))

pub none_less : (k at : ℕ) → at ≡ twice k → at < 2 → at ≡ 0
unfolding twice
none_less zero at e lt = e
none_less (suc k) at e lt = absurd (omega (arith, e, lt))

pub three_less : (k n : ℕ) → n ≡ suc (twice k) → 3 < n → (j : ℕ) × (n - 3 ≡ twice j)
unfolding twice
three_less zero n e lt = absurd (omega (arith, e, lt))
three_less (suc k) n e lt = (k, omega (arith, e))

-- a choice of two values before the rest
pub chain_shape : (rest : List Location) (c v last : Location) → shape_of_choice (location_shapes rest) ≡ Some (location_shape last) → shape_of_choice (location_shapes (c ∷ v ∷ last ∷ [])) ≡ shape_of_choice (location_shapes (c ∷ v ∷ rest))
chain_shape [] c v last e = absurd (none_some e)
  where
    none_some : {A : Type 0} {x : A} → None ≡ Some x → ⊥
    none_some e = cc
chain_shape (r ∷ rest) c v last e = ap (λ o. option_and_then (λ s. if is_unsigned (location_shape c) && same_shape (location_shape v) s then Some s else None) o) (sym e)

three_all : (P : Location → Type 0) (c v l : Location) → P c → P v → P l → All P (c ∷ v ∷ l ∷ [])
three_all P c v l f g h zero d lt = f
three_all P c v l f g h (suc zero) d lt = g
three_all P c v l f g h (suc (suc zero)) d lt = h
three_all P c v l f g h (suc (suc (suc k))) d lt = absurd (omega (arith, lt))

pub chain_step : (old d e : Draft) (rest : List Location) (c v last s : Location) → shape_of_choice (location_shapes rest) ≡ Some (location_shape last)
    → (IsDraft old → All (Stands old) rest → Makes old d last (IsMade chosen rest (location_shape last)))
    → (IsDraft d → All (Stands d) (c ∷ v ∷ last ∷ []) → Makes d e s (IsMade chosen (c ∷ v ∷ last ∷ []) (location_shape s))) → IsDraft old → All (Stands old) (c ∷ v ∷ rest)
    → Makes old e s (IsMade chosen (c ∷ v ∷ rest) (location_shape s))
chain_step old d e rest c v last s is_shape before next is there =
    let m = before is (λ k x lt. there (suc (suc k)) x (omega (arith, lt))) in
    let one = stands_on old d c m.grows (there 0 c (omega arith)) in
    let two = stands_on old d v m.grows (there 1 v (omega arith)) in
    let n = next m.grows.is (three_all (Stands d) c v last one two m.stands) in
    record {
      grows = grows_then old d e m.grows n.grows;
      stands = n.stands;
      holds = λ words inputs F u sol wanted.
          let cut = wanted.2 in
          let r = chosen (location_values F rest) in
          let shape_r = choice_shape (location_values F rest) (location_shape last) (ap shape_of_choice (locations_fine F rest) ∙ is_shape) in
          let held = m.holds words inputs F r (n.grows.back words inputs F sol) (refl, shape_r, λ k x lt. cut (suc (suc k)) x (omega (arith, lt))) in
          n.holds words inputs F u sol (
            wanted.0 ∙ (chosen_two F rest c v is_shape ∙ ap (λ x. if is_one (location_value F c) then location_value F v else x) (sym (held_value F last r held))),
            wanted.1,
            three_all (Cut F) c v last (cut 0 c (omega arith)) (cut 1 v (omega arith)) (cut_there F last r held),
          );
    }
  where
    chosen_two : (F : List ℕ) (rest : List Location) (c v : Location) → shape_of_choice (location_shapes rest) ≡ Some (location_shape last) → chosen (location_values F (c ∷ v ∷ rest)) ≡ (if is_one (location_value F c) then location_value F v else chosen (location_values F rest))
    chosen_two F rest c v e = refl

-- the items of a slice from one on
all_taken : (n : ℕ) (xs : List Location) → length xs ≤ n → take n xs ≡ xs
all_taken zero [] le = refl
all_taken (suc n) [] le = refl
all_taken zero (x ∷ xs) le = absurd (omega (arith, le))
all_taken (suc n) (x ∷ xs) le = ap (λ ys. x ∷ ys) (all_taken n xs (omega (arith, le)))

dropped_short : (n : ℕ) (xs : List Location) → length (drop n xs) ≤ length xs - n
dropped_short zero xs = omega arith
dropped_short (suc n) [] = omega arith
dropped_short (suc n) (x ∷ xs) = let h = dropped_short n xs in omega (arith, h)

pub rest_all : (n : ℕ) (xs : List Location) → take (length xs - n) (drop n xs) ≡ drop n xs
rest_all n xs = all_taken (length xs - n) (drop n xs) (dropped_short n xs)
