-- How many sinks a net has.
use Rattle.std.proofs.Common.{◌≡◌, ℕ, zero, suc, ◌+◌, ◌<◌, ◌≤◌, ◌==◌, Bool, true, false, cond, List, [], ◌∷◌, ◌++◌, length, map, refl, arith, Some, None}
use Rattle.std.specs.List.{filter_map, flat_map, cons_option, zip, range_with_len}
use Rattle.std.proofs.lemmas.Bool.{eqb-true}
use Rattle.std.proofs.lemmas.List.{length-map}
use Rattle.std.proofs.Math.ListN.{length-append}
use Rattle.ground_net.specs.declared.net.Net.{Net}
use Rattle.ground_net.specs.Cones.{Sink, A_watched, A_memory, A_register, numbered, memory_before, register_at, sinks_at, sinks}

-- at most one number of a range is the key of an item
hits : ℕ → ℕ → ℕ → ℕ
hits key a zero = 0
hits key a (suc n) = cond (key == a) 1 0 + hits key (a + 1) n

no_hits : (key a n : ℕ) → key < a → hits key a n ≡ 0
unfolding hits
no_hits key a zero lt = refl
no_hits key a (suc n) lt = one (key == a) refl (no_hits key (a + 1) n (omega arith))
  where
    one : (b : Bool) → (key == a) ≡ b → hits key (a + 1) n ≡ 0 → cond {A = ℕ} b 1 0 + hits key (a + 1) n ≡ 0
    one true e h = absurd (omega (arith, eqb-true key a e))
    one false e h = omega arith

one_hit : (key a n : ℕ) → hits key a n ≤ 1
unfolding hits
one_hit key a zero = omega arith
one_hit key a (suc n) = one (key == a) refl (one_hit key (a + 1) n)
  where
    one : (b : Bool) → (key == a) ≡ b → hits key (a + 1) n ≤ 1 → cond {A = ℕ} b 1 0 + hits key (a + 1) n ≤ 1
    one true e h = let none = no_hits key (a + 1) n (omega (arith, eqb-true key a e)) in omega arith
    one false e h = omega arith

module _ {A : Type 0} (key : A → ℕ) (s : ℕ → Sink) where
  none_listed : (a n : ℕ) → length (flat_map (λ x. filter_map (λ (both : ℕ × A). cond (key both.1 == x) (Some (s both.0)) None) []) (range_with_len a n)) ≡ 0
  none_listed a zero = refl
  none_listed a (suc n) = none_listed (a + 1) n

  longer : (b : Bool) (sink : Sink) (rest : List Sink) → length (cons_option (cond b (Some sink) None) rest) ≡ cond {A = ℕ} b 1 0 + length rest
  longer true sink rest = omega arith
  longer false sink rest = omega arith

  one_more : (item : ℕ × A) (items : List (ℕ × A)) (a n : ℕ)
      → length (flat_map (λ x. filter_map (λ (both : ℕ × A). cond (key both.1 == x) (Some (s both.0)) None) (item ∷ items)) (range_with_len a n))
      ≡ hits (key item.1) a n + length (flat_map (λ x. filter_map (λ (both : ℕ × A). cond (key both.1 == x) (Some (s both.0)) None) items) (range_with_len a n))
  unfolding hits
  one_more item items a zero = refl
  one_more item items a (suc n) =
      let here = filter_map (λ (both : ℕ × A). cond (key both.1 == a) (Some (s both.0)) None) items in
      let rest = one_more item items (a + 1) n in
      let first = length-append (filter_map (λ (both : ℕ × A). cond (key both.1 == a) (Some (s both.0)) None) (item ∷ items)) (flat_map (λ x. filter_map (λ (both : ℕ × A). cond (key both.1 == x) (Some (s both.0)) None) (item ∷ items)) (range_with_len (a + 1) n)) in
      let second = length-append here (flat_map (λ x. filter_map (λ (both : ℕ × A). cond (key both.1 == x) (Some (s both.0)) None) items) (range_with_len (a + 1) n)) in
      omega (arith, first, second, rest, longer (key item.1 == a) (s item.0) here)

  pub listed_few : (items : List (ℕ × A)) (a n : ℕ) → length (flat_map (λ x. filter_map (λ (both : ℕ × A). cond (key both.1 == x) (Some (s both.0)) None) items) (range_with_len a n)) ≤ length items
  listed_few [] a n = omega (arith, none_listed a n)
  listed_few (item ∷ items) a n = omega (arith, one_more item items a n, one_hit (key item.1) a n, listed_few items a n)

both_long : (f g : ℕ → List Sink) (xs : List ℕ) → length (flat_map (λ x. f x ++ g x) xs) ≡ length (flat_map f xs) + length (flat_map g xs)
both_long f g [] = refl
both_long f g (x ∷ xs) =
    omega (arith, length-append (f x ++ g x) (flat_map (λ y. f y ++ g y) xs), length-append (f x) (g x), both_long f g xs, length-append (f x) (flat_map f xs), length-append (g x) (flat_map g xs))

zip_long : {A : Type 0} (a : ℕ) (items : List A) → length (zip (range_with_len a (length items)) items) ≡ length items
zip_long a [] = refl
zip_long a (x ∷ items) = let rest = zip_long (a + 1) items in omega arith

pub sinks_few : (net : Net) (watch : List ℕ) → length (sinks net watch) ≤ length watch + (length net.registers + length net.memories)
sinks_few net watch =
    let range = range_with_len 0 (suc (length net.leaves)) in
    let all = length-append (map (λ x. A_watched x) watch) (flat_map (sinks_at net) (range_with_len 0 (suc (length net.leaves)))) in
    let parts = both_long (λ x. filter_map (memory_before x) (numbered net.memories)) (λ x. filter_map (register_at x) (numbered net.registers)) (range_with_len 0 (suc (length net.leaves))) in
    let memories = listed_few (λ memory. memory.before) (λ m. A_memory m) (numbered net.memories) 0 (suc (length net.leaves)) in
    let registers = listed_few (λ register. register.leaf) (λ k. A_register k) (numbered net.registers) 0 (suc (length net.leaves)) in
    omega (arith, all, parts, memories, registers, zip_long 0 net.memories, zip_long 0 net.registers, length-map watch (λ x. A_watched x))
