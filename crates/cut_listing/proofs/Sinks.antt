-- The sinks of a net are told by its watch list, by how many leaves stand before its memories, and by the leaves of its registers.
use Rattle.std.proofs.Common.{◌≡◌, ℕ, suc, ◌+◌, ◌==◌, cond, List, [], ◌∷◌, ◌++◌, length, map, Some, None, refl, sym, ap, ap₂, ◌∙◌}
use Rattle.std.specs.List.{filter_map, flat_map, cons_option, zip, range_with_len}
use Rattle.std.proofs.lemmas.List.Concat.{flat_map-cons}
use Rattle.ground_net.specs.declared.net.Net.{Net}
use Rattle.ground_net.specs.Cones.{Sink, A_watched, A_register, A_memory, sinks_at, sinks}

-- which of some numbers are one, by their places
keyed : (s : ℕ → Sink) (x from : ℕ) (keys : List ℕ) → List Sink
keyed s x from keys = filter_map (λ (both : ℕ × ℕ). cond (both.1 == x) (Some (s both.0)) None) (zip (range_with_len from (length keys)) keys)

by_keys : {A : Type 0} (key : A → ℕ) (s : ℕ → Sink) (x from : ℕ) (items : List A)
    → filter_map (λ (both : ℕ × A). cond (key both.1 == x) (Some (s both.0)) None) (zip (range_with_len from (length items)) items) ≡ keyed s x from (map key items)
unfolding keyed
by_keys key s x from [] = refl
by_keys key s x from (item ∷ items) = ap (cons_option (cond (key item == x) (Some (s from)) None)) (by_keys key s x (from + 1) items)

here : List ℕ → List ℕ → ℕ → List Sink
here befores leaves x = keyed (λ m. A_memory m) x 0 befores ++ keyed (λ k. A_register k) x 0 leaves

at_keys : (net : Net) (x : ℕ) → sinks_at net x ≡ here (map (λ memory. memory.before) net.memories) (map (λ register. register.leaf) net.registers) x
unfolding here
at_keys net x = ap₂ (λ a b. a ++ b) (by_keys (λ memory. memory.before) (λ m. A_memory m) x 0 net.memories) (by_keys (λ register. register.leaf) (λ k. A_register k) x 0 net.registers)

flat_map_same : (f g : ℕ → List Sink) → ((x : ℕ) → f x ≡ g x) → (xs : List ℕ) → flat_map f xs ≡ flat_map g xs
flat_map_same f g h [] = refl
flat_map_same f g h (x ∷ xs) = flat_map-cons f x xs ∙ (ap₂ (λ a b. a ++ b) (h x) (flat_map_same f g h xs) ∙ sym (flat_map-cons g x xs))

all_by_keys : (net : Net) (watch : List ℕ)
    → sinks net watch ≡ map (λ x. A_watched x) watch ++ flat_map (here (map (λ memory. memory.before) net.memories) (map (λ register. register.leaf) net.registers)) (range_with_len 0 (suc (length net.leaves)))
all_by_keys net watch =
    ap (λ l. map (λ x. A_watched x) watch ++ l) (flat_map_same (sinks_at net) (here (map (λ memory. memory.before) net.memories) (map (λ register. register.leaf) net.registers)) (at_keys net) (range_with_len 0 (suc (length net.leaves))))

pub sinks_same : (net other : Net) (watch seen : List ℕ) → watch ≡ seen → length net.leaves ≡ length other.leaves → map (λ memory. memory.before) net.memories ≡ map (λ memory. memory.before) other.memories
    → map (λ register. register.leaf) net.registers ≡ map (λ register. register.leaf) other.registers → sinks net watch ≡ sinks other seen
sinks_same net other watch seen w n b l =
    all_by_keys net watch
    ∙ (ap₂ (λ s (count : ℕ). map (λ x. A_watched x) s ++ flat_map (here (map (λ memory. memory.before) net.memories) (map (λ register. register.leaf) net.registers)) (range_with_len 0 (suc count))) w n
    ∙ (ap₂ (λ c d. map (λ x. A_watched x) seen ++ flat_map (here c d) (range_with_len 0 (suc (length other.leaves)))) b l
    ∙ sym (all_by_keys other seen)))
