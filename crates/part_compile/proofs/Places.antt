-- Which sinks have which numbers.
use Rattle.std.proofs.Common.{◌≡◌, ◌⊎◌, inl, inr, ⊎_elim, ℕ, zero, suc, ◌+◌, ◌<◌, ◌≤◌, ◌==◌, Bool, true, false, List, [], ◌∷◌, ◌++◌, map, length, slice_get, slice_index, get_or, zip, Option, Some, None, if◌then◌else◌, refl, sym, subst, ap, ◌∙◌, arith}
use Rattle.std.specs.Prelude.{Contains, flat_map, filter_map}
use Rattle.std.specs.List.{range_with_len, cons_option}
use Rattle.std.proofs.lemmas.List.Elements.{Contains-append_cases}
use Rattle.std.proofs.lemmas.Option.{slice_get_within, get_or_from_slice_get}
use Rattle.ground_net.specs.declared.net.Net.{Net}
use Rattle.ground_net.specs.declared.net.NetMemory.{NetMemory}
use Rattle.ground_net.specs.declared.net.NetRegister.{NetRegister}
use Rattle.ground_net.specs.Cones.{Sink, A_watched, A_register, A_memory, numbered, memory_before, register_at, sinks_at, sinks}

some_same : {A : Type 0} {x y : A} → Some x ≡ Some y → x ≡ y
some_same e = cc

none_some : {A : Type 0} {x : A} → None ≡ Some x → ⊥
none_some e = cc

cases_at : {A : Type 0} (y : A) (xs : List A) (x : A) (k : ℕ) → k < length (y ∷ xs) → get_or (y ∷ xs) k x ≡ x → (y ≡ x) ⊎ Contains xs x
cases_at y xs x zero lt e = inl e
cases_at y xs x (suc k) lt e = inr (k, omega (arith, lt), e)

item_cases : {A : Type 0} (y : A) (xs : List A) (x : A) → Contains (y ∷ xs) x → (y ≡ x) ⊎ Contains xs x
item_cases y xs x h = cases_at y xs x h.0 h.1 h.2

none_here : {A : Type 0} (x : A) → Contains {X = A} [] x → ⊥
none_here x (k, below, is) = omega (arith, below)

-- What is true of each sink of a list
abbrev Every : (Sink → Type 0) → List Sink → Type 0
Every P xs = (s : Sink) → Contains xs s → P s

every_flat : {A : Type 0} (P : Sink → Type 0) (f : A → List Sink) (xs : List A) → ((x : A) → Every P (f x)) → Every P (flat_map f xs)
every_flat P f [] h s c = absurd (none_here s c)
every_flat P f (x ∷ xs) h s c = ⊎_elim (λ here. h x s here) (λ later. every_flat P f xs h s later) (Contains-append_cases (f x) (flat_map f xs) s c)

-- of a list with its first item kept where there is one
every_option : (P : Sink → Type 0) (o : Option Sink) (rest : List Sink) → ((s : Sink) → o ≡ Some s → P s) → Every P rest → Every P (cons_option o rest)
every_option P None rest h further s c = further s c
every_option P (Some t) rest h further s c = ⊎_elim (λ same. h s (ap Some same)) (λ later. further s later) (item_cases t rest s c)

every_kept : {A : Type 0} (P : Sink → Type 0) (f : ℕ × A → Option Sink) (bound : ℕ) → ((both : ℕ × A) (s : Sink) → both.0 < bound → f both ≡ Some s → P s) → (a : ℕ) (xs : List A) → a + length xs ≤ bound
    → Every P (filter_map f (zip (range_with_len a (length xs)) xs))
every_kept P f bound h a [] le s c = absurd (none_here s c)
every_kept P f bound h a (x ∷ xs) le s c = every_option P (f (a, x)) (filter_map f (zip (range_with_len (a + 1) (length xs)) xs))
    (λ t e. h (a, x) t (omega (arith, le)) e) (every_kept P f bound h (a + 1) xs (omega (arith, le))) s c

-- a register or a memory of the net
abbrev pub IsKept : Net → Sink → Type 0
IsKept net (A_watched x) = ⊥
IsKept net (A_register n) = n < length net.registers
IsKept net (A_memory m) = m < length net.memories

module _ (net : Net) where
  by_memory : (x : ℕ) (both : ℕ × NetMemory) (s : Sink) → both.0 < length net.memories → memory_before x both ≡ Some s → IsKept net s
  by_memory x both s lt e = by_test (both.1.before == x) e
    where
      by_test : (b : Bool) → (if b then Some (A_memory both.0) else None) ≡ Some s → IsKept net s
      by_test true e = subst (IsKept net) (some_same e) lt
      by_test false e = absurd (none_some e)

  by_register : (x : ℕ) (both : ℕ × NetRegister) (s : Sink) → both.0 < length net.registers → register_at x both ≡ Some s → IsKept net s
  by_register x both s lt e = by_test (both.1.leaf == x) e
    where
      by_test : (b : Bool) → (if b then Some (A_register both.0) else None) ≡ Some s → IsKept net s
      by_test true e = subst (IsKept net) (some_same e) lt
      by_test false e = absurd (none_some e)

  kept_at : (x : ℕ) → Every (IsKept net) (sinks_at net x)
  kept_at x s c = ⊎_elim
      (λ h. every_kept (IsKept net) (memory_before x) (length net.memories) (by_memory x) 0 net.memories (omega arith) s h)
      (λ h. every_kept (IsKept net) (register_at x) (length net.registers) (by_register x) 0 net.registers (omega arith) s h)
      (Contains-append_cases (filter_map (memory_before x) (numbered net.memories)) (filter_map (register_at x) (numbered net.registers)) s c)

  abbrev kept_sinks : List Sink
  kept_sinks = flat_map (sinks_at net) (range_with_len 0 (suc (length net.leaves)))

  all_kept : Every (IsKept net) kept_sinks
  all_kept = every_flat (IsKept net) (sinks_at net) (range_with_len 0 (suc (length net.leaves))) kept_at

got : {A : Type 0} (xs : List A) (k : ℕ) (x : A) → slice_get xs k ≡ Some x → Contains xs x
got xs k x e = (k, slice_get_within xs k x e, get_or_from_slice_get xs k x x e)

-- a sink is a watched leaf at its place, or a register or a memory behind all watched ones
place_cases : (watch : List ℕ) (rest : List Sink) (k : ℕ) (s : Sink) → slice_get (map (λ x. A_watched x) watch ++ rest) k ≡ Some s
    → ((x : ℕ) × (s ≡ A_watched x) × (k < length watch) × (slice_index watch k ≡ x)) ⊎ ((length watch ≤ k) × Contains rest s)
place_cases [] rest k s e = inr (omega arith, got rest k s e)
place_cases (y ∷ watch) rest zero s e = inl (y, sym (some_same e), omega arith, refl)
place_cases (y ∷ watch) rest (suc k) s e = ⊎_elim
    (λ h. inl (h.0, h.1, let lt = h.2 in omega (arith, lt), h.3))
    (λ h. inr (let le = h.0 in omega (arith, le), h.1))
    (place_cases watch rest k s e)

module _ (net : Net) (watch : List ℕ) where
  pub watched_place : (k x : ℕ) → slice_get (sinks net watch) k ≡ Some (A_watched x) → (k < length watch) × (slice_index watch k ≡ x)
  watched_place k x e = ⊎_elim
      (λ h. (h.2, h.3 ∙ sym (same_leaf x h.0 h.1)))
      (λ h. absurd (all_kept net (A_watched x) h.1))
      (place_cases watch (kept_sinks net) k (A_watched x) e)
    where
      same_leaf : (x y : ℕ) → A_watched x ≡ A_watched y → x ≡ y
      same_leaf x y e = cc

  pub register_place : (k n : ℕ) → slice_get (sinks net watch) k ≡ Some (A_register n) → (length watch ≤ k) × (n < length net.registers)
  register_place k n e = ⊎_elim
      (λ h. absurd (differ h.0 h.1))
      (λ h. (h.0, all_kept net (A_register n) h.1))
      (place_cases watch (kept_sinks net) k (A_register n) e)
    where
      differ : (x : ℕ) → A_register n ≡ A_watched x → ⊥
      differ x e = cc

  pub memory_place : (k m : ℕ) → slice_get (sinks net watch) k ≡ Some (A_memory m) → (length watch ≤ k) × (m < length net.memories)
  memory_place k m e = ⊎_elim
      (λ h. absurd (differ h.0 h.1))
      (λ h. (h.0, all_kept net (A_memory m) h.1))
      (place_cases watch (kept_sinks net) k (A_memory m) e)
    where
      differ : (x : ℕ) → A_memory m ≡ A_watched x → ⊥
      differ x e = cc
