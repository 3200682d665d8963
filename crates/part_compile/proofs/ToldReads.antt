-- Captured reads, one memory after the other.
use Rattle.std.proofs.Common.{◌≡◌, ℕ, zero, suc, ◌+◌, ◌≤◌, Bool, true, false, List, [], ◌∷◌, ◌++◌, map, take, length, slice_get, zip, Option, Some, None, if◌then◌else◌, refl, sym, ap, ap₂, ◌∙◌, arith}
use Rattle.std.specs.Prelude.{flat_map}
use Rattle.std.specs.List.{range_with_len}
use Rattle.std.proofs.lemmas.Grind.{flat_map-append}
use Rattle.std.proofs.lemmas.List.{take_more, take_all, append-nil, map-append}
use Rattle.std.proofs.lemmas.Option.{slice_get_within, get_or_from_slice_get}
use Rattle.ground_net.specs.declared.net.Net.{Net}
use Rattle.ground_net.specs.declared.net.NetMemory.{NetMemory}
use Rattle.ground_net.specs.declared.net.NetPort.{NetPort}
use Rattle.ground_net.specs.declared.net.NetRead.{NetRead}
use Rattle.ground_net.specs.Cones.{numbered}
use Rattle.ground_net.proofs.Layers.{maps}
use Rattle.ground_net.specs.Cycles.{captures, captured_by}
use Rattle.part_compile.specs.declared.captured.CapturedRead.{CapturedRead}
use Rattle.part_compile.specs.FirstWords.{told_of}
use Rattle.part_compile.specs.KeptRows.{told_by, told_by_ports}

map_flat_map : {A B C : Type 0} (f : B → C) (g : A → List B) (xs : List A) → map f (flat_map g xs) ≡ flat_map (λ x. map f (g x)) xs
map_flat_map f g [] = refl
map_flat_map f g (x ∷ xs) = map-append f (g x) (flat_map g xs) ∙ ap (λ l. map f (g x) ++ l) (map_flat_map f g xs)

same_flat_map : {A B : Type 0} (f g : A → List B) → ((x : A) → f x ≡ g x) → (xs : List A) → flat_map f xs ≡ flat_map g xs
same_flat_map f g h [] = refl
same_flat_map f g h (x ∷ xs) = ap₂ (λ l m. l ++ m) (h x) (same_flat_map f g h xs)

numbered_map : {A B : Type 0} (h : A → B) (xs : List A) (a : ℕ) → map (λ (both : ℕ × A). h both.1) (zip (range_with_len a (length xs)) xs) ≡ map h xs
numbered_map h [] a = refl
numbered_map h (x ∷ xs) a = ap (λ l. h x ∷ l) (numbered_map h xs (a + 1))

numbered_at : {A : Type 0} (a : ℕ) (xs : List A) (k : ℕ) (x : A) → slice_get xs k ≡ Some x → slice_get (zip (range_with_len a (length xs)) xs) k ≡ Some (a + k, x)
numbered_at a [] k x e = cc
numbered_at a (y ∷ ys) zero x e = let same : y ≡ x = cc in let z : a ≡ a + 0 = omega arith in ap₂ (λ n w. Some (n, w)) z same
numbered_at a (y ∷ ys) (suc k) x e = let z : a + 1 + k ≡ a + suc k = omega arith in numbered_at (a + 1) ys k x e ∙ ap (λ n. Some (n, x)) z

numbered_is : {A : Type 0} (xs : List A) (k : ℕ) (x : A) → slice_get xs k ≡ Some x → slice_get (numbered xs) k ≡ Some (k, x)
numbered_is xs k x e = let z : 0 + k ≡ k = omega arith in numbered_at 0 xs k x e ∙ ap (λ n. Some (n, x)) z

numbered_length : {A : Type 0} (a : ℕ) (xs : List A) → length (zip (range_with_len a (length xs)) xs) ≡ length xs
numbered_length a [] = refl
numbered_length a (x ∷ xs) = ap suc (numbered_length (a + 1) xs)

take_next : {A : Type 0} (xs : List A) (k : ℕ) (x : A) → slice_get xs k ≡ Some x → take (k + 1) xs ≡ take k xs ++ x ∷ []
take_next xs k x e = take_more xs k x (slice_get_within xs k x e) ∙ ap (λ y. take k xs ++ y ∷ []) (get_or_from_slice_get xs k x x e)

module _ (net : Net) where
  abbrev of_memory : ℕ × NetMemory → List CapturedRead
  of_memory both = told_by_ports both.0 both.1.ports

  -- what is told of so many memories
  abbrev pub told_below : ℕ → List CapturedRead
  told_below count = flat_map of_memory (take count (numbered net.memories))

  pub told_more : (m : ℕ) (memory : NetMemory) → slice_get net.memories m ≡ Some memory → told_below (m + 1) ≡ told_below m ++ told_by_ports m memory.ports
  told_more m memory e =
      ap (flat_map of_memory) (take_next (numbered net.memories) m (m, memory) (numbered_is net.memories m memory e))
      ∙ (flat_map-append of_memory (take m (numbered net.memories)) ((m, memory) ∷ []) ∙ ap (λ l. told_below m ++ l) (append-nil (told_by_ports m memory.ports)))

  by_test : (m : ℕ) (memory : NetMemory) (port : NetPort) (read : NetRead) (b : Bool)
      → map told_of (if b then map (λ both. record { number = m; memory = memory; port = port; after = read.after; element = both.0; leaf = both.1 }) (numbered read.leaves) else [])
      ≡ (if b then map (λ x. record { memory = m; leaf = x }) read.leaves else [])
  by_test m memory port read true =
      maps told_of (λ both. record { number = m; memory = memory; port = port; after = read.after; element = both.0; leaf = both.1 }) (numbered read.leaves)
      ∙ numbered_map (λ x. record { memory = m; leaf = x }) read.leaves 0
  by_test m memory port read false = refl

  by_read : (m : ℕ) (memory : NetMemory) (port : NetPort) (o : Option NetRead) → map told_of (captured_by m memory port o) ≡ told_by m o
  by_read m memory port (Some read) = by_test m memory port read read.captured
  by_read m memory port None = refl

  all_told : map told_of (captures net) ≡ flat_map of_memory (numbered net.memories)
  all_told =
      map_flat_map told_of (λ both. flat_map (λ port. captured_by both.0 both.1 port port.read) both.1.ports) (numbered net.memories)
      ∙ same_flat_map (λ both. map told_of (flat_map (λ port. captured_by both.0 both.1 port port.read) both.1.ports)) of_memory
      (λ both. map_flat_map told_of (λ port. captured_by both.0 both.1 port port.read) both.1.ports
      ∙ same_flat_map (λ port. map told_of (captured_by both.0 both.1 port port.read)) (λ port. told_by both.0 port.read) (λ port. by_read both.0 both.1 port port.read) both.1.ports)
      (numbered net.memories)

  pub told_all : (count : ℕ) → length net.memories ≤ count → told_below count ≡ map told_of (captures net)
  told_all count le = let long = numbered_length 0 net.memories in ap (flat_map of_memory) (take_all count (numbered net.memories) (omega (arith, long, le))) ∙ sym all_told
