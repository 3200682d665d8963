-- The sinks of a net by the leaves at which they stand.
use Rattle.std.proofs.Common.{◌≡◌, ℕ, suc, ◌+◌, ◌<◌, ◌==◌, Bool, true, false, cond, List, [], ◌∷◌, ◌++◌, length, map, slice_index, refl, sym, ap, ◌∙◌, arith, append_assoc, Option, Some, None}
use Rattle.std.specs.List.{filter, filter_map, flat_map, cons_option, zip, range_with_len}
use Rattle.std.proofs.lemmas.List.{length-map, append-nil}
use Rattle.std.proofs.lemmas.Grind.{flat_map-append}
use Rattle.ground_net.specs.declared.net.Net.{Net}
use Rattle.ground_net.specs.Cones.{Sink, A_memory, A_register, numbered, register_at, sinks_at}
use Rattle.cone_cutter.specs.Rows.{places_of}
use Rattle.cone_cutter.proofs.Lists.{range_more}

-- those of items whose key is x
module _ {A : Type 0} (key : A → ℕ) (s : ℕ → Sink) (x : ℕ) (keys : List ℕ) where
  told : ℕ × A → Option Sink
  told both = cond (key both.1 == x) (Some (s both.0)) None

  one : (b : Bool) (a : ℕ) (rest : List Sink) (places : List ℕ) → rest ≡ map s places → cons_option (cond b (Some (s a)) None) rest ≡ map s (cond b (a ∷ places) places)
  one true a rest places e = ap (λ r. s a ∷ r) e
  one false a rest places e = e

  at_key : (a : ℕ) (items : List A) → ((i : ℕ) → i < length items → slice_index keys (a + i) ≡ slice_index (map key items) i)
      → filter_map (λ both. cond (key both.1 == x) (Some (s both.0)) None) (zip (range_with_len a (length items)) items) ≡ map s (filter (λ k. slice_index keys k == x) (range_with_len a (length items)))
  at_key a [] h = refl
  at_key a (item ∷ items) h =
      let z : a ≡ a + 0 = omega arith in
      let here : slice_index keys a ≡ key item = ap (slice_index keys) z ∙ h 0 (omega arith) in
      let rest = at_key (a + 1) items (λ i lt. let e : a + 1 + i ≡ a + suc i = omega arith in ap (slice_index keys) e ∙ h (suc i) (omega arith)) in
      one (key item == x) a _ (filter (λ k. slice_index keys k == x) (range_with_len (a + 1) (length items))) rest
      ∙ ap (λ v. map s (cond (v == x) (a ∷ filter (λ k. slice_index keys k == x) (range_with_len (a + 1) (length items))) (filter (λ k. slice_index keys k == x) (range_with_len (a + 1) (length items))))) (sym here)

pub by_key : {A : Type 0} (key : A → ℕ) (s : ℕ → Sink) (x : ℕ) (items : List A)
    → filter_map (λ both. cond (key both.1 == x) (Some (s both.0)) None) (numbered items) ≡ map s (places_of (map key items) x)
by_key key s x items =
    let long : length items ≡ length (map key items) = sym (length-map items key) in
    at_key key s x (map key items) 0 items (λ i lt. let e : 0 + i ≡ i = omega arith in ap (slice_index (map key items)) e)
    ∙ ap (λ n. map s (filter (λ k. slice_index (map key items) k == x) (range_with_len 0 n))) long

pub sinks_here : (net : Net) (x : ℕ) → sinks_at net x ≡ map (λ m. A_memory m) (places_of (map (λ memory. memory.before) net.memories) x) ++ map (λ k. A_register k) (places_of (map (λ register. register.leaf) net.registers) x)
sinks_here net x =
    ap (λ l. l ++ filter_map (register_at x) (numbered net.registers)) (by_key (λ memory. memory.before) (λ m. A_memory m) x net.memories)
    ∙ ap (λ l. map (λ m. A_memory m) (places_of (map (λ memory. memory.before) net.memories) x) ++ l) (by_key (λ register. register.leaf) (λ k. A_register k) x net.registers)

pub sinks_more : (net : Net) (x : ℕ) (watched now memories registers : List Sink) → now ≡ watched ++ flat_map (sinks_at net) (range_with_len 0 x)
    → memories ≡ map (λ m. A_memory m) (places_of (map (λ memory. memory.before) net.memories) x) → registers ≡ map (λ k. A_register k) (places_of (map (λ register. register.leaf) net.registers) x)
    → now ++ memories ++ registers ≡ watched ++ flat_map (sinks_at net) (range_with_len 0 (x + 1))
sinks_more net x watched now memories registers e m r =
    let all : flat_map (sinks_at net) (range_with_len 0 (x + 1)) ≡ flat_map (sinks_at net) (range_with_len 0 x) ++ (sinks_at net x ++ []) =
    ap (flat_map (sinks_at net)) (range_more x) ∙ flat_map-append (sinks_at net) (range_with_len 0 x) (x ∷ []) in
    let here : memories ++ registers ≡ sinks_at net x ++ [] = ap (λ l. l ++ registers) m ∙ (ap (λ l. map (λ k. A_memory k) (places_of (map (λ memory. memory.before) net.memories) x) ++ l) r ∙ (sym (sinks_here net x) ∙ sym (append-nil (sinks_at net x)))) in
    append_assoc now memories registers ∙ (ap (λ l. l ++ (memories ++ registers)) e ∙ (append_assoc watched (flat_map (sinks_at net) (range_with_len 0 x)) (memories ++ registers)
    ∙ ap (λ l. watched ++ l) (ap (λ l. flat_map (sinks_at net) (range_with_len 0 x) ++ l) here ∙ sym all)))
