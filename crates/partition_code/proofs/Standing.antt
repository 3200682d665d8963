-- Where the sinks of a net stand: a sink with a word stands there once.
use Rattle.std.proofs.Common.{◌≡◌, ◌⊎◌, inl, inr, ⊎_elim, ℕ, zero, suc, ◌+◌, ◌<◌, ◌≤◌, List, [], ◌∷◌, ◌++◌, map, length, slice_get, slice_index, Option, Some, None, option_map, refl, sym, subst, ap, ◌∙◌, arith}
use Rattle.std.specs.Prelude.{Contains}
use Rattle.std.specs.List.{flat_map, range_with_len}
use Rattle.std.proofs.lemmas.List.{length-map}
use Rattle.std.proofs.lemmas.List.Elements.{Contains-append_left, Contains-append_right, Contains-append_cases}
use Rattle.std.proofs.lemmas.Option.{slice_get-map, slice_get_within, get_or_from_slice_get}
use Rattle.ground_net.specs.declared.net.Net.{Net}
use Rattle.ground_net.specs.declared.net.NetRegister.{NetRegister}
use Rattle.ground_net.specs.declared.net.NetMemory.{NetMemory}
use Rattle.ground_net.specs.Cones.{Sink, A_watched, A_register, A_memory, sinks_at, sinks}
use Rattle.ground_net.specs.Cycles.{Capture, captures}
use Rattle.ground_net.specs.Nets.{IsNet}
use Rattle.ground_net.specs.Words.{state_words}
use Rattle.ground_net.proofs.Ranges.{capture_from}
use Rattle.partition_code.specs.Effects.{HasWord, of_register, of_elements, of_capture}
use Rattle.cone_cutter.specs.Rows.{places_of}
use Rattle.cone_cutter.proofs.Lists.{to_range, range_rises}
use Rattle.cone_cutter.proofs.KeyPlaces.{place_from, place_to, places_rise}
use Rattle.cone_cutter.proofs.SinkOrder.{sinks_here}
use Rattle.partition_code.proofs.Blocks.{some_same, none_some}
use Rattle.partition_code.proofs.Lists.{from_map, to_map, to_flat, among, Distinct, distinct_at, distinct_append, distinct_map, distinct_rising, distinct_flat}
use Rattle.partition_code.proofs.Apart.{one_sink, sink_of_word}

-- what stands behind the watched leaves
pub behind_watch : (watch : List ℕ) (rest : List Sink) (k : ℕ) (s : Sink) → slice_get (map (λ x. A_watched x) watch ++ rest) k ≡ Some s
    → ((x : ℕ) × (s ≡ A_watched x)) ⊎ ((j : ℕ) × (k ≡ length watch + j) × (slice_get rest j ≡ Some s))
behind_watch [] rest k s e = let z : k ≡ 0 + k = omega arith in inr (k, z, e)
behind_watch (x ∷ watch) rest zero s e = inl (x, sym (some_same e))
behind_watch (x ∷ watch) rest (suc k) s e = ⊎_elim (λ h. inl h) (λ h. let at = h.1 in inr (h.0, further k (length watch) h.0 at, h.2)) (behind_watch watch rest k s e)
  where
    further : (k n j : ℕ) → k ≡ n + j → suc k ≡ suc n + j
    further k n j e = omega (arith, e)

registers_same : (a b : ℕ) → A_register a ≡ A_register b → a ≡ b
registers_same a b e = cc

memories_same : (a b : ℕ) → A_memory a ≡ A_memory b → a ≡ b
memories_same a b e = cc

differ : (a b : ℕ) (s : Sink) → A_memory a ≡ s → A_register b ≡ s → ⊥
differ a b s e f = both (e ∙ sym f)
  where
    both : A_memory a ≡ A_register b → ⊥
    both g = cc

module _ (net : Net) where
  abbrev Befores : List ℕ
  Befores = map (λ (memory : NetMemory). memory.before) net.memories

  abbrev Leaves : List ℕ
  Leaves = map (λ (register : NetRegister). register.leaf) net.registers

  abbrev Here : ℕ → List Sink
  Here x = map (λ m. A_memory m) (places_of Befores x) ++ map (λ k. A_register k) (places_of Leaves x)

  -- at which leaf a sink stands
  abbrev Place : Sink → ℕ
  Place (A_watched x) = 0
  Place (A_register n) = slice_index Leaves n
  Place (A_memory m) = slice_index Befores m

  here_place : (x : ℕ) (s : Sink) → Contains (Here x) s → Place s ≡ x
  here_place x s c = ⊎_elim
      (λ l. let h = from_map (λ m. A_memory m) (places_of Befores x) s l in subst (λ t. Place t ≡ x) h.2 (place_from Befores x h.0 h.1).1)
      (λ r. let h = from_map (λ k. A_register k) (places_of Leaves x) s r in subst (λ t. Place t ≡ x) h.2 (place_from Leaves x h.0 h.1).1)
      (Contains-append_cases (map (λ m. A_memory m) (places_of Befores x)) (map (λ k. A_register k) (places_of Leaves x)) s c)

  place : (x : ℕ) (s : Sink) → Contains (sinks_at net x) s → Place s ≡ x
  place x s c = here_place x s (subst (λ l. Contains l s) (sinks_here net x) c)

  here_distinct : (x : ℕ) → Distinct (Here x)
  here_distinct x = distinct_append (map (λ m. A_memory m) (places_of Befores x)) (map (λ k. A_register k) (places_of Leaves x))
      (distinct_map (λ m. A_memory m) memories_same (places_of Befores x) (distinct_rising (places_of Befores x) (places_rise Befores x)))
      (distinct_map (λ k. A_register k) registers_same (places_of Leaves x) (distinct_rising (places_of Leaves x) (places_rise Leaves x)))
      (λ s l r.
      let a = from_map (λ m. A_memory m) (places_of Befores x) s l in
      let b = from_map (λ k. A_register k) (places_of Leaves x) s r in
      differ a.0 b.0 s a.2 b.2)

  kept_distinct : Distinct (flat_map (sinks_at net) (range_with_len 0 (suc (length net.leaves))))
  kept_distinct = distinct_flat (sinks_at net) (range_with_len 0 (suc (length net.leaves)))
      (distinct_rising (range_with_len 0 (suc (length net.leaves))) (range_rises (suc (length net.leaves))))
      (λ x. subst Distinct (sym (sinks_here net x)) (here_distinct x))
      (λ x y s a b. sym (place x s a) ∙ place y s b)

  watched_has_none : (s : Sink) (x i : ℕ) → s ≡ A_watched x → HasWord net s i → ⊥
  watched_has_none s x i e has = none (subst (λ t. HasWord net t i) e has)
    where
      none : HasWord net (A_watched x) i → ⊥
      none h = elim h [ ]

  -- a sink with a word stands once among the sinks
  pub stands_once : (watch : List ℕ) (j k i : ℕ) (s : Sink) → HasWord net s i → slice_get (sinks net watch) j ≡ Some s → slice_get (sinks net watch) k ≡ Some s → j ≡ k
  stands_once watch j k i s has e f =
      let rest = flat_map (sinks_at net) (range_with_len 0 (suc (length net.leaves))) in
      ⊎_elim
      (λ w. absurd (watched_has_none s w.0 i w.1 has))
      (λ a. ⊎_elim
      (λ w. absurd (watched_has_none s w.0 i w.1 has))
      (λ b. a.1 ∙ (ap (λ n. length watch + n) (distinct_at rest a.0 b.0 s kept_distinct a.2 b.2) ∙ sym b.1))
      (behind_watch watch rest k s f))
      (behind_watch watch rest j s e)

  -- the word of two sinks is of one, at one place
  pub one_place : (watch : List ℕ) (j k i : ℕ) (a b : Sink) → slice_get (sinks net watch) j ≡ Some a → slice_get (sinks net watch) k ≡ Some b → HasWord net a i → HasWord net b i → j ≡ k
  one_place watch j k i a b e f has other = stands_once watch j k i a has e (f ∙ ap Some (sym (one_sink net a b i has other)))

  module _ (w : IsNet net) (watch : List ℕ) where
    -- each register and each memory is a sink
    at_leaf : (x : ℕ) (s : Sink) → x < suc (length net.leaves) → Contains (Here x) s → Contains (sinks net watch) s
    at_leaf x s lt c = Contains-append_right (map (λ y. A_watched y) watch) (flat_map (sinks_at net) (range_with_len 0 (suc (length net.leaves)))) s
        (to_flat (sinks_at net) (range_with_len 0 (suc (length net.leaves))) x s (to_range (suc (length net.leaves)) x lt) (subst (λ l. Contains l s) (sym (sinks_here net x)) c))

    pub register_is_sink : (n : ℕ) (register : NetRegister) → slice_get net.registers n ≡ Some register → Contains (sinks net watch) (A_register n)
    register_is_sink n register there =
        let r = w.register_leaves n register there in
        let inside = slice_get_within net.leaves register.leaf r.leaf r.there in
        let at : slice_get Leaves n ≡ Some register.leaf = slice_get-map (λ (q : NetRegister). q.leaf) net.registers n ∙ ap (option_map (λ (q : NetRegister). q.leaf)) there in
        at_leaf register.leaf (A_register n) (omega (arith, inside))
        (Contains-append_right (map (λ m. A_memory m) (places_of Befores register.leaf)) (map (λ k. A_register k) (places_of Leaves register.leaf)) (A_register n)
        (to_map (λ k. A_register k) (places_of Leaves register.leaf) n (place_to Leaves register.leaf n (slice_get_within Leaves n register.leaf at) (get_or_from_slice_get Leaves n register.leaf 0 at))))

    pub memory_is_sink : (m : ℕ) (memory : NetMemory) → slice_get net.memories m ≡ Some memory → Contains (sinks net watch) (A_memory m)
    memory_is_sink m memory there =
        let inside = w.before m memory there in
        let at : slice_get Befores m ≡ Some memory.before = slice_get-map (λ (q : NetMemory). q.before) net.memories m ∙ ap (option_map (λ (q : NetMemory). q.before)) there in
        at_leaf memory.before (A_memory m) (omega (arith, inside))
        (Contains-append_left (map (λ k. A_memory k) (places_of Befores memory.before)) (map (λ k. A_register k) (places_of Leaves memory.before)) (A_memory m)
        (to_map (λ k. A_memory k) (places_of Befores memory.before) m (place_to Befores memory.before m (slice_get_within Befores m memory.before at) (get_or_from_slice_get Befores m memory.before 0 at))))

    pub is_a_sink : (s : Sink) (i : ℕ) → HasWord net s i → Contains (sinks net watch) s
    is_a_sink (A_watched x) i has = elim has [ ]
    is_a_sink (A_register n) i (of_register register there is) = register_is_sink n register there
    is_a_sink (A_memory m) i (of_elements memory there from below) = memory_is_sink m memory there
    is_a_sink (A_memory m) i (of_capture n c there number is) = subst (λ k. Contains (sinks net watch) (A_memory k)) number (memory_is_sink c.number c.memory (capture_from net n c there).there)

    -- each word is of one of the sinks
    pub each_word : (i : ℕ) → i < state_words net → (s : Sink) × Contains (sinks net watch) s × HasWord net s i
    each_word i lt = let h = sink_of_word net i lt in (h.0, is_a_sink h.0 i h.1, h.1)
