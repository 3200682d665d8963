-- What registers and writes evaluate fits.
use Rattle.std.proofs.Common.{◌≡◌, ℕ, zero, suc, ◌+◌, ◌<◌, ◌≤◌, true, List, [], ◌∷◌, ◌++◌, map, length, slice_get, Option, Some, None, Contains, sum_by, ◌⊎◌, inl, inr, refl, sym, subst, ap, ◌∙◌, arith, ⊎_elim, length-append}
use Rattle.std.proofs.lemmas.List.Sums.{sum_by-cons}
use Rattle.std.proofs.lemmas.List.Elements.{Contains-append_left, Contains-append_right, Contains-append_cases}
use Rattle.std.proofs.lemmas.Option.{slice_get_within, get_or_from_slice_get, slice_get-get_or}
use Rattle.ground_net.specs.declared.ground.Ground.{Ground}
use Rattle.ground_net.specs.declared.ground.Ground.TheVariants.{Leaf}
use Rattle.ground_net.specs.declared.net.Net.{Net}
use Rattle.ground_net.specs.declared.net.NetRegister.{NetRegister}
use Rattle.ground_net.specs.declared.net.NetReset.{NetReset}
use Rattle.ground_net.specs.declared.net.NetPort.{NetPort}
use Rattle.ground_net.specs.declared.net.NetWrite.{NetWrite}
use Rattle.ground_net.specs.declared.net.CutPart.{CutPart}
use Rattle.ground_net.specs.Grounds.{mentions}
use Rattle.ground_net.specs.Reads.{driver_of}
use Rattle.ground_net.specs.Cones.{Sink, A_register, A_memory, needs, needs_of_register, needs_of_memory, register_needs, mentioned_by, mentioned_by_reset, or_no_leaf, port_needs}
use Rattle.ground_net.proofs.Layers.{mentions-Leaf, mentions-Mux}
use Rattle.flat_code.specs.Fine.{among}
use Rattle.code_memories.specs.Nexts.{driven_ground, reset_ground, next_ground}
use Rattle.code_draft.specs.declared.sources.Sources.{Sources}
use Rattle.code_emit.specs.Counts.{nodes, tips}
use Rattle.code_emit.specs.Spans.{leaf_slots}
use Rattle.code_emit.proofs.Counting.{tips-Leaf, tips-Mux, tips_few, tips_some}
use Rattle.code_memories.specs.Writes.{conditions_of}
use Rattle.code_memories.specs.WriteGroups.{IsWriteGroup}
use Rattle.partition_code.specs.Codes.{sinks_of_part}
use Rattle.cone_cutter.proofs.Lists.{cons_cases}
use Rattle.part_compile.specs.SlotBounds.{sinks_read, sinks_nodes, sink_nodes, nodes_of_reset, register_nodes, nodes_of_register, write_nodes, read_nodes, nodes_of_memory}
use Rattle.part_compile.specs.Pieces.{GroupFits}
use Rattle.part_compile.proofs.Standing.{contains_first, contains_later, contains_flat}

pub only : {A : Type 0} (x y : A) → Contains (x ∷ []) y → x ≡ y
only x y (zero, lt, e) = e
only x y (suc k, lt, e) = absurd (omega (arith, lt))

pub item_there : {A : Type 0} (xs : List A) (k : ℕ) (x : A) → slice_get xs k ≡ Some x → Contains xs x
item_there xs k x e = (k, slice_get_within xs k x e, get_or_from_slice_get xs k x x e)

module _ (net : Net) (watch : List ℕ) (part : CutPart) (sink : Sink) (there : Contains (sinks_of_part net watch part) sink) where
  pub all_read : (y : ℕ) → Contains (needs net sink) y → Contains (sinks_read net watch part) y
  all_read y c = contains_flat (needs net) (sinks_of_part net watch part) sink y there c

  pub all_counted : (n : ℕ) → Contains (sink_nodes net sink) n → Contains (sinks_nodes net watch part) n
  all_counted n c = contains_flat (sink_nodes net) (sinks_of_part net watch part) sink n there c

-- Registers

reset_tips : (o : Option NetReset) (g : Ground) → tips (reset_ground o g) ≤ nodes g + nodes_of_reset o
reset_tips None g = let few = tips_few g in omega (arith, few)
reset_tips (Some r) g =
    let all = tips-Mux (r.reset ∷ r.init ∷ g ∷ []) in
    let a = tips_few r.reset in
    let b = tips_few r.init in
    let c = tips_few g in
    let some = tips_some g in
    omega (arith, all, a, b, c, some)

reset_mentions : (o : Option NetReset) (g : Ground) (y : ℕ) → Contains (mentions (reset_ground o g)) y → Contains (mentions g) y ⊎ Contains (mentioned_by_reset o) y
reset_mentions None g y c = inl c
reset_mentions (Some r) g y c = ⊎_elim
    (λ a. inr (Contains-append_left (mentions r.reset) (mentions r.init) y a))
    (λ d. ⊎_elim
    (λ b. inr (Contains-append_right (mentions r.reset) (mentions r.init) y b))
    (λ e. ⊎_elim (λ h. inl h) (λ z. absurd (omega (arith, z.1))) (Contains-append_cases (mentions g) [] y e))
    (Contains-append_cases (mentions r.init) (mentions g ++ []) y d))
    (Contains-append_cases (mentions r.reset) (mentions r.init ++ (mentions g ++ [])) y (subst (λ xs. Contains xs y) (mentions-Mux (r.reset ∷ r.init ∷ g ∷ [])) c))

driven_mentions : (x : ℕ) (o : Option Ground) (y : ℕ) → Contains (mentions (driven_ground x o)) y → Contains (mentioned_by o) y ⊎ (x ≡ y)
driven_mentions x (Some g) y c = inl c
driven_mentions x None y c = inr (only x y (subst (λ xs. Contains xs y) (mentions-Leaf x) c))

pub register_fits : (net : Net) (watch : List ℕ) (part : CutPart) (S : Sources) (n : ℕ) (register : NetRegister) → Contains (sinks_of_part net watch part) (A_register n) → slice_get net.registers n ≡ Some register
    → ((k : ℕ) → among (leaf_slots S register.leaf) k ≡ true → ⊥)
    → GroupFits S (sinks_read net watch part) (sinks_nodes net watch part) (next_ground register (driver_of net register.leaf) ∷ [])
register_fits net watch part S n register there found own =
    let driver = driver_of net register.leaf in
    let next = next_ground register driver in
    let one = sum_by-cons tips next [] in
    let few = reset_tips register.reset (driven_ground register.leaf driver) in
    record {
      count = register_nodes net register;
      counted = all_counted net watch part (A_register n) there (register_nodes net register)
          (subst (λ r. Contains (nodes_of_register net r) (register_nodes net register)) (sym found) (contains_first (register_nodes net register) []));
      few = omega (arith, one, few);
      reads = λ g y k c m e.
          let mention = subst (λ h. Contains (mentions h) y) (sym (only next g c)) m in
          let needed : Contains (register_needs net register) y → Contains (sinks_read net watch part) y =
          λ r. all_read net watch part (A_register n) there y (subst (λ o. Contains (needs_of_register net o) y) (sym found) r)
          in
          ⊎_elim
          (λ d. ⊎_elim
          (λ h. needed (Contains-append_left (mentioned_by driver) (mentioned_by_reset register.reset) y h))
          (λ q. absurd (own k (ap (λ z. among (leaf_slots S z) k) q ∙ e)))
          (driven_mentions register.leaf driver y d))
          (λ r. needed (Contains-append_right (mentioned_by driver) (mentioned_by_reset register.reset) y r))
          (reset_mentions register.reset (driven_ground register.leaf driver) y mention);
    }

-- Writes

leaves_tips : (xs : List ℕ) → sum_by tips (map (λ x. Leaf x) xs) ≡ length xs
leaves_tips [] = refl
leaves_tips (x ∷ xs) =
    let first = tips-Leaf x in
    let rest = leaves_tips xs in
    let all = sum_by-cons tips (Leaf x) (map (λ y. Leaf y) xs) in
    omega (arith, first, rest, all)

leaves_mention : (xs : List ℕ) (g : Ground) (y k : ℕ) → k < length (map (λ x. Leaf x) xs) → slice_get (map (λ x. Leaf x) xs) k ≡ Some g → Contains (mentions g) y → Contains xs y
leaves_mention [] g y k lt e c = absurd (omega (arith, lt))
leaves_mention (x ∷ xs) g y zero lt e c = subst (λ z. Contains (z ∷ xs) y) (sym (only x y (subst (λ zs. Contains zs y) (ap mentions (sym (some_same e)) ∙ mentions-Leaf x) c))) (contains_first y xs)
  where
    some_same : {A : Type 0} {a b : A} → Some a ≡ Some b → a ≡ b
    some_same e = cc
leaves_mention (x ∷ xs) g y (suc k) lt e c = contains_later x xs y (leaves_mention xs g y k (omega (arith, lt)) e c)

group_mentions : (xs : List ℕ) (g : Ground) (y : ℕ) → Contains (map (λ x. Leaf x) xs) g → Contains (mentions g) y → Contains xs y
group_mentions xs g y c m = leaves_mention xs g y c.0 c.1 (slice_get-get_or (map (λ x. Leaf x) xs) c.0 g c.1 ∙ ap Some c.2) m

-- each leaf of a write is needed
write_needs : (port : NetPort) (write : NetWrite) (source mask y : ℕ) → Contains write.leaves source → Contains write.masks mask → Contains (port.addr ∷ source ∷ conditions_of port mask) y
    → Contains (port_needs port (Some write)) y
write_needs port write source mask y s m c = ⊎_elim
    (λ a. contains_first_of port.addr (port.en ∷ tail) y a)
    (λ d. contains_later port.addr (port.en ∷ tail) y (⊎_elim
    (λ b. contains_later port.en tail y (last (Contains-append_left write.leaves write.masks y (subst (Contains write.leaves) b s))))
    (λ e. ⊎_elim
    (λ n. contains_first_of port.en tail y n)
    (λ f. contains_later port.en tail y (⊎_elim
    (λ h. Contains-append_left (or_no_leaf port.mode) (write.leaves ++ write.masks) y h)
    (λ h. last (Contains-append_right write.leaves write.masks y (subst (Contains write.masks) (only mask y h) m)))
    (Contains-append_cases (or_no_leaf port.mode) (mask ∷ []) y f)))
    (cons_cases port.en (or_no_leaf port.mode ++ (mask ∷ [])) y e))
    (cons_cases source (conditions_of port mask) y d)))
    (cons_cases port.addr (source ∷ conditions_of port mask) y c)
  where
    tail : List ℕ
    tail = or_no_leaf port.mode ++ (write.leaves ++ write.masks)

    last : {y : ℕ} → Contains (write.leaves ++ write.masks) y → Contains tail y
    last {y} h = Contains-append_right (or_no_leaf port.mode) (write.leaves ++ write.masks) y h

    contains_first_of : (x : ℕ) (xs : List ℕ) (y : ℕ) → x ≡ y → Contains (x ∷ xs) y
    contains_first_of x xs y e = (zero, omega arith, e)

pub write_fits : (net : Net) (watch : List ℕ) (part : CutPart) (S : Sources) (m : ℕ) (gs : List Ground) → Contains (sinks_of_part net watch part) (A_memory m) → IsWriteGroup net m gs
    → GroupFits S (sinks_read net watch part) (sinks_nodes net watch part) gs
write_fits net watch part S m gs there w =
    let port = w.port in
    let ws : List ℕ = port.addr ∷ w.source ∷ conditions_of port w.mask in
    let ports = item_there w.memory.ports w.p port w.listed in
    let count : ℕ = 4 + length (or_no_leaf port.mode) in
    let tips_all = leaves_tips ws in
    let long = length-append (or_no_leaf port.mode) (w.mask ∷ []) in
    let same : sum_by tips gs ≡ sum_by tips (map (λ x. Leaf x) ws) = ap (sum_by tips) w.is in
    record {
      count = count;
      counted = all_counted net watch part (A_memory m) there count
          (subst (λ o. Contains (nodes_of_memory m o) count) (sym w.there)
          (contains_flat (λ q. write_nodes q q.write ++ read_nodes m w.memory q q.read) w.memory.ports port count ports
          (Contains-append_left (write_nodes port port.write) (read_nodes m w.memory port port.read) count
          (subst (λ o. Contains (write_nodes port o) count) (sym w.writes) (contains_first count [])))));
      few = omega (arith, tips_all, long, same);
      reads = λ g y k c d e. all_read net watch part (A_memory m) there y
          (subst (λ o. Contains (needs_of_memory o) y) (sym w.there)
          (contains_flat (λ q. port_needs q q.write) w.memory.ports port y ports
          (subst (λ o. Contains (port_needs port o) y) (sym w.writes)
          (write_needs port w.write w.source w.mask y (item_there w.write.leaves w.k w.source w.sourced) (item_there w.write.masks w.k w.mask w.masked)
          (group_mentions ws g y (subst (λ xs. Contains xs g) w.is c) d)))));
    }
