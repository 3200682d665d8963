-- The net of a sound circuit is well formed.
use Rattle.std.proofs.Common.{◌≡◌, ℕ, zero, suc, ◌+◌, ◌<◌, ◌≤◌, Bool, true, false, List, [], ◌∷◌, map, take, length, refl, sym, ap, ap₂, ◌∙◌, subst, arith, Option, Some, None, option_map, option_and_then, slice_get, if◌then◌else◌, true≢false, ⊎_elim}
use Rattle.std.specs.Prelude.{filter_map, zip, count_by}
use Rattle.std.specs.List.{range_with_len, cons_option}
use Rattle.std.proofs.lemmas.Option.{slice_get-map, slice_get_within, slice_get_past}
use Rattle.std.proofs.lemmas.List.Sums.{sum_by-cons}
use mathlib.Core.Path.{fun_ext}
use Rattle.bit_words.specs.declared.value.Kind.TheVariants.{Unsigned}
use Rattle.ground_net.specs.declared.ground.Ground.{Ground}
use Rattle.ground_net.specs.declared.circuit.GroundLeaf.{GroundLeaf}
use Rattle.ground_net.specs.declared.circuit.GroundRole.{GroundRole}
use Rattle.ground_net.specs.declared.circuit.GroundRole.TheVariants.{Input, Clock, Register, Plain}
use Rattle.ground_net.specs.declared.circuit.GroundMemory.{GroundMemory}
use Rattle.ground_net.specs.declared.circuit.FlatCircuit.{FlatCircuit}
use Rattle.ground_net.specs.declared.net.Leaf.{Leaf}
use Rattle.ground_net.specs.declared.net.Role.TheVariants as role
use Rattle.ground_net.specs.declared.net.Net.{Net}
use Rattle.ground_net.specs.declared.net.NetRegister.{NetRegister}
use Rattle.ground_net.specs.declared.net.NetReset.{NetReset}
use Rattle.ground_net.specs.declared.net.NetMemory.{NetMemory}
use Rattle.ground_net.specs.declared.net.NetPort.{NetPort}
use Rattle.ground_net.specs.declared.net.NetRead.{NetRead}
use Rattle.ground_net.specs.Reads.{IsAssigned, driver_of}
use Rattle.ground_net.specs.Shapes.{Shape, shaped, shape}
use Rattle.ground_net.specs.Cycles.{Capture, captures}
use Rattle.ground_net.specs.Nets.{IsNet, IsPort, IsUnsigned, AreElements, HasRole, table_of, leaf_shape, element_shape, numbers_in, input_number, may_be_driven}
use Rattle.memory_ports.specs.declared.reads.ReadData.{ReadData}
use Rattle.memory_ports.specs.declared.reads.ReadData.TheVariants as read_data
use Rattle.memory_ports.specs.Placing.{Shows, data_of, load_of, reads_of, IsRead, last_data, data_in, Part, Given, Without_value, Held, Kept, Driven, is_given, is_held, is_kept, part_of, parts_of, role_behind, own_driver, driver_for, IsLeafOf, without_word, IsPlaced}
use Rattle.memory_ports.specs.Sound.{ground_shape, flat_table, IsUInt, IsPlain, AreData, IsSound}
use Rattle.memory_ports.proofs.Lists.{some_same, none_some, some_of, there_below, below_or, zip_parts}
use Rattle.memory_ports.proofs.Placements.{part_there, data_counted}
use Rattle.memory_ports.proofs.Rising.{Rises, Among, same_rising}
use Rattle.memory_ports.proofs.Positions.{positions, position_is, position_of, positions_rise}
use Rattle.memory_ports.proofs.Reading.{Origin, ReadsRise, tail_reads_rise, origin_of, last_is, last_named, data_there, sound_last, sound_plain}
use Rattle.memory_ports.proofs.Loads.{load_shape}
use Rattle.memory_ports.proofs.Captures.{late_leaves, captures_are}

-- Of each part: the role, and the driver

assigned_driver : (r : GroundRole) (d : Option ReadData) (before : List Part) (own : Option Ground) → role_behind before (part_of r d) ≡ role.Assigned
    → (r ≡ Plain → d ≡ None → (g : Ground) × (own ≡ Some g)) → (g : Ground) × (driver_for r d own ≡ Some g)
assigned_driver Input d before own e h = cc
assigned_driver Clock d before own e h = cc
assigned_driver Register d before own e h = cc
assigned_driver Plain None before own e h = h refl refl
assigned_driver Plain (Some (read_data.Load g)) before own e h = (g, refl)
assigned_driver Plain (Some read_data.Captured) before own e h = cc

no_driver : (r : GroundRole) (d : Option ReadData) (before : List Part) (own : Option Ground) → may_be_driven (role_behind before (part_of r d)) ≡ false → driver_for r d own ≡ None
no_driver Input d before own e = refl
no_driver Clock d before own e = refl
no_driver Register d before own e = absurd (true≢false e)
no_driver Plain None before own e = absurd (true≢false e)
no_driver Plain (Some (read_data.Load g)) before own e = absurd (true≢false e)
no_driver Plain (Some read_data.Captured) before own e = refl

which_driver : (r : GroundRole) (d : Option ReadData) (own : Option Ground) (g : Ground) (P : Type 0) → driver_for r d own ≡ Some g → (own ≡ Some g → P) → (d ≡ Some (read_data.Load g) → P) → P
which_driver Input d own g P e f h = absurd (none_some e)
which_driver Clock d own g P e f h = absurd (none_some e)
which_driver Register d own g P e f h = f e
which_driver Plain None own g P e f h = f e
which_driver Plain (Some (read_data.Load l)) own g P e f h = h (ap (λ l. Some (read_data.Load l)) (some_same e))
which_driver Plain (Some read_data.Captured) own g P e f h = absurd (none_some e)

input_role : (r : GroundRole) (d : Option ReadData) (before : List Part) (n : ℕ) → role_behind before (part_of r d) ≡ role.Input n → r ≡ Input
input_role Input d before n e = refl
input_role Clock d before n e = cc
input_role Register d before n e = cc
input_role Plain None before n e = cc
input_role Plain (Some (read_data.Load g)) before n e = cc
input_role Plain (Some read_data.Captured) before n e = cc

held_role : (part : Part) (before : List Part) (n : ℕ) → role_behind before part ≡ role.Register n → (is_held part ≡ true) × (count_by is_held before ≡ n)
held_role Given before n e = cc
held_role Without_value before n e = cc
held_role Held before n e = (refl, cc)
held_role Kept before n e = cc
held_role Driven before n e = cc

is_held_role : (part : Part) (before : List Part) → is_held part ≡ true → role_behind before part ≡ role.Register (count_by is_held before)
is_held_role Held before e = refl
is_held_role Given before e = absurd (true≢false (sym e))
is_held_role Without_value before e = absurd (true≢false (sym e))
is_held_role Kept before e = absurd (true≢false (sym e))
is_held_role Driven before e = absurd (true≢false (sym e))

kept_role : (part : Part) (before : List Part) (n : ℕ) → role_behind before part ≡ role.Captured n → (is_kept part ≡ true) × (count_by is_kept before ≡ n)
kept_role Given before n e = cc
kept_role Without_value before n e = cc
kept_role Held before n e = cc
kept_role Kept before n e = (refl, cc)
kept_role Driven before n e = cc

is_kept_role : (part : Part) (before : List Part) → is_kept part ≡ true → role_behind before part ≡ role.Captured (count_by is_kept before)
is_kept_role Kept before e = refl
is_kept_role Given before e = absurd (true≢false (sym e))
is_kept_role Without_value before e = absurd (true≢false (sym e))
is_kept_role Held before e = absurd (true≢false (sym e))
is_kept_role Driven before e = absurd (true≢false (sym e))

kept_part : (r : GroundRole) (d : Option ReadData) → is_kept (part_of r d) ≡ true → d ≡ Some read_data.Captured
kept_part Plain (Some read_data.Captured) e = refl
kept_part Plain (Some (read_data.Load g)) e = absurd (true≢false (sym e))
kept_part Plain None e = absurd (true≢false (sym e))
kept_part Input d e = absurd (true≢false (sym e))
kept_part Clock d e = absurd (true≢false (sym e))
kept_part Register d e = absurd (true≢false (sym e))

given_role : (part : Part) (before : List Part) → input_number (role_behind before part) ≡ (if is_given part then Some (count_by is_given before) else None)
given_role Given before = refl
given_role Without_value before = refl
given_role Held before = refl
given_role Kept before = refl
given_role Driven before = refl

-- The inputs are counted in flat order

abbrev told : ℕ × Leaf → Option (ℕ × ℕ)
told both = option_map (λ n. (both.0, n)) (input_number both.1.role)

abbrev inputs_from : ℕ → List Leaf → List (ℕ × ℕ)
inputs_from a leaves = filter_map told (zip (range_with_len a (length leaves)) leaves)

record Counted (leaves : List Leaf) (parts : List Part) (c : ℕ) : Type 0 where
  same_length : length leaves ≡ length parts
  each : (j : ℕ) (part : Part) (leaf : Leaf) → slice_get parts j ≡ Some part → slice_get leaves j ≡ Some leaf → input_number leaf.role ≡ (if is_given part then Some (c + count_by is_given (take j parts)) else None)

inputs_counted : (leaves : List Leaf) (parts : List Part) (a c : ℕ) → Counted leaves parts c → map (λ both. both.1) (inputs_from a leaves) ≡ range_with_len c (length (inputs_from a leaves))
inputs_counted [] parts a c h = refl
inputs_counted (leaf ∷ leaves) [] a c h = let e = h.same_length in absurd (omega (arith, e))
inputs_counted (leaf ∷ leaves) (part ∷ parts) a c h =
    by_test (is_given part) refl (input_number leaf.role) (h.each zero part leaf refl refl) (λ d e. inputs_counted leaves parts (a + 1) d (rest d e))
  where
    rest : (d : ℕ) → d ≡ c + (if is_given part then 1 else 0) → Counted leaves parts d
    rest d e = record {
      same_length = let s = h.same_length in omega (arith, s);
      each = λ j p l at_p at_l. h.each (suc j) p l at_p at_l ∙ ap (λ n. if is_given p then Some n else None) (moved j);
    }
      where
        moved : (j : ℕ) → c + count_by is_given (part ∷ take j parts) ≡ d + count_by is_given (take j parts)
        moved j =
            let s : count_by is_given (part ∷ take j parts) ≡ (if is_given part then 1 else 0) + count_by is_given (take j parts) = sum_by-cons (λ x. if is_given x then 1 else 0) part (take j parts) in
            omega (arith, s, e)

    by_test : (b : Bool) → is_given part ≡ b → (o : Option ℕ) → o ≡ (if b then Some (c + 0) else None)
        → ((d : ℕ) → d ≡ c + (if is_given part then 1 else 0) → map (λ both. both.1) (inputs_from (a + 1) leaves) ≡ range_with_len d (length (inputs_from (a + 1) leaves)))
        → map (λ both. both.1) (cons_option (option_map (λ n. (a, n)) o) (inputs_from (a + 1) leaves)) ≡ range_with_len c (length (cons_option (option_map (λ n. (a, n)) o) (inputs_from (a + 1) leaves)))
    by_test true q (Some n) e more =
        let is : n ≡ c + 0 = some_same e in
        let same : n ≡ c = omega (arith, is) in
        ap₂ (λ m l. m ∷ l) same (more (c + 1) (ap (λ b. c + (if b then 1 else 0)) (sym q)))
    by_test true q None e more = absurd (none_some e)
    by_test false q None e more = more c (let z : c ≡ c + 0 = omega arith in z ∙ ap (λ b. c + (if b then 1 else 0)) (sym q))
    by_test false q (Some n) e more = absurd (none_some (sym e))

-- The captured reads

late_from : (reads : List Shows) (n x : ℕ) → slice_get (late_leaves reads) n ≡ Some x → (i : ℕ) × (slice_get reads i ≡ Some (x, read_data.Captured))
late_from [] n x e = absurd (none_some e)
late_from ((y, read_data.Load g) ∷ reads) n x e = let more = late_from reads n x e in (suc more.0, more.1)
late_from ((y, read_data.Captured) ∷ reads) zero x e = (zero, ap (λ z. Some (z, read_data.Captured)) (some_same e))
late_from ((y, read_data.Captured) ∷ reads) (suc n) x e = let more = late_from reads n x e in (suc more.0, more.1)

no_load : (g : Ground) → read_data.Load g ≡ read_data.Captured → ⊥
no_load g e = cc

late_there : (reads : List Shows) (i x : ℕ) → slice_get reads i ≡ Some (x, read_data.Captured) → Among (late_leaves reads) x
late_there [] i x e = absurd (none_some e)
late_there ((y, read_data.Load g) ∷ reads) zero x e = absurd (no_load g (ap (λ (s : Shows). s.1) (some_same e)))
late_there ((y, read_data.Captured) ∷ reads) zero x e = (zero, ap (λ (s : Option Shows). option_map (λ (s : Shows). s.0) s) e)
late_there ((y, read_data.Load g) ∷ reads) (suc i) x e = late_there reads i x e
late_there ((y, read_data.Captured) ∷ reads) (suc i) x e = let more = late_there reads i x e in (suc more.0, more.1)

late_rise : (reads : List Shows) → ReadsRise reads → Rises (late_leaves reads)
late_rise [] r = record { rises = λ i j x y h e f. absurd (none_some e) }
late_rise ((x, read_data.Load g) ∷ reads) r = late_rise reads (tail_reads_rise (x, read_data.Load g) reads r)
late_rise ((x, read_data.Captured) ∷ reads) r = record { rises = rises (late_rise reads (tail_reads_rise (x, read_data.Captured) reads r)) }
  where
    rises : Rises (late_leaves reads) → (i j a b : ℕ) → i < j → slice_get (x ∷ late_leaves reads) i ≡ Some a → slice_get (x ∷ late_leaves reads) j ≡ Some b → a < b
    rises later i zero a b h e f = absurd (omega arith)
    rises later zero (suc j) a b h e f =
        let from = late_from reads j b f in
        let first : zero < suc from.0 = omega arith in
        subst (λ a. a < b) (some_same e) (r.rise zero (suc from.0) (x, read_data.Captured) (b, read_data.Captured) first refl from.1)
    rises later (suc i) (suc j) a b h e f = let less : i < j = omega arith in later.rises i j a b less e f

module _ (flat : FlatCircuit) (net : Net) (is : IsPlaced flat net) (sound : IsSound flat) where
  abbrev reads : List Shows
  reads = reads_of flat.memories

  abbrev parts : List Part
  parts = parts_of flat.leaves (data_in flat)

  rising : ReadsRise reads
  rising = record { rise = sound.reads_rise }

  -- what is known of a leaf
  record Place (x : ℕ) (old : GroundLeaf) (new : Leaf) : Type 0 where
    shown : Option ReadData
    last : shown ≡ last_data reads x None
    there : slice_get (data_in flat) x ≡ Some shown
    part : slice_get parts x ≡ Some (part_of old.role shown)
    same : IsLeafOf old new
    role_is : new.role ≡ role_behind (take x parts) (part_of old.role shown)
    driver : driver_of net x ≡ driver_for old.role shown (own_driver flat x)

  place : (x : ℕ) (old : GroundLeaf) (new : Leaf) → slice_get flat.leaves x ≡ Some old → slice_get net.leaves x ≡ Some new → Place x old new
  place x old new at_old at_new =
      let shown = last_data reads x None in
      let there : slice_get (data_in flat) x ≡ Some shown = data_there flat x (slice_get_within flat.leaves x old at_old) in
      let part : slice_get parts x ≡ Some (part_of old.role shown) = part_there flat.leaves (data_in flat) x old shown at_old there in
      record {
        shown = shown;
        last = refl;
        there = there;
        part = part;
        same = is.leaves x old new at_old at_new;
        role_is = is.roles x old shown new at_old there at_new;
        driver = is.drivers x old shown at_old there;
      }

  old_of : (x : ℕ) (new : Leaf) → slice_get net.leaves x ≡ Some new → (old : GroundLeaf) × (slice_get flat.leaves x ≡ Some old)
  old_of x new at_new = there_below flat.leaves x (let h = slice_get_within net.leaves x new at_new in let c = is.counted in omega (arith, h, c))

  new_of : (x : ℕ) (old : GroundLeaf) → slice_get flat.leaves x ≡ Some old → (new : Leaf) × (slice_get net.leaves x ≡ Some new)
  new_of x old at_old = there_below net.leaves x (let h = slice_get_within flat.leaves x old at_old in let c = is.counted in omega (arith, h, c))

  -- the kinds and widths are the same

  same_shape : (x : ℕ) (old : GroundLeaf) (new : Leaf) → IsLeafOf old new → leaf_shape new ≡ ground_shape old
  same_shape x old new s = ap₂ (λ k w. shaped k w) s.kind s.width

  leaf_same : (x : ℕ) → (table_of net).leaf x ≡ (flat_table flat).leaf x
  leaf_same x = ⊎_elim
      (λ h.
      let old = there_below flat.leaves x h in
      let new = new_of x old.0 old.1 in
      ap (option_map leaf_shape) new.1 ∙ (ap Some (same_shape x old.0 new.0 (is.leaves x old.0 new.0 old.1 new.1)) ∙ ap (option_map ground_shape) (sym old.1)))
      (λ h.
      let c = is.counted in
      let past : length net.leaves ≤ x = omega (arith, c, h) in
      ap (option_map leaf_shape) (slice_get_past net.leaves x past) ∙ ap (option_map ground_shape) (sym (slice_get_past flat.leaves x h)))
      (below_or x (length flat.leaves))

  memory_get : (m : ℕ) → slice_get flat.memories m ≡ option_map without_word (slice_get net.memories m)
  memory_get m = ap (λ l. slice_get l m) (sym is.memories) ∙ slice_get-map without_word net.memories m

  element_same : (m k : ℕ) → (table_of net).element m k ≡ (flat_table flat).element m k
  element_same m k = ap (option_map element_shape) (by_option (slice_get net.memories m) ∙ ap (option_and_then (λ memory. slice_get memory.elements k)) (sym (memory_get m)))
    where
      by_option : (o : Option NetMemory) → option_and_then (λ memory. slice_get memory.elements k) o ≡ option_and_then (λ memory. slice_get memory.elements k) (option_map without_word o)
      by_option (Some memory) = refl
      by_option None = refl

  table_same : table_of net ≡ flat_table flat
  table_same = ap₂ (λ (l : ℕ → Option Shape) (e : ℕ → ℕ → Option Shape). record { leaf = l; element = e }) (fun_ext leaf_same) (fun_ext (λ m. fun_ext (λ k. element_same m k)))

  -- what a port reads

  read_shown : (m p k x : ℕ) (memory : GroundMemory) (port : NetPort) (read : NetRead) → IsRead flat.memories m p k x memory port read → last_data reads x None ≡ Some (data_of m k port read)
  read_shown = sound_last flat sound

  read_plain : (m p k x : ℕ) (memory : GroundMemory) (port : NetPort) (read : NetRead) → IsRead flat.memories m p k x memory port read → IsPlain flat x
  read_plain = sound_plain flat sound

  shown_origin : (x : ℕ) (shown : ReadData) → last_data reads x None ≡ Some shown → Origin flat.memories x shown
  shown_origin x shown e = let i = last_named reads x shown e in origin_of flat.memories i.0 (x, shown) i.1

  -- a plain leaf that shows these data

  plain_driver : (x : ℕ) (old : GroundLeaf) (new : Leaf) (d : Option ReadData) (at : Place x old new) → old.role ≡ Plain → last_data reads x None ≡ d → driver_of net x ≡ driver_for Plain d (own_driver flat x)
  plain_driver x old new d at r e = at.driver ∙ ap₂ (λ r d. driver_for r d (own_driver flat x)) r (at.last ∙ e)

  plain_role : (x : ℕ) (old : GroundLeaf) (new : Leaf) (d : Option ReadData) (at : Place x old new) → old.role ≡ Plain → last_data reads x None ≡ d → new.role ≡ role_behind (take x parts) (part_of Plain d)
  plain_role x old new d at r e = at.role_is ∙ ap₂ (λ r d. role_behind (take x parts) (part_of r d)) r (at.last ∙ e)

  plain_part : (x : ℕ) (old : GroundLeaf) (new : Leaf) (d : Option ReadData) (at : Place x old new) → old.role ≡ Plain → last_data reads x None ≡ d → slice_get parts x ≡ Some (part_of Plain d)
  plain_part x old new d at r e = at.part ∙ ap₂ (λ r d. Some (part_of r d)) r (at.last ∙ e)

  is_load : (m k : ℕ) (port : NetPort) (read : NetRead) → read.captured ≡ false → Some (data_of m k port read) ≡ Some (read_data.Load (load_of m k port))
  is_load m k port read early = ap (λ b. Some (if b then read_data.Captured else read_data.Load (load_of m k port))) early

  -- data of latency 0 have their loads
  pub load_driver : (m p k x : ℕ) (memory : GroundMemory) (port : NetPort) (read : NetRead) → IsRead flat.memories m p k x memory port read → read.captured ≡ false → driver_of net x ≡ Some (load_of m k port)
  load_driver m p k x memory port read r early =
      let plain = read_plain m p k x memory port read r in
      let new = new_of x plain.leaf plain.there in
      let at = place x plain.leaf new.0 plain.there new.1 in
      plain_driver x plain.leaf new.0 (Some (read_data.Load (load_of m k port))) at plain.is (read_shown m p k x memory port read r ∙ is_load m k port read early)

  pub load_assigned : (m p k x : ℕ) (memory : GroundMemory) (port : NetPort) (read : NetRead) → IsRead flat.memories m p k x memory port read → read.captured ≡ false → IsAssigned net.leaves x
  load_assigned m p k x memory port read r early =
      let plain = read_plain m p k x memory port read r in
      let new = new_of x plain.leaf plain.there in
      let at = place x plain.leaf new.0 plain.there new.1 in
      record {
        leaf = new.0;
        there = new.1;
        is = plain_role x plain.leaf new.0 (Some (read_data.Load (load_of m k port))) at plain.is (read_shown m p k x memory port read r ∙ is_load m k port read early);
      }

  is_late : (m k : ℕ) (port : NetPort) (read : NetRead) → read.captured ≡ true → Some (data_of m k port read) ≡ Some read_data.Captured
  is_late m k port read late = ap (λ b. Some (if b then read_data.Captured else read_data.Load (load_of m k port))) late

  -- data of latency 1 are captured
  pub late_role : (m p k x : ℕ) (memory : GroundMemory) (port : NetPort) (read : NetRead) → IsRead flat.memories m p k x memory port read → read.captured ≡ true → (n : ℕ) × HasRole net x (role.Captured n)
  late_role m p k x memory port read r late =
      let plain = read_plain m p k x memory port read r in
      let new = new_of x plain.leaf plain.there in
      let at = place x plain.leaf new.0 plain.there new.1 in (
        count_by is_kept (take x parts),
        record {
          leaf = new.0;
          there = new.1;
          is = plain_role x plain.leaf new.0 (Some read_data.Captured) at plain.is (read_shown m p k x memory port read r ∙ is_late m k port read late);
        },
      )

  pub late_undriven : (m p k x : ℕ) (memory : GroundMemory) (port : NetPort) (read : NetRead) → IsRead flat.memories m p k x memory port read → read.captured ≡ true → driver_of net x ≡ None
  late_undriven m p k x memory port read r late =
      let plain = read_plain m p k x memory port read r in
      let new = new_of x plain.leaf plain.there in
      let at = place x plain.leaf new.0 plain.there new.1 in
      plain_driver x plain.leaf new.0 (Some read_data.Captured) at plain.is (read_shown m p k x memory port read r ∙ is_late m k port read late)

  load_fits : (x : ℕ) (old : GroundLeaf) (g : Ground) → slice_get flat.leaves x ≡ Some old → last_data reads x None ≡ Some (read_data.Load g) → shape g (flat_table flat) ≡ Some (ground_shape old)
  load_fits x old g at_old e =
      let o = shown_origin x (read_data.Load g) e in
      let fits = sound.memories o.m o.p o.memory o.port o.is.there o.is.has in
      let fit = fits.read o.read o.is.reads in
      let element = there_below o.memory.elements o.k (let h = slice_get_within o.read.leaves o.k x o.is.leaf in let c = fit.counted in omega (arith, h, c)) in
      let mine : (flat_table flat).leaf x ≡ Some (element_shape element.0) = fit.shapes o.k x element.0 o.is.leaf element.1 in
      let same : element_shape element.0 ≡ ground_shape old = some_same (sym mine ∙ ap (option_map ground_shape) at_old) in
      let there : (flat_table flat).element o.m o.k ≡ Some (element_shape element.0) =
      ap (λ m. option_map element_shape (option_and_then (λ memory. slice_get memory.elements o.k) m)) o.is.there ∙ ap (option_map element_shape) element.1 in
      ap (λ g. shape g (flat_table flat)) (the_load g o.m o.k o.port o.read o.shows)
      ∙ (load_shape (flat_table flat) o.m o.k fits.addr.0 o.port (element_shape element.0) fits.addr.1 fits.en fits.mode there ∙ ap Some same)
    where
      by_test : (g h : Ground) (b : Bool) → read_data.Load g ≡ (if b then read_data.Captured else read_data.Load h) → g ≡ h
      by_test g h true e = absurd (no_load g e)
      by_test g h false e = cc

      the_load : (g : Ground) (m k : ℕ) (port : NetPort) (read : NetRead) → read_data.Load g ≡ data_of m k port read → g ≡ load_of m k port
      the_load g m k port read e = by_test g (load_of m k port) read.captured e

  -- the fields of a well formed net

  assigned : (x : ℕ) → IsAssigned net.leaves x → (driver : Ground) × (driver_of net x ≡ Some driver)
  assigned x a =
      let old = old_of x a.leaf a.there in
      let at = place x old.0 a.leaf old.1 a.there in
      let g = assigned_driver old.0.role at.shown (take x parts) (own_driver flat x) (sym at.role_is ∙ a.is)
      (λ plain none. sound.driven x (record { leaf = old.0; there = old.1; is = plain }) (at.there ∙ ap Some none)) in
      (g.0, at.driver ∙ g.1)

  undriven : (x : ℕ) (leaf : Leaf) → slice_get net.leaves x ≡ Some leaf → may_be_driven leaf.role ≡ false → driver_of net x ≡ None
  undriven x leaf there e =
      let old = old_of x leaf there in
      let at = place x old.0 leaf old.1 there in
      at.driver ∙ no_driver old.0.role at.shown (take x parts) (own_driver flat x) (ap may_be_driven (sym at.role_is) ∙ e)

  shapes : (x : ℕ) (leaf : Leaf) (driver : Ground) → slice_get net.leaves x ≡ Some leaf → driver_of net x ≡ Some driver → shape driver (table_of net) ≡ Some (leaf_shape leaf)
  shapes x leaf driver there e =
      let old = old_of x leaf there in
      let at = place x old.0 leaf old.1 there in
      ap (shape driver) table_same
      ∙ (which_driver old.0.role at.shown (own_driver flat x) driver (shape driver (flat_table flat) ≡ Some (ground_shape old.0)) (sym at.driver ∙ e)
      (λ own. sound.shapes x old.0 driver old.1 own) (λ load. load_fits x old.0 driver old.1 (sym at.last ∙ load))
      ∙ ap Some (sym (same_shape x old.0 leaf at.same)))

  given : (x n : ℕ) (leaf : Leaf) → slice_get net.leaves x ≡ Some leaf → leaf.role ≡ role.Input n → x < net.ports
  given x n leaf there e =
      let old = old_of x leaf there in
      let at = place x old.0 leaf old.1 there in
      let below = sound.inputs x old.0 old.1 (input_role old.0.role at.shown (take x parts) n (sym at.role_is ∙ e)) in
      let p = is.ports in
      omega (arith, below, p)

  -- a leaf whose part is known
  part_at : (x : ℕ) (part : Part) → slice_get parts x ≡ Some part → (new : Leaf) × (slice_get net.leaves x ≡ Some new) × (new.role ≡ role_behind (take x parts) part)
  part_at x part e =
      let zipped = some_of (λ (both : GroundLeaf × Option ReadData). part_of both.0.role both.1) (slice_get (zip flat.leaves (data_in flat)) x) part (sym (slice_get-map (λ (both : GroundLeaf × Option ReadData). part_of both.0.role both.1) (zip flat.leaves (data_in flat)) x) ∙ e) in
      let both = zip_parts flat.leaves (data_in flat) x zipped.0 zipped.1 in
      let new = new_of x zipped.0.0 both.0 in
      (new.0, new.1, is.roles x zipped.0.0 zipped.0.1 new.0 both.0 both.1 new.1 ∙ ap (role_behind (take x parts)) zipped.2)

  inputs : map (λ both. both.1) (numbers_in input_number net) ≡ range_with_len 0 (length (numbers_in input_number net))
  inputs = inputs_counted net.leaves parts 0 0 (record {
    same_length = is.counted ∙ sym parts_length;
    each = λ j part leaf at_part at_leaf.
        let z : 0 + count_by is_given (take j parts) ≡ count_by is_given (take j parts) = omega arith in
        let new = part_at j part at_part in
        ap (λ (l : Leaf). input_number l.role) (some_same (sym at_leaf ∙ new.1)) ∙ (ap input_number new.2 ∙ (given_role part (take j parts) ∙ ap (λ n. if is_given part then Some n else None) (sym z)));
  })
    where
      zip_length : {A B : Type 0} (xs : List A) (ys : List B) → length xs ≡ length ys → length (zip xs ys) ≡ length xs
      zip_length [] ys e = refl
      zip_length (x ∷ xs) [] e = absurd (omega (arith, e))
      zip_length (x ∷ xs) (y ∷ ys) e = let less : length xs ≡ length ys = omega (arith, e) in ap suc (zip_length xs ys less)

      map_length : {A B : Type 0} (f : A → B) (xs : List A) → length (map f xs) ≡ length xs
      map_length f [] = refl
      map_length f (x ∷ xs) = ap suc (map_length f xs)

      parts_length : length parts ≡ length flat.leaves
      parts_length =
          map_length (λ (both : GroundLeaf × Option ReadData). part_of both.0.role both.1) (zip flat.leaves (data_in flat)) ∙ zip_length flat.leaves (data_in flat) (sym (data_counted flat))

  -- registers

  register_leaf : (n : ℕ) (register : NetRegister) → slice_get net.registers n ≡ Some register → slice_get (positions is_held parts) n ≡ Some register.leaf
  register_leaf n register e =
      ap (λ l. slice_get l n) (sym sound.registers) ∙ (slice_get-map (λ (register : NetRegister). register.leaf) flat.registers n
      ∙ ap (option_map (λ (register : NetRegister). register.leaf)) (ap (λ l. slice_get l n) (sym is.registers) ∙ e))

  register_leaves : (n : ℕ) (register : NetRegister) → slice_get net.registers n ≡ Some register → HasRole net register.leaf (role.Register n)
  register_leaves n register e =
      let found = position_is is_held 0 parts n register.leaf (register_leaf n register e) in
      let place_is = found.place in
      let z : found.at ≡ register.leaf = omega (arith, place_is) in
      let new = part_at found.at found.item found.there in
      record {
        leaf = new.0;
        there = ap (slice_get net.leaves) (sym z) ∙ new.1;
        is = new.2 ∙ (is_held_role found.item (take found.at parts) found.passes ∙ ap (λ n. role.Register n) found.count);
      }

  registers : (x n : ℕ) → HasRole net x (role.Register n) → (register : NetRegister) × (slice_get net.registers n ≡ Some register) × (register.leaf ≡ x)
  registers x n h =
      let old = old_of x h.leaf h.there in
      let at = place x old.0 h.leaf old.1 h.there in
      let held = held_role (part_of old.0.role at.shown) (take x parts) n (sym at.role_is ∙ h.is) in
      let z : 0 + x ≡ x = omega arith in
      let found : slice_get (positions is_held parts) n ≡ Some x =
      ap (slice_get (positions is_held parts)) (sym held.1) ∙ (position_of is_held 0 parts x (part_of old.0.role at.shown) at.part held.0 ∙ ap Some z) in
      let from = some_of (λ (register : NetRegister). register.leaf) (slice_get flat.registers n) x
      (sym (slice_get-map (λ (register : NetRegister). register.leaf) flat.registers n) ∙ (ap (λ l. slice_get l n) sound.registers ∙ found)) in
      (from.0, ap (λ l. slice_get l n) is.registers ∙ from.1, from.2)

  registers_rise : (n k : ℕ) (register later : NetRegister) → n < k → slice_get net.registers n ≡ Some register → slice_get net.registers k ≡ Some later → register.leaf < later.leaf
  registers_rise n k register later h e f = (positions_rise is_held 0 parts).rises n k register.leaf later.leaf h (register_leaf n register e) (register_leaf k later f)

  resets : (k : ℕ) (register : NetRegister) (r : NetReset) → slice_get net.registers k ≡ Some register → register.reset ≡ Some r
      → ((w : ℕ) × (shape r.reset (table_of net) ≡ Some (shaped Unsigned w))) × (shape r.init (table_of net) ≡ (table_of net).leaf register.leaf)
  resets k register r e h =
      let both = sound.resets k register r (ap (λ l. slice_get l k) (sym is.registers) ∙ e) h in
      ((both.0.0, ap (shape r.reset) table_same ∙ both.0.1), ap (shape r.init) table_same ∙ (both.1 ∙ sym (leaf_same register.leaf)))

  -- captured reads

  late_shown : (x : ℕ) → Among (late_leaves reads) x → last_data reads x None ≡ Some read_data.Captured
  late_shown x m = let i = late_from reads m.0 x m.1 in last_is reads i.0 (x, read_data.Captured) rising i.1

  late_part : (x : ℕ) → Among (late_leaves reads) x → slice_get parts x ≡ Some Kept
  late_part x m =
      let shown : last_data reads x None ≡ Some read_data.Captured = late_shown x m in
      let o = shown_origin x read_data.Captured shown in
      let plain = read_plain o.m o.p o.k x o.memory o.port o.read o.is in
      let new = new_of x plain.leaf plain.there in
      let at = place x plain.leaf new.0 plain.there new.1 in
      plain_part x plain.leaf new.0 (Some read_data.Captured) at plain.is shown

  -- a leaf that is kept shows captured data
  kept_late : (x : ℕ) (old : GroundLeaf) (new : Leaf) (item : Part) (at : Place x old new) → slice_get parts x ≡ Some item → is_kept item ≡ true → Among (late_leaves reads) x
  kept_late x old new item at there passes =
      let same : part_of old.role at.shown ≡ item = some_same (sym at.part ∙ there) in
      let named = last_named reads x read_data.Captured (sym at.last ∙ kept_part old.role at.shown (ap is_kept same ∙ passes)) in
      late_there reads named.0 x named.1

  late_positions : late_leaves reads ≡ positions is_kept parts
  late_positions = same_rising (late_leaves reads) (positions is_kept parts) (late_rise reads rising) (positions_rise is_kept 0 parts)
      (λ x m. let z : 0 + x ≡ x = omega arith in (count_by is_kept (take x parts), position_of is_kept 0 parts x Kept (late_part x m) refl ∙ ap Some z))
      (λ x m.
      let found = position_is is_kept 0 parts m.0 x m.1 in
      let place_is = found.place in
      let z : found.at ≡ x = omega (arith, place_is) in
      let new = part_at found.at found.item found.there in
      let old = old_of found.at new.0 new.1 in
      subst (Among (late_leaves reads)) z (kept_late found.at old.0 new.0 found.item (place found.at old.0 new.0 old.1 new.1) found.there found.passes))

  capture_leaf : (n : ℕ) (c : Capture) → slice_get (captures net) n ≡ Some c → slice_get (positions is_kept parts) n ≡ Some c.leaf
  capture_leaf n c e =
      ap (λ l. slice_get l n) (sym (captures_are net ∙ (ap (λ memories. late_leaves (reads_of memories)) is.memories ∙ late_positions)))
      ∙ (slice_get-map (λ (c : Capture). c.leaf) (captures net) n ∙ ap (option_map (λ (c : Capture). c.leaf)) e)

  captured_leaves : (n : ℕ) (c : Capture) → slice_get (captures net) n ≡ Some c → HasRole net c.leaf (role.Captured n)
  captured_leaves n c e =
      let found = position_is is_kept 0 parts n c.leaf (capture_leaf n c e) in
      let place_is = found.place in
      let z : found.at ≡ c.leaf = omega (arith, place_is) in
      let new = part_at found.at found.item found.there in
      record {
        leaf = new.0;
        there = ap (slice_get net.leaves) (sym z) ∙ new.1;
        is = new.2 ∙ (is_kept_role found.item (take found.at parts) found.passes ∙ ap (λ n. role.Captured n) found.count);
      }

  captured : (x n : ℕ) → HasRole net x (role.Captured n) → (c : Capture) × (slice_get (captures net) n ≡ Some c) × (c.leaf ≡ x)
  captured x n h =
      let old = old_of x h.leaf h.there in
      let at = place x old.0 h.leaf old.1 h.there in
      let kept = kept_role (part_of old.0.role at.shown) (take x parts) n (sym at.role_is ∙ h.is) in
      let z : 0 + x ≡ x = omega arith in
      let found : slice_get (positions is_kept parts) n ≡ Some x =
      ap (slice_get (positions is_kept parts)) (sym kept.1) ∙ (position_of is_kept 0 parts x (part_of old.0.role at.shown) at.part kept.0 ∙ ap Some z) in
      some_of (λ (c : Capture). c.leaf) (slice_get (captures net) n) x
      (sym (slice_get-map (λ (c : Capture). c.leaf) (captures net) n) ∙ (ap (λ l. slice_get l n) (captures_are net ∙ (ap (λ memories. late_leaves (reads_of memories)) is.memories ∙ late_positions)) ∙ found))

  captured_rise : (n k : ℕ) (c later : Capture) → n < k → slice_get (captures net) n ≡ Some c → slice_get (captures net) k ≡ Some later → c.leaf < later.leaf
  captured_rise n k c later h e f = (positions_rise is_kept 0 parts).rises n k c.leaf later.leaf h (capture_leaf n c e) (capture_leaf k later f)

  -- memories

  memory_of : (m : ℕ) (memory : NetMemory) → slice_get net.memories m ≡ Some memory → slice_get flat.memories m ≡ Some (without_word memory)
  memory_of m memory e = memory_get m ∙ ap (option_map without_word) e

  unsigned : (x w : ℕ) → IsUInt flat w x → IsUnsigned net x
  unsigned x w e =
      let old = some_of ground_shape (slice_get flat.leaves x) (shaped Unsigned w) e in
      let new = new_of x old.0 old.1 in
      record { leaf = new.0; there = new.1; is = (is.leaves x old.0 new.0 old.1 new.1).kind ∙ ap (λ (s : Shape). s.kind) old.2 }

  elements : (memory : NetMemory) (leaves : List ℕ) → AreData flat (without_word memory) leaves → AreElements net memory leaves
  elements memory leaves d = record {
    counted = d.counted;
    shapes = λ k x element e f. leaf_same x ∙ d.shapes k x element e f;
  }

  port_is : (m p : ℕ) (memory : NetMemory) (port : NetPort) → slice_get net.memories m ≡ Some memory → slice_get memory.ports p ≡ Some port → IsPort net memory port
  port_is m p memory port there has =
      let h = sound.memories m p (without_word memory) port (memory_of m memory there) has in
      record {
        addr = unsigned port.addr h.addr.0 h.addr.1;
        en = unsigned port.en 1 h.en;
        mode = λ x e. unsigned x 1 (h.mode x e);
        both = h.both;
        of_both = h.of_both;
        written = λ write e. elements memory write.leaves (h.written write e);
        masks = λ write e. ((h.masks write e).0, λ k x f. unsigned x 1 ((h.masks write e).1 k x f));
        read = λ read e. elements memory read.leaves (h.read read e);
        shown = λ read e early k x f. load_assigned m p k x (without_word memory) port read (record { there = memory_of m memory there; has = has; reads = e; leaf = f }) early;
      }

  pub net_is : IsNet net
  net_is = record {
    ports = let p = is.ports in let c = is.counted in let h = sound.ports in omega (arith, p, c, h);
    drivers = is.drivers_counted ∙ sym is.counted;
    assigned = assigned;
    undriven = undriven;
    shapes = shapes;
    inputs = inputs;
    register_leaves = register_leaves;
    registers = registers;
    registers_rise = registers_rise;
    captured_leaves = captured_leaves;
    captured = captured;
    captured_rise = captured_rise;
    given = given;
    resets = resets;
    before = λ m memory e. let h = sound.first m (without_word memory) (memory_of m memory e) in let c = is.counted in omega (arith, h, c);
    rising = λ m n memory later h e f. sound.rising m n (without_word memory) (without_word later) h (memory_of m memory e) (memory_of n later f);
    memories = port_is;
  }
