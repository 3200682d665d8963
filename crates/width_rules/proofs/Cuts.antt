-- Widths in several lists, and what is cut of them; the lists of a memory's ports.
use Rattle.std.proofs.Common.{◌≡◌, ℕ, zero, suc, ◌+◌, ◌-◌, ◌≤◌, ◌^◌, min, Bool, true, false, ◌&&◌, ◌||◌, List, [], ◌∷◌, ◌++◌, map, take, drop, length, refl, sym, ap, ap₂, ◌∙◌, arith, append-nil, filter_map}
use Rattle.std.specs.List.{flat_map, list_any}
use Rattle.std.proofs.lemmas.Grind.{common_steps, flat_map-append}
use Rattle.std.proofs.lemmas.List.{drop-drop}
use Rattle.std.proofs.lemmas.List.Folds.{list_any-append}
use Rattle.fir_types.specs.declared.memory.Memory.{Memory}
use Rattle.fir_types.specs.declared.memory.MemLine.{MemLine}
use Rattle.fir_types.specs.declared.memory.MemLine.TheVariants as line
use Rattle.fir_types.specs.declared.memory.PortMode.TheVariants as mode
use Rattle.fir_types.specs.declared.fir_type.FirType.{FirType}
use Rattle.fir_types.specs.declared.fir_type.Shape.TheVariants as shape
use Rattle.fir_types.specs.Bundles.{address_bits, nowhere}
use Rattle.fir_types.specs.Memories.{element_of, element_in, depth_of, depth_in, first_or}
use Rattle.width_rules.specs.declared.slot.Slot.{Slot}
use Rattle.width_rules.specs.declared.slot.Slot.TheVariants as slot
use Rattle.width_rules.specs.declared.memories.PortWidths.{PortWidths}
use Rattle.width_rules.specs.Places.{Spot}
use Rattle.width_rules.specs.Circuits.{memory_slots}
use Rattle.width_rules.specs.Layers.{one_bit, mask_widths, line_widths}
use Rattle.width_rules.specs.Pieces.{joined, line_lists}
use Rattle.width_rules.specs.Targets.{is_port, is_variable, has_variable}
use Rattle.width_rules.proofs.Walking.{lines_are}

-- Cuts

abbrev no_slots : List Slot
no_slots = []

none_taken : (n : ℕ) → take n no_slots ≡ []
none_taken zero = refl
none_taken (suc n) = refl

none_dropped : (n : ℕ) → drop n no_slots ≡ []
none_dropped zero = refl
none_dropped (suc n) = refl

taken_twice : (n m : ℕ) (xs : List Slot) → take n (take m xs) ≡ take (min n m) xs
taken_twice zero m xs = ap (λ k. take k xs) (let z : 0 ≡ min 0 m = omega arith in z)
taken_twice (suc n) zero xs = ap (λ k. take k xs) (let z : 0 ≡ min (suc n) 0 = omega arith in z)
taken_twice (suc n) (suc m) [] = sym (none_taken (min (suc n) (suc m)))
taken_twice (suc n) (suc m) (x ∷ xs) = ap (λ l. x ∷ l) (taken_twice n m xs) ∙ ap (λ k. take k (x ∷ xs)) (let z : suc (min n m) ≡ min (suc n) (suc m) = omega arith in z)

cut : (s e : ℕ) (xs : List Slot) → drop s (take e xs) ≡ take (e - s) (drop s xs)
cut zero e xs = ap (λ k. take k xs) (let z : e ≡ e - 0 = omega arith in z)
cut (suc s) zero xs = ap (λ k. take k (drop (suc s) xs)) (let z : 0 ≡ 0 - suc s = omega arith in z)
cut (suc s) (suc e) [] = sym (none_taken (suc e - suc s))
cut (suc s) (suc e) (x ∷ xs) = cut s e xs ∙ ap (λ k. take k (drop s xs)) (let z : e - s ≡ suc e - suc s = omega arith in z)

pub first_cut : (start end n own : ℕ) (xs : List Slot) → own ≡ min n (end - start) → drop start (take (start + own) xs) ≡ take n (drop start (take end xs))
first_cut start end n own xs h =
    cut start (start + own) xs ∙ ap (λ k. take k (drop start xs)) (let z : (start + own) - start ≡ min n (end - start) = omega (arith, h) in z)
    ∙ sym (taken_twice n (end - start) (drop start xs)) ∙ ap (take n) (sym (cut start end xs))

drop_min : (n : ℕ) (xs : List Slot) → drop (min n (length xs)) xs ≡ drop n xs
drop_min n xs = grind (arith, common_steps)

taken_length : (n : ℕ) (xs : List Slot) → length (take n xs) ≤ n
taken_length n xs = grind (arith, common_steps)

pub behind_cut : (start end n passed : ℕ) (xs : List Slot) → passed ≡ min n (end - start) → drop (start + passed) (take end xs) ≡ drop n (drop start (take end xs))
behind_cut start end n passed xs h =
    let ys : List Slot = take end xs in
    sym (drop_min (start + passed) ys)
    ∙ ap (λ k. drop k ys) (let z : min (start + passed) (length (take end xs)) ≡ min (start + n) (length (take end xs)) = omega (arith, h, taken_length end xs) in z)
    ∙ drop_min (start + n) ys ∙ sym (drop-drop n start ys)

pub cut_short : (s e : ℕ) (xs : List Slot) → e ≤ 2 ^ 64 - 1 → length (drop s (take e xs)) ≤ 2 ^ 64 - 1
cut_short s e xs h = grind (arith, common_steps, taken_length e xs)

-- two lists, one behind the other
pub cut_two : (s e : ℕ) (p r : List Slot) → drop s (take e (p ++ r)) ≡ drop s (take e p) ++ drop (s - length p) (take (e - length p) r)
cut_two s e [] r =
    ap₂ (λ a b. drop a (take b r)) (let z : s ≡ s - 0 = omega arith in z) (let z : e ≡ e - 0 = omega arith in z)
    ∙ ap (λ l. l ++ drop (s - 0) (take (e - 0) r)) (sym (ap (drop s) (none_taken e) ∙ none_dropped s))
cut_two s zero (x ∷ p) r =
    none_dropped s
    ∙ sym (ap₂ (λ l k. l ++ drop (s - suc (length p)) (take k r)) (none_dropped s) (let z : 0 - suc (length p) ≡ 0 = omega arith in z) ∙ none_dropped (s - suc (length p)))
cut_two zero (suc e) (x ∷ p) r =
    ap (λ l. x ∷ l) (cut_two zero e p r)
    ∙ ap₂ (λ a b. (x ∷ take e p) ++ drop a (take b r)) (let z : 0 - length p ≡ 0 - suc (length p) = omega arith in z) (let z : e - length p ≡ suc e - suc (length p) = omega arith in z)
cut_two (suc s) (suc e) (x ∷ p) r =
    cut_two s e p r
    ∙ ap₂ (λ a b. drop s (take e p) ++ drop a (take b r)) (let z : s - length p ≡ suc s - suc (length p) = omega arith in z) (let z : e - length p ≡ suc e - suc (length p) = omega arith in z)

-- The lists of a memory's ports

abbrev port_widths : FirType → ℕ → List Slot → PortWidths
port_widths typ depth slots = record { first = slot.Fixed (address_bits depth) ∷ slot.Fixed 1 ∷ []; element = slots; bit = slot.Fixed 1 ∷ []; mask = mask_widths typ }

line_joined : (typ : FirType) (depth : ℕ) (slots : List Slot) (l : MemLine) → joined (line_lists (port_widths typ depth slots) l) ≡ line_widths typ depth slots l
line_joined typ depth slots (line.MemPort at mode.Reader name) = ap (λ l. slot.Fixed (address_bits depth) ∷ slot.Fixed 1 ∷ l) (append-nil slots)
line_joined typ depth slots (line.MemPort at mode.Writer name) = ap (λ l. slot.Fixed (address_bits depth) ∷ slot.Fixed 1 ∷ (slots ++ l)) (append-nil (mask_widths typ))
line_joined typ depth slots (line.MemPort at mode.ReadWriter name) = ap (λ l. slot.Fixed (address_bits depth) ∷ slot.Fixed 1 ∷ (slots ++ (slot.Fixed 1 ∷ (slots ++ l)))) (append-nil (mask_widths typ))
line_joined typ depth slots (line.Element at t) = refl
line_joined typ depth slots (line.Depth at n) = refl
line_joined typ depth slots (line.ReadLatency at n) = refl
line_joined typ depth slots (line.WriteLatency at n) = refl
line_joined typ depth slots (line.ReadUnder at u) = refl

pub lines_joined : (typ : FirType) (depth : ℕ) (slots : List Slot) (ls : List MemLine)
    → joined (flat_map (line_lists (port_widths typ depth slots)) ls) ≡ flat_map (line_widths typ depth slots) ls
lines_joined typ depth slots [] = refl
lines_joined typ depth slots (l ∷ ls) =
    flat_map-append (λ (own : List Slot). own) (line_lists (port_widths typ depth slots) l) (flat_map (line_lists (port_widths typ depth slots)) ls)
    ∙ ap₂ (λ x y. x ++ y) (line_joined typ depth slots l) (lines_joined typ depth slots ls)

-- Whether the widths of a memory's ports have one of a kind that no declared number of bits is of

module _ (p : Slot → Bool) (typ : FirType) (depth : ℕ) (slots : List Slot) (address : p (slot.Fixed (address_bits depth)) ≡ false) (one : p (slot.Fixed 1) ≡ false) where
  none_in_mask : (found : List Spot) → list_any p (map one_bit found) ≡ false
  none_in_mask [] = refl
  none_in_mask (s ∷ found) = ap₂ (λ a b. a || b) one (none_in_mask found)

  twice : (b : Bool) → (b || (false || (b || false))) ≡ b
  twice true = refl
  twice false = refl

  once : (b : Bool) → (b || false) ≡ b
  once true = refl
  once false = refl

  again : (b a : Bool) → (b || (a && b)) ≡ b
  again true a = refl
  again false true = refl
  again false false = refl

  with_mask : list_any p (slots ++ mask_widths typ) ≡ (list_any p slots || false)
  with_mask = list_any-append p slots (mask_widths typ) ∙ ap (λ b. list_any p slots || b) (none_in_mask _)

  any_behind : (more : List Slot) → list_any p (slot.Fixed (address_bits depth) ∷ slot.Fixed 1 ∷ more) ≡ list_any p more
  any_behind more = ap₂ (λ a b. a || (b || list_any p more)) address one

  any_in_line : (l : MemLine) → list_any p (line_widths typ depth slots l) ≡ (is_port l && list_any p slots)
  any_in_line (line.MemPort at mode.Reader name) = any_behind slots
  any_in_line (line.MemPort at mode.Writer name) = any_behind (slots ++ mask_widths typ) ∙ with_mask ∙ once (list_any p slots)
  any_in_line (line.MemPort at mode.ReadWriter name) =
      any_behind (slots ++ (slot.Fixed 1 ∷ (slots ++ mask_widths typ))) ∙ list_any-append p slots (slot.Fixed 1 ∷ (slots ++ mask_widths typ))
      ∙ ap₂ (λ a b. list_any p slots || (a || b)) one with_mask ∙ twice (list_any p slots)
  any_in_line (line.Element at t) = refl
  any_in_line (line.Depth at n) = refl
  any_in_line (line.ReadLatency at n) = refl
  any_in_line (line.WriteLatency at n) = refl
  any_in_line (line.ReadUnder at u) = refl

  pub any_in_ports : (ls : List MemLine) → list_any p (flat_map (line_widths typ depth slots) ls) ≡ (list_any is_port ls && list_any p slots)
  any_in_ports [] = refl
  any_in_ports (l ∷ ls) =
      list_any-append p (line_widths typ depth slots l) (flat_map (line_widths typ depth slots) ls)
      ∙ ap₂ (λ a b. a || b) (any_in_line l) (any_in_ports ls) ∙ shared (is_port l) (list_any is_port ls) (list_any p slots)
    where
      shared : (a b c : Bool) → ((a && c) || (b && c)) ≡ ((a || b) && c)
      shared true b c = again c b
      shared false b c = refl

abbrev empty : FirType
empty = record { place = nowhere; shape = shape.Bundle [] }

lists_are : (ls : List MemLine) (typ : FirType) (depth : ℕ) (slots : List Slot) (widths : PortWidths) (lists : List (List Slot)) → widths ≡ port_widths typ depth slots
    → lists ≡ [] ++ flat_map (line_lists widths) ls → joined lists ≡ flat_map (line_widths typ depth slots) ls
lists_are ls typ depth slots widths lists w l = ap joined (l ∙ ap (λ w. flat_map (line_lists w) ls) w) ∙ lines_joined typ depth slots ls

pub memory_joined : (memory : Memory) (ls : List MemLine) (typ : FirType) (depth : ℕ) (slots : List Slot) (widths : PortWidths) (lists : List (List Slot)) → ls ≡ memory.lines
    → typ ≡ first_or empty (filter_map element_in ls) → depth ≡ first_or 1 (filter_map depth_in ls) → widths ≡ port_widths typ depth slots
    → lists ≡ [] ++ flat_map (line_lists widths) ls → joined lists ≡ memory_slots memory slots
memory_joined memory ls typ depth slots widths lists is t d w l =
    let element : typ ≡ element_of memory = t ∙ ap (λ l. first_or empty (filter_map element_in l)) is in
    let deep : depth ≡ depth_of memory = d ∙ ap (λ l. first_or 1 (filter_map depth_in l)) is in
    lists_are ls typ depth slots widths lists w l ∙ ap₂ (λ t n. flat_map (line_widths t n slots) ls) element deep
    ∙ ap (flat_map (line_widths (element_of memory) (depth_of memory) slots)) is ∙ lines_are memory slots memory.lines

pub memory_varies : (ls : List MemLine) (typ : FirType) (depth : ℕ) (slots : List Slot) (widths : PortWidths) (lists : List (List Slot)) → widths ≡ port_widths typ depth slots
    → lists ≡ [] ++ flat_map (line_lists widths) ls → has_variable (joined lists) ≡ (list_any is_port ls && has_variable slots)
memory_varies ls typ depth slots widths lists w l = ap has_variable (lists_are ls typ depth slots widths lists w l) ∙ any_in_ports is_variable typ depth slots refl refl ls
