-- What is kept at first.
use Rattle.std.proofs.Common.{◌≡◌, ℕ, zero, suc, ◌+◌, ◌*◌, ◌<◌, Bool, true, false, List, [], ◌∷◌, ◌++◌, refl, sym, ap, ap₂, ◌∙◌, arith, subst, slice_get, length, map, if◌then◌else◌, Option, Some, None, option_map, ⊎_elim, pos, zip}
use Rattle.std.specs.Prelude.{flat_map}
use Rattle.std.specs.List.{range_with_len}
use Rattle.std.proofs.lemmas.Grind.{common_steps}
use Rattle.std.proofs.lemmas.Bool.{cases_lt}
use Rattle.std.proofs.lemmas.List.{length-map, length-append, map-append}
use Rattle.std.proofs.lemmas.Option.{slice_get-map, slice_get_within}
use Rattle.bit_words.specs.declared.value.Value.{Value}
use Rattle.prim_ops.specs.Values.{fitted}
use Rattle.ground_net.specs.declared.net.Net.{Net}
use Rattle.ground_net.specs.declared.net.NetRegister.{NetRegister}
use Rattle.ground_net.specs.declared.net.NetMemory.{NetMemory}
use Rattle.ground_net.specs.declared.net.NetPort.{NetPort}
use Rattle.ground_net.specs.declared.net.NetRead.{NetRead}
use Rattle.ground_net.specs.declared.net.ElementLeaf.{ElementLeaf}
use Rattle.ground_net.specs.Cones.{numbered}
use Rattle.ground_net.proofs.Layers.{maps}
use Rattle.ground_net.specs.Cycles.{Capture, captures, captured_by, first_state}
use Rattle.net_run.specs.declared.kept.Kept.{Kept}
use Rattle.net_run.specs.Keeping.{IsKept, AreZeros, AreZeroMemories, zero_of, zeros_at, captured_of, zeros_of_ports, first_registers, first_captured, zero_element}

pub map_flat_map : {A B C : Type 0} (f : B → C) (g : A → List B) (xs : List A) → map f (flat_map g xs) ≡ flat_map (λ x. map f (g x)) xs
map_flat_map f g [] = refl
map_flat_map f g (x ∷ xs) = map-append f (g x) (flat_map g xs) ∙ ap (λ l. map f (g x) ++ l) (map_flat_map f g xs)

pub same_flat_map : {A B : Type 0} (f g : A → List B) → ((x : A) → f x ≡ g x) → (xs : List A) → flat_map f xs ≡ flat_map g xs
same_flat_map f g h [] = refl
same_flat_map f g h (x ∷ xs) = ap₂ (λ l m. l ++ m) (h x) (same_flat_map f g h xs)

numbered_flat : {A B : Type 0} (h : A → List B) (xs : List A) (a : ℕ) → flat_map (λ (both : ℕ × A). h both.1) (zip (range_with_len a (length xs)) xs) ≡ flat_map h xs
numbered_flat h [] a = refl
numbered_flat h (x ∷ xs) a = ap (λ l. h x ++ l) (numbered_flat h xs (a + 1))

numbered_map : {A B : Type 0} (h : A → B) (xs : List A) (a : ℕ) → map (λ (both : ℕ × A). h both.1) (zip (range_with_len a (length xs)) xs) ≡ map h xs
numbered_map h [] a = refl
numbered_map h (x ∷ xs) a = ap (λ l. h x ∷ l) (numbered_map h xs (a + 1))

module _ (net : Net) where
  abbrev zero_of_capture : Capture → Value
  zero_of_capture c = zero_of (slice_get net.leaves c.leaf)

  of_leaves : (m : ℕ) (memory : NetMemory) (port : NetPort) (read : NetRead) (b : Bool)
      → map zero_of_capture (if b then map (λ both. record { number = m; memory = memory; port = port; after = read.after; element = both.0; leaf = both.1 }) (numbered read.leaves) else [])
      ≡ zeros_at net (if b then read.leaves else [])
  of_leaves m memory port read true =
      maps zero_of_capture (λ both. record { number = m; memory = memory; port = port; after = read.after; element = both.0; leaf = both.1 }) (numbered read.leaves)
      ∙ numbered_map (λ x. zero_of (slice_get net.leaves x)) read.leaves 0
  of_leaves m memory port read false = refl

  of_read : (m : ℕ) (memory : NetMemory) (port : NetPort) (o : Option NetRead) → map zero_of_capture (captured_by m memory port o) ≡ zeros_at net (captured_of o)
  of_read m memory port None = refl
  of_read m memory port (Some read) = of_leaves m memory port read read.captured

  of_memory : (both : ℕ × NetMemory) → map zero_of_capture (flat_map (λ port. captured_by both.0 both.1 port port.read) both.1.ports) ≡ zeros_of_ports net both.1.ports
  of_memory both =
      map_flat_map zero_of_capture (λ port. captured_by both.0 both.1 port port.read) both.1.ports
      ∙ same_flat_map (λ port. map zero_of_capture (captured_by both.0 both.1 port port.read)) (λ port. zeros_at net (captured_of port.read)) (λ port. of_read both.0 both.1 port port.read) both.1.ports

  captured_are : map zero_of_capture (captures net) ≡ first_captured net
  captured_are =
      map_flat_map zero_of_capture (λ (both : ℕ × NetMemory). flat_map (λ port. captured_by both.0 both.1 port port.read) both.1.ports) (numbered net.memories)
      ∙ same_flat_map (λ both. map zero_of_capture (flat_map (λ port. captured_by both.0 both.1 port port.read) both.1.ports)) (λ both. zeros_of_ports net both.1.ports) of_memory (numbered net.memories)
      ∙ numbered_flat (λ memory. zeros_of_ports net memory.ports) net.memories 0

  pub first_kept : (kept : Kept) → kept.registers ≡ first_registers net → kept.captured ≡ first_captured net → AreZeroMemories net.memories (length net.memories) kept.contents → IsKept net first_state kept
  first_kept kept r c z = record {
    all_registers = ap length r ∙ length-map net.registers (λ register. zero_of (slice_get net.leaves register.leaf));
    registers = λ n register leaf e there.
        ap (λ l. slice_get l n) r ∙ (slice_get-map (λ (register : NetRegister). zero_of (slice_get net.leaves register.leaf)) net.registers n
        ∙ (ap (option_map (λ (register : NetRegister). zero_of (slice_get net.leaves register.leaf))) e ∙ ap (λ o. Some (zero_of o)) there));
    all_contents = z.counted;
    contents = λ m memory held e there. let zeros = z.each m memory held e there in record { counted = zeros.counted; each = λ element k leaf less f. zeros.each element k leaf less f };
    all_captured = ap length (c ∙ sym captured_are) ∙ length-map (captures net) zero_of_capture;
    captured = λ n one leaf e there.
        ap (λ l. slice_get l n) (c ∙ sym captured_are) ∙ (slice_get-map zero_of_capture (captures net) n ∙ (ap (option_map zero_of_capture) e ∙ ap (λ o. Some (zero_of o)) there));
  }

-- Memories

some_same : {A : Type 0} {x y : A} → Some x ≡ Some y → x ≡ y
some_same e = cc

pub get_left : {A : Type 0} (xs ys : List A) (i : ℕ) (x : A) → slice_get xs i ≡ Some x → slice_get (xs ++ ys) i ≡ Some x
get_left [] ys i x e = cc
get_left (y ∷ xs) ys zero x e = e
get_left (y ∷ xs) ys (suc i) x e = get_left xs ys i x e

pub get_right : {A : Type 0} (xs ys : List A) (i k : ℕ) → i ≡ length xs + k → slice_get (xs ++ ys) i ≡ slice_get ys k
get_right [] ys i k e = ap (slice_get ys) (omega (arith, e))
get_right (x ∷ xs) ys zero k e = absurd (omega (arith, e))
get_right (x ∷ xs) ys (suc i) k e = get_right xs ys i k (omega (arith, e))

get_before : {A : Type 0} (xs ys : List A) (i : ℕ) → i < length xs → slice_get (xs ++ ys) i ≡ slice_get xs i
get_before [] ys i less = absurd (omega (arith, less))
get_before (x ∷ xs) ys zero less = refl
get_before (x ∷ xs) ys (suc i) less = get_before xs ys i (omega (arith, less))

pub one_row : (n l : ℕ) → n * l + l ≡ (n + 1) * l
one_row n l = grind (arith, common_steps)

pub element_more : (memory : NetMemory) (n : ℕ) (held after : List Value) → AreZeros memory n held → after ≡ held ++ zero_element memory → AreZeros memory (n + 1) after
element_more memory n held after z e =
    let row = zero_element memory in
    let f = λ (leaf : ElementLeaf). fitted leaf.kind leaf.width (pos 0) in
    let l = length memory.elements in
    let row_long : length row ≡ l = length-map memory.elements f in
    subst (AreZeros memory (n + 1)) (sym e) (record {
      counted = length-append held row ∙ (ap₂ (λ a b. a + b) z.counted row_long ∙ one_row n l);
      each = λ element k leaf less there. ⊎_elim
          (λ old. get_left held row (element * l + k) (f leaf) (z.each element k leaf old there))
          (λ most.
          let same : element ≡ n = omega (arith, less, most) in
          get_right held row (element * l + k) k (ap (λ a. a + k) (ap (λ a. a * l) same ∙ sym z.counted)) ∙ (slice_get-map f memory.elements k ∙ ap (option_map f) there))
          (cases_lt element n);
    })

pub memory_more : (memories : List NetMemory) (n : ℕ) (memory : NetMemory) (held : List Value) (contents after : List (List Value)) → AreZeroMemories memories n contents → slice_get memories n ≡ Some memory
    → AreZeros memory memory.depth held → after ≡ contents ++ held ∷ [] → AreZeroMemories memories (n + 1) after
memory_more memories n memory held contents after z there zeros e =
    let counted = z.counted in
    subst (AreZeroMemories memories (n + 1)) (sym e) (record {
      counted = length-append contents (held ∷ []) ∙ ap (λ a. a + 1) counted;
      each = λ m other h at got.
          let within = slice_get_within (contents ++ held ∷ []) m h got in
          let long = length-append contents (held ∷ []) in
          ⊎_elim
          (λ old. z.each m other h at (sym (get_before contents (held ∷ []) m old) ∙ got))
          (λ most.
          let same : m ≡ n = omega (arith, within, long, most, counted) in
          let first : m ≡ length contents + 0 = omega (arith, same, counted) in
          let h_is : held ≡ h = some_same (sym (get_right contents (held ∷ []) m 0 first) ∙ got) in
          let other_is : memory ≡ other = some_same (sym there ∙ (ap (slice_get memories) (sym same) ∙ at)) in
          subst (λ x. AreZeros other other.depth x) h_is (subst (λ (o : NetMemory). AreZeros o o.depth held) other_is zeros))
          (cases_lt m (length contents));
    })
