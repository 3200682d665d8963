-- An accepted circuit passes no limit, so its net has few leaves and few memories.
use Rattle.std.proofs.Common.{◌≡◌, ℕ, zero, suc, ◌+◌, ◌≤◌, Bool, true, false, List, [], ◌∷◌, length, slice_get, Option, Some, None, nat_lt, refl, sym, ap, ◌∙◌, arith, subst}
use Rattle.std.specs.List.{filter_map, cons_option, range_with_len}
use Rattle.std.proofs.lemmas.Grind.{common_steps}
use Rattle.std.proofs.lemmas.Bool.{or_parts}
use Rattle.std.proofs.lemmas.Bool.Decides.{nat_tests}
use Rattle.place_text.specs.First.{HasNone}
use Rattle.fir_tree.specs.declared.circuit.Circuit.{Circuit}
use Rattle.fir_tree.specs.declared.scope.Fitted.{Fitted}
use Rattle.fir_meaning.specs.Components.{design_of}
use Rattle.ground_net.specs.declared.net.Net.{Net}
use Rattle.ground_net.specs.declared.net.NetRegister.{NetRegister}
use Rattle.ground_net.specs.declared.net.Role.{Role}
use Rattle.ground_net.specs.Cones.{sinks}
use Rattle.ground_net.specs.Watching.{told_where, port_leaves}
use Rattle.ground_net.specs.Nets.{IsNet}
use Rattle.net_of_circuit.specs.NetOf.{IsNetOf}
use Rattle.size_check.specs.declared.measure.Measure.{Measure}
use Rattle.size_check.specs.declared.fault.SizeFault.TheVariants.{TooLarge}
use Rattle.size_check.specs.Standings.{measured}
use Rattle.size_check.specs.Limits.{IsFault, too_large, IsMeasure, is_too_large, main_ports}
use Rattle.size_laws.specs.Pieces.{AreMeasured}
use Rattle.size_laws.proofs.Same.{AreCounted}
use Rattle.size_laws.proofs.Running.{AllPaths}
use Rattle.size_laws.proofs.Measured.{of_run}
use Rattle.size_laws.proofs.Memories.{memories_below}

pub within : (circuit : Circuit) → HasNone (IsFault circuit) → is_too_large circuit ≡ false
within circuit none = by (is_too_large circuit) refl
  where
    by : (b : Bool) → is_too_large circuit ≡ b → b ≡ false
    by true e = absurd (none (TooLarge circuit.main.place) (too_large e))
    by false e = refl

not_over : (limit n : ℕ) → nat_lt limit n ≡ false → n ≤ limit
not_over limit n e = grind (arith, common_steps, nat_tests, e)

-- what the limits say
record AreLow (circuit : Circuit) : Type 0 where
  pub depth : (measured circuit).depth ≤ 32
  pub leaves : (measured circuit).sums.leaves ≤ 65536
  pub size : (measured circuit).sums.size ≤ 1000000

low : (circuit : Circuit) → HasNone (IsFault circuit) → AreLow circuit
low circuit none =
    let total = measured circuit in
    let a = or_parts (nat_lt 32 total.depth) _ (within circuit none) in
    let b = or_parts (nat_lt 67108864 total.sums.bytes) _ a.1 in
    let c = or_parts (nat_lt 65536 total.sums.leaves) _ b.1 in
    let d = or_parts (nat_lt 4096 (main_ports circuit)) _ c.1 in
    let e = or_parts (nat_lt 1000000 total.sums.size) _ d.1 in
    record { depth = not_over 32 total.depth a.0; leaves = not_over 65536 total.sums.leaves c.0; size = not_over 1000000 total.sums.size e.0 }

-- the measure itself
abbrev measure_of : Circuit → Measure
measure_of circuit =
    let total = measured circuit in
    record { leaves = total.sums.leaves; names = total.sums.bytes; size = total.sums.size; state_words = total.sums.words; depth = total.depth }

measure_is : (circuit : Circuit) → IsMeasure circuit (measure_of circuit)
measure_is circuit = record { leaves = refl; names = refl; size = refl; state_words = refl; depth = refl }

pub few_leaves : AreCounted → AllPaths → (fitted : Fitted) → AreMeasured fitted → HasNone (IsFault fitted.checked.resolved) → (net : Net) → IsNetOf fitted.checked.resolved.names (design_of fitted) net
    → length net.leaves ≤ 65536
few_leaves counted paths fitted same none net of =
    let circuit = fitted.checked.resolved in
    let run = of_run counted paths fitted same (within circuit none) (measure_of circuit) (measure_is circuit) of.main of.placed of.found of.order in
    subst (λ n. n ≤ 65536) (run.leaves ∙ sym of.is.counted) (low circuit none).leaves

pub few_memories : AllPaths → (fitted : Fitted) → AreMeasured fitted → HasNone (IsFault fitted.checked.resolved) → (net : Net) → IsNetOf fitted.checked.resolved.names (design_of fitted) net
    → length net.memories ≤ 1000000
few_memories paths fitted same none net of =
    let circuit = fitted.checked.resolved in
    let few = low circuit none in
    subst (λ n. n ≤ 1000000) (sym of.is.all_memories_there) (at_most (memories_below paths fitted same few.depth of.main of.placed of.found of.order) few.size)
  where
    at_most : {a b : ℕ} → a ≤ b → b ≤ 1000000 → a ≤ 1000000
    at_most {a} {b} h k = omega (arith, h, k)

-- Registers

last_of : {A : Type 0} (xs : List A) (n : ℕ) → suc n ≤ length xs → (x : A) × (slice_get xs n ≡ Some x)
last_of [] n h = absurd (omega (arith, h))
last_of (x ∷ xs) zero h = (x, refl)
last_of (x ∷ xs) (suc n) h = last_of xs n (omega (arith, h))

there_below : {A : Type 0} (xs : List A) (n : ℕ) (x : A) → slice_get xs n ≡ Some x → suc n ≤ length xs
there_below [] n x e = absurd cc
there_below (y ∷ xs) zero x e = omega arith
there_below (y ∷ xs) (suc n) x e = let h = there_below xs n x e in omega (arith, h)

-- the leaves of registers rise
risen : (net : Net) → IsNet net → (n : ℕ) (register : NetRegister) → slice_get net.registers n ≡ Some register → n ≤ register.leaf
risen net is zero register e = omega arith
risen net is (suc n) register e =
    let below : suc (suc n) ≤ length net.registers = there_below net.registers (suc n) register e in
    let before = last_of net.registers n (omega (arith, below)) in
    let here : n ≤ before.0.leaf = risen net is n before.0 before.1 in
    let less : suc before.0.leaf ≤ register.leaf = is.registers_rise n (suc n) before.0 register (omega arith) before.1 e in
    omega (arith, here, less)

registers_below : (net : Net) → IsNet net → length net.registers ≤ length net.leaves
registers_below net is = by (length net.registers) refl
  where
    by : (n : ℕ) → length net.registers ≡ n → n ≤ length net.leaves
    by zero e = omega arith
    by (suc n) e =
        let last = last_of net.registers n (omega (arith, e)) in
        let at = is.register_leaves n last.0 last.1 in
        let within : suc last.0.leaf ≤ length net.leaves = there_below net.leaves last.0.leaf at.leaf at.there in
        let here : n ≤ last.0.leaf = risen net is n last.0 last.1 in
        omega (arith, within, here)

pub few_sinks : ((net : Net) (watch : List ℕ) → length (sinks net watch) ≤ length watch + (length net.registers + length net.memories)) → AreCounted → AllPaths → (fitted : Fitted) → AreMeasured fitted
    → HasNone (IsFault fitted.checked.resolved) → (net : Net) → IsNetOf fitted.checked.resolved.names (design_of fitted) net → (watch : List ℕ) → length (sinks net watch) ≤ length watch + 1065536
few_sinks counts counted paths fitted same none net of watch =
    let all = counts net watch in
    let leaves = few_leaves counted paths fitted same none net of in
    let memories = few_memories paths fitted same none net of in
    let registers = registers_below net of.well_formed in
    omega (arith, all, leaves, memories, registers)

-- Leaves of main's ports

fewer : {A B : Type 0} (f : A → Option B) (xs : List A) → length (filter_map f xs) ≤ length xs
fewer f [] = omega arith
fewer f (x ∷ xs) = by (f x) (fewer f xs)
  where
    by : (o : Option _) → length (filter_map f xs) ≤ length xs → length (cons_option o (filter_map f xs)) ≤ suc (length xs)
    by None h = omega (arith, h)
    by (Some y) h = omega (arith, h)

range_long : (a n : ℕ) → length (range_with_len a n) ≡ n
range_long a zero = refl
range_long a (suc n) = ap suc (range_long (a + 1) n)

pub few_ports : (among : Role → Bool) → AreCounted → AllPaths → (fitted : Fitted) → AreMeasured fitted → HasNone (IsFault fitted.checked.resolved) → (net : Net) → IsNetOf fitted.checked.resolved.names (design_of fitted) net
    → length (port_leaves among net) ≤ 65536
few_ports among counted paths fitted same none net of =
    let leaves = few_leaves counted paths fitted same none net of in
    let some = fewer (λ x. told_where among x (slice_get net.leaves x)) (range_with_len 0 net.ports) in
    let all = range_long 0 net.ports in
    let ports = of.well_formed.ports in
    omega (arith, leaves, some, all, ports)
