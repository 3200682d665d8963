-- Captured reads.
use Rattle.std.proofs.Common.{◌≡◌, ℕ, ◌+◌, Bool, true, false, List, [], ◌∷◌, ◌++◌, map, length, refl, sym, ap, ap₂, ◌∙◌, Option, Some, None, option_map, slice_get, if◌then◌else◌}
use Rattle.std.specs.Prelude.{flat_map, filter_map, zip}
use Rattle.std.specs.List.{cons_option, range_with_len}
use Rattle.std.proofs.lemmas.Option.{slice_get-map}
use Rattle.std.proofs.lemmas.List.{map-append}
use Rattle.std.proofs.lemmas.List.Elements.{filter_map-append}
use Rattle.ground_net.specs.declared.circuit.GroundMemory.{GroundMemory}
use Rattle.ground_net.specs.declared.net.Net.{Net}
use Rattle.ground_net.specs.declared.net.Leaf.{Leaf}
use Rattle.ground_net.specs.declared.net.Role.TheVariants as role
use Rattle.ground_net.specs.declared.net.NetMemory.{NetMemory}
use Rattle.ground_net.specs.declared.net.NetPort.{NetPort}
use Rattle.ground_net.specs.declared.net.NetRead.{NetRead}
use Rattle.ground_net.specs.Cones.{numbered}
use Rattle.ground_net.specs.Cycles.{Capture, captured_by, captures}
use Rattle.ground_net.specs.Nets.{IsNet, HasRole}
use Rattle.memory_ports.specs.declared.reads.ReadData.TheVariants as read_data
use Rattle.memory_ports.specs.Placing.{Shows, data_of, load_of, reads_of_port, reads_of, without_word}
use Rattle.memory_ports.proofs.Lists.{some_same, arrives, numbered_is}

-- the captured read of a leaf that a port reads
abbrev pub capture_of : ℕ → NetMemory → NetPort → NetRead → ℕ → ℕ → Capture
capture_of m memory port read k x = record { number = m; memory = memory; port = port; after = read.after; element = k; leaf = x }

abbrev by_port : ℕ × NetMemory → NetPort → List Capture
by_port both port = captured_by both.0 both.1 port port.read

abbrev by_memory : ℕ × NetMemory → List Capture
by_memory both = flat_map (by_port both) both.1.ports

pub capture_there : (net : Net) (m p k x : ℕ) (memory : NetMemory) (port : NetPort) (read : NetRead) → slice_get net.memories m ≡ Some memory → slice_get memory.ports p ≡ Some port → port.read ≡ Some read
    → read.captured ≡ true → slice_get read.leaves k ≡ Some x → (i : ℕ) × (slice_get (captures net) i ≡ Some (capture_of m memory port read k x))
capture_there net m p k x memory port read there has reads late leaf =
    let f : ℕ × ℕ → Capture = λ (both : ℕ × ℕ). capture_of m memory port read both.0 both.1 in
    let one : slice_get (map f (numbered read.leaves)) k ≡ Some (f (k, x)) = slice_get-map f (numbered read.leaves) k ∙ ap (option_map f) (numbered_is read.leaves k x leaf) in
    let mine : slice_get (by_port (m, memory) port) k ≡ Some (f (k, x)) =
    ap (λ o. slice_get (captured_by m memory port o) k) reads ∙ (ap (λ b. slice_get (if b then map f (numbered read.leaves) else []) k) late ∙ one) in
    let inner = arrives (by_port (m, memory)) memory.ports p port k (f (k, x)) has mine in
    arrives by_memory (numbered net.memories) m (m, memory) inner.0 (f (k, x)) (numbered_is net.memories m memory there) inner.1

same_role : (net : Net) (x j n : ℕ) → HasRole net x (role.Captured j) → HasRole net x (role.Captured n) → j ≡ n
same_role net x j n a b =
    let one : a.leaf ≡ b.leaf = some_same (sym a.there ∙ b.there) in
    let e : role.Captured j ≡ role.Captured n = sym a.is ∙ (ap (λ (l : Leaf). l.role) one ∙ b.is) in
    cc

pub capture_is : (net : Net) → IsNet net → (m p k x n : ℕ) (memory : NetMemory) (port : NetPort) (read : NetRead) → slice_get net.memories m ≡ Some memory → slice_get memory.ports p ≡ Some port → port.read ≡ Some read
    → read.captured ≡ true → slice_get read.leaves k ≡ Some x → HasRole net x (role.Captured n) → slice_get (captures net) n ≡ Some (capture_of m memory port read k x)
capture_is net w m p k x n memory port read there has reads late leaf role_is =
    let i = capture_there net m p k x memory port read there has reads late leaf in
    let e : i.0 ≡ n = same_role net x i.0 n (w.captured_leaves i.0 (capture_of m memory port read k x) i.1) role_is in
    ap (slice_get (captures net)) (sym e) ∙ i.1

-- The leaves of the captured reads

-- the leaf, where it shows captured data
abbrev pub late : Shows → Option ℕ
late (x, read_data.Captured) = Some x
late (x, read_data.Load g) = None

abbrev pub late_leaves : List Shows → List ℕ
late_leaves = filter_map late

map_flat_map : {A B C : Type 0} (f : B → C) (g : A → List B) (xs : List A) → map f (flat_map g xs) ≡ flat_map (λ x. map f (g x)) xs
map_flat_map f g [] = refl
map_flat_map f g (x ∷ xs) = map-append f (g x) (flat_map g xs) ∙ ap (λ l. map f (g x) ++ l) (map_flat_map f g xs)

pick_flat_map : {A B C : Type 0} (f : B → Option C) (g : A → List B) (xs : List A) → filter_map f (flat_map g xs) ≡ flat_map (λ x. filter_map f (g x)) xs
pick_flat_map f g [] = refl
pick_flat_map f g (x ∷ xs) = filter_map-append f (g x) (flat_map g xs) ∙ ap (λ l. filter_map f (g x) ++ l) (pick_flat_map f g xs)

same_flat_map : {A B : Type 0} (f g : A → List B) → ((x : A) → f x ≡ g x) → (xs : List A) → flat_map f xs ≡ flat_map g xs
same_flat_map f g h [] = refl
same_flat_map f g h (x ∷ xs) = ap₂ (λ l m. l ++ m) (h x) (same_flat_map f g h xs)

-- of what a port reads
of_leaves : (m : ℕ) (memory : NetMemory) (port : NetPort) (read : NetRead) (items : List (ℕ × ℕ)) (b : Bool) → read.captured ≡ b
    → map (λ (c : Capture). c.leaf) (if b then map (λ both. capture_of m memory port read both.0 both.1) items else []) ≡ late_leaves (map (λ both. (both.1, data_of m both.0 port read)) items)
of_leaves m memory port read [] true e = refl
of_leaves m memory port read [] false e = refl
of_leaves m memory port read (both ∷ items) true e =
    ap₂ (λ x l. x ∷ l) refl (of_leaves m memory port read items true e)
    ∙ ap (λ b. cons_option (late (both.1, if b then read_data.Captured else read_data.Load (load_of m both.0 port))) (late_leaves (map (λ both. (both.1, data_of m both.0 port read)) items))) (sym e)
of_leaves m memory port read (both ∷ items) false e =
    of_leaves m memory port read items false e
    ∙ ap (λ b. cons_option (late (both.1, if b then read_data.Captured else read_data.Load (load_of m both.0 port))) (late_leaves (map (λ both. (both.1, data_of m both.0 port read)) items))) (sym e)

of_read : (m : ℕ) (memory : NetMemory) (port : NetPort) (o : Option NetRead) → map (λ (c : Capture). c.leaf) (captured_by m memory port o) ≡ late_leaves (reads_of_port m port o)
of_read m memory port None = refl
of_read m memory port (Some read) = of_leaves m memory port read (numbered read.leaves) read.captured refl

abbrev of_memory : ℕ × GroundMemory → List Shows
of_memory both = flat_map (λ port. reads_of_port both.0 port port.read) both.1.ports

of_one : (both : ℕ × NetMemory) → map (λ (c : Capture). c.leaf) (by_memory both) ≡ late_leaves (of_memory (both.0, without_word both.1))
of_one both =
    map_flat_map (λ (c : Capture). c.leaf) (by_port both) both.1.ports
    ∙ (same_flat_map (λ port. map (λ (c : Capture). c.leaf) (by_port both port)) (λ port. late_leaves (reads_of_port both.0 port port.read)) (λ port. of_read both.0 both.1 port port.read) both.1.ports
    ∙ sym (pick_flat_map late (λ port. reads_of_port both.0 port port.read) both.1.ports))

numbered_without : (memories : List NetMemory) (a : ℕ) → flat_map (λ both. late_leaves (of_memory (both.0, without_word both.1))) (zip (range_with_len a (length memories)) memories)
    ≡ flat_map (λ both. late_leaves (of_memory both)) (zip (range_with_len a (length (map without_word memories))) (map without_word memories))
numbered_without [] a = refl
numbered_without (memory ∷ memories) a = ap (λ l. late_leaves (of_memory (a, without_word memory)) ++ l) (numbered_without memories (a + 1))

-- the captured reads are the captured ones among what all ports read, in that order
pub captures_are : (net : Net) → map (λ (c : Capture). c.leaf) (captures net) ≡ late_leaves (reads_of (map without_word net.memories))
captures_are net =
    map_flat_map (λ (c : Capture). c.leaf) by_memory (numbered net.memories)
    ∙ (same_flat_map (λ both. map (λ (c : Capture). c.leaf) (by_memory both)) (λ both. late_leaves (of_memory (both.0, without_word both.1))) of_one (numbered net.memories)
    ∙ (numbered_without net.memories 0 ∙ sym (pick_flat_map late of_memory (numbered (map without_word net.memories)))))
