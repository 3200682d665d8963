-- What captured reads take, as lists of values.
use Rattle.std.specs.Prelude.{ℕ, zero, suc, ◌+◌, ◌*◌, ◌&&◌, nat_lt, Bool, List, [], ◌∷◌, ◌++◌, flat_map, length, get_or, slice_get, Option, Some, None, option_map, if◌then◌else◌}
use Rattle.bit_words.specs.declared.value.Value.{Value}
use Rattle.prim_ops.specs.Values.{is_one, lone}
use Rattle.prim_ops.specs.Ports.{set_to_read}
use Rattle.ground_net.specs.declared.net.NetMemory.{NetMemory}
use Rattle.ground_net.specs.declared.net.NetPort.{NetPort}
use Rattle.ground_net.specs.declared.net.NetRead.{NetRead}
use Rattle.net_run.specs.Seeing.{value_at, held_leaf}

-- whether a port reads an element
abbrev pub is_reading : NetMemory → List Value → NetPort → Bool
is_reading memory values port =
    set_to_read (is_one (value_at values port.en)) (option_map (λ x. is_one (value_at values x)) port.mode) && nat_lt (value_at values port.addr).bits memory.depth

-- a leaf of the element at an address, and 0 where the port doesn't read
abbrev pub read_leaf : NetMemory → List Value → Bool → ℕ → ℕ → Value
read_leaf memory held reading address k = held_leaf (slice_get memory.elements k) reading held (address * length memory.elements + k)

-- what is taken after the writes, or what is taken before them
abbrev pub when_taken : Bool → Bool → Value → Option Value
when_taken late after v = if late then (if after then Some v else None) else (if after then None else Some v)

-- the lists of the first numbers, one after the other
abbrev pub up_to : {A : Type 0} → (ℕ → List A) → ℕ → List A
up_to lists zero = []
up_to lists (suc n) = up_to lists n ++ lists n

abbrev pub leaves_taken : Bool → Bool → NetMemory → List Value → Bool → ℕ → ℕ → List (Option Value)
leaves_taken late after memory held reading address count = up_to (λ k. when_taken late after (read_leaf memory held reading address k) ∷ []) count

abbrev pub read_taken : Bool → NetMemory → List Value → Bool → ℕ → Option NetRead → List (Option Value)
read_taken late memory held reading address (Some read) = if read.captured then leaves_taken late read.after memory held reading address (length read.leaves) else []
read_taken late memory held reading address None = []

abbrev pub ports_taken : Bool → NetMemory → List Value → List Value → List NetPort → List (Option Value)
ports_taken late memory values held ports = flat_map (λ port. read_taken late memory held (is_reading memory values port) (value_at values port.addr).bits port.read) ports

abbrev pub memory_taken : Bool → List Value → List Value → Option NetMemory → List (Option Value)
memory_taken late values held (Some memory) = ports_taken late memory values held memory.ports
memory_taken late values held None = []

-- what the ports of the first memories take
abbrev pub memories_taken : Bool → List NetMemory → List Value → List (List Value) → ℕ → List (Option Value)
memories_taken late memories values contents count = up_to (λ m. memory_taken late values (get_or contents m []) (slice_get memories m)) count

-- a value taken after the writes, else one taken before them
abbrev pub one_taken : Option Value → Option Value → Value
one_taken old (Some v) = v
one_taken (Some v) None = v
one_taken None None = lone []

-- the first values of two lists
abbrev pub all_taken : List (Option Value) → List (Option Value) → ℕ → List Value
all_taken old new count = up_to (λ n. one_taken (get_or old n None) (get_or new n None) ∷ []) count
